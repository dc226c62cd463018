use Rattle.std.proofs.Common.{◌≡◌, ◌≤◌, length, take, vec_len, IfSome}
use Rattle.std.specs.List.{All}
use Rattle.rc_edge.specs.Files.{SameCounts}
use Rattle.rc_edge.specs.Faults.{counted_on}
use Rattle.rc_edge.specs.Fetches.{AreFiles, AreWithin}
use Rattle.rc_edge.proofs.fetches.fetch_all.Given as goal

abbrev pub invariant-loop-place : goal.invariant-loop-place
invariant-loop-place g l = record {
  told : g.F.Files.told l.files ≡ g.F.Files.told l.fn.files;
  failing : g.F.Files.failing l.files ≡ g.F.Files.failing l.fn.files;
  fetches : g.F.Files.fetches l.files ≡ counted_on (g.F.Files.fetches l.fn.files) l.place;
  faults : SameCounts (g.F.Files.faults l.fn.files) (g.F.Files.faults l.files);
  long : SameCounts (g.F.Files.long l.fn.files) (g.F.Files.long l.files);
  count : vec_len l.texts ≡ l.place;
  length : All (λ text. length text.items ≤ l.limit) l.texts.items;
  texts : IfSome (g.F.Files.told l.fn.files) (λ pairs.
      AreFiles pairs (take l.place l.names) l.texts.items);
  within : IfSome (g.F.Files.told l.fn.files) (λ pairs.
      AreWithin pairs l.limit (take l.place l.names));
}
