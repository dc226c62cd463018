use Rattle.std.proofs.Common.{◌≡◌, length}
use Rattle.fwd_back.proofs.BookedLaws.{SameBefore}
use Rattle.fwd_back.proofs.rounds.copy_of.Given as goal

abbrev pub invariant-loop-activity : goal.invariant-loop-activity
invariant-loop-activity l = record {
  count : length l.copy ≡ l.count;
  same : SameBefore l.activity l.schedule l.copy;
}
