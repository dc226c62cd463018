use Rattle.std.proofs.Common.{◌≡◌, eqb}
use Rattle.std.specs.List.{dedup}
use Rattle.std.proofs.lemmas.List.Filters.{All-dedup, dedup_is}
use Rattle.std.proofs.lemmas.List.Kept.{Contains-dedup_nat, Contains-from_dedup}
use Rattle.std.proofs.lemmas.List.Sorted.{Contains-permutation, All-permutation, IsPermutation-sym}
use Rattle.std.proofs.lemmas.Map.Keys.{IsStrictlyIncreasing-dedup}
use Rattle.rc_instance.specs.Lists.{IsUpTo}
use Rattle.rc_instance.proofs.SetLaws.{set_is}
use Rattle.rc_instance.proofs.build.sort_one.Goals as goal

pub returns : goal.returns
returns c =
    let before = c.args.list.now.items in
    let sorted = c.sort_unstable.new.self.items in
    let after = c.dedup.new.self.items in
    let moved = c.sort_unstable.ensures.permutation in
    let deduped : after ≡ dedup eqb sorted = dedup_is eqb sorted after c.dedup.ensures.filtered in
    let rising = IsStrictlyIncreasing-dedup sorted c.sort_unstable.ensures.sorted in
    let all = All-dedup eqb (IsUpTo c.args.count) sorted (All-permutation (IsUpTo c.args.count) before sorted moved c.requires) in
    rw deduped (set_is c.args.count before (dedup eqb sorted) rising
    (λ n h. Contains-dedup_nat sorted n (Contains-permutation before sorted n moved h))
    (λ n h. Contains-permutation sorted before n (IsPermutation-sym before sorted moved) (Contains-from_dedup eqb sorted n h))
    all)
