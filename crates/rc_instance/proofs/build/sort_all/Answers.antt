use Rattle.std.proofs.Common.{◌≡◌, ℕ, length, subst, arith}
use Rattle.rc_instance.proofs.SortedLists.{AreSortedUpTo, all_sorted}
use Rattle.rc_instance.proofs.build.sort_all.Goals as goal

pub returns : goal.returns
returns c =
    let before = c.args.lists.now in
    let after = c.loop-list.lists in
    let whole : c.loop-list.list-index ≡ length after = omega arith in
    all_sorted c.args.count before after c.loop-list.auto.lists
    (subst (λ (i : ℕ). AreSortedUpTo c.args.count i before after) whole c.loop-list.invariant)
