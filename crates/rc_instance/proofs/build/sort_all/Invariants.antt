use Rattle.rc_instance.proofs.SortedLists.{AreSortedUpTo}
use Rattle.rc_instance.proofs.build.sort_all.Given as goal

abbrev pub invariant-loop-list : goal.invariant-loop-list
invariant-loop-list l = AreSortedUpTo l.count l.list-index l.initial.lists l.lists
