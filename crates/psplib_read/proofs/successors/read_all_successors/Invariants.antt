use Rattle.std.proofs.Common.{◌≡◌, ◌-◌, [], length, map}
use Rattle.rc_edge.specs.Grammar.{more}
use Rattle.psplib_read.specs.Sm.{next_successors}
use Rattle.psplib_read.proofs.successors.read_all_successors.Given as goal

abbrev pub invariant-loop-index : goal.invariant-loop-index
invariant-loop-index l =
    (length l.lists.items ≡ l.index)
    × (more (next_successors l.head) (l.head.jobs - l.index)
    (map (λ list. list.items) l.lists.items) l.cursor
    ≡ more (next_successors l.head) l.head.jobs [] l.fn.cursor)
