use Rattle.book_rule.specs.Listed.{count, width}
use Rattle.book_rule.specs.Layout.{place}
use Rattle.book_table.proofs.PackLaws.{AreRight, IsNeedAt}
use Rattle.book_table.proofs.packed.needs_of.Given as goal

abbrev pub invariant-loop-cell : goal.invariant-loop-cell
invariant-loop-cell l =
    AreRight (IsNeedAt l.list) (place (width l.list) (count l.list) 0) l.cell l.needs.items
