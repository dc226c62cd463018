use Rattle.book_rule.specs.Listed.{width}
use Rattle.book_table.specs.BookView.{IsRoom}
use Rattle.book_table.proofs.PackLaws.{AreRight}
use Rattle.book_table.proofs.packed.rooms_of.Given as goal

abbrev pub invariant-loop-index : goal.invariant-loop-index
invariant-loop-index l = AreRight (IsRoom l.list) (width l.list) l.index l.rooms.items
