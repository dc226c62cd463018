use Rattle.book_table.proofs.FillLaws.{IsFilled}
use Rattle.book_table.proofs.opening.places_of.Given as goal

abbrev pub invariant-loop-position : goal.invariant-loop-position
invariant-loop-position l = IsFilled l.list (λ i. i) l.position l.places.items
