use Rattle.book_rule.specs.Listed.{begins}
use Rattle.book_table.proofs.FillLaws.{IsFilled}
use Rattle.book_table.proofs.closing.read_starts.Given as goal

abbrev pub invariant-loop-position : goal.invariant-loop-position
invariant-loop-position l = IsFilled l.list (begins l.list) l.position l.schedule
