use Rattle.std.proofs.Common.{arith}
use Rattle.book_table.proofs.shut.Shut.drop.Goals as goal

pub free-requires : goal.free-requires
free-requires c = λ k below. absurd (omega (arith, below, c.self.invariant.bare))
