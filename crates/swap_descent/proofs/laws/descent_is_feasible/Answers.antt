use Rattle.swap_descent.proofs.DescentLaws.{descent-feasible}
use Rattle.swap_descent.proofs.laws.descent_is_feasible.Goals as goal

pub returns : goal.returns
returns c = descent-feasible
