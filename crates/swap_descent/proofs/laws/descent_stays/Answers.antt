use Rattle.swap_descent.proofs.DescentLaws.{descent-still}
use Rattle.swap_descent.proofs.laws.descent_stays.Goals as goal

pub returns : goal.returns
returns c = descent-still
