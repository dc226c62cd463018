use Rattle.swap_descent.proofs.DescentLaws.{descent-le}
use Rattle.swap_descent.proofs.laws.descent_is_never_longer.Goals as goal

pub returns : goal.returns
returns c = descent-le
