use Rattle.time_windows.proofs.WindowLaws.{start-tail-le}
use Rattle.time_windows.proofs.laws.tail_fits_after_start.Goals as goal

pub returns : goal.returns
returns c project starts a t = start-tail-le project starts a t
