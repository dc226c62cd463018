use Rattle.parallel_scheme.proofs.ReachLaws.{parallel_order, parallel_reached}
use Rattle.parallel_scheme.proofs.laws.parallel_is_serial.Goals as goal

pub returns : goal.returns
returns c project order none list = (
  parallel_order project order none list,
  (parallel_reached project order list).serial,
)
