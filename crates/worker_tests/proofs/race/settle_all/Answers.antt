use Rattle.worker_tests.proofs.AloneLaws.{value_is}
use Rattle.worker_tests.proofs.race.settle_all.Goals as goal

pub settle-requires-clause-value : goal.settle-requires-clause-value
settle-requires-clause-value g c =
    value_is c.args.net.now 42 54 10 c.args.race.now c.samples.sample c.in_ok-value.value
    c.requires.race c.in_ok-value.ensures
