use Rattle.std.proofs.Common.{◌∙◌}
use Rattle.worker_tests.proofs.AloneLaws.{only_value}
use Rattle.worker_tests.proofs.race.value_of.Goals as goal

pub returns : goal.returns
returns g c =
    c.index.ensures
    ∙ only_value c.args.net.now.project c.args.seed c.args.sample _ c.in_ok-values.values.items
    c.in_ok-values.ensures
