use Rattle.std.proofs.Common.{subst}
use Rattle.key_sampling.specs.Race.{IsOpened}
use Rattle.worker_tests.proofs.AloneLaws.{popped_idle}
use Rattle.worker_tests.proofs.race.only_one.Goals as goal

pub returns : goal.returns
returns c =
    popped_idle c.args.race.now c.pop.new.self.items c.in-Some.seeker
    (subst (IsOpened 1 c.args.race.now) c.in-Some.ensures.items c.requires)
