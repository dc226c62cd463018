use Rattle.worker_tests.specs.Alone.{IsIdle}
use Rattle.worker_tests.proofs.race.settle_all.Given as goal

abbrev pub invariant-samples : goal.invariant-samples
invariant-samples g l = IsIdle l.race l.seeker
