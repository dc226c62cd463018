use Rattle.std.proofs.Common.{◌-◌}
use Rattle.key_sampling.specs.Race.{view_of, IsSameSeeker}
use Rattle.key_sampling.specs.Workers.{IsReady}
use Rattle.key_sampling.proofs.search.search.Given as goal

abbrev pub invariant-samples : goal.invariant-samples
invariant-samples l = record {
  ready : IsReady l.race l.worker;
  same : IsSameSeeker l.initial.worker.seeker l.worker.seeker;
}

abbrev pub decreases-samples : goal.decreases-samples
decreases-samples l = l.race.terms.count - (view_of l.worker.seeker).next
