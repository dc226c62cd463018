use Rattle.std.proofs.Common.{sym, subst}
use Rattle.std.specs.List.{All}
use Rattle.key_sampling.specs.Workers.{IsReady}
use Rattle.key_sampling.proofs.CrewLaws.{all_ready}
use Rattle.key_sampling.proofs.tests.what_cannot_win_is_given_up_before_it_is_begun.Goals as goal

pub run_all-requires-clause-ready : goal.run_all-requires-clause-ready
run_all-requires-clause-ready g c = λ regions.
    let race = c.in_ok-race.race in
    subst (All (IsReady race)) (sym c.deref_mut.ensures.value)
    (all_ready race c.in_ok-net.net 1 c.in_ok-workers.workers.items c.in_ok-race.seekers.items
    c.in_ok-workers.ensures.0 c.in_ok-race.ensures.1 c.in_ok-workers.ensures.1
    c.in_ok-race.ensures.0.network_is)
