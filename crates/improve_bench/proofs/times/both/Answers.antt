use Rattle.std.proofs.Common.{◌≤◌, sym, subst}
use Rattle.rc_instance.specs.Schedule.{IsFeasible, makespan}
use Rattle.rc_instance.specs.Project.{horizon}
use Rattle.activity_net.specs.Network.{Network}
use Rattle.serial_plain.proofs.HorizonLaws.{makespan_by_horizon}
use Rattle.improve_bench.proofs.times.both.Goals as goal

pub improved_times-requires-clause-feasible : goal.improved_times-requires-clause-feasible
improved_times-requires-clause-feasible c =
    subst (λ (n : Network). IsFeasible n.project c.serial_on.new.into)
    (sym c.net-net.ensures.value) c.serial_on.ensures.feasible

pub improved_times-requires-clause-within : goal.improved_times-requires-clause-within
improved_times-requires-clause-within c =
    let starts = c.serial_on.new.into in
    makespan_by_horizon c.net-net.result.now.project starts c.instance-instance.ensures.limits
    (subst (λ (n : Network). makespan n.project starts ≤ horizon n.project)
    (sym c.net-net.ensures.value) c.serial_on.ensures.within)
