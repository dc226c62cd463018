use Rattle.std.proofs.Common.{◌≤◌, ap, sym, subst, ◌∙◌, arith}
use Rattle.rc_instance.specs.Calendar.{IsWithinLimits}
use Rattle.rc_instance.specs.Project.{horizon}
use Rattle.rc_instance.specs.Schedule.{makespan, serial_schedule, IsFeasible}
use Rattle.rc_instance.proofs.FeasibleLaws.{IsFeasible-serial_schedule, makespan-serial_schedule-le-horizon}
use Rattle.rc_instance.proofs.LimitLaws.{last_change-le}
use Rattle.activity_net.specs.Network.{Listing, Network}
use Rattle.rcpsp_run.proofs.steps.serial.schedule_in.Goals as goal

pub returns-clause-starts : goal.returns-clause-starts
returns-clause-starts c =
    c.into_schedule.ensures
    ∙ ap (λ (l : Listing). serial_schedule l.network.project l.order) c.requires.listing

pub returns-clause-feasible : goal.returns-clause-feasible
returns-clause-feasible c =
    let project = c.args.list.now.network.project in
    subst (IsFeasible project) (sym (returns-clause-starts c))
    (IsFeasible-serial_schedule project c.args.list.now.order c.requires.fits c.net.ensures.feasible)

pub returns-clause-within : goal.returns-clause-within
returns-clause-within c =
    let project = c.args.list.now.network.project in
    subst (λ starts. makespan project starts ≤ horizon project) (sym (returns-clause-starts c))
    (makespan-serial_schedule-le-horizon project c.args.list.now.order c.net.ensures.feasible)

pub returns-clause-short : goal.returns-clause-short
returns-clause-short c =
    let project = c.args.list.now.network.project in
    let is = ap (λ (n : Network). n.project) c.net.ensures.value in
    let limits : IsWithinLimits project = subst IsWithinLimits is c.instance.ensures.limits in
    omega (
      arith,
      returns-clause-within c,
      last_change-le project limits,
      limits.durations,
    )
