use Rattle.std.proofs.Common.{◌≡◌, ◌≤◌, [], ap, sym, subst, ◌∙◌, arith}
use Rattle.rc_instance.specs.Project.{Project, horizon}
use Rattle.rc_instance.specs.Calendar.{IsWithinLimits}
use Rattle.rc_instance.specs.Schedule.{IsFeasible, makespan}
use Rattle.activity_net.specs.Network.{Network}
use Rattle.event_line.specs.Timeline.{Timeline}
use Rattle.parallel_scheme.specs.Parallel.{booked_before}
use Rattle.parallel_scheme.specs.NonDelay.{IsNonDelay}
use Rattle.parallel_scheme.specs.Passing.{IsTold}
use Rattle.parallel_scheme.proofs.NonDelayLaws.{IsNonDelay-parallel}
use Rattle.parallel_scheme.proofs.PassLaws.{told_all}
use Rattle.parallel_scheme.proofs.ToldLaws.{horizon-le}
use Rattle.parallel_scheme.proofs.ReachLaws.{IsFeasible-parallel, makespan-parallel}
use Rattle.parallel_scheme.proofs.scheme.booked.Goals as goal

pub loop-time-init : goal.loop-time-init
unfolding booked_before
loop-time-init c =
    let project = c.args.list.now.network.project in
    let line : c.in_ok-line.line ≡ record { project = c.instance-instance.result.now; bookings = [] } =
    c.in_ok-line.ensures in
    let same : c.instance-instance.result.now ≡ project = c.instance-instance.ensures.value
    ∙ ap (λ (n : Network). n.project) c.net.ensures.value in
    let told : IsTold c.instance-instance.result.now 0 [] c.in_ok-progress.progress =
    c.in_ok-progress.ensures in
    let none = ap (λ (t : Timeline). t.bookings) line in
    record {
      project = ap (λ (t : Timeline). t.project) line ∙ same;
      booked = none;
      time = omega arith;
      told = rw none
          (subst (λ (p : Project). IsTold p 0 [] c.in_ok-progress.progress) same told);
    }

pub returns-clause-schedule : goal.returns-clause-schedule
returns-clause-schedule c =
    let l = c.loop-time in
    told_all c.args.list.now.network.project c.args.list.now.order l.time l.line.bookings l.progress
    c.requires c.net.ensures.feasible l.invariant.booked l.invariant.time c.loop-time-test.false
    l.invariant.told

pub returns-clause-feasible : goal.returns-clause-feasible
returns-clause-feasible c =
    subst (IsFeasible c.args.list.now.network.project) (sym (returns-clause-schedule c))
    (IsFeasible-parallel c.args.list.now.network.project c.args.list.now.order c.requires
    c.net.ensures.feasible)

pub returns-clause-within : goal.returns-clause-within
returns-clause-within c =
    let project = c.args.list.now.network.project in
    subst (λ starts. makespan project starts ≤ horizon project) (sym (returns-clause-schedule c))
    (makespan-parallel project c.args.list.now.order c.requires c.net.ensures.feasible)

pub returns-clause-non_delay : goal.returns-clause-non_delay
returns-clause-non_delay c =
    subst (IsNonDelay c.args.list.now.network.project) (sym (returns-clause-schedule c))
    (IsNonDelay-parallel c.args.list.now.network.project c.args.list.now.order c.requires
    c.net.ensures.feasible)

pub returns-clause-short : goal.returns-clause-short
returns-clause-short c =
    let project = c.args.list.now.network.project in
    let limits = subst (λ (n : Network). IsWithinLimits n.project) c.net.ensures.value
    c.instance-instance.ensures.limits in
    omega (arith, returns-clause-within c, horizon-le project limits)
