use Rattle.std.proofs.Common.{◌≤◌, List, ℕ, sym, ◌∙◌, ap, subst}
use Rattle.rc_instance.specs.Calendar.{IsWithinLimits}
use Rattle.rc_instance.specs.Schedule.{IsFeasible, makespan}
use Rattle.rc_instance.proofs.FeasibleLaws.{IsFeasible-serial_schedule}
use Rattle.activity_net.specs.Network.{Network}
use Rattle.event_line.specs.Timeline.{Timeline}
use Rattle.swap_descent.specs.Descent.{serial_makespan, descent}
use Rattle.swap_descent.proofs.PlacedLaws.{placed_serial}
use Rattle.swap_descent.proofs.DescentLaws.{descent-feasible, descent-le}
use Rattle.swap_descent.proofs.descent.descended.Goals as goal

pub repeat-requires-clause-windows : goal.repeat-requires-clause-windows
repeat-requires-clause-windows c = c.in_ok-windows.ensures ∙ c.net-net.ensures.value

pub repeat-requires-clause-placed : goal.repeat-requires-clause-placed
repeat-requires-clause-placed c =
    placed_serial c.args.list c.serial_on.new.line c.serial_on.new.into c.requires
    (subst (λ (network : Network). IsWithinLimits network.project) c.net-net.ensures.value
    c.instance-instance.ensures.limits)
    c.net-net.ensures.feasible
    (ap (λ (l : Timeline). l.project) c.serial_on.ensures.booked
    ∙ (ap (λ (l : Timeline). l.project) c.in_ok-line.ensures
    ∙ (c.instance-instance.ensures.value
    ∙ ap (λ (network : Network). network.project) c.net-net.ensures.value)))
    (ap (λ (l : Timeline). l.bookings) c.serial_on.ensures.booked) c.serial_on.ensures.shown
    c.serial_on.ensures.feasible

pub returns-clause-feasible : goal.returns-clause-feasible
returns-clause-feasible c =
    let project = c.args.list.network.project in
    let order = descent project c.args.rounds c.args.list.order in
    subst (IsFeasible project) (sym c.repeat.ensures.schedule)
    (IsFeasible-serial_schedule project order c.requires
    (descent-feasible project c.args.rounds c.args.list.order c.net-net.ensures.feasible))

pub returns-clause-shorter : goal.returns-clause-shorter
returns-clause-shorter c =
    let project = c.args.list.network.project in
    subst (λ (starts : List ℕ). makespan project starts
    ≤ serial_makespan project c.args.list.order) (sym c.repeat.ensures.schedule)
    (descent-le project c.args.rounds c.args.list.order)
