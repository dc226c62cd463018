use Rattle.std.proofs.Common.{◌≡◌, ◌≤◌, length, sym, subst, ap, ◌∙◌, arith}
use Rattle.std.proofs.lemmas.List.Elements.{All-nil}
use Rattle.rc_instance.specs.Project.{activity_count, horizon}
use Rattle.rc_instance.specs.Serial.{serial_bookings}
use Rattle.rc_instance.specs.Schedule.{IsFeasible, makespan}
use Rattle.rc_instance.proofs.FeasibleLaws.{IsFeasible-serial_schedule, makespan-serial_schedule-le-horizon}
use Rattle.serial_plain.specs.Shown.{ShowsStarts}
use Rattle.serial_plain.proofs.StepLaws.{all_shown}
use Rattle.serial_plain.proofs.on.serial_on.Goals as goal

pub loop-position-init : goal.loop-position-init
unfolding serial_bookings
loop-position-init c =
    let none : ShowsStarts c.args.line.now.bookings c.args.into.now =
    rw c.requires.empty (All-nil _) in
    (c.requires.project, c.requires.empty, c.requires.count, none)

pub returns-clause-schedule : goal.returns-clause-schedule
returns-clause-schedule c =
    let project = c.args.list.now.network.project in
    let order = c.args.list.now.order in
    let l = c.loop-position in
    let count : c.count-position-end.result ≡ activity_count project =
    c.count-position-end.ensures.value
    ∙ ap activity_count (c.instance.ensures.value ∙ ap (λ n. n.project) c.net.ensures.value) in
    let all : length order ≤ l.position = omega (arith, c.net.ensures.feasible.count, count) in
    all_shown project order l.position l.into c.net.ensures.feasible all l.invariant.2
    (rw l.invariant.1 at l.invariant.3)

pub returns-clause-feasible : goal.returns-clause-feasible
returns-clause-feasible c =
    let project = c.args.list.now.network.project in
    subst (IsFeasible project) (sym (returns-clause-schedule c))
    (IsFeasible-serial_schedule project c.args.list.now.order c.requires.fits c.net.ensures.feasible)

pub returns-clause-within : goal.returns-clause-within
returns-clause-within c =
    let project = c.args.list.now.network.project in
    subst (λ starts. makespan project starts ≤ horizon project) (sym (returns-clause-schedule c))
    (makespan-serial_schedule-le-horizon project c.args.list.now.order c.net.ensures.feasible)
