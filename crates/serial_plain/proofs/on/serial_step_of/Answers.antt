use Rattle.std.proofs.Common.{rules}
use Rattle.serial_plain.proofs.ShownLaws.{booked_others}
use Rattle.serial_plain.proofs.StepLaws.{booked_within, predecessors_within, next_within}
use Rattle.serial_plain.proofs.TakenLaws.{step_activity, step_taken, step_shown}
use Rattle.serial_plain.proofs.on.serial_step_of.Goals as goal
use Rattle.serial_plain.proofs.on.serial_step_of.Goals.{After-set}

pub predecessors-requires : goal.predecessors-requires
predecessors-requires c = step_activity _ _ _ _ _ c.requires.next.step

pub last_of-last-requires-clause-ended : goal.last_of-last-requires-clause-ended
last_of-last-requires-clause-ended c =
    let next = c.requires.next in
    let step = next.step in
    rw (c.predecessors.ensures.value, c.instance.ensures.value, ← step.at)
    (predecessors_within c.args.net.now.project next.order next.position c.args.into.now
    c.instance.ensures.limits step.feasible step.within (rw step.before at c.requires.shown))

pub place_near-start-requires : goal.place_near-start-requires
place_near-start-requires c =
    let project = c.args.net.now.project in
    let next = c.requires.next in
    let step = next.step in
    let others = booked_others project next.order next.position step.feasible step.within in
    record {
      activity = rw c.requires.project (step_activity _ _ _ _ _ step);
      unbooked = rw (step.before, ← step.at) (λ i d inside. (others i d inside).1);
      fits = search rules;
      from = rw (
        c.last_of-last.ensures,
        c.predecessors.ensures.value,
        c.instance.ensures.value,
        ← step.at,
      )
          (next_within project next.order next.position c.args.into.now c.instance.ensures.limits
          step.feasible step.within (rw step.before at c.requires.shown));
      ended = rw (step.before, c.requires.project)
          (booked_within project next.order next.position c.instance.ensures.limits step.feasible);
    }

pub returns-clause-stepped : goal.returns-clause-stepped
returns-clause-stepped c = λ order position step.
    rw c.set.ensures (step_taken c.args.net.now.project order position _ _ _ _ _ step
    c.requires.shown (rw (
      c.requires.project,
      c.last_of-last.ensures,
      c.predecessors.ensures.value,
      c.instance.ensures.value,
    ) at
    c.place_near-start.ensures.least) c.place_near-start.ensures.booked)

pub returns-clause-shown : goal.returns-clause-shown
returns-clause-shown c =
    let next = c.requires.next in
    step_shown _ next.order next.position _ _ _ _ _ _ next.step c.requires.count c.requires.shown
    (returns-clause-stepped c next.order next.position next.step)
