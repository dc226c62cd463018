use Rattle.std.proofs.Common.{◌≡◌, ◌-◌, ◌≤◌, length, take, slice_index, ap, ◌∙◌, arith}
use Rattle.std.proofs.lemmas.List.{length-set}
use Rattle.std.proofs.lemmas.List.Elements.{All-take}
use Rattle.rc_instance.specs.Project.{activity_count}
use Rattle.rc_instance.specs.Serial.{serial_bookings, serial_start}
use Rattle.rc_instance.specs.Schedule.{start_at}
use Rattle.rc_instance.proofs.SerialLaws.{length-serial}
use Rattle.event_line.specs.Timeline.{Timeline}
use Rattle.activity_net.specs.Network.{Network}
use Rattle.serial_plain.proofs.StepLaws.{take-serial_bookings}
use Rattle.serial_plain.proofs.on_tests.repeats.Goals as goal
use Rattle.serial_plain.proofs.on_tests.repeats.Goals.{After-start-start, After-undo}

-- the order lists as many activities as are counted, and at least one
counted : (c : After-start-start)
    → (length c.args.list.now.order ≡ c.count-position.result) × (1 ≤ c.count-position.result)
counted c =
    let value = c.count-position.ensures.value in
    let same = ap activity_count (c.instance-instance.ensures.value
    ∙ ap (λ (network : Network). network.project) c.net.ensures.value) in (
      omega (arith, c.net.ensures.feasible.count),
      omega (arith, c.count-position.ensures.limits.some),
    )

-- each of them is booked
booked : (c : After-start-start) → c.serial_on.new.line.bookings
    ≡ serial_bookings c.args.list.now.network.project c.args.list.now.order
booked c = ap (λ (line : Timeline). line.bookings) c.serial_on.ensures.booked

pub undo-requires : goal.undo-requires
undo-requires c =
    let at = (goal.at.undo-requires c).After-start-start in
    omega (
      arith,
      ap length (booked at),
      length-serial c.args.list.now.network.project c.args.list.now.order,
      (counted at).0,
      (counted at).1,
    )

-- taken back, the last one is missing
undone : (c : After-undo) (long : length c.args.list.now.order ≡ c.count-position.result)
    → c.serial_on.new.line.bookings
    ≡ serial_bookings c.args.list.now.network.project c.args.list.now.order
    → c.undo.new.self.bookings
    ≡ take (c.count-position.result - 1) (serial_bookings c.args.list.now.network.project
    c.args.list.now.order)
undone c long all =
    let count = length-serial c.args.list.now.network.project c.args.list.now.order ∙ long in
    rw (all, count) at (ap (λ (line : Timeline). line.bookings) c.undo.ensures)

pub serial_step-answer-requires-clause-before : goal.serial_step-answer-requires-clause-before
serial_step-answer-requires-clause-before c =
    let at = (goal.at.serial_step-answer-requires-clause-before c).After-start-start in
    let back = (goal.at.serial_step-answer-requires-clause-before c).After-undo in
    let project = c.args.list.now.network.project in
    let order = c.args.list.now.order in
    undone back (counted at).0 (booked at)
    ∙ take-serial_bookings project order (c.count-position.result - 1) (omega (arith, (counted at).0))

pub serial_step-answer-requires-clause-shown : goal.serial_step-answer-requires-clause-shown
serial_step-answer-requires-clause-shown c =
    let at = (goal.at.serial_step-answer-requires-clause-shown c).After-start-start in
    let back = (goal.at.serial_step-answer-requires-clause-shown c).After-undo in
    let shown = rw (booked at) at c.serial_on.ensures.shown in
    rw (undone back (counted at).0 (booked at))
    (All-take (λ b. start_at c.serial_on.new.into b.activity ≡ b.start)
    (c.count-position.result - 1)
    (serial_bookings c.args.list.now.network.project c.args.list.now.order) shown)

pub start-requires : goal.start-requires
start-requires c =
    let at = (goal.at.start-requires c).After-start-start in
    let order = c.args.list.now.order in
    let activity = c.net.ensures.feasible.activities (c.count-position.result - 1) 0
    (omega (arith, (counted at).0, (counted at).1)) in
    rw (c.order.ensures.value, c.serial_step-answer.ensures.start) (
      activity.0,
      omega (
        arith,
        activity.1,
        c.serial_on.ensures.feasible.count,
        length-set c.serial_on.new.into (slice_index order (c.count-position.result - 1) - 1)
            (serial_start c.args.list.now.network.project order (c.count-position.result - 1)),
      ),
    )
