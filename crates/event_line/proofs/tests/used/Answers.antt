use Rattle.std.proofs.Common.{◌<◌, length, take, ◌++◌, [], ◌∷◌, ap, ◌∙◌, arith}
use Rattle.std.proofs.lemmas.List.{take_more, take_all}
use Rattle.std.proofs.lemmas.Option.{get_or_from_slice_get}
use Rattle.rc_instance.specs.Project.{Project}
use Rattle.rc_instance.specs.Usage.{Booking, use_of, usage}
use Rattle.rc_instance.proofs.UsageLaws.{usage_push}
use Rattle.event_line.proofs.tests.used.Goals as goal

pub loop-index-preserved : goal.loop-index-preserved
loop-index-preserved c =
    let l = c.loop-index in
    let line = c.args.line.now in
    let booking : Booking =
    record { activity = c.booked.result.0; start = c.booked.result.1 } in
    let within : l.index < length line.bookings = omega (arith, c.count-index-end.ensures.value) in
    let read = get_or_from_slice_get line.bookings l.index booking booking c.booked.ensures.value in
    let more = take_more line.bookings l.index booking within
    ∙ ap (λ b. take l.index line.bookings ++ b ∷ []) read in
    let push = usage_push line.project (take l.index line.bookings) booking c.args.resource
    c.args.period in
    let used = c.use_of-used.ensures.value
    ∙ ap (λ (p : Project). use_of p c.args.resource c.args.period booking) c.instance.ensures in
    let so_far = l.invariant.0 in (
      rw more (omega arith),
      omega (arith, l.invariant.1, c.use_of-used.ensures.within),
    )

pub returns : goal.returns
returns c =
    let line = c.args.line.now in
    c.loop-index.invariant.0
    ∙ ap (λ bs. usage line.project bs c.args.resource c.args.period)
    (take_all c.loop-index.index line.bookings (omega (arith, c.count-index-end.ensures.value)))
