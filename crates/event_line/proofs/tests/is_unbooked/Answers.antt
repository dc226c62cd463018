use Rattle.std.proofs.Common.{get_or, sym, ap, ◌∙◌, inl, inr, arith}
use Rattle.std.proofs.lemmas.Bool.{cases_eq}
use Rattle.std.proofs.lemmas.Option.{get_or_from_slice_get}
use Rattle.rc_instance.specs.Usage.{Booking}
use Rattle.event_line.proofs.tests.is_unbooked.Goals as goal

pub loop-index-preserved : goal.loop-index-preserved
loop-index-preserved c = λ i d h.
    let l = c.loop-index in
    let bookings = c.args.line.now.bookings in
    elim (cases_eq i l.index) [
      | inl e ↦
          let read = get_or_from_slice_get bookings l.index _ d c.booked.ensures.value in
          let here = ap (λ (b : Booking). b.activity) read in
          λ same. c.if-booked-activity.false (sym here ∙ (ap (λ n. (get_or bookings n d).activity) (sym e) ∙ same))
      | inr ne ↦ l.invariant i d (omega arith)
    ]
