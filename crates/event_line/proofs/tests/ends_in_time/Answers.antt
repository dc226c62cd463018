use Rattle.std.proofs.Common.{◌≡◌, ◌≤◌, get_or, sym, ap, ◌∙◌, subst, inl, inr, arith}
use Rattle.std.proofs.lemmas.Bool.{cases_eq}
use Rattle.std.proofs.lemmas.Option.{get_or_from_slice_get}
use Rattle.rc_instance.specs.Project.{Project, duration}
use Rattle.rc_instance.specs.declared.limits.TheConstants.{MAX_HORIZON}
use Rattle.rc_instance.specs.Usage.{finish}
use Rattle.rc_instance.proofs.UsageLaws.{last_finish-le}
use Rattle.event_line.proofs.tests.ends_in_time.Goals as goal

pub loop-index-preserved : goal.loop-index-preserved
loop-index-preserved c = λ i d h.
    let l = c.loop-index in
    let project = c.args.line.now.project in
    let bookings = c.args.line.now.bookings in
    let told = c.booked-activity.result in
    elim (cases_eq i l.index) [
      | inl e ↦
          let read = get_or_from_slice_get bookings l.index _ d c.booked-activity.ensures.value in
          let long : c.duration.result ≡ duration project told.0 =
          c.duration.ensures.value
          ∙ ap (λ (p : Project). duration p told.0) c.instance.ensures in
          subst (λ n. finish project (get_or bookings n d) ≤ MAX_HORIZON) (sym e)
          (rw read (omega (arith, c.if-start-gt-MAX_HORIZON.false, c.if-duration-start.false)))
      | inr ne ↦ l.invariant i d (omega arith)
    ]

pub returns : goal.returns
returns c = λ _.
    let line = c.args.line.now in
    last_finish-le line.project line.bookings MAX_HORIZON
    (λ i d h. c.loop-index.invariant i d (omega (arith, c.count-index-end.ensures.value)))
