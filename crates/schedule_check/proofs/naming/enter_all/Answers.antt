use Rattle.std.proofs.Common.{◌≡◌, ◌∙◌, ◌≤◌, false, length, get_or, take, sym, refl, ap, arith, inl, inr}
use Rattle.std.proofs.lemmas.List.{take_all}
use Rattle.schedule_check.specs.declared.placement.Placement.{Placement}
use Rattle.schedule_check.specs.declared.violation.Violation.TheVariants.{Unknown, Twice}
use Rattle.schedule_check.specs.Plan.{booking_of, bookings_in}
use Rattle.schedule_check.specs.Violation.{first_wrong_name, is_booked}
use Rattle.schedule_check.proofs.EntryLaws.{Enters-none, Enters-more, bookings_next, named_by_number, right_name, starts_by_number, wrong_found, wrong_later, wrong_none, wrong_twice, wrong_unknown}
use Rattle.schedule_check.proofs.naming.enter_all.Goals as goal
use Rattle.schedule_check.proofs.naming.enter_all.Goals.{then-number-eq0-via-then-number-eq0, then-number-eq0-via-else-number-eq0+then-number-named}

abbrev nothing : Placement
nothing = record { activity = 0; start = 0 }

pub loop-placement-init : goal.loop-placement-init
loop-placement-init c = (
  Enters-none (length c.args.named.now) c.args.named.now c.args.schedule.now refl c.requires.none
      c.requires.zero,
  ap (first_wrong_name (length c.args.named.now) _) c.placements-placement-items.ensures,
)

pub returns-then-number-eq0-clause-violation : goal.returns-then-number-eq0-clause-violation
returns-then-number-eq0-clause-violation c =
    let items = c.placements-placement-items.result.now in
    let i = c.loop-placement.placement-index in
    let count = length c.args.named.now in
    let earlier = bookings_in (take i items) in
    let a = (get_or items i nothing).activity in
    let enters = c.loop-placement.invariant.0 in
    let wrong = wrong_unknown count earlier a
    (elim c.then-number-eq0.branch [
      | then-number-eq0-via-then-number-eq0 w ↦ inl w.if-number-eq0.true
      | then-number-eq0-via-else-number-eq0+then-number-named w ↦
          inr (omega (arith, enters.named_count, w.if-number-named.true))
    ]) in
    sym (wrong_found count items i nothing (Unknown a) c.loop-placement-test.true wrong)
    ∙ c.loop-placement.invariant.1

pub returns-then-named-number-clause-violation : goal.returns-then-named-number-clause-violation
returns-then-named-number-clause-violation c =
    let items = c.placements-placement-items.result.now in
    let i = c.loop-placement.placement-index in
    let count = length c.args.named.now in
    let a = (get_or items i nothing).activity in
    let enters = c.loop-placement.invariant.0 in
    let high : a ≤ count = omega (arith, enters.named_count, c.if-number-named.false) in
    let low : 1 ≤ a = omega arith in
    let wrong = wrong_twice count (bookings_in (take i items)) a low high
    (sym (enters.names a low high) ∙ c.if-named-number.true) in
    sym (wrong_found count items i nothing (Twice a) c.loop-placement-test.true wrong)
    ∙ c.loop-placement.invariant.1

pub loop-placement-preserved : goal.loop-placement-preserved
loop-placement-preserved c =
    let items = c.placements-placement-items.result.now in
    let i = c.loop-placement.placement-index in
    let count = length c.args.named.now in
    let front = bookings_in (take i items) in
    let booking = booking_of (get_or items i nothing) in
    let a = booking.activity in
    let enters = c.loop-placement.invariant.0 in
    let high : a ≤ count = omega (arith, enters.named_count, c.if-number-named.false) in
    let low : 1 ≤ a = omega arith in
    let none : is_booked front a ≡ false = sym (enters.names a low high)
    ∙ c.if-named-number.false in
    let right = right_name count front a low high none in
    let more = Enters-more count front c.loop-placement.named c.loop-placement.schedule booking
    enters low high none in (
      rw (bookings_next items i nothing c.loop-placement-test.true, c.set.ensures) more,
      wrong_later count items i nothing c.loop-placement-test.true right
          ∙ c.loop-placement.invariant.1,
    )

pub returns-clause-violation : goal.returns-clause-violation
returns-clause-violation c =
    let items = c.placements-placement-items.result.now in
    sym (wrong_none (length c.args.named.now) items c.loop-placement.placement-index
    c.loop-placement-test.false)
    ∙ c.loop-placement.invariant.1

pub returns-clause-names : goal.returns-clause-names
returns-clause-names c =
    let items = c.placements-placement-items.result.now in
    let whole = ap bookings_in (take_all c.loop-placement.placement-index items
    c.loop-placement-test.false)
    ∙ c.placements-placement-items.ensures in
    rw whole at (named_by_number (length c.args.named.now) _ c.loop-placement.named
    c.loop-placement.schedule c.loop-placement.invariant.0)

pub returns-clause-starts : goal.returns-clause-starts
returns-clause-starts c =
    let items = c.placements-placement-items.result.now in
    let whole = ap bookings_in (take_all c.loop-placement.placement-index items
    c.loop-placement-test.false)
    ∙ c.placements-placement-items.ensures in
    rw whole at (starts_by_number (length c.args.named.now) _ c.loop-placement.named
    c.loop-placement.schedule c.loop-placement.invariant.0)
