use Rattle.std.proofs.Common.{◌≡◌, ◌∙◌, ◌+◌, ◌-◌, false, length, refl, sym, arith}
use Rattle.rc_instance.proofs.MisfitLaws.{first_of-is, first_of-none}
use Rattle.schedule_check.specs.declared.violation.Violation.TheVariants.{Missing}
use Rattle.schedule_check.specs.Violation.{is_booked, missing_at}
use Rattle.schedule_check.proofs.EntryLaws.{not_missing, named_at}
use Rattle.schedule_check.proofs.naming.first_missing.Goals as goal

pub returns-then-not-is_named : goal.returns-then-not-is_named
returns-then-not-is_named c bookings by_number =
    let named = c.args.named.now in
    let place = c.loop-place.place in
    let missing : is_booked bookings (place + 1) ≡ false =
    sym (named_at bookings named place by_number c.loop-place-test.true) ∙ c.if-not-is_named.true in
    sym (first_of-is (missing_at bookings) 1 (length named) (place + 1) (Missing (place + 1))
    (omega arith)
    (omega arith) (rw missing refl)
    (λ a low high. not_missing bookings named a by_number low (omega arith)
    (c.loop-place.invariant (a - 1) (omega arith))))

pub returns : goal.returns
returns c bookings by_number =
    let named = c.args.named.now in
    sym (first_of-none (missing_at bookings) 1 (length named)
    (λ a low high. not_missing bookings named a by_number low (omega arith)
    (c.loop-place.invariant (a - 1) (omega arith))))
