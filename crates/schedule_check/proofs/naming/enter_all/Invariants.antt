use Rattle.std.proofs.Common.{◌≡◌, [], length, take, drop}
use Rattle.schedule_check.specs.Plan.{bookings_in}
use Rattle.schedule_check.specs.Violation.{first_wrong_name}
use Rattle.schedule_check.proofs.EntryLaws.{Enters}
use Rattle.schedule_check.proofs.naming.enter_all.Given as goal

abbrev pub invariant-loop-placement : goal.invariant-loop-placement
invariant-loop-placement l =
    Enters (length l.fn.named) (bookings_in (take l.placement-index l.placement-items)) l.named
    l.schedule
    × (first_wrong_name (length l.fn.named) (bookings_in (take l.placement-index l.placement-items))
    (bookings_in (drop l.placement-index l.placement-items))
    ≡ first_wrong_name (length l.fn.named) [] l.plan)
