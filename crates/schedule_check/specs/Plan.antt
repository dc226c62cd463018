-- How a plan is seen: as its bookings, in the order in which it names them.
use Rattle.std.specs.Prelude.{List, map}
use Rattle.rc_instance.specs.Usage.{Booking}
use Rattle.schedule_check.specs.declared.placement.Placement.{Placement}

-- a placement as a booking
abbrev pub booking_of : Placement → Booking
booking_of placement = record { activity = placement.activity; start = placement.start }

-- placements as bookings
abbrev pub bookings_in : List Placement → List Booking
bookings_in placements = map booking_of placements
