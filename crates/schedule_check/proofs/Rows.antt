-- Worked plans and texts, computed from the definitions.
use Rattle.std.proofs.Common.{◌≡◌, ℕ, [], ◌∷◌, None, Some, Ok, Err, refl}
use Rattle.std.specs.Prelude.{codes}
use Rattle.std.specs.Fmt.{digits}
use Rattle.csv.specs.Machine.{next_record}
use Rattle.csv.specs.Reading.{records_from, strip_bom}
use Rattle.csv.specs.Records.{field_at}
use Rattle.rc_instance.specs.Project.{Project, duration, demand, capacity, capacity_at, precedes, successors_of}
use Rattle.rc_instance.specs.Parts.{made}
use Rattle.rc_instance.specs.Usage.{Booking}
use Rattle.schedule_check.specs.declared.plan_fault.PlanKind.TheVariants.{NotHeader, TooFewFields, NotANumber, NumberTooLarge}
use Rattle.schedule_check.specs.declared.violation.Violation.TheVariants.{Unknown, Twice, Missing, BeforePredecessor, OverCapacity}
use Rattle.schedule_check.specs.Reading.{booking_in, bookings_read, is_header, plan_of, read_plan_of}
use Rattle.schedule_check.specs.Violation.{early_at, first_early, first_over, first_violation, first_wrong_name, is_early, over_at, over_of}
use Rattle.schedule_check.specs.Words.{check_line}

-- an activity and its start
abbrev at : ℕ → ℕ → Booking
at a t = record { activity = a; start = t }

-- six activities, one resource of capacity 2
six : Project
six = made (2 ∷ []) (0 ∷ 3 ∷ 2 ∷ 2 ∷ 1 ∷ 0 ∷ []) (0 ∷ 2 ∷ 1 ∷ 1 ∷ 1 ∷ 0 ∷ [])
    ((2 ∷ 3 ∷ 4 ∷ []) ∷ (5 ∷ []) ∷ (6 ∷ []) ∷ (6 ∷ []) ∷ (6 ∷ []) ∷ [] ∷ [])

six_fits : first_violation six (at 1 0 ∷ at 2 0 ∷ at 3 3 ∷ at 4 3 ∷ at 5 5 ∷ at 6 6 ∷ [])
    ≡ None
unfolding six made first_violation first_wrong_name first_early early_at is_early first_over over_at over_of duration demand capacity capacity_at successors_of precedes
six_fits = refl

-- two activities in period 2 use more than there is
over_full : first_violation six (at 1 0 ∷ at 2 0 ∷ at 3 2 ∷ at 4 3 ∷ at 5 5 ∷ at 6 6 ∷ [])
    ≡ Some (OverCapacity 1 2 3 2)
unfolding six made first_violation first_wrong_name first_early early_at is_early first_over over_at over_of duration demand capacity capacity_at successors_of precedes
over_full = refl

missing : first_violation six (at 1 0 ∷ at 2 0 ∷ at 3 3 ∷ at 5 5 ∷ at 6 6 ∷ [])
    ≡ Some (Missing 4)
unfolding six made first_violation first_wrong_name first_early early_at is_early first_over over_at over_of duration demand capacity capacity_at successors_of precedes
missing = refl

all_missing : first_violation six [] ≡ Some (Missing 1)
unfolding six made first_violation first_wrong_name
all_missing = refl

-- an unknown activity comes before one that is repeated later
unknown_first : first_violation six (at 2 0 ∷ at 9 0 ∷ at 2 0 ∷ [])
    ≡ Some (Unknown 9)
unfolding six made first_violation first_wrong_name first_early early_at is_early first_over over_at over_of duration demand capacity capacity_at successors_of precedes
unknown_first = refl

twice_first : first_violation six (at 2 0 ∷ at 2 0 ∷ at 9 0 ∷ [])
    ≡ Some (Twice 2)
unfolding six made first_violation first_wrong_name first_early early_at is_early first_over over_at over_of duration demand capacity capacity_at successors_of precedes
twice_first = refl

-- the least activity that starts too early
too_early : first_violation six (at 1 0 ∷ at 2 0 ∷ at 3 0 ∷ at 4 0 ∷ at 5 2 ∷ at 6 1 ∷ [])
    ≡ Some (BeforePredecessor 5 2)
unfolding six made first_violation first_wrong_name first_early early_at is_early first_over over_at over_of duration demand capacity capacity_at successors_of precedes
too_early = refl

over_full_line : check_line (Some (OverCapacity 1 2 3 2)) 0
    ≡ codes "violation: resource 1 is used 3 of 2 in period 2\n"
unfolding digits
over_full_line = refl

fits_line : check_line None 6 ≡ codes "ok makespan 6\n"
unfolding digits
fits_line = refl

a_plan : read_plan_of (codes "activity,start\n2,30\n1,4\n") ≡ Ok (at 2 30 ∷ at 1 4 ∷ [])
unfolding read_plan_of plan_of is_header bookings_read booking_in field_at next_record records_from strip_bom
a_plan = refl

-- quotes, further fields, empty lines and CRLF are as `csv` reads them
a_loose_plan : read_plan_of (codes "\"activity\",start,x\r\n\r\n2,\"07\",y\n\n1,4")
    ≡ Ok (at 2 7 ∷ at 1 4 ∷ [])
unfolding read_plan_of plan_of is_header bookings_read booking_in field_at next_record records_from strip_bom
a_loose_plan = refl

no_record : read_plan_of ([]) ≡ Err (record { kind = NotHeader; row = 1 })
unfolding read_plan_of plan_of is_header bookings_read booking_in field_at next_record records_from strip_bom
no_record = refl

no_header : read_plan_of (codes "1,0\n") ≡ Err (record { kind = NotHeader; row = 1 })
unfolding read_plan_of plan_of is_header bookings_read booking_in field_at next_record records_from strip_bom
no_header = refl

one_field : read_plan_of (codes "activity,start\n1\n")
    ≡ Err (record { kind = TooFewFields; row = 2 })
unfolding read_plan_of plan_of is_header bookings_read booking_in field_at next_record records_from strip_bom
one_field = refl

-- the first field is at fault before the second is missed
no_number : read_plan_of (codes "activity,start\nx\n") ≡ Err (record { kind = NotANumber; row = 2 })
unfolding read_plan_of plan_of is_header bookings_read booking_in field_at next_record records_from strip_bom
no_number = refl

large_number : read_plan_of (codes "activity,start\n1,0\n4294967296,0\n")
    ≡ Err (record { kind = NumberTooLarge; row = 3 })
unfolding read_plan_of plan_of is_header bookings_read booking_in field_at next_record records_from strip_bom
large_number = refl
