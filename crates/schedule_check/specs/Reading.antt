-- The plan that a text is, or its first fault.
use Rattle.std.specs.Prelude.{ℕ, ◌+◌, ◌&&◌, Bool, false, List, [], ◌∷◌, ◌++◌, Option, None, Some, Result, Ok, Err, codes, if◌then◌else◌}
use Rattle.std.specs.Str.{bytes_eq}
use Rattle.csv.specs.Reading.{records, default_config, strip_bom}
use Rattle.csv.specs.Records.{field_at}
use Rattle.rc_instance.specs.Results.{◌>>=◌}
use Rattle.rc_instance.specs.Usage.{Booking}
use Rattle.rc_edge.specs.declared.number.NumberFault.{NumberFault}
use Rattle.rc_edge.specs.declared.number.NumberFault.TheVariants as number
use Rattle.rc_edge.specs.Numbers.{number_of}
use Rattle.schedule_check.specs.declared.plan_fault.PlanKind.{PlanKind}
use Rattle.schedule_check.specs.declared.plan_fault.PlanKind.TheVariants.{NotHeader, TooFewFields, NotANumber, NumberTooLarge, Memory}
use Rattle.schedule_check.specs.declared.plan_fault.PlanFault.{PlanFault}

-- a fault of a kind, in the record of this number
abbrev pub refused : {A : Type 0} → PlanKind → ℕ → Result A PlanFault
refused kind row = Err (record { kind = kind; row = row })

-- a number that was read in a record
abbrev pub number_in : ℕ → Result ℕ NumberFault → Result ℕ PlanFault
number_in row (Ok value) = Ok value
number_in row (Err number.NotANumber) = refused NotANumber row
number_in row (Err number.NumberTooLarge) = refused NumberTooLarge row

-- the number that the field is which is due in a record
abbrev pub number_due : ℕ → Option (List ℕ) → Result ℕ PlanFault
number_due row None = refused TooFewFields row
number_due row (Some field) = number_in row (number_of field)

-- the booking of a record: its first field is the activity, its second the start; others are
-- passed over
unfoldable pub booking_in : ℕ → List (List ℕ) → Result Booking PlanFault
booking_in row fields = do
  activity ← number_due row (field_at fields 0)
  start ← number_due row (field_at fields 1)
  Ok (record { activity = activity; start = start })

-- the bookings found so far, and those of the records from this one on
unfoldable pub bookings_read : ℕ → List Booking → List (List (List ℕ))
    → Result (List Booking) PlanFault
bookings_read row found [] = Ok found
bookings_read row found (fields ∷ records) = do
  booking ← booking_in row fields
  bookings_read (row + 1) (found ++ booking ∷ []) records

-- whether a field is this word
abbrev pub is_word : Option (List ℕ) → List ℕ → Bool
is_word None word = false
is_word (Some field) word = bytes_eq field word

-- whether the first two fields of a record are the words of the header
unfoldable pub is_header : List (List ℕ) → Bool
is_header fields = is_word (field_at fields 0) (codes "activity")
    && is_word (field_at fields 1) (codes "start")

-- the bookings of all records, of which the first is the header
unfoldable pub plan_of : List (List (List ℕ)) → Result (List Booking) PlanFault
plan_of [] = refused NotHeader 1
plan_of (fields ∷ records) =
    if is_header fields then bookings_read 2 [] records else refused NotHeader 1

-- the bookings of a text: its records are those that `csv` reads, byte order mark apart
unfoldable pub read_plan_of : List ℕ → Result (List Booking) PlanFault
read_plan_of bytes = plan_of (records default_config (strip_bom bytes))

-- a fault for want of memory names no record
abbrev pub out_of_memory : PlanFault
out_of_memory = record { kind = Memory; row = 0 }
