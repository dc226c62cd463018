-- A plan by its records, each taken for itself: the bookings that they give, or the first at fault.
use Rattle.std.specs.Prelude.{◌≡◌, ◌⊎◌, ℕ, suc, ◌+◌, ◌<◌, List, length, slice_get, Some, IsSomeAnd, IsTrue, Result, Ok, Err}
use Rattle.rc_instance.specs.Usage.{Booking}
use Rattle.schedule_check.specs.declared.plan_fault.PlanFault.{PlanFault}
use Rattle.schedule_check.specs.declared.plan_fault.PlanKind.TheVariants.{NotHeader}
use Rattle.schedule_check.specs.Reading.{booking_in, is_header}

-- the first record is the header
abbrev pub HasHeader : List (List (List ℕ)) → Type 0
HasHeader records = IsSomeAnd (slice_get records 0) (λ fields. IsTrue (is_header fields))

-- the record after the header and so many others gives this booking, or this fault; records are
-- counted from 1
abbrev pub GivesAt : List (List (List ℕ)) → ℕ → Result Booking PlanFault → Type 0
GivesAt records place given =
    IsSomeAnd (slice_get records (suc place)) (λ fields. booking_in (place + 2) fields ≡ given)

-- the first record is the header, and the others give these bookings, in order
pub record ArePlan (records : List (List (List ℕ))) (bookings : List Booking) : Type 0 where
  pub header : HasHeader records
  pub count : length records ≡ suc (length bookings)
  pub each : (place : ℕ) (booking : Booking) → slice_get bookings place ≡ Some booking
      → GivesAt records place (Ok booking)

-- the first record is the header, each of so many others gives a booking, and the next this fault
pub record IsFaultAfter (records : List (List (List ℕ))) (place : ℕ) (fault : PlanFault)
    : Type 0 where
  pub header : HasHeader records
  pub before : (earlier : ℕ) → earlier < place → (booking : Booking) × GivesAt records earlier (Ok booking)
  pub here : GivesAt records place (Err fault)

-- the fault of the first record that has one: it is no header, or no booking
abbrev pub IsFirstFault : List (List (List ℕ)) → PlanFault → Type 0
IsFirstFault records fault =
    ((HasHeader records → ⊥) × (fault ≡ record { kind = NotHeader; row = 1 }))
    ⊎ ((place : ℕ) × IsFaultAfter records place fault)
