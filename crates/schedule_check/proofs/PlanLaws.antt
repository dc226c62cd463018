-- The plan that records are, one record after another.
use Rattle.std.proofs.Common.{◌≡◌, ◌∙◌, ℕ, ◌+◌, true, false, List, [], ◌∷◌, ◌++◌, Result, Ok, Err, sym, refl}
use Rattle.rc_instance.specs.Usage.{Booking}
use Rattle.schedule_check.specs.declared.plan_fault.PlanFault.{PlanFault}
use Rattle.schedule_check.specs.declared.plan_fault.PlanKind.TheVariants.{NotHeader}
use Rattle.schedule_check.specs.Reading.{booking_in, bookings_read, is_header, plan_of, refused}
use Rattle.schedule_check.specs.Records.{Takes}

-- the first record is the header
pub header_read : (records rest : List (List (List ℕ))) (fields : List (List ℕ))
    → Takes records fields rest true
    → is_header fields ≡ true → plan_of records ≡ bookings_read 2 [] rest
unfolding plan_of
header_read records rest fields takes head = rw (takes, head) refl

-- it is not
pub header_wrong : (records rest : List (List (List ℕ))) (fields : List (List ℕ))
    → Takes records fields rest true
    → is_header fields ≡ false → plan_of records ≡ refused NotHeader 1
unfolding plan_of
header_wrong records rest fields takes other = rw (takes, other) refl

-- there is none
pub header_absent : (records rest : List (List (List ℕ))) (fields : List (List ℕ))
    → Takes records fields rest false
    → plan_of records ≡ refused NotHeader 1
unfolding plan_of
header_absent records rest fields takes = rw takes refl

-- one record was read, and the others are left
pub plan_more : (row : ℕ) (found : List Booking) (records rest : List (List (List ℕ)))
    (fields : List (List ℕ)) (booking : Booking)
    (total : Result (List Booking) PlanFault) → Takes records fields rest true
    → booking_in row fields ≡ Ok booking
    → bookings_read row found records ≡ total → bookings_read (row + 1) (found ++ booking ∷ []) rest
    ≡ total
unfolding bookings_read
plan_more row found records rest fields booking total takes read so_far =
    let step : bookings_read row found records
    ≡ bookings_read (row + 1) (found ++ booking ∷ []) rest = rw (takes, read) refl in
    sym step ∙ so_far

-- one record was refused, and so is the text
pub plan_fails : (row : ℕ) (found : List Booking) (records rest : List (List (List ℕ)))
    (fields : List (List ℕ)) (fault : PlanFault)
    (total : Result (List Booking) PlanFault) → Takes records fields rest true
    → booking_in row fields ≡ Err fault
    → bookings_read row found records ≡ total → total ≡ Err fault
unfolding bookings_read
plan_fails row found records rest fields fault total takes refused so_far =
    let step : bookings_read row found records ≡ Err fault = rw (takes, refused) refl in
    sym so_far ∙ step

-- all records were read
pub plan_ends : (row : ℕ) (found : List Booking) (records rest : List (List (List ℕ)))
    (fields : List (List ℕ))
    (total : Result (List Booking) PlanFault) → Takes records fields rest false
    → bookings_read row found records ≡ total → total ≡ Ok found
unfolding bookings_read
plan_ends row found records rest fields total takes so_far =
    let step : bookings_read row found records ≡ Ok found = rw takes refl in
    sym so_far ∙ step
