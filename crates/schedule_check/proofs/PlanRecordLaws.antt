-- Records read one after another, and each for itself.
use Rattle.std.proofs.Common.{◌≡◌, ◌↔◌, ◌∙◌, ℕ, zero, suc, ◌+◌, ◌<◌, Bool, true, false, List, [], ◌∷◌, ◌++◌, length, slice_get, Some, IsSomeAnd, Result, Ok, Err, if◌then◌else◌, inl, inr, ap, refl, sym, subst, append_assoc, append-nil, arith}
use Rattle.rc_instance.specs.Results.{◌>>=◌}
use Rattle.rc_instance.specs.Usage.{Booking}
use Rattle.schedule_check.specs.declared.plan_fault.PlanFault.{PlanFault}
use Rattle.schedule_check.specs.declared.plan_fault.PlanKind.TheVariants.{NotHeader}
use Rattle.schedule_check.specs.Reading.{booking_in, bookings_read, is_header, plan_of}
use Rattle.schedule_check.specs.PlanRecords.{ArePlan, IsFirstFault}

-- the fields of records
abbrev pub Records : Type 0
Records = List (List (List ℕ))

-- the record at a place, of records of which the first has this number, gives this
abbrev pub GivesFrom : ℕ → Records → ℕ → Result Booking PlanFault → Type 0
GivesFrom row records place given =
    IsSomeAnd (slice_get records place) (λ fields. booking_in (place + row) fields ≡ given)

-- the first of them, by its number
at_first : (row : ℕ) (fields : List (List ℕ)) (records : Records) (given : Result Booking PlanFault)
    → (booking_in row fields ≡ given) ↔ GivesFrom row (fields ∷ records) zero given
at_first row fields records given =
    let same : row ≡ 0 + row = omega arith in
    let IsThat : ℕ → Type 0 = λ number. booking_in number fields ≡ given in
    (subst IsThat same, subst IsThat (sym same))

-- those after it, by the numbers that they have among all
at_later : (row : ℕ) (fields : List (List ℕ)) (records : Records) (place : ℕ)
    (given : Result Booking PlanFault)
    → GivesFrom (row + 1) records place given ↔ GivesFrom row (fields ∷ records) (suc place) given
at_later row fields records place given =
    let same : place + (row + 1) ≡ suc place + row = omega arith in
    let IsThat : ℕ → Type 0 =
    λ number. IsSomeAnd (slice_get records place) (λ fields. booking_in number fields ≡ given) in
    (subst IsThat same, subst IsThat (sym same))

-- each record gives the booking at its place
abbrev GiveEach : ℕ → Records → List Booking → Type 0
GiveEach row records bookings = (place : ℕ) (booking : Booking)
    → slice_get bookings place ≡ Some booking → GivesFrom row records place (Ok booking)

-- one record more, before the others
give_more : (row : ℕ) (fields : List (List ℕ)) (records : Records) (first : Booking)
    (others : List Booking) → booking_in row fields ≡ Ok first
    → GiveEach (row + 1) records others → GiveEach row (fields ∷ records) (first ∷ others)
give_more row fields records first others is each zero booking at =
    (at_first row fields records (Ok booking)).0 (is ∙ ap Ok (some_is first booking at))
  where
    some_is : (a b : Booking) → Some a ≡ Some b → a ≡ b
    some_is a b e = cc
give_more row fields records first others is each (suc place) booking at =
    (at_later row fields records place (Ok booking)).0 (each place booking at)

-- what was read of records: bookings found before, and one of each record
record WereRead (row : ℕ) (found : List Booking) (records : Records) (bookings : List Booking)
    : Type 0 where
  more : List Booking
  all : bookings ≡ found ++ more
  count : length records ≡ length more
  each : GiveEach row records more

read_each : (row : ℕ) (found : List Booking) (records : Records) (bookings : List Booking)
    → bookings_read row found records ≡ Ok bookings → WereRead row found records bookings
unfolding bookings_read
read_each row found [] bookings read = record {
  more = [];
  all = sym (ok_is found bookings read) ∙ sym (append-nil found);
  count = refl;
  each = λ place booking at. absurd cc;
}
  where
    ok_is : (a b : List Booking) → ◌≡◌ {A = Result (List Booking) PlanFault} (Ok a) (Ok b) → a ≡ b
    ok_is a b e = cc
read_each row found (fields ∷ records) bookings read =
    by (booking_in row fields) refl read
    (λ booking. read_each (row + 1) (found ++ booking ∷ []) records bookings)
  where
    by : (given : Result Booking PlanFault) → booking_in row fields ≡ given
        → (given >>= λ booking. bookings_read (row + 1) (found ++ booking ∷ []) records)
        ≡ Ok bookings
        → ((booking : Booking) → bookings_read (row + 1) (found ++ booking ∷ []) records
        ≡ Ok bookings → WereRead (row + 1) (found ++ booking ∷ []) records bookings)
        → WereRead row found (fields ∷ records) bookings
    by (Ok first) is read later =
        let others = later first read in
        record {
          more = first ∷ others.more;
          all = others.all ∙ append_assoc found (first ∷ []) others.more;
          count = ap suc others.count;
          each = give_more row fields records first others.more is others.each;
        }
    by (Err fault) is read later = absurd cc

-- records that give these bookings are read as them
each_read : (row : ℕ) (found : List Booking) (records : Records) (more : List Booking)
    → length records ≡ length more → GiveEach row records more
    → bookings_read row found records ≡ Ok (found ++ more)
unfolding bookings_read
each_read row found [] [] count each = ap Ok (sym (append-nil found))
each_read row found [] (booking ∷ more) count each = absurd (omega arith)
each_read row found (fields ∷ records) [] count each = absurd (omega arith)
each_read row found (fields ∷ records) (booking ∷ more) count each =
    let first : booking_in row fields ≡ Ok booking =
    (at_first row fields records (Ok booking)).1 (each zero booking refl) in
    let others = each_read (row + 1) (found ++ booking ∷ []) records more (omega arith)
    (λ place b at. (at_later row fields records place (Ok b)).1 (each (suc place) b at)) in
    rw first (others ∙ ap Ok (append_assoc found (booking ∷ []) more))

-- each of so many records gives a booking
abbrev GiveSome : ℕ → Records → ℕ → Type 0
GiveSome row records place = (earlier : ℕ) → earlier < place
    → (booking : Booking) × GivesFrom row records earlier (Ok booking)

-- where reading stopped: behind records that give bookings
record WasRefused (row : ℕ) (records : Records) (fault : PlanFault) : Type 0 where
  place : ℕ
  before : GiveSome row records place
  here : GivesFrom row records place (Err fault)

some_more : (row : ℕ) (fields : List (List ℕ)) (records : Records) (first : Booking) (place : ℕ)
    → booking_in row fields ≡ Ok first → GiveSome (row + 1) records place
    → GiveSome row (fields ∷ records) (suc place)
some_more row fields records first place is before zero below =
    (first, (at_first row fields records (Ok first)).0 is)
some_more row fields records first place is before (suc earlier) below =
    let other = before earlier (omega arith) in
    (other.0, (at_later row fields records earlier (Ok other.0)).0 other.1)

read_refused : (row : ℕ) (found : List Booking) (records : Records) (fault : PlanFault)
    → bookings_read row found records ≡ Err fault → WasRefused row records fault
unfolding bookings_read
read_refused row found [] fault read = absurd cc
read_refused row found (fields ∷ records) fault read =
    by (booking_in row fields) refl read
    (λ booking. read_refused (row + 1) (found ++ booking ∷ []) records fault)
  where
    err_is : (a b : PlanFault) → ◌≡◌ {A = Result (List Booking) PlanFault} (Err a) (Err b) → a ≡ b
    err_is a b e = cc

    by : (given : Result Booking PlanFault) → booking_in row fields ≡ given
        → (given >>= λ booking. bookings_read (row + 1) (found ++ booking ∷ []) records)
        ≡ Err fault
        → ((booking : Booking) → bookings_read (row + 1) (found ++ booking ∷ []) records
        ≡ Err fault → WasRefused (row + 1) records fault)
        → WasRefused row (fields ∷ records) fault
    by (Ok first) is read later =
        let others = later first read in
        record {
          place = suc others.place;
          before = some_more row fields records first others.place is others.before;
          here = (at_later row fields records others.place (Err fault)).0 others.here;
        }
    by (Err other) is read later = record {
      place = zero;
      before = λ earlier below. absurd (omega arith);
      here = (at_first row fields records (Err fault)).0 (is ∙ ap Err (err_is other fault read));
    }

-- records of which one is at fault are refused with it
refused_read : (row : ℕ) (found : List Booking) (records : Records) (place : ℕ) (fault : PlanFault)
    → GiveSome row records place → GivesFrom row records place (Err fault)
    → bookings_read row found records ≡ Err fault
unfolding bookings_read
refused_read row found [] place fault before here = absurd here
refused_read row found (fields ∷ records) zero fault before here =
    rw ((at_first row fields records (Err fault)).1 here) refl
refused_read row found (fields ∷ records) (suc place) fault before here =
    let first = before zero (omega arith) in
    let is : booking_in row fields ≡ Ok first.0 =
    (at_first row fields records (Ok first.0)).1 first.1 in
    rw is (refused_read (row + 1) (found ++ first.0 ∷ []) records place fault
    (λ earlier below. let other = before (suc earlier) (omega arith) in
    (other.0, (at_later row fields records earlier (Ok other.0)).1 other.1))
    ((at_later row fields records place (Err fault)).1 here))

-- records are read as these bookings exactly where they give them
pub plan_of-Ok : (records : Records) (bookings : List Booking)
    → (plan_of records ≡ Ok bookings) ↔ ArePlan records bookings
unfolding plan_of
plan_of-Ok [] bookings = (λ read. absurd cc, λ plan. absurd plan.header)
plan_of-Ok (fields ∷ records) bookings = by (is_header fields) refl
  where
    Read : Bool → Type 0
    Read head = (if head then bookings_read 2 [] records else Err (record { kind = NotHeader; row = 1 })) ≡ Ok bookings

    by : (head : Bool) → is_header fields ≡ head
        → Read head ↔ ArePlan (fields ∷ records) bookings
    by true is = (
      λ read. let were = read_each 2 [] records bookings read in
          record {
            header = is;
            count = ap suc (were.count ∙ ap length (sym were.all));
            each = subst (GiveEach 2 records) (sym were.all) were.each;
          },
      λ plan. each_read 2 [] records bookings (omega (arith, plan.count)) plan.each,
    )
    by false is = (λ read. absurd cc, λ plan. absurd (let e = plan.header in cc))

-- they are refused exactly with the fault of the first that has one
pub plan_of-Err : (records : Records) (fault : PlanFault)
    → (plan_of records ≡ Err fault) ↔ IsFirstFault records fault
unfolding plan_of
plan_of-Err [] fault = (
  λ read. inl (λ header. header, let e = read in cc),
  λ first. elim first [ inl none ↦ ap Err (sym none.1) | inr at ↦ absurd at.1.header ],
)
plan_of-Err (fields ∷ records) fault = by (is_header fields) refl
  where
    Read : Bool → Type 0
    Read head = (if head then bookings_read 2 [] records else Err (record { kind = NotHeader; row = 1 })) ≡ Err fault

    by : (head : Bool) → is_header fields ≡ head
        → Read head ↔ IsFirstFault (fields ∷ records) fault
    by true is = (
      λ read. let was = read_refused 2 [] records fault read in
          inr (was.place, record { header = is; before = was.before; here = was.here }),
      λ first. elim first [
        | inl none ↦ absurd (none.0 is)
        | inr at ↦ refused_read 2 [] records at.0 fault at.1.before at.1.here
      ],
    )
    by false is = (
      λ read. inl (λ header. let e = header in absurd cc, let e = read in cc),
      λ first. elim first [
        | inl none ↦ ap Err (sym none.1)
        | inr at ↦ absurd (let e = at.1.header in cc)
      ],
    )
