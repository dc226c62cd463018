-- The CSV of a schedule is a plan: its bookings in order of number.
use Rattle.std.proofs.Common.{◌≡◌, ℕ, ◌+◌, ◌%◌, ◌^◌, ◌<◌, ◌≤◌, true, nat_le, nat_lt, List, [], ◌∷◌, ◌++◌, length, get_or, map, Ok, sym, refl, ap, ◌∙◌, subst, arith, append_assoc, append-nil}
use Rattle.std.specs.Prelude.{codes}
use Rattle.std.specs.Char.{is_ascii_digit}
use Rattle.std.specs.Fmt.{decimal}
use Rattle.std.specs.List.{All, flat_map, list_all}
use Rattle.std.proofs.Math.Nat.{mod-lt}
use Rattle.std.proofs.lemmas.Bool.Decides.{nat_tests}
use Rattle.std.proofs.lemmas.Fmt.{decimal_by_steps, decimal_is_IsNumeral}
use Rattle.std.proofs.lemmas.List.Elements.{All-head, All-tail}
use Rattle.std.proofs.lemmas.List.Folds.{list_all-append}
use Rattle.csv.specs.Machine.{next_record}
use Rattle.csv.specs.Reading.{strip_bom}
use Rattle.csv.specs.Records.{field_at}
use Rattle.csv.specs.Writing.{default_writer, row_text}
use Rattle.csv.specs.declared.parser.State.TheVariants as st
use Rattle.csv.proofs.RoundTrip.{read-write}
use Rattle.rc_instance.specs.Project.{Project}
use Rattle.rc_instance.specs.Usage.{Booking, finish}
use Rattle.rc_instance.specs.Schedule.{bookings_of, makespan}
use Rattle.rc_instance.specs.declared.limits.TheConstants.{MAX_ACTIVITIES, MAX_HORIZON}
use Rattle.rc_instance.proofs.ScheduleLaws.{get_or-bookings_from, length-bookings_from}
use Rattle.rc_instance.proofs.UsageLaws.{finish-le-last_finish}
use Rattle.rc_edge.specs.Numbers.{is_numeral, number_of}
use Rattle.gantt_table.specs.Csv.{csv_row, csv_text}
use Rattle.gantt_table.proofs.RecordLaws.{row_text-header, row_text-numbers}
use Rattle.schedule_check.specs.Reading.{booking_in, bookings_read, is_header, plan_of, read_plan_of}
use Rattle.schedule_check.specs.Records.{records_in}
use Rattle.schedule_check.proofs.RecordLaws.{records_in-next, records_in-none}

-- a digit below 10 is an ASCII digit
ascii_digit : (d : ℕ) → d < 10 → is_ascii_digit (48 + d) ≡ true
ascii_digit d below =
    let low : nat_le 48 (48 + d) ≡ true = grind (arith, nat_tests) in
    let high : nat_le (48 + d) 57 ≡ true = grind (arith, nat_tests) in
    rw (low, high) refl

-- a number is written in digits
all_digits : (n : ℕ) → n < 2 ^ 64 → list_all is_ascii_digit (decimal n) ≡ true
all_digits n fits =
    decimal_by_steps (λ _ digits. list_all is_ascii_digit digits ≡ true)
    (λ n one. rw (ascii_digit n one) refl)
    (λ n digits some before.
    rw (
      list_all-append is_ascii_digit digits ((48 + n % 10) ∷ []),
      before,
      ascii_digit (n % 10)
          (mod-lt n (omega arith)),
    ) refl)
    n fits

-- a written number is read back
pub number_of-decimal : (n : ℕ) → n < 2 ^ 32 → number_of (decimal n) ≡ Ok n
number_of-decimal n fits =
    let written = decimal_is_IsNumeral n (omega arith) in
    let some : nat_lt 0 (length (decimal n)) ≡ true = grind (arith, nat_tests, written.0.0) in
    let numeral : is_numeral (decimal n) ≡ true = rw (some, all_digits n (omega arith)) refl in
    let small : nat_le n 4294967295 ≡ true = grind (arith, nat_tests) in
    rw (numeral, written.1, small) refl

-- the fields of a booking
abbrev fields_of_booking : Project → Booking → List (List ℕ)
fields_of_booking project booking =
    decimal booking.activity ∷ decimal booking.start ∷ decimal (finish project booking) ∷ []

-- activity, start and finish fit in 32 bits
pub record AreSmall (project : Project) (booking : Booking) : Type 0 where
  pub activity : booking.activity < 2 ^ 32
  pub start : booking.start < 2 ^ 32
  pub finish : finish project booking < 2 ^ 64

-- the record of a booking is its fields, and then the records of what follows
record_of_booking : (project : Project) (booking : Booking) (rest : List ℕ)
    → AreSmall project booking
    → records_in st.StartRecord (csv_row project booking ++ rest)
    ≡ fields_of_booking project booking ∷ records_in st.StartRecord rest
unfolding csv_row
record_of_booking project booking rest small =
    let fields = fields_of_booking project booking in
    let text = row_text-numbers booking.activity booking.start (finish project booking)
    (omega (arith, small.activity)) (omega (arith, small.start)) small.finish in
    let next = read-write fields rest in
    ap (λ front. records_in st.StartRecord (front ++ rest)) (sym text)
    ∙ records_in-next st.StartRecord (row_text default_writer fields ++ rest)
    (fields, st.StartRecord, rest) next

-- the records of bookings
records_of_bookings : (project : Project) (bookings : List Booking)
    → All (AreSmall project) bookings
    → records_in st.StartRecord (flat_map (csv_row project) bookings)
    ≡ map (fields_of_booking project) bookings
unfolding next_record
records_of_bookings project [] all = records_in-none st.StartRecord [] refl
records_of_bookings project (booking ∷ bookings) all =
    record_of_booking project booking (flat_map (csv_row project) bookings)
    (All-head (AreSmall project) booking bookings all)
    ∙ ap (λ later. fields_of_booking project booking ∷ later)
    (records_of_bookings project bookings (All-tail (AreSmall project) booking bookings all))

-- they are read as the bookings
bookings_read_back : (project : Project) (bookings found : List Booking) (row : ℕ)
    → All (AreSmall project) bookings
    → bookings_read row found (map (fields_of_booking project) bookings) ≡ Ok (found ++ bookings)
unfolding bookings_read booking_in field_at
bookings_read_back project [] found row all = ap Ok (sym (append-nil found))
bookings_read_back project (booking ∷ bookings) found row all =
    let small = All-head (AreSmall project) booking bookings all in
    rw (
      number_of-decimal booking.activity small.activity,
      number_of-decimal booking.start
          small.start,
    )
    (bookings_read_back project bookings (found ++ booking ∷ []) (row + 1)
    (All-tail (AreSmall project) booking bookings all)
    ∙ ap Ok (append_assoc found (booking ∷ []) bookings))

-- the words of the header
abbrev header : List (List ℕ)
header = codes "activity" ∷ codes "start" ∷ codes "finish" ∷ []

-- the first record is the header, and then come those of what follows
header_record : (rest : List ℕ)
    → records_in st.StartRecord (codes "activity,start,finish\n" ++ rest)
    ≡ header ∷ records_in st.StartRecord rest
header_record rest =
    ap (λ front. records_in st.StartRecord (front ++ rest)) (sym row_text-header)
    ∙ records_in-next st.StartRecord (row_text default_writer header ++ rest)
    (header, st.StartRecord, rest)
    (read-write header rest)

-- the plan of the header and the records of bookings
plan_of_bookings : (project : Project) (bookings : List Booking) → All (AreSmall project) bookings
    → plan_of (header ∷ map (fields_of_booking project) bookings) ≡ Ok bookings
unfolding plan_of is_header field_at
plan_of_bookings project bookings all = bookings_read_back project bookings [] 2 all

-- a schedule that ends by the greatest horizon has small bookings
pub bookings_small : (project : Project) (starts : List ℕ) → length starts ≤ MAX_ACTIVITIES
    → makespan project starts ≤ MAX_HORIZON → All (AreSmall project) (bookings_of starts)
bookings_small project starts short ends = λ i d within.
    let inside : i < length starts = omega (arith, length-bookings_from starts 1) in
    let booking : Booking = record { activity = 1 + i; start = get_or starts i 0 } in
    let is = get_or-bookings_from starts 1 i d inside in
    let by = rw is at (finish-le-last_finish project (bookings_of starts) i d within) in
    let small : AreSmall project booking = record {
      activity = omega arith;
      start = omega (arith, by);
      finish = omega (arith, by);
    } in
    subst (AreSmall project) (sym is) small

-- the CSV of a schedule is read as its bookings
pub read_plan_of-csv : (project : Project) (starts : List ℕ)
    → All (AreSmall project) (bookings_of starts)
    → read_plan_of (csv_text project starts) ≡ Ok (bookings_of starts)
unfolding read_plan_of csv_text strip_bom
read_plan_of-csv project starts all =
    let rows = flat_map (csv_row project) (bookings_of starts) in
    ap plan_of (header_record rows
    ∙ ap (λ later. header ∷ later) (records_of_bookings project (bookings_of starts) all))
    ∙ plan_of_bookings project (bookings_of starts) all
