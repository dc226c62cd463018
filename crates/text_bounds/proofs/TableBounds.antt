-- How long the table of the schedule by number is.
use Rattle.std.proofs.Common.{◌≡◌, ℕ, zero, suc, max, ◌+◌, ◌-◌, ◌*◌, ◌<◌, ◌≤◌, ◌^◌, List, [], ◌∷◌, ◌++◌, length, map, replicate, get_or, nat_eq, Bool, true, false, refl, ap, inl, inr, arith, All, codes}
use Rattle.std.specs.Prelude.{if◌then◌else◌}
use Rattle.std.specs.Fmt.{decimal}
use Rattle.std.specs.List.{flat_map, range_with_len}
use Rattle.std.proofs.lemmas.Bool.{cases_lt, eqb-true}
use Rattle.std.proofs.lemmas.Fmt.{length-decimal-le}
use Rattle.std.proofs.lemmas.List.{length-append, length-replicate, get_or_past}
use Rattle.std.proofs.lemmas.List.Concat.{flat_map-cons}
use Rattle.std.proofs.lemmas.List.Elements.{All-nil, All-cons}
use Rattle.std.proofs.lemmas.List.Sums.{sum_by-le, get_or-le-sum_by}
use Rattle.rc_instance.specs.declared.limits.TheConstants.{MAX_DURATION_SUM}
use Rattle.rc_instance.specs.Lists.{numbers}
use Rattle.rc_instance.specs.Project.{Project, activity_count, duration, duration_sum}
use Rattle.rc_instance.specs.Calendar.{IsWithinLimits}
use Rattle.rc_instance.specs.Usage.{Booking, finish, last_finish}
use Rattle.rc_instance.specs.Serial.{serial_bookings}
use Rattle.rc_instance.specs.Schedule.{bookings_from, bookings_of, makespan, start_of, serial_schedule}
use Rattle.rc_instance.proofs.LimitLaws.{last_change-le}
use Rattle.rc_instance.proofs.SerialLaws.{last_finish-serial}
use Rattle.rc_instance.proofs.UsageLaws.{last_finish-le}
use Rattle.rc_edge.specs.Written.{placed}
use Rattle.priority_rules.specs.declared.rule.Rule.TheVariants.{Number}
use Rattle.priority_rules.specs.Choices.{choice, choices}
use Rattle.priority_rules.specs.KeyList.{number_list, key_list}
use Rattle.priority_rules.specs.Rules.{rule_list}
use Rattle.gantt_table.specs.Table.{table_row, table_text}
use Rattle.text_bounds.specs.Bounds.{TableIsShort}

-- a number of at most eight digits
abbrev pub IsSmall : ℕ → Type 0
IsSmall n = n < 10 ^ 8

pub decimal_short : (n : ℕ) → IsSmall n → length (decimal n) ≤ 8
decimal_short n small = length-decimal-le 8 n (omega arith) small (omega (arith, small))

placed_short : (n : ℕ) → IsSmall n → length (placed 8 n) ≤ 8
placed_short n small =
    let short = decimal_short n small in
    omega (
      arith,
      short,
      length-append (replicate (8 - length (decimal n)) 32) (decimal n),
      length-replicate {A = ℕ} (8 - length (decimal n)) 32,
    )

-- a row of small numbers
row_short : (project : Project) (booking : Booking) → IsSmall booking.activity
    → IsSmall booking.start → IsSmall (finish project booking)
    → length (table_row project booking) ≤ 25
unfolding table_row
row_short project booking activity start ends =
    let a = placed 8 booking.activity in
    let s = placed 8 booking.start in
    let f = placed 8 (finish project booking) in
    let end : length (codes "\n") ≡ 1 = refl in
    omega (
      arith,
      placed_short booking.activity activity,
      placed_short booking.start start,
      placed_short (finish project booking) ends,
      length-append (a ++ s ++ f) (codes "\n"),
      length-append (a ++ s) f,
      length-append a s,
      end,
    )

-- the rows of the starts of some activities in order of number, each of which ends by m
rows_short : (project : Project) (f : ℕ → ℕ) (m : ℕ) → IsSmall m
    → ((a : ℕ) → f a + duration project a ≤ m) → (a n : ℕ) → a + n ≤ m
    → length (flat_map (table_row project) (bookings_from a (map f (range_with_len a n)))) ≤ 25 * n
rows_short project f m small ends a zero within = omega arith
rows_short project f m small ends a (suc n) within =
    let booking : Booking = record { activity = a; start = f a } in
    let rest = bookings_from (a + 1) (map f (range_with_len (a + 1) n)) in
    let here = ends a in
    let row = row_short project booking (omega (arith, within, small)) (omega (arith, here, small))
    (omega (arith, here, small)) in
    let others = rows_short project f m small ends (a + 1) n (omega (arith, within)) in
    let all : length (flat_map (table_row project)
    (bookings_from a (map f (range_with_len a (suc n)))))
    ≡ length (table_row project booking ++ flat_map (table_row project) rest) =
    ap length (flat_map-cons (table_row project) booking rest) in
    omega (
      arith,
      row,
      others,
      all,
      length-append (table_row project booking) (flat_map (table_row project) rest),
    )

-- all of them end by m
ends_by : (project : Project) (f : ℕ → ℕ) (m : ℕ) → ((a : ℕ) → f a + duration project a ≤ m)
    → (a n : ℕ)
    → All (λ b. finish project b ≤ m) (bookings_from a (map f (range_with_len a n)))
ends_by project f m ends a zero = All-nil (λ (b : Booking). finish project b ≤ m)
ends_by project f m ends a (suc n) =
    All-cons (λ (b : Booking). finish project b ≤ m) (record { activity = a; start = f a })
    (bookings_from (a + 1) (map f (range_with_len (a + 1) n))) (ends a)
    (ends_by project f m ends (a + 1) n)

-- the start that bookings give to an activity ends no later than they do, or takes its own time
start_ends : (project : Project) (a : ℕ) (bookings : List Booking)
    → start_of bookings a + duration project a
    ≤ max (last_finish project bookings) (duration project a)
start_ends project a [] = omega arith
start_ends project a (booking ∷ bookings) =
    let others = start_ends project a bookings in
    by_test (nat_eq booking.activity a) refl others
  where
    by_test : (b : Bool) → nat_eq booking.activity a ≡ b
        → start_of bookings a + duration project a
        ≤ max (last_finish project bookings) (duration project a)
        → (if b then booking.start else start_of bookings a) + duration project a
        ≤ max (last_finish project (booking ∷ bookings)) (duration project a)
    by_test false other before = omega (arith, before)
    by_test true same before =
        let is : booking.activity ≡ a = eqb-true booking.activity a same in
        let own : finish project booking ≡ booking.start + duration project a =
        ap (λ n. booking.start + duration project n) is in
        omega (arith, own)

-- no duration is above the sum of all
pub duration_short : (project : Project) (a : ℕ) → duration project a ≤ duration_sum project
unfolding duration
duration_short project a =
    elim (cases_lt (a - 1) (length project.durations)) [
      | inl inside ↦ get_or-le-sum_by (λ n. n) project.durations (a - 1) 0 inside
      | inr past ↦ omega (arith, get_or_past project.durations (a - 1) 0 past)
    ]

-- so many choices are so many activities
length-choices : (project : Project) (as_good : ℕ → ℕ → Bool) (n : ℕ)
    → length (choices project as_good n) ≡ n
unfolding choices
length-choices project as_good zero = refl
length-choices project as_good (suc n) =
    let listed = choices project as_good n in
    let more : length (choices project as_good (suc n)) ≡ length listed + 1 =
    length-append listed (choice project as_good listed ∷ []) in
    omega (arith, length-choices project as_good n, more)

length-number_list : (project : Project)
    → length (rule_list project Number) ≡ activity_count project
unfolding number_list key_list
length-number_list project = length-choices project _ (activity_count project)

-- what is booked of the list by number ends early
booked_early : (project : Project) → IsWithinLimits project
    → last_finish project (serial_bookings project (rule_list project Number)) ≤ 65600535
booked_early project limits =
    let order = rule_list project Number in
    let sum = sum_by-le (duration project) MAX_DURATION_SUM order
    (λ i d h. omega (arith, duration_short project (get_or order i d), limits.durations)) in
    let count = length-number_list project in
    omega (
      arith,
      last_finish-serial project order,
      last_change-le project limits,
      sum,
      count,
      limits.activities,
    )

-- so does each activity by the starts that this gives
starts_early : (project : Project) → IsWithinLimits project → (a : ℕ)
    → start_of (serial_bookings project (rule_list project Number)) a + duration project a
    ≤ 65600535
starts_early project limits a =
    omega (
      arith,
      start_ends project a (serial_bookings project (rule_list project Number)),
      booked_early project limits,
      duration_short project a,
      limits.durations,
    )

pub table_short : TableIsShort
unfolding table_text serial_schedule
table_short project limits =
    let bookings = serial_bookings project (rule_list project Number) in
    let n = activity_count project in
    let starts = map (start_of bookings) (numbers n) in
    let early = starts_early project limits in
    let rows = rows_short project (start_of bookings) 65600535 (omega arith) early 1 n
    (omega (arith, limits.activities)) in
    let last : makespan project starts ≤ 65600535 =
    last_finish-le project (bookings_of starts) 65600535
    (ends_by project (start_of bookings) 65600535 early 1 n) in
    let span = decimal_short (makespan project starts) (omega (arith, last)) in
    let head : length (codes "activity   start  finish\n") ≡ 25 = refl in
    let word : length (codes "makespan ") ≡ 9 = refl in
    let end : length (codes "\n") ≡ 1 = refl in
    let table = flat_map (table_row project) (bookings_of starts) in
    let listed = codes "activity   start  finish\n" ++ table in
    let whole : length (table_text project (serial_schedule project (rule_list project Number)))
    ≡ length (listed ++ codes "makespan " ++ decimal (makespan project starts) ++ codes "\n") =
    refl in
    omega (
      arith,
      whole,
      rows,
      span,
      limits.activities,
      head,
      word,
      end,
      length-append (listed ++ codes "makespan " ++ decimal (makespan project starts))
          (codes "\n"),
      length-append (listed ++ codes "makespan ") (decimal (makespan project starts)),
      length-append listed (codes "makespan "),
      length-append (codes "activity   start  finish\n") table,
    )
