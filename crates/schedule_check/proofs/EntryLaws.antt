-- Which activities are booked, and where they start, with one more booking.
use Rattle.std.proofs.Common.{◌≡◌, ◌≢◌, ◌⊎◌, ℕ, suc, ◌+◌, ◌-◌, ◌<◌, ◌≤◌, ◌||◌, ◌==◌, Bool, true, false, nat_eq, nat_lt, None, Some, List, [], ◌∷◌, ◌++◌, length, get_or, map, take, drop, set, replicate, sym, refl, ap, ◌∙◌, subst, inl, inr, arith, get_or-set_same, get_or-set_other, drop-cons, eq-eqb, ne_eqb}
use Rattle.std.proofs.lemmas.Bool.{cases_eq}
use Rattle.std.proofs.lemmas.Bool.Decides.{nat_tests}
use Rattle.std.proofs.lemmas.List.{drop_all, ext_get_or, get_or-replicate, length-replicate, length-set, map-append, take_more}
use Rattle.std.proofs.lemmas.List.FromFn.{length-map-range_with_len, get_or-map-range_with_len}
use Rattle.rc_instance.specs.Lists.{numbers, or_else}
use Rattle.rc_instance.specs.Usage.{Booking}
use Rattle.rc_instance.specs.Schedule.{start_at, start_of}
use Rattle.rc_instance.proofs.ScheduleLaws.{start_at-set_same, start_at-set_other, start_of-other, start_of-same}
use Rattle.schedule_check.specs.declared.placement.Placement.{Placement}
use Rattle.schedule_check.specs.declared.violation.Violation.{Violation}
use Rattle.schedule_check.specs.declared.violation.Violation.TheVariants.{Unknown, Twice}
use Rattle.schedule_check.specs.Plan.{booking_of, bookings_in}
use Rattle.schedule_check.specs.Violation.{is_booked, missing_at, wrong_name, first_wrong_name}

-- where neither of two tests passes
pub both_false : (a b : Bool) → (a || b) ≡ false → (a ≡ false) × (b ≡ false)
both_false false b e = (refl, e)
both_false true b e = absurd cc

-- one more booking books its own activity
pub is_booked_push : (bookings : List Booking) (booking : Booking) (a : ℕ)
    → is_booked (bookings ++ booking ∷ []) a ≡ (is_booked bookings a || nat_eq booking.activity a)
is_booked_push [] booking a =
    elim (nat_eq booking.activity a) as (λ v. (v || false) ≡ v) [ true ↦ refl | false ↦ refl ]
is_booked_push (first ∷ bookings) booking a =
    elim (nat_eq first.activity a) as (λ v. (v || is_booked (bookings ++ booking ∷ []) a)
    ≡ ((v || is_booked bookings a) || nat_eq booking.activity a)) [
      | true ↦ refl
      | false ↦ is_booked_push bookings booking a
    ]

-- one more booking leaves the starts of other activities
pub start_of_push-other : (bookings : List Booking) (booking : Booking) (a : ℕ)
    → booking.activity ≢ a
    → start_of (bookings ++ booking ∷ []) a ≡ start_of bookings a
start_of_push-other [] booking a ne = start_of-other booking [] a ne
start_of_push-other (first ∷ bookings) booking a ne =
    rw (start_of_push-other bookings booking a ne) refl

-- it gives its start to an activity that was not booked
pub start_of_push-same : (bookings : List Booking) (booking : Booking)
    → is_booked bookings booking.activity ≡ false
    → start_of (bookings ++ booking ∷ []) booking.activity ≡ booking.start
start_of_push-same [] booking none = start_of-same booking []
start_of_push-same (first ∷ bookings) booking none =
    let split = both_false (nat_eq first.activity booking.activity)
    (is_booked bookings booking.activity) none in
    rw split.0 (start_of_push-same bookings booking split.1)

-- tables of so many activities that show what is booked, and where it starts
pub record Enters (count : ℕ) (bookings : List Booking) (named : List Bool)
    (starts : List ℕ) : Type 0 where
  pub named_count : length named ≡ count
  pub starts_count : length starts ≡ count
  pub names : (a : ℕ) → 1 ≤ a → a ≤ count → get_or named (a - 1) false ≡ is_booked bookings a
  pub shown : (a : ℕ) → 1 ≤ a → a ≤ count → start_at starts a ≡ start_of bookings a

-- one more booking is entered, of an activity that was not booked
pub Enters-more : (count : ℕ) (bookings : List Booking) (named : List Bool) (starts : List ℕ)
    (booking : Booking)
    → Enters count bookings named starts → 1 ≤ booking.activity → booking.activity ≤ count
    → is_booked bookings booking.activity ≡ false
    → Enters count (bookings ++ booking ∷ []) (set named (booking.activity - 1) true)
    (set starts (booking.activity - 1) booking.start)
Enters-more count bookings named starts booking enters low high none =
    let b = booking.activity in
    let named' = set named (b - 1) true in
    let starts' = set starts (b - 1) booking.start in
    record {
      named_count = length-set named (b - 1) true ∙ enters.named_count;
      starts_count = length-set starts (b - 1) booking.start ∙ enters.starts_count;
      names = λ a from upto.
          elim (cases_eq b a) as (λ _. get_or named' (a - 1) false
          ≡ is_booked (bookings ++ booking ∷ []) a) [
            | inl same ↦
                subst (λ x. get_or named' (x - 1) false ≡ is_booked (bookings ++ booking ∷ []) x)
                same
                (get_or-set_same named (b - 1) true false (omega (arith, enters.named_count))
                ∙ sym (is_booked_push bookings booking b ∙ rw (none, eq-eqb b b refl) refl))
            | inr differ ↦
                get_or-set_other named (b - 1) (a - 1) true false (omega arith)
                ∙ (enters.names a from upto
                ∙ sym (is_booked_push bookings booking a
                ∙ rw (ne_eqb b a differ) (or_false (is_booked bookings a))))
          ];
      shown = λ a from upto.
          elim (cases_eq b a) as (λ _. start_at starts' a ≡ start_of (bookings ++ booking ∷ []) a) [
            | inl same ↦
                subst (λ x. start_at starts' x ≡ start_of (bookings ++ booking ∷ []) x) same
                (start_at-set_same starts b booking.start low (omega (arith, enters.starts_count))
                ∙ sym (start_of_push-same bookings booking none))
            | inr differ ↦
                start_at-set_other starts b a booking.start low from differ
                ∙ (enters.shown a from upto ∙ sym (start_of_push-other bookings booking a differ))
          ];
    }
  where
    or_false : (v : Bool) → (v || false) ≡ v
    or_false true = refl
    or_false false = refl

-- the tables are those of all activities by number
pub named_by_number : (count : ℕ) (bookings : List Booking) (named : List Bool) (starts : List ℕ)
    → Enters count bookings named starts → named ≡ map (is_booked bookings) (numbers count)
named_by_number count bookings named starts enters =
    let long = length-map-range_with_len (is_booked bookings) 1 count in
    ext_get_or false named (map (is_booked bookings) (numbers count))
    (enters.named_count ∙ sym long)
    (λ i within.
    let inside : i < count = omega (arith, enters.named_count) in
    let back : i + 1 - 1 ≡ i = omega arith in
    subst (λ k. get_or named k false ≡ is_booked bookings (i + 1)) back
    (enters.names (i + 1) (omega arith) (omega arith))
    ∙ sym (get_or-map-range_with_len (is_booked bookings) 1 count i (i + 1) false inside
    (omega arith)))

pub starts_by_number : (count : ℕ) (bookings : List Booking) (named : List Bool) (starts : List ℕ)
    → Enters count bookings named starts → starts ≡ map (start_of bookings) (numbers count)
unfolding start_at
starts_by_number count bookings named starts enters =
    let long = length-map-range_with_len (start_of bookings) 1 count in
    ext_get_or 0 starts (map (start_of bookings) (numbers count)) (enters.starts_count ∙ sym long)
    (λ i within.
    let inside : i < count = omega (arith, enters.starts_count) in
    let back : i + 1 - 1 ≡ i = omega arith in
    subst (λ k. get_or starts k 0 ≡ start_of bookings (i + 1)) back
    (enters.shown (i + 1) (omega arith) (omega arith))
    ∙ sym (get_or-map-range_with_len (start_of bookings) 1 count i (i + 1) 0 inside (omega arith)))

-- an activity that the project does not have
pub wrong_unknown : (count : ℕ) (earlier : List Booking) (a : ℕ) → (a ≡ 0) ⊎ (count < a)
    → wrong_name count earlier a ≡ Some (Unknown a)
wrong_unknown count earlier a outside =
    let test : (a == 0 || nat_lt count a) ≡ true = grind (arith, nat_tests) in
    rw test refl

-- one that is booked already
pub wrong_twice : (count : ℕ) (earlier : List Booking) (a : ℕ) → 1 ≤ a → a ≤ count
    → is_booked earlier a ≡ true → wrong_name count earlier a ≡ Some (Twice a)
wrong_twice count earlier a low high booked =
    let test : (a == 0 || nat_lt count a) ≡ false = grind (arith, nat_tests) in
    rw (test, booked) refl

-- one that is neither
pub right_name : (count : ℕ) (earlier : List Booking) (a : ℕ) → 1 ≤ a → a ≤ count
    → is_booked earlier a ≡ false → wrong_name count earlier a ≡ None
right_name count earlier a low high none =
    let test : (a == 0 || nat_lt count a) ≡ false = grind (arith, nat_tests) in
    rw (test, none) refl

-- the placements up to one
pub bookings_next : (placements : List Placement) (i : ℕ) (d : Placement) → i < length placements
    → bookings_in (take (i + 1) placements)
    ≡ bookings_in (take i placements) ++ booking_of (get_or placements i d) ∷ []
bookings_next placements i d inside =
    ap bookings_in (take_more placements i d inside)
    ∙ map-append booking_of (take i placements) (get_or placements i d ∷ [])

-- the first wrong name of those that are left is that of the next placement, or of those after it
pub wrong_next : (count : ℕ) (placements : List Placement) (i : ℕ) (d : Placement)
    → i < length placements
    → first_wrong_name count (bookings_in (take i placements)) (bookings_in (drop i placements))
    ≡ or_else (wrong_name count (bookings_in (take i placements)) (get_or placements i d).activity)
    (first_wrong_name count (bookings_in (take (i + 1) placements))
    (bookings_in (drop (i + 1) placements)))
unfolding first_wrong_name
wrong_next count placements i d inside =
    let front = bookings_in (take i placements) in
    let next : suc i ≡ i + 1 = omega arith in
    let here = wrong_name count front (get_or placements i d).activity in
    let left = λ (k : ℕ). bookings_in (drop k placements) in
    ap (λ xs. first_wrong_name count front (bookings_in xs)) (drop-cons placements i d inside)
    ∙ (ap (λ e. or_else here (first_wrong_name count e (left (suc i))))
    (sym (bookings_next placements i d inside))
    ∙ ap (λ (k : ℕ). or_else here (first_wrong_name count (bookings_in (take (i + 1) placements))
    (left k))) next)

-- where the next name is wrong, it is the first
pub wrong_found : (count : ℕ) (placements : List Placement) (i : ℕ) (d : Placement)
    (violation : Violation)
    → i < length placements
    → wrong_name count (bookings_in (take i placements)) (get_or placements i d).activity
    ≡ Some violation
    → first_wrong_name count (bookings_in (take i placements)) (bookings_in (drop i placements))
    ≡ Some violation
wrong_found count placements i d violation inside wrong =
    wrong_next count placements i d inside
    ∙ ap (λ here. or_else here (first_wrong_name count (bookings_in (take (i + 1) placements))
    (bookings_in (drop (i + 1) placements)))) wrong

-- where it is not, the first is among those after it
pub wrong_later : (count : ℕ) (placements : List Placement) (i : ℕ) (d : Placement)
    → i < length placements
    → wrong_name count (bookings_in (take i placements)) (get_or placements i d).activity ≡ None
    → first_wrong_name count (bookings_in (take (i + 1) placements))
    (bookings_in (drop (i + 1) placements))
    ≡ first_wrong_name count (bookings_in (take i placements)) (bookings_in (drop i placements))
wrong_later count placements i d inside right =
    sym (wrong_next count placements i d inside
    ∙ ap (λ here. or_else here (first_wrong_name count (bookings_in (take (i + 1) placements))
    (bookings_in (drop (i + 1) placements)))) right)

-- the tables show nothing booked, before the first
pub Enters-none : (count : ℕ) (named : List Bool) (starts : List ℕ) → length named ≡ count
    → named ≡ replicate count false → starts ≡ replicate count 0 → Enters count [] named starts
unfolding start_at
Enters-none count named starts long none zero = record {
  named_count = long;
  starts_count = ap length zero ∙ length-replicate count 0;
  names = λ a from upto.
      ap (λ xs. get_or xs (a - 1) false) none
      ∙ get_or-replicate count (a - 1) false false (omega arith);
  shown = λ a from upto.
      ap (λ xs. get_or xs (a - 1) 0) zero ∙ get_or-replicate count (a - 1) 0 0 (omega arith);
}

-- after the last placement no name is left
pub wrong_none : (count : ℕ) (placements : List Placement) (i : ℕ) → length placements ≤ i
    → first_wrong_name count (bookings_in (take i placements)) (bookings_in (drop i placements))
    ≡ None
unfolding first_wrong_name
wrong_none count placements i end =
    ap (λ xs. first_wrong_name count (bookings_in (take i placements)) (bookings_in xs))
    (drop_all i placements end)

-- the table tells at each place whether the activity is booked
pub named_at : (bookings : List Booking) (named : List Bool) (place : ℕ)
    → named ≡ map (is_booked bookings) (numbers (length named)) → place < length named
    → get_or named place false ≡ is_booked bookings (place + 1)
named_at bookings named place by_number inside =
    ap (λ xs. get_or xs place false) by_number
    ∙ get_or-map-range_with_len (is_booked bookings) 1 (length named) place (place + 1) false inside
    (omega arith)

-- an activity that it shows as named is not missing
pub not_missing : (bookings : List Booking) (named : List Bool) (a : ℕ)
    → named ≡ map (is_booked bookings) (numbers (length named)) → 1 ≤ a → a ≤ length named
    → get_or named (a - 1) false ≡ true → missing_at bookings a ≡ None
not_missing bookings named a by_number low high is_named =
    let same : a - 1 + 1 ≡ a = omega arith in
    let booked : is_booked bookings a ≡ true =
    subst (λ x. is_booked bookings x ≡ true) same
    (sym (named_at bookings named (a - 1) by_number (omega arith)) ∙ is_named) in
    rw booked refl
