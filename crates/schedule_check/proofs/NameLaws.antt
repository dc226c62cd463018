-- Bookings of which none is wrong by name, and that miss no activity: each activity is booked once.
use Rattle.std.proofs.Common.{◌≡◌, ◌≢◌, ℕ, ◌+◌, ◌<◌, ◌≤◌, ◌||◌, ◌==◌, true, false, nat_lt, None, List, [], ◌∷◌, ◌++◌, length, get_or, map, sym, refl, ◌∙◌, subst, inl, inr, arith, append_assoc}
use Rattle.std.specs.List.{All, AllPairs, Contains, sum_by}
use Rattle.std.specs.List.Sorted.{IsPermutation}
use Rattle.std.proofs.lemmas.Bool.{cases_Bool}
use Rattle.std.proofs.lemmas.Bool.Decides.{nat_tests}
use Rattle.std.proofs.lemmas.List.{append-nil, get_or_default, map-append}
use Rattle.std.proofs.lemmas.List.Elements.{All-push, All-weaker}
use Rattle.std.proofs.lemmas.List.Quantifiers.{all_pairs_push}
use Rattle.std.proofs.lemmas.List.Sums.{sum_by-cons}
use Rattle.rc_instance.specs.Lists.{IsUpTo, numbers}
use Rattle.rc_instance.specs.Usage.{Booking}
use Rattle.rc_instance.proofs.ListLaws.{neither, get_or-numbers, length-numbers, names_decides}
use Rattle.rc_instance.proofs.OrderLaws.{Contains-numbers, IsPermutation-from_distinct, sum_by-distinct}
use Rattle.schedule_check.specs.Violation.{first_missing, first_wrong_name, is_booked, missing_at, wrong_name}
use Rattle.schedule_check.proofs.FirstLaws.{none_at}

-- the activities of bookings
abbrev pub booked : List Booking → List ℕ
booked bookings = map (λ (b : Booking). b.activity) bookings

-- a name that is not wrong is that of an activity that was not booked
pub name_is_right : (count : ℕ) (earlier : List Booking) (a : ℕ) → wrong_name count earlier a ≡ None
    → (1 ≤ a) × (a ≤ count) × (is_booked earlier a ≡ false)
name_is_right count earlier a right =
    elim (cases_Bool (a == 0 || nat_lt count a)) [
      | inl outside ↦ absurd (let is = rw outside at right in cc)
      | inr inside ↦
          let low : 1 ≤ a = grind (arith, nat_tests) in
          let high : a ≤ count = grind (arith, nat_tests) in
          elim (cases_Bool (is_booked earlier a)) [
            | inl again ↦ absurd (let is = rw (inside, again) at right in cc)
            | inr new ↦ (low, high, new)
          ]
    ]

-- an activity that is not booked is none of those that are
pub not_booked : (bookings : List Booking) (a : ℕ) → is_booked bookings a ≡ false
    → (k d : ℕ) → k < length (booked bookings) → get_or (booked bookings) k d ≢ a
not_booked bookings a none k d within e =
    let there : Contains (booked bookings) a =
    (k, within, get_or_default (booked bookings) k a d within ∙ e) in
    let named = (names_decides (booked bookings) a).1 there in
    absurd cc

-- activities are booked once each, and the project has them
pub record AreOnce (count : ℕ) (bookings : List Booking) : Type 0 where
  pub once : AllPairs (λ a b. a ≢ b) (booked bookings)
  pub known : All (IsUpTo count) (booked bookings)

-- where no name of those that are left is wrong, all are booked once
pub AreOnce-all : (count : ℕ) (earlier later : List Booking) → first_wrong_name count earlier later
    ≡ None
    → AreOnce count earlier → AreOnce count (earlier ++ later)
unfolding first_wrong_name
AreOnce-all count earlier [] none are = subst (AreOnce count) (sym (append-nil earlier)) are
AreOnce-all count earlier (b ∷ later) none are =
    let split = neither (wrong_name count earlier b.activity)
    (first_wrong_name count (earlier ++ b ∷ []) later) none in
    let right = name_is_right count earlier b.activity split.0 in
    let more = map-append (λ (b : Booking). b.activity) earlier (b ∷ []) in
    let pushed : AreOnce count (earlier ++ b ∷ []) = record {
      once = rw more (all_pairs_push (λ a b. a ≢ b) (booked earlier) b.activity are.once
          (not_booked earlier b.activity right.2));
      known = rw more (All-push (IsUpTo count) (booked earlier) b.activity are.known
          (right.0, right.1));
    } in
    subst (AreOnce count) (append_assoc earlier (b ∷ []) later)
    (AreOnce-all count (earlier ++ b ∷ []) later split.1 pushed)

pub AreOnce-right : (count : ℕ) (bookings : List Booking) → first_wrong_name count [] bookings
    ≡ None
    → AreOnce count bookings
AreOnce-right count bookings none =
    AreOnce-all count [] bookings none (record {
      once = λ i j d below within. absurd (omega arith);
      known = λ i d within. absurd (omega arith);
    })

-- an activity that is not missing is booked
pub booked_if_not_missing : (bookings : List Booking) (a : ℕ) → missing_at bookings a ≡ None
    → is_booked bookings a ≡ true
booked_if_not_missing bookings a none =
    elim (cases_Bool (is_booked bookings a)) as (λ _. is_booked bookings a ≡ true) [
      | inl booked ↦ booked
      | inr missing ↦ absurd (let is = rw missing at none in cc)
    ]

-- as many ones as a list has elements
ones : (xs : List ℕ) → sum_by (λ _. 1) xs ≡ length xs
ones [] = refl
ones (x ∷ xs) = omega (arith, sum_by-cons (λ (_ : ℕ). 1) x xs, ones xs)

-- distinct numbers that a list contains are no more than it has
pub length-le_from_distinct : (xs ys : List ℕ) → AllPairs (λ a b. a ≢ b) xs → All (Contains ys) xs
    → length xs ≤ length ys
length-le_from_distinct xs ys once all =
    omega (arith, sum_by-distinct (λ _. 1) xs ys once all, ones xs, ones ys)

-- the numbers from 1 to n are distinct
numbers_distinct : (n : ℕ) → AllPairs (λ a b. a ≢ b) (numbers n)
numbers_distinct n i j d below within e =
    omega (
      arith,
      length-numbers n,
      get_or-numbers n i d (omega (arith, length-numbers n)),
      get_or-numbers n j d (omega (arith, length-numbers n)),
      e,
    )

-- where no name is wrong and none is missing, the numbers of all activities are booked, in some
-- order
pub IsPermutation-booked : (count : ℕ) (bookings : List Booking) → AreOnce count bookings
    → first_missing count bookings ≡ None → IsPermutation (booked bookings) (numbers count)
IsPermutation-booked count bookings are none =
    let there : All (Contains (booked bookings)) (numbers count) =
    λ i d within.
    let inside : i < count = omega (arith, length-numbers count) in
    let at = get_or-numbers count i d inside in
    let a = i + 1 in
    let is = booked_if_not_missing bookings a
    (none_at (missing_at bookings) 1 count none a (omega arith) (omega arith)) in
    subst (Contains (booked bookings)) (sym at) ((names_decides (booked bookings) a).0 is) in
    IsPermutation-from_distinct (booked bookings) (numbers count) are.once
    (length-le_from_distinct (numbers count) (booked bookings) (numbers_distinct count) there)
    (All-weaker (IsUpTo count) (Contains (numbers count))
    (λ a up. Contains-numbers count a up.0 up.1) (booked bookings) are.known)
