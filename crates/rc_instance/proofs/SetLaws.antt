-- A rising list of numbers is the numbers of a range that it names.
use Rattle.std.proofs.Common.{◌≡◌, ℕ, zero, suc, ◌+◌, ◌<◌, ◌≤◌, Bool, true, false, List, [], ◌∷◌, sym, subst, refl, ap, ◌∙◌, inl, inr, arith, All, AllPairs}
use Rattle.std.specs.List.{Contains, filter, range_with_len}
use Rattle.std.specs.List.Sorted.{IsStrictlyIncreasing}
use Rattle.std.proofs.lemmas.Bool.{cases_eq}
use Rattle.std.proofs.lemmas.List.Kept.{AllPairs-from_increasing, IsStrictlyIncreasing-filter}
use Rattle.std.proofs.lemmas.List.Elements.{All-filter, All-from_get_or}
use Rattle.std.proofs.lemmas.Bool.Decides.{nat_tests, same_from_decides, Decides-like}
use Rattle.rc_instance.specs.Lists.{names, numbers, IsRising}
use Rattle.rc_instance.proofs.ListLaws.{names_decides, get_or-numbers, length-numbers}

-- a list whose numbers rise from a on, and stay below b
abbrev RisesFrom : ℕ → ℕ → List ℕ → Type 0
RisesFrom a b [] = Unit {0}
RisesFrom a b (x ∷ xs) = (a ≤ x) × (x < b) × RisesFrom (x + 1) b xs

rises_from : (a b : ℕ) (xs : List ℕ) → AllPairs (λ x y. x < y) xs → All (λ x. (a ≤ x) × (x < b)) xs → RisesFrom a b xs
rises_from a b [] pairs all = tt
rises_from a b (x ∷ xs) pairs all = (
  (all 0 0 (omega arith)).0,
  (all 0 0 (omega arith)).1,
  rises_from (x + 1) b xs (λ i j d lt h. pairs (suc i) (suc j) d (omega arith) (omega arith))
      (λ i d h. (omega (arith, pairs 0 (suc i) d (omega arith) (omega arith)), (all (suc i) d (omega arith)).1)),
)

-- the same with bounds that are equal
rises_at : (a a' b b' : ℕ) (xs : List ℕ) → a ≡ a' → b ≡ b' → RisesFrom a b xs → RisesFrom a' b' xs
rises_at a a' b b' xs e f rises = subst (λ n. RisesFrom n b' xs) e (subst (λ n. RisesFrom a n xs) f rises)

-- such a list names no number below a
names_none : (a b n : ℕ) (xs : List ℕ) → RisesFrom a b xs → n < a → names xs n ≡ false
names_none a b n [] rises below = refl
names_none a b n (x ∷ xs) rises below =
    let from : a ≤ x = rises.0 in
    let rest = names_none (x + 1) b n xs rises.2 (omega arith) in
    grind (arith, nat_tests)

-- two tests that agree from a on keep the same numbers of a range from a
filter-same : (p q : ℕ → Bool) (a n : ℕ) → ((x : ℕ) → a ≤ x → p x ≡ q x) → filter p (range_with_len a n) ≡ filter q (range_with_len a n)
filter-same p q a zero same = refl
filter-same p q a (suc n) same =
    rw (same a (omega arith), filter-same p q (a + 1) n (λ x h. same x (omega arith))) refl

-- a rising list is what it names of the range in which it lies
filter_names : (a n : ℕ) (xs : List ℕ) → RisesFrom a (a + n) xs → filter (names xs) (range_with_len a n) ≡ xs
filter_names a zero [] rises = refl
filter_names a zero (x ∷ xs) rises = Prim.absurd (omega (arith, rises.0, rises.1))
filter_names a (suc n) [] rises = filter_names (a + 1) n [] tt
filter_names a (suc n) (x ∷ xs) rises =
    elim (cases_eq x a) as (λ _. filter (names (x ∷ xs)) (range_with_len a (suc n)) ≡ x ∷ xs) [
      | inl same ↦
          let here : names (x ∷ xs) a ≡ true = grind (arith, nat_tests) in
          let later : (y : ℕ) → a + 1 ≤ y → names (x ∷ xs) y ≡ names xs y = λ y h. grind (arith, nat_tests) in
          let tail = rises_at (x + 1) (a + 1) (a + suc n) (a + 1 + n) xs (omega arith) (omega arith) rises.2 in
          rw (here, filter-same (names (x ∷ xs)) (names xs) (a + 1) n later, filter_names (a + 1) n xs tail)
          (ap (λ y. y ∷ xs) (sym same))
      | inr differ ↦
          let from : a ≤ x = rises.0 in
          let whole : RisesFrom (a + 1) (a + 1 + n) (x ∷ xs) =
          (omega arith, omega (arith, rises.1), rises_at (x + 1) (x + 1) (a + suc n) (a + 1 + n) xs refl (omega arith) rises.2) in
          let none : names (x ∷ xs) a ≡ false = names_none (a + 1) (a + 1 + n) a (x ∷ xs) whole (omega arith) in
          rw none (filter_names (a + 1) n (x ∷ xs) whole)
    ]

-- the numbers from 1 to count that a list names are a rising list with the same numbers
pub set_is : (count : ℕ) (before after : List ℕ) → IsStrictlyIncreasing after → ((n : ℕ) → Contains before n → Contains after n)
    → ((n : ℕ) → Contains after n → Contains before n) → All (λ b. (1 ≤ b) × (b ≤ count)) after
    → after ≡ filter (names before) (numbers count)
set_is count before after rising kept only within =
    let rises = rises_from 1 (1 + count) after (AllPairs-from_increasing after rising)
    (λ i d h. ((within i d h).0, omega (arith, (within i d h).1))) in
    let agree : (n : ℕ) → 1 ≤ n → names after n ≡ names before n =
    λ n _. same_from_decides _ _ (names_decides after n)
    (Decides-like (names before n) (kept n) (only n) (names_decides before n)) in
    sym (filter_names 1 count after rises) ∙ filter-same (names after) (names before) 1 count agree

-- the numbers of a range that pass a test are rising numbers of that range
pub numbers_that : (count : ℕ) (p : ℕ → Bool) → IsRising count (filter p (numbers count))
numbers_that count p =
    let inside : All (λ b. (1 ≤ b) × (b ≤ count)) (numbers count) =
    All-from_get_or (λ b. (1 ≤ b) × (b ≤ count)) (numbers count) 0
    (λ i h. (omega (arith, get_or-numbers count i 0, length-numbers count), omega (arith, get_or-numbers count i 0, length-numbers count))) in
    let rises : IsStrictlyIncreasing (numbers count) =
    λ k h. omega (arith, get_or-numbers count k 0, get_or-numbers count (k + 1) 0, length-numbers count) in
    record {
      within = All-filter p (λ b. (1 ≤ b) × (b ≤ count)) (numbers count) inside;
      rising = IsStrictlyIncreasing-filter p (numbers count) rises;
    }
