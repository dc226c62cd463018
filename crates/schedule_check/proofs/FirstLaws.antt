-- The first value that a function has for the numbers of a list or a range.
use Rattle.std.proofs.Common.{◌≡◌, ℕ, zero, suc, ◌+◌, ◌<◌, ◌≤◌, Option, None, Some, List, [], ◌∷◌, length, get_or, sym, refl, ap, ◌∙◌, subst, inl, inr, arith, MatchOption}
use Rattle.std.specs.List.{Contains, range_with_len}
use Rattle.std.specs.List.Sorted.{IsStrictlyIncreasing}
use Rattle.std.proofs.lemmas.Bool.{cases_Bool, cases_lt}
use Rattle.std.proofs.lemmas.List.{get_or_default}
use Rattle.std.proofs.lemmas.List.Kept.{AllPairs-from_increasing}
use Rattle.rc_instance.specs.Lists.{first_of, names, or_else}
use Rattle.rc_instance.proofs.ListLaws.{names_decides, neither}
use Rattle.rc_instance.proofs.MisfitLaws.{first_of-none, first_of-is}

-- where a range has no value, none of its numbers has one
pub none_at : {X : Type 0} (value : ℕ → Option X) (a n : ℕ)
    → first_of value (range_with_len a n) ≡ None → (j : ℕ) → a ≤ j → j < a + n → value j ≡ None
none_at value a zero none j low high = absurd (omega arith)
none_at value a (suc n) none j low high =
    let split = neither (value a) (first_of value (range_with_len (a + 1) n)) none in
    elim (cases_lt a j) as (λ _. value j ≡ None) [
      | inl above ↦ none_at value (a + 1) n split.1 j (omega arith) (omega arith)
      | inr upto ↦
          let same : a ≡ j = omega arith in
          subst (λ m. value m ≡ None) same split.0
    ]

-- functions that agree on a range have the same first value in it
pub first_of-same : {X : Type 0} (f g : ℕ → Option X) (a n : ℕ)
    → ((j : ℕ) → a ≤ j → j < a + n → f j ≡ g j)
    → first_of f (range_with_len a n) ≡ first_of g (range_with_len a n)
first_of-same f g a zero same = refl
first_of-same f g a (suc n) same =
    rw (
      same a (omega arith) (omega arith),
      first_of-same f g (a + 1) n
          (λ j low high. same j (omega arith) (omega arith)),
    ) refl

-- where a list has no value, none of its numbers has one; else the value is that of a number before
-- which none has one
pub first_of-list : {X : Type 0} (value : ℕ → Option X) (xs : List ℕ)
    → MatchOption (first_of value xs)
    ((i : ℕ) → i < length xs → value (get_or xs i 0) ≡ None)
    (λ x. (i : ℕ) × (i < length xs) × (value (get_or xs i 0) ≡ Some x)
    × ((j : ℕ) → j < i → value (get_or xs j 0) ≡ None))
first_of-list value [] = λ i within. absurd (omega arith)
first_of-list {X = X} value (y ∷ ys) =
    by (value y) refl (first_of value ys) (first_of-list value ys)
  where
    by : (here : Option X) → value y ≡ here → (later : Option X)
        → MatchOption later
        ((i : ℕ) → i < length ys → value (get_or ys i 0) ≡ None)
        (λ x. (i : ℕ) × (i < length ys) × (value (get_or ys i 0) ≡ Some x)
        × ((j : ℕ) → j < i → value (get_or ys j 0) ≡ None))
        → MatchOption (or_else here later)
        ((i : ℕ) → i < suc (length ys) → value (get_or (y ∷ ys) i 0) ≡ None)
        (λ x. (i : ℕ) × (i < suc (length ys)) × (value (get_or (y ∷ ys) i 0) ≡ Some x)
        × ((j : ℕ) → j < i → value (get_or (y ∷ ys) j 0) ≡ None))
    by (Some x) is later rest = (0, omega arith, is, λ j below. absurd (omega arith))
    by None is None rest = none
      where
        none : (i : ℕ) → i < suc (length ys) → value (get_or (y ∷ ys) i 0) ≡ None
        none zero within = is
        none (suc i) within = rest i (omega arith)
    by None is (Some x) rest = (suc rest.0, omega (arith, rest.1), rest.2, before)
      where
        before : (j : ℕ) → j < suc rest.0 → value (get_or (y ∷ ys) j 0) ≡ None
        before zero below = is
        before (suc j) below = rest.3 j (omega arith)

-- numbers of which the list tells whether they have a value: where one that is not in the list has
-- a
-- value, the one before it has one too
pub record Covers {X : Type 0} (value : ℕ → Option X) (xs : List ℕ) : Type 0 where
  pub rising : IsStrictlyIncreasing xs
  pub first : Contains xs 0
  pub step : (q : ℕ) → (Contains xs (suc q) → ⊥) → value q ≡ None → value (suc q) ≡ None

-- up to a number there is no value, where the list's numbers up to it have none
none_upto : {X : Type 0} (value : ℕ → Option X) (xs : List ℕ) (p : ℕ) → Covers value xs
    → ((x : ℕ) → Contains xs x → x ≤ p → value x ≡ None) → value p ≡ None
none_upto value xs zero covers none = none 0 covers.first (omega arith)
none_upto value xs (suc q) covers none =
    let before = none_upto value xs q covers (λ x is below. none x is (omega arith)) in
    elim (cases_Bool (names xs (suc q))) as (λ _. value (suc q) ≡ None) [
      | inl named ↦ none (suc q) ((names_decides xs (suc q)).0 named) (omega arith)
      | inr other ↦ covers.step q (λ is. let named = (names_decides xs (suc q)).1 is in absurd cc)
          before
    ]

-- the first value of such a list is the first of all numbers below an end from which on there is
-- none
pub first_of-covers : {X : Type 0} (value : ℕ → Option X) (xs : List ℕ) (end : ℕ) → Covers value xs
    → ((p : ℕ) → end ≤ p → value p ≡ None)
    → first_of value xs ≡ first_of value (range_with_len 0 end)
first_of-covers {X = X} value xs end covers ended =
    by (first_of value xs) refl (first_of-list value xs)
  where
    by : (first : Option X) → first_of value xs ≡ first
        → MatchOption first
        ((i : ℕ) → i < length xs → value (get_or xs i 0) ≡ None)
        (λ x. (i : ℕ) × (i < length xs) × (value (get_or xs i 0) ≡ Some x)
        × ((j : ℕ) → j < i → value (get_or xs j 0) ≡ None))
        → first_of value xs ≡ first_of value (range_with_len 0 end)
    by None is none =
        is ∙ sym (first_of-none value 0 end
        (λ p low high. none_upto value xs p covers
        (λ x h upto. subst (λ y. value y ≡ None) (get_or_default xs h.0 0 x h.1 ∙ h.2)
        (none h.0 h.1))))
    by (Some x) is found =
        let i = found.0 in
        let c = get_or xs i 0 in
        let below = λ (p : ℕ) (less : p < c). none_upto value xs p covers
        (λ y h upto.
        let e : get_or xs h.0 0 ≡ y = get_or_default xs h.0 0 y h.1 ∙ h.2 in
        elim (cases_lt h.0 i) as (λ _. value y ≡ None) [
          | inl before ↦ subst (λ z. value z ≡ None) e (found.3 h.0 before)
          | inr after ↦ absurd (elim (cases_lt i h.0) as (λ _. ⊥) [
            | inl later ↦ omega (arith, AllPairs-from_increasing xs covers.rising i h.0 0 later h.1)
            | inr same ↦ let at : h.0 ≡ i = omega arith in
                let f : get_or xs h.0 0 ≡ c = ap (λ k. get_or xs k 0) at in
                omega arith
          ])
        ]) in
        let inside : c < end = elim (cases_lt c end) as (λ _. c < end) [
          | inl less ↦ less
          | inr past ↦ let none = ended c past in absurd cc
        ] in
        is ∙ sym (first_of-is value 0 end c x (omega arith) (omega arith) found.2
        (λ j low high. below j high))
