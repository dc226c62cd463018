-- Which numbers a list names.
use Rattle.std.proofs.Common.{◌≡◌, ◌≢◌, ℕ, ◌+◌, ◌<◌, Bool, true, false, ◌&&◌, ◌||◌, List, [], ◌∷◌, ◌++◌, length, take, get_or, nat_eq, cond, sym, refl, ap, ◌∙◌, inl, inr, arith}
use Rattle.std.specs.List.{AllPairs, Contains, filter}
use Rattle.std.specs.List.Sorted.{IsStrictlyIncreasing}
use Rattle.std.proofs.lemmas.Bool.{cases_eq, and_right}
use Rattle.std.proofs.lemmas.Bool.Decides.{nat_tests}
use Rattle.std.proofs.lemmas.List.{get_or_default, take_more, get_or-take, length-take}
use Rattle.std.proofs.lemmas.List.Kept.{AllPairs-from_increasing}
use Rattle.rc_instance.specs.Lists.{names}
use Rattle.rc_instance.proofs.ListLaws.{names_decides}

-- a list with one more number names that one too
pub names_push : (xs : List ℕ) (y n : ℕ) → names (xs ++ y ∷ []) n ≡ (names xs n || nat_eq y n)
names_push [] y n = grind (arith, nat_tests)
names_push (x ∷ xs) y n =
    let more = names_push xs y n in
    elim (nat_eq x n) as (λ b. (b || names (xs ++ y ∷ []) n) ≡ ((b || names xs n) || nat_eq y n))
    [ true ↦ refl | false ↦ more ]

-- so do the first numbers of a list, with the next one
pub names_more : (xs : List ℕ) (i n : ℕ) → i < length xs
    → names (take (i + 1) xs) n ≡ (names (take i xs) n || nat_eq (get_or xs i 0) n)
names_more xs i n within = rw (take_more xs i 0 within) (names_push (take i xs) (get_or xs i 0) n)

-- what a list names it contains
pub contains_named : (xs : List ℕ) (n : ℕ) → names xs n ≡ true → Contains xs n
contains_named xs n = (names_decides xs n).0

pub named_contains : (xs : List ℕ) (n : ℕ) → Contains xs n → names xs n ≡ true
named_contains xs n = (names_decides xs n).1

-- what a list does not contain it does not name
pub not_named : (xs : List ℕ) (n : ℕ) → (Contains xs n → ⊥) → names xs n ≡ false
not_named xs n none =
    elim (names xs n) as (λ b. names xs n ≡ b → b ≡ false)
    [ true ↦ λ e. absurd (none (contains_named xs n e)) | false ↦ λ e. refl ] refl

-- a number at a place of a list is named
pub named_at : (xs : List ℕ) (i : ℕ) → i < length xs → names xs (get_or xs i 0) ≡ true
named_at xs i within = named_contains xs (get_or xs i 0)
    (i, within, get_or_default xs i (get_or xs i 0) 0 within)

-- a number at a place of distinct numbers is not named before it
pub not_named_before : (xs : List ℕ) (i : ℕ) → AllPairs (λ a b. a ≢ b) xs → i < length xs
    → names (take i xs) (get_or xs i 0) ≡ false
not_named_before xs i once within = not_named (take i xs) (get_or xs i 0)
    (λ h. let e = length-take i xs in
    let here = get_or_default xs i (get_or xs i 0) 0 within in
    let there = get_or-take i xs h.0 (get_or xs i 0) (omega arith) in
    once h.0 i (get_or xs i 0) (omega arith) within (sym there ∙ (h.2 ∙ sym here)))

-- rising numbers are distinct
pub distinct_from_rising : (xs : List ℕ) → IsStrictlyIncreasing xs → AllPairs (λ a b. a ≢ b) xs
distinct_from_rising xs rising = λ i j d below within. let h : get_or xs i d < get_or xs j d =
    AllPairs-from_increasing xs rising i j d below within in omega arith

-- what passes a test is named as before
pub names_filter : (test : ℕ → Bool) (xs : List ℕ) (n : ℕ) → names (filter test xs) n
    ≡ (names xs n && test n)
names_filter test [] n = refl
names_filter test (x ∷ xs) n =
    let rest = names_filter test xs n in
    let kept = filter test xs in
    elim (cases_eq x n) as (λ _. names (filter test (x ∷ xs)) n ≡ (names (x ∷ xs) n && test n)) [
      | inl same ↦
          let here : nat_eq x n ≡ true = grind (arith, nat_tests) in
          let passes : test x ≡ test n = ap test same in
          rw here
          (elim (test x) as (λ b. b ≡ test n → names (cond b (x ∷ kept) kept) n ≡ test n) [
            | true ↦ λ e. rw here e
            | false ↦ λ e. rest ∙ (ap (λ b. names xs n && b) (sym e)
                ∙ (and_right (names xs n) false refl ∙ e))
          ] passes)
      | inr differ ↦
          let here : nat_eq x n ≡ false = grind (arith, nat_tests) in
          rw here
          (elim (test x) as (λ b. names (cond b (x ∷ kept) kept) n ≡ (names xs n && test n))
          [ true ↦ rw here rest | false ↦ rest ])
    ]
