-- The first number of a range that passes, and the first exchange that improves.
use Rattle.std.proofs.Common.{◌≡◌, ℕ, zero, suc, ◌+◌, ◌-◌, ◌<◌, ◌≤◌, Bool, true, false, Option, None, Some, List, length, cond, sym, refl, ap, ◌∙◌, inl, inr, arith, true≢false}
use Rattle.std.specs.Option.{is_some}
use Rattle.std.specs.List.{find, range_with_len}
use Rattle.std.proofs.lemmas.Bool.{cases_lt}
use Rattle.rc_instance.specs.Project.{Project}
use Rattle.swap_descent.specs.Descent.{improves, first_swap}

-- a number that passes, and before which none does, is found
found_first : (test : ℕ → Bool) (n from i : ℕ) → from ≤ i → i < from + n → test i ≡ true
    → ((j : ℕ) → from ≤ j → j < i → test j ≡ false)
    → find test (range_with_len from n) ≡ Some i
found_first test zero from i low high passes none = absurd (omega arith)
found_first test (suc n) from i low high passes none =
    elim (cases_lt from i) as
    (λ _. cond (test from) (Some from) (find test (range_with_len (from + 1) n)) ≡ Some i) [
      | inl below ↦
          rw (none from (omega arith) below)
          (found_first test n (from + 1) i (omega arith) (omega arith) passes
          (λ j above before. none j (omega arith) before))
      | inr other ↦
          let same : from ≡ i = omega arith in
          let here : test from ≡ true = ap test same ∙ passes in
          rw here (ap Some same)
    ]

-- where none passes, none is found
found_none : (test : ℕ → Bool) (n from : ℕ)
    → ((j : ℕ) → from ≤ j → j < from + n → test j ≡ false)
    → find test (range_with_len from n) ≡ None
found_none test zero from none = refl
found_none test (suc n) from none =
    rw (none from (omega arith) (omega arith))
    (found_none test n (from + 1) (λ j above before. none j (omega arith) (omega arith)))

-- what is found is in the range, and passes
found_within : (test : ℕ → Bool) (n from i : ℕ) → find test (range_with_len from n) ≡ Some i
    → (i < from + n) × (test i ≡ true)
found_within test zero from i found = absurd cc
found_within test (suc n) from i found =
    let rest = find test (range_with_len (from + 1) n) in
    elim (test from) as
    (λ b. test from ≡ b → cond b (Some from) rest ≡ Some i
    → (i < from + suc n) × (test i ≡ true)) [
      | true ↦ λ e h.
          let same : from ≡ i = cc in
          (omega arith, ap test (sym same) ∙ e)
      | false ↦ λ e h.
          let later = found_within test n (from + 1) i h in
          let low : i < from + 1 + n = later.0 in
          (omega arith, later.1)
    ] refl found

-- the exchange that a round finds
pub first_swap-some : (project : Project) (order : List ℕ) (i : ℕ) → i + 1 < length order
    → improves project order i ≡ true
    → ((j : ℕ) → j < i → improves project order j ≡ false)
    → first_swap project order ≡ Some i
first_swap-some project order i within passes none =
    found_first (improves project order) (length order - 1) 0 i (omega arith) (omega arith) passes
    (λ j _ below. none j below)

-- a round that finds none
pub first_swap-none : (project : Project) (order : List ℕ)
    → ((j : ℕ) → j + 1 < length order → improves project order j ≡ false)
    → first_swap project order ≡ None
first_swap-none project order none =
    found_none (improves project order) (length order - 1) 0 (λ j _ below. none j (omega arith))

-- what is found is an exchange that improves
pub first_swap-is : (project : Project) (order : List ℕ) (i : ℕ)
    → first_swap project order ≡ Some i
    → (i + 1 < length order) × (improves project order i ≡ true)
first_swap-is project order i found =
    let is = found_within (improves project order) (length order - 1) 0 i found in
    let low : i < 0 + (length order - 1) = is.0 in
    (omega arith, is.1)

-- no value where there is not some
pub none_from : (o : Option ℕ) → is_some o ≡ false → o ≡ None
none_from None e = refl
none_from (Some x) e = absurd (true≢false e)
