-- The views of all passes by seat: the only one, the one at the end, and sums with one number.
use Rattle.std.proofs.Common.{◌≡◌, ◌≢◌, ℕ, zero, suc, ◌⊎◌, inl, inr, List, [], ◌∷◌, ◌++◌, length, refl, sym, ap, arith}
use Rattle.std.specs.List.{sum_by}
use Rattle.std.proofs.lemmas.List.Sums.{sum_by-cons}
use mathlib.Core.Option.{some, some-injective, some-ne-none}
use lib.ListN.{get_elem?}

module _ {A : Type 0} where
  -- a list of one view has it at seat 0
  pub only_view : (a b : A) (seat : ℕ) → get_elem? (a ∷ []) seat ≡ some b → (seat ≡ 0) × (a ≡ b)
  only_view a b zero e = (refl, some-injective a b e)
  only_view a b (suc seat) e = absurd (some-ne-none b (sym e))

  -- a view of a longer list is an old one, or the one at its end
  pub old_or_last : (l : List A) (a b : A) (seat : ℕ) → get_elem? (l ++ a ∷ []) seat ≡ some b
      → (get_elem? l seat ≡ some b) ⊎ ((seat ≡ length l) × (a ≡ b))
  old_or_last [] a b seat e = inr (only_view a b seat e)
  old_or_last (x ∷ xs) a b zero e = inl e
  old_or_last (x ∷ xs) a b (suc seat) e = elim (old_or_last xs a b seat e) [
    | inl old ↦ inl old
    | inr (at, last) ↦ inr (ap suc at, last)
  ]

  -- a sum of zeros
  pub sum_none : (f : A → ℕ) (l : List A) → ((j : ℕ) (b : A) → get_elem? l j ≡ some b → f b ≡ 0)
      → sum_by f l ≡ 0
  sum_none f [] none = refl
  sum_none f (x ∷ xs) none =
      let here : f x ≡ 0 = none 0 x refl in
      let more : sum_by f xs ≡ 0 = sum_none f xs (λ j b e. none (suc j) b e) in
      omega (arith, sum_by-cons f x xs)

  -- a sum of which but the first number is 0
  pub sum_one : (f : A → ℕ) (l : List A) (a : A) → get_elem? l 0 ≡ some a
      → ((j : ℕ) (b : A) → j ≢ 0 → get_elem? l j ≡ some b → f b ≡ 0) → sum_by f l ≡ f a
  sum_one f [] a e none = absurd (some-ne-none a (sym e))
  sum_one f (x ∷ xs) a e none =
      let here : f x ≡ f a = ap f (some-injective x a e) in
      let more : sum_by f xs ≡ 0 = sum_none f xs (λ j b at. none (suc j) b (λ h. omega arith) at) in
      omega (arith, sum_by-cons f x xs)
