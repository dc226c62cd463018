-- Lists of views, read by seat, and sums over them.
use Rattle.std.proofs.Common.{◌≡◌, ◌≢◌, ℕ, zero, suc, ◌+◌, ◌≤◌, ◌⊎◌, List, [], ◌∷◌, ◌++◌, length, set, sym, refl, ap, inl, inr, arith}
use Rattle.std.specs.List.{sum_by}
use Rattle.std.proofs.lemmas.List.Sums.{sum_by-cons}
use mathlib.Core.Option.{some, some-injective, some-ne-none}
use lib.ListN.{get_elem?}

module _ {V : Type 0} where
  -- one element changes, and the sum with it
  pub sum_by-set : (f : V → ℕ) (l : List V) (i : ℕ) (a b : V) → get_elem? l i ≡ some a
      → sum_by f (set l i b) + f a ≡ sum_by f l + f b
  sum_by-set f [] i a b e = absurd (some-ne-none a (sym e))
  sum_by-set f (x ∷ xs) zero a b e =
      let same : f x ≡ f a = ap f (some-injective x a e) in
      omega (arith, sum_by-cons f b xs, sum_by-cons f x xs)
  sum_by-set f (x ∷ xs) (suc i) a b e =
      omega (arith, sum_by-cons f x (set xs i b), sum_by-cons f x xs, sum_by-set f xs i a b e)

  -- an element counts no more than all
  pub sum_by-at : (f : V → ℕ) (l : List V) (i : ℕ) (a : V) → get_elem? l i ≡ some a
      → f a ≤ sum_by f l
  sum_by-at f [] i a e = absurd (some-ne-none a (sym e))
  sum_by-at f (x ∷ xs) zero a e =
      let same : f x ≡ f a = ap f (some-injective x a e) in
      omega (arith, sum_by-cons f x xs)
  sum_by-at f (x ∷ xs) (suc i) a e = omega (arith, sum_by-cons f x xs, sum_by-at f xs i a e)

  -- nor do two
  pub sum_by-two : (f : V → ℕ) (l : List V) (i j : ℕ) (a b : V) → i ≢ j
      → get_elem? l i ≡ some a → get_elem? l j ≡ some b → f a + f b ≤ sum_by f l
  sum_by-two f [] i j a b ne e h = absurd (some-ne-none a (sym e))
  sum_by-two f (x ∷ xs) zero zero a b ne e h = absurd (ne refl)
  sum_by-two f (x ∷ xs) zero (suc j) a b ne e h =
      let same : f x ≡ f a = ap f (some-injective x a e) in
      omega (arith, sum_by-cons f x xs, sum_by-at f xs j b h)
  sum_by-two f (x ∷ xs) (suc i) zero a b ne e h =
      let same : f x ≡ f b = ap f (some-injective x b h) in
      omega (arith, sum_by-cons f x xs, sum_by-at f xs i a e)
  sum_by-two f (x ∷ xs) (suc i) (suc j) a b ne e h =
      omega (arith, sum_by-cons f x xs, sum_by-two f xs i j a b (λ same. ne (ap suc same)) e h)

  -- what is no more at each element is no more in sum
  pub sum_by-below : (f g : V → ℕ) (l : List V)
      → ((i : ℕ) (a : V) → get_elem? l i ≡ some a → f a ≤ g a) → sum_by f l ≤ sum_by g l
  sum_by-below f g [] each = omega arith
  sum_by-below f g (x ∷ xs) each =
      omega (
        arith,
        sum_by-cons f x xs,
        sum_by-cons g x xs,
        each 0 x refl,
        sum_by-below f g xs (λ i a e. each (suc i) a e),
      )

  -- a sum with one element more
  pub sum_by-push : (f : V → ℕ) (l : List V) (a : V) → sum_by f (l ++ a ∷ []) ≡ sum_by f l + f a
  sum_by-push f [] a = omega (arith, sum_by-cons f a [])
  sum_by-push f (x ∷ xs) a =
      omega (arith, sum_by-cons f x (xs ++ a ∷ []), sum_by-cons f x xs, sum_by-push f xs a)

  -- an element of a list with one more is an element of the list, or the last one
  pub at_push : (l : List V) (a b : V) (j : ℕ) → get_elem? (l ++ a ∷ []) j ≡ some b
      → (get_elem? l j ≡ some b) ⊎ ((j ≡ length l) × (a ≡ b))
  at_push [] a b zero e = inr (refl, some-injective a b e)
  at_push [] a b (suc j) e = absurd (some-ne-none b (sym e))
  at_push (x ∷ xs) a b zero e = inl e
  at_push (x ∷ xs) a b (suc j) e =
      elim (at_push xs a b j e) [
        | inl old ↦ inl old
        | inr new ↦ inr (ap suc new.0, new.1)
      ]

  -- a place with an element lies within the list
  pub at_within : (l : List V) (a : V) (j : ℕ) → get_elem? l j ≡ some a → suc j ≤ length l
  at_within [] a j e = absurd (some-ne-none a (sym e))
  at_within (x ∷ xs) a zero e = omega arith
  at_within (x ∷ xs) a (suc j) e = omega (arith, at_within xs a j e)
