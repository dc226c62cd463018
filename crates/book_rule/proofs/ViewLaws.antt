-- The views of a book as a list: one of them is written, and all others stand.
use Rattle.std.proofs.Common.{◌≡◌, ℕ, zero, suc, ◌+◌, ◌≤◌, List, [], ◌∷◌, set, sym, refl, ap, ◌∙◌, subst, arith}
use mathlib.Core.Option.{some, some-injective, some-ne-none}
use mathlib.Core.Logic.{dite}
use native.Mathlib.Decide.{ℕ_discrete}
use lib.ListN.{get_elem?}
use Rattle.std.specs.List.{sum_by}
use Rattle.std.proofs.lemmas.List.Sums.{sum_by-cons}
use Rattle.atomic_table.proofs.Lists.{set_else}

module _ {A : Type 0} where
  -- one element is at a place
  pub one_at : (xs : List A) (i : ℕ) (a b : A) → get_elem? xs i ≡ some a → get_elem? xs i ≡ some b
      → a ≡ b
  one_at xs i a b here there = some-injective a b (sym here ∙ there)

  -- what is written is there
  pub set_there : (xs : List A) (i : ℕ) (a b : A) → get_elem? xs i ≡ some a
      → get_elem? (set xs i b) i ≡ some b
  set_there [] i a b here = absurd (some-ne-none a (sym here))
  set_there (x ∷ xs) zero a b here = refl
  set_there (x ∷ xs) (suc i) a b here = set_there xs i a b here

  -- one of several numbers is at most their sum
  pub part-le-sum_by : (f : A → ℕ) (xs : List A) (i : ℕ) (a : A) → get_elem? xs i ≡ some a
      → f a ≤ sum_by f xs
  part-le-sum_by f [] i a here = absurd (some-ne-none a (sym here))
  part-le-sum_by f (x ∷ xs) zero a here =
      let same = ap f (some-injective x a here) in omega (arith, sum_by-cons f x xs)
  part-le-sum_by f (x ∷ xs) (suc i) a here = omega
      (arith, sum_by-cons f x xs, part-le-sum_by f xs i a here)

  -- a sum in which one element is written
  pub sum_by-set_at : (f : A → ℕ) (xs : List A) (i : ℕ) (a b : A) → get_elem? xs i ≡ some a
      → sum_by f (set xs i b) + f a ≡ sum_by f xs + f b
  sum_by-set_at f [] i a b here = absurd (some-ne-none a (sym here))
  sum_by-set_at f (x ∷ xs) zero a b here =
      let same = ap f (some-injective x a here) in
      omega (arith, sum_by-cons f x xs, sum_by-cons f b xs)
  sum_by-set_at f (x ∷ xs) (suc i) a b here =
      omega (arith, sum_by-cons f x xs, sum_by-cons f x (set xs i b), sum_by-set_at f xs i a b here)

  -- what is so of some element stays so, where it is so of the one that is written
  pub some_after : (P : A → Type 0) (xs : List A) (i j : ℕ) (a b c : A) → get_elem? xs i ≡ some a
      → (P a → P b)
      → get_elem? xs j ≡ some c → P c
      → (d : A) × (get_elem? (set xs i b) j ≡ some d) × P d
  some_after P xs i j a b c here keeps there is = dite (ℕ_discrete j i)
      (λ e.
      let at : get_elem? xs i ≡ some c = subst (λ (k : ℕ). get_elem? xs k ≡ some c) e there in
      let same : c ≡ a = one_at xs i c a at here in (
        b,
        subst (λ (k : ℕ). get_elem? (set xs i b) k ≡ some b) (sym e)
            (set_there xs i a b here),
        keeps (subst P same is),
      ))
      (λ n. (c, set_else xs i j b n ∙ there, is))
