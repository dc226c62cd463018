-- Weights of lists, added up.
use Rattle.std.proofs.Common.{◌≡◌, ◌≢◌, ℕ, zero, suc, ◌+◌, ◌≤◌, List, [], ◌∷◌, ◌++◌, length, set, sym, refl, ap, ◌∙◌, arith}
use mathlib.Core.Option.{some, some-injective, some-ne-none}
use lib.ListN.{get_elem?}
use Rattle.work_queue.specs.Rule.{weigh, jobs_from}

module _ {X : Type 0} (f : X → ℕ) where
  pub weigh-append : (l m : List X) → weigh f (l ++ m) ≡ weigh f l + weigh f m
  weigh-append [] m = omega arith
  weigh-append (x ∷ l) m = omega (arith, weigh-append l m)

  -- one member changes, and the sum with it
  pub weigh-set : (l : List X) (i : ℕ) (a b : X) → get_elem? l i ≡ some a
      → weigh f (set l i b) + f a ≡ weigh f l + f b
  weigh-set [] i a b at = absurd (some-ne-none a (sym at))
  weigh-set (x ∷ l) zero a b at =
      let same : f x ≡ f a = ap f (some-injective x a at) in omega arith
  weigh-set (x ∷ l) (suc i) a b at = omega (arith, weigh-set l i a b at)

  -- a member weighs no more than all
  pub weigh-at : (l : List X) (i : ℕ) (a : X) → get_elem? l i ≡ some a → f a ≤ weigh f l
  weigh-at [] i a at = absurd (some-ne-none a (sym at))
  weigh-at (x ∷ l) zero a at =
      let same : f x ≡ f a = ap f (some-injective x a at) in omega arith
  weigh-at (x ∷ l) (suc i) a at = omega (arith, weigh-at l i a at)

  -- nor do two
  pub weigh-two : (l : List X) (i j : ℕ) (a b : X) → i ≢ j → get_elem? l i ≡ some a
      → get_elem? l j ≡ some b → f a + f b ≤ weigh f l
  weigh-two [] i j a b apart at there = absurd (some-ne-none a (sym at))
  weigh-two (x ∷ l) zero zero a b apart at there = absurd (apart refl)
  weigh-two (x ∷ l) zero (suc j) a b apart at there =
      let same : f x ≡ f a = ap f (some-injective x a at) in omega (arith, weigh-at l j b there)
  weigh-two (x ∷ l) (suc i) zero a b apart at there =
      let same : f x ≡ f b = ap f (some-injective x b there) in omega (arith, weigh-at l i a at)
  weigh-two (x ∷ l) (suc i) (suc j) a b apart at there =
      omega (arith, weigh-two l i j a b (λ same. apart (ap suc same)) at there)

module _ {X : Type 0} (f g : X → ℕ) where
  -- what f finds without weight has none for g
  abbrev pub IsLighter : List X → Type 0
  IsLighter l = (i : ℕ) (a : X) → get_elem? l i ≡ some a → f a ≡ 0 → g a ≡ 0

  -- where f finds nothing, g finds nothing
  pub weigh-none : (l : List X) → IsLighter l → weigh f l ≡ 0 → weigh g l ≡ 0
  weigh-none [] light none = refl
  weigh-none (x ∷ l) light none =
      let first : g x ≡ 0 = light 0 x refl (omega arith) in
      omega (arith, weigh-none l (λ i a at. light (suc i) a at) (omega arith))

  -- where f finds all in one member, g does
  pub weigh-one : (l : List X) (i : ℕ) (a : X) → IsLighter l → get_elem? l i ≡ some a
      → weigh f l ≡ f a → weigh g l ≡ g a
  weigh-one [] i a light at all = absurd (some-ne-none a (sym at))
  weigh-one (x ∷ l) zero a light at all =
      let is : x ≡ a = some-injective x a at in
      let same : f x ≡ f a = ap f is in
      let same' : g x ≡ g a = ap g is in
      omega (arith, weigh-none l (λ j b there. light (suc j) b there) (omega arith))
  weigh-one (x ∷ l) (suc i) a light at all =
      let part = weigh-at f l i a at in
      let first : g x ≡ 0 = light 0 x refl (omega arith) in
      omega (arith, weigh-one l i a (λ j b there. light (suc j) b there) at (omega arith))

-- one job more
pub jobs_from-push : (first n : ℕ) → jobs_from first n ++ (first + n) ∷ [] ≡ jobs_from first (suc n)
jobs_from-push first zero = ap (λ (x : ℕ). x ∷ []) (omega arith)
jobs_from-push first (suc n) =
    let sum : first + suc n ≡ suc first + n = omega arith in
    ap (λ (x : ℕ). first ∷ (jobs_from (suc first) n ++ x ∷ [])) sum
    ∙ ap (λ (l : List ℕ). first ∷ l) (jobs_from-push (suc first) n)

pub length-jobs_from : (first n : ℕ) → length (jobs_from first n) ≡ n
length-jobs_from first zero = refl
length-jobs_from first (suc n) = ap suc (length-jobs_from (suc first) n)
