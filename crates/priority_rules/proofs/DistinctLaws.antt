-- How many distinct numbers there are.
use Rattle.std.proofs.Common.{◌≡◌, ◌≢◌, ℕ, ◌≤◌, List, [], ◌∷◌, length, refl, arith}
use Rattle.std.specs.List.{All, AllPairs, Contains, sum_by}
use Rattle.std.proofs.lemmas.List.Elements.{All-weaker}
use Rattle.std.proofs.lemmas.List.Sums.{sum_by-cons}
use Rattle.rc_instance.specs.Lists.{numbers, IsUpTo}
use Rattle.rc_instance.proofs.ListLaws.{length-numbers}
use Rattle.rc_instance.proofs.OrderLaws.{sum_by-distinct, Contains-numbers}

-- a sum of ones is the length
ones : (xs : List ℕ) → sum_by (λ _. 1) xs ≡ length xs
ones [] = refl
ones (x ∷ xs) = omega (arith, sum_by-cons (λ (_ : ℕ). 1) x xs, ones xs)

-- distinct numbers that a list contains are no more than it has
pub length-distinct-le : (xs ys : List ℕ) → AllPairs (λ a b. a ≢ b) xs → All (Contains ys) xs
    → length xs ≤ length ys
length-distinct-le xs ys once all = omega (
  arith,
  sum_by-distinct (λ _. 1) xs ys once all,
  ones
      xs,
  ones ys,
)

-- distinct numbers from 1 to n are at most n
pub length-distinct_up_to-le : (n : ℕ) (xs : List ℕ) → AllPairs (λ a b. a ≢ b) xs
    → All (IsUpTo n) xs → length xs ≤ n
length-distinct_up_to-le n xs once all =
    let within = All-weaker (IsUpTo n) (Contains (numbers n))
    (λ a h. Contains-numbers n a h.0 h.1) xs all in
    omega (arith, length-distinct-le xs (numbers n) once within, length-numbers n)
