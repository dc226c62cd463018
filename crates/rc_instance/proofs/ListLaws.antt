-- What the words on lists and on searches tell.
use Rattle.std.proofs.Common.{◌≡◌, ℕ, zero, suc, ◌+◌, ◌<◌, ◌≤◌, max, Bool, Option, None, Some, List, [], ◌∷◌, ◌++◌, length, get_or, nat_eq, sym, refl, ap, ◌∙◌, subst, inl, inr, arith, ◌&&◌, ◌≢◌, true≢false}
use Rattle.std.specs.Bool.{Decides, IsTrue}
use Rattle.std.specs.List.{All, Contains, list_all, range_with_len}
use Rattle.std.proofs.lemmas.Bool.{cond_both, cases_eq}
use Rattle.std.proofs.lemmas.Bool.Decides.{Decides-like, Decides-and, Decides-eqb}
use Rattle.std.proofs.lemmas.List.{get_or_default}
use Rattle.std.proofs.lemmas.List.Elements.{All-head, All-tail}
use Rattle.std.proofs.lemmas.List.FromFn.{length-range_with_len, get_or-range_with_len}
use Rattle.std.proofs.lemmas.Map.Made.{is_member-Decides}
use Rattle.rc_instance.specs.Lists.{or_else, greatest, names, numbers, first_from, last_below}

-- where neither of two has a value
pub neither : {X : Type 0} (first second : Option X) → or_else first second ≡ None
    → (first ≡ None) × (second ≡ None)
neither None second e = (refl, e)
neither (Some x) second e = absurd cc

-- the greatest of two lists after one another
pub greatest-append : (xs ys : List ℕ) → greatest (xs ++ ys) ≡ max (greatest xs) (greatest ys)
greatest-append [] ys = omega arith
greatest-append (x ∷ xs) ys = omega (arith, greatest-append xs ys)

-- the greatest with one more number
pub greatest_push : (xs : List ℕ) (y : ℕ) → greatest (xs ++ y ∷ []) ≡ max (greatest xs) y
greatest_push xs y = omega (arith, greatest-append xs (y ∷ []))

-- each number of a list is at most the greatest
pub get_or-le-greatest : (xs : List ℕ) (i : ℕ) → get_or xs i 0 ≤ greatest xs
get_or-le-greatest [] i = omega arith
get_or-le-greatest (x ∷ xs) zero = omega arith
get_or-le-greatest (x ∷ xs) (suc i) = omega (arith, get_or-le-greatest xs i)

-- so is each number that a list contains
pub Contains-le-greatest : (xs : List ℕ) (x : ℕ) → Contains xs x → x ≤ greatest xs
Contains-le-greatest xs x h =
    omega (arith, get_or-le-greatest xs h.0, get_or_default xs h.0 0 x h.1, h.2)

-- the greatest is at most what each number of the list is at most
pub greatest-le : (xs : List ℕ) (m : ℕ) → All (λ x. x ≤ m) xs → greatest xs ≤ m
greatest-le [] m all = omega arith
greatest-le (x ∷ xs) m all =
    omega (arith, All-head (λ y. y ≤ m) x xs all, greatest-le xs m (All-tail (λ y. y ≤ m) x xs all))

-- `names` tells whether the list contains the number
pub names_decides : (xs : List ℕ) (n : ℕ) → Decides (names xs n) (Contains xs n)
names_decides xs n =
    is_member-Decides {eq = λ q x. nat_eq x q}
    (λ a b. Decides-like (nat_eq b a) sym sym (Decides-eqb b a)) xs n

-- there are n numbers from 1 to n
pub length-numbers : (n : ℕ) → length (numbers n) ≡ n
length-numbers n = length-range_with_len 1 n

-- the number at place i is i + 1
pub get_or-numbers : (n i d : ℕ) → i < n → get_or (numbers n) i d ≡ i + 1
get_or-numbers n i d h = omega (arith, get_or-range_with_len 1 n i d h)

-- a test of each number of a range tells whether each passes
pub list_all-range : (test : ℕ → Bool) (P : ℕ → Type 0) → ((p : ℕ) → Decides (test p) (P p))
    → (t n : ℕ)
    → Decides (list_all test (range_with_len t n)) ((p : ℕ) → t ≤ p → p < t + n → P p)
list_all-range test P each t zero = ((λ e p a b. Prim.absurd (omega arith)), λ h. refl)
list_all-range test P each t (suc n) =
    let all = list_all test (range_with_len (t + 1) n) in
    Decides-like (test t && all)
    (λ h p from below. elim (cases_eq p t) as (λ _. P p) [
      | inl e ↦ subst P (sym e) h.0
      | inr ne ↦ h.1 p (omega arith) (omega arith)
    ])
    (λ h. (h t (omega arith) (omega arith), λ p from below. h p (omega arith) (omega arith)))
    (Decides-and (test t) all (each t) (list_all-range test P each (t + 1) n))

-- a search gives a number from its first on
pub first_from-after : (test : ℕ → Bool) (t n : ℕ) → t ≤ first_from test t n
unfolding first_from
first_from-after test t zero = omega arith
first_from-after test t (suc n) =
    cond_both (test t) t (first_from test (t + 1) n) (λ x. t ≤ x) (λ _. omega arith)
    (λ _. omega (arith, first_from-after test (t + 1) n))

-- a search of n numbers from t on gives at most t + n
pub first_from-within : (test : ℕ → Bool) (t n : ℕ) → first_from test t n ≤ t + n
unfolding first_from
first_from-within test t zero = omega arith
first_from-within test t (suc n) =
    cond_both (test t) t (first_from test (t + 1) n) (λ x. x ≤ t + suc n) (λ _. omega arith)
    (λ _. omega (arith, first_from-within test (t + 1) n))

-- it gives at most each number from its first on that passes
pub first_from-least : (test : ℕ → Bool) (t n u : ℕ) → t ≤ u → IsTrue (test u)
    → first_from test t n ≤ u
unfolding first_from
first_from-least test t zero u le passes = le
first_from-least test t (suc n) u le passes =
    cond_both (test t) t (first_from test (t + 1) n) (λ x. x ≤ u) (λ _. le)
    (λ fails.
    let ne : t ≢ u = λ e. true≢false (sym passes ∙ (ap test (sym e) ∙ fails)) in
    first_from-least test (t + 1) n u (omega arith) passes)

-- it gives a number that passes, where one of them does, or the one after them
pub first_from-passes : (test : ℕ → Bool) (t n u : ℕ) → t ≤ u → u ≤ t + n → IsTrue (test u)
    → IsTrue (test (first_from test t n))
unfolding first_from
first_from-passes test t zero u from upto passes =
    let e : u ≡ t = omega arith in subst (λ x. IsTrue (test x)) e passes
first_from-passes test t (suc n) u from upto passes =
    cond_both (test t) t (first_from test (t + 1) n) (λ x. IsTrue (test x)) (λ e. e)
    (λ fails.
    let ne : t ≢ u = λ e. true≢false (sym passes ∙ (ap test (sym e) ∙ fails)) in
    first_from-passes test (t + 1) n u (omega arith) (omega arith) passes)

-- the last of the numbers below n that pass is one of them, and at least each of them
pub last_below-is : (test : ℕ → Bool) (n u : ℕ) → u < n → IsTrue (test u)
    → IsTrue (test (last_below test n)) × (last_below test n < n) × (u ≤ last_below test n)
unfolding last_below
last_below-is test zero u below passes = Prim.absurd (omega arith)
last_below-is test (suc n) u below passes =
    cond_both (test n) n (last_below test n) (λ x. IsTrue (test x) × (x < suc n) × (u ≤ x))
    (λ e. (e, omega arith, omega arith))
    (λ fails.
    let ne : u ≢ n = λ e. true≢false (sym passes ∙ (ap test e ∙ fails)) in
    let h = last_below-is test n u (omega arith) passes in
    (h.0, omega arith, h.2))
