-- How tables with a place for each activity change.
use Rattle.std.proofs.Common.{◌≡◌, ◌≢◌, ℕ, ◌+◌, ◌-◌, ◌<◌, ◌≤◌, Bool, true, false, ◌||◌, List, [], ◌∷◌, ◌++◌, length, take, get_or, set, nat_eq, if◌then◌else◌, sym, refl, ap, ◌∙◌, subst, inl, inr, arith}
use Rattle.std.specs.List.{All}
use Rattle.std.proofs.lemmas.Bool.{cases_eq}
use Rattle.std.proofs.lemmas.Bool.Decides.{nat_tests}
use Rattle.std.proofs.lemmas.List.{append-nil, get_or-set_same, get_or-set_other, length-set}
use Rattle.rc_instance.specs.Lists.{names, IsRising}
use Rattle.activity_net.specs.Tables.{Shows, IsListedUnder, IsReleased}
use Rattle.activity_net.proofs.NameLaws.{names_push, names_more, not_named_before, distinct_from_rising}

-- a test of two numbers that are equal, and of two that are not
eq_true : (a b : ℕ) → a ≡ b → nat_eq a b ≡ true
eq_true a b same = grind (arith, nat_tests)

eq_false : (a b : ℕ) → a ≢ b → nat_eq a b ≡ false
eq_false a b differ = grind (arith, nat_tests)

-- the place of b after a write at the place of a
pub place-set : {X : Type 0} (xs : List X) (a b : ℕ) (y d : X) → 1 ≤ a → a ≤ length xs → 1 ≤ b
    → get_or (set xs (a - 1) y) (b - 1) d ≡ (if nat_eq a b then y else get_or xs (b - 1) d)
place-set xs a b y d a_from a_upto b_from =
    elim (cases_eq a b) as
    (λ _. get_or (set xs (a - 1) y) (b - 1) d ≡ (if nat_eq a b then y else get_or xs (b - 1) d)) [
      | inl same ↦
          rw (eq_true a b same)
          (subst (λ (k : ℕ). get_or (set xs (a - 1) y) (k - 1) d ≡ y) same
          (get_or-set_same xs (a - 1) y d (omega arith)))
      | inr differ ↦ rw (eq_false a b differ) (get_or-set_other xs (a - 1) (b - 1) y d
          (omega arith))
    ]

or_marked : (p q : Bool) → (if q then true else p) ≡ (p || q)
or_marked true true = refl
or_marked true false = refl
or_marked false true = refl
or_marked false false = refl

-- a table of marks with one more mark shows a list with one more number
pub Shows-push : (n : ℕ) (marks : List Bool) (list : List ℕ) (a : ℕ) → 1 ≤ a → a ≤ n
    → Shows n marks list
    → Shows n (set marks (a - 1) true) (list ++ a ∷ [])
Shows-push n marks list a from upto shows = record {
  count = length-set marks (a - 1) true ∙ shows.count;
  at = λ b b_from b_upto.
      let long = shows.count in
      rw (
        names_push list a b,
        place-set marks a b true false from (omega arith) b_from,
        shows.at b
            b_from b_upto,
      )
      (or_marked (names list b) (nat_eq a b));
}

-- a count that falls by one where a number is named, once the next number x is named too
counted_more : (x b m now before : ℕ) (named : Bool) → (x ≡ b → named ≡ false) → (x ≡ b → now ≡ m)
    → 0 < m
    → now + (if named then 1 else 0) ≡ before
    → (if nat_eq x b then m - 1 else now) + (if named || nat_eq x b then 1 else 0) ≡ before
counted_more x b m now before true fresh at some was =
    elim (cases_eq x b) as (λ _. (if nat_eq x b then m - 1 else now) + 1 ≡ before) [
      | inl same ↦ Prim.absurd (let no = fresh same in cc)
      | inr differ ↦ rw (eq_false x b differ) was
    ]
counted_more x b m now before false fresh at some was =
    elim (cases_eq x b) as (λ _. (if nat_eq x b then m - 1 else now) + (if nat_eq x b then 1 else 0)
    ≡ before) [
      | inl same ↦ let e = at same in rw (eq_true x b same) (omega arith)
      | inr differ ↦ rw (eq_false x b differ) was
    ]

-- one step of the release: the next successor waits for one less
pub IsReleased-more : (xs before now : List ℕ) (i : ℕ) → IsRising (length before) xs
    → i < length xs
    → length now ≡ length before → 0 < get_or now (get_or xs i 0 - 1) 0
    → IsReleased (take i xs) before now
    → IsReleased (take (i + 1) xs) before (set now (get_or xs i 0 - 1)
    (get_or now (get_or xs i 0 - 1) 0 - 1))
IsReleased-more xs before now i are within same some released = record {
  at = λ b from upto.
      let x = get_or xs i 0 in
      let inside = are.within i 0 within in
      let fresh = not_named_before xs i (distinct_from_rising xs are.rising) within in
      rw (
        names_more xs i b within,
        place-set now x b (get_or now (x - 1) 0 - 1) 0 inside.0
            (omega arith) from,
      )
      (counted_more x b (get_or now (x - 1) 0) (get_or now (b - 1) 0) (get_or before (b - 1) 0)
      (names (take i xs) b)
      (λ e. subst (λ (k : ℕ). names (take i xs) k ≡ false) e fresh)
      (λ e. ap (λ (k : ℕ). get_or now (k - 1) 0) (sym e)) some
      (released.at b from upto));
}

-- a list that grows where a number is named, once the next number x is named too
listed_more : (x b a : ℕ) (m now before : List ℕ) (named : Bool) → (x ≡ b → named ≡ false)
    → (x ≡ b → now ≡ m)
    → now ≡ before ++ (if named then a ∷ [] else [])
    → (if nat_eq x b then m ++ a ∷ [] else now) ≡ before
    ++ (if named || nat_eq x b then a ∷ [] else [])
listed_more x b a m now before true fresh at was =
    elim (cases_eq x b) as (λ _. (if nat_eq x b then m ++ a ∷ [] else now) ≡ before ++ a ∷ []) [
      | inl same ↦ Prim.absurd (let no = fresh same in cc)
      | inr differ ↦ rw (eq_false x b differ) was
    ]
listed_more x b a m now before false fresh at was =
    elim (cases_eq x b) as (λ _. (if nat_eq x b then m ++ a ∷ [] else now) ≡ before
    ++ (if nat_eq x b then a ∷ [] else [])) [
      | inl same ↦ rw (eq_true x b same)
          (ap (λ xs. xs ++ a ∷ []) (sym (at same) ∙ (was ∙ append-nil before)))
      | inr differ ↦ rw (eq_false x b differ) was
    ]

-- one step of the listing: a stands at the end of the list of the next successor
pub IsListedUnder-more : (a : ℕ) (xs : List ℕ) (before now : List (List ℕ)) (i : ℕ)
    → IsRising (length before) xs → i < length xs
    → length now ≡ length before → IsListedUnder a (take i xs) before now
    → IsListedUnder a (take (i + 1) xs) before (set now (get_or xs i 0 - 1)
    (get_or now (get_or xs i 0 - 1) [] ++ a ∷ []))
IsListedUnder-more a xs before now i are within same listed = record {
  at = λ b from upto.
      let x = get_or xs i 0 in
      let inside = are.within i 0 within in
      let fresh = not_named_before xs i (distinct_from_rising xs are.rising) within in
      rw (
        names_more xs i b within,
        place-set now x b (get_or now (x - 1) [] ++ a ∷ []) [] inside.0
            (omega arith) from,
      )
      (listed_more x b a (get_or now (x - 1) []) (get_or now (b - 1) []) (get_or before (b - 1) [])
      (names (take i xs) b)
      (λ e. subst (λ (k : ℕ). names (take i xs) k ≡ false) e fresh)
      (λ e. ap (λ (k : ℕ). get_or now (k - 1) []) (sym e))
      (listed.at b from upto));
}

-- a successor that is not released yet waits for as many as before
pub still_waits : (xs before now : List ℕ) (i : ℕ) → IsRising (length before) xs
    → i < length xs
    → All (λ b. 0 < get_or before (b - 1) 0) xs → IsReleased (take i xs) before now
    → 0 < get_or now (get_or xs i 0 - 1) 0
still_waits xs before now i are within some released =
    let x = get_or xs i 0 in
    let inside = are.within i 0 within in
    let fresh = not_named_before xs i (distinct_from_rising xs are.rising) within in
    let was : get_or now (x - 1) 0 + (if names (take i xs) x then 1 else 0)
    ≡ get_or before (x - 1) 0 = released.at x inside.0 inside.1 in
    let waits : 0 < get_or before (x - 1) 0 = some i 0 within in
    let same : get_or now (x - 1) 0 + 0 ≡ get_or before (x - 1) 0 = rw fresh at was in
    omega arith
