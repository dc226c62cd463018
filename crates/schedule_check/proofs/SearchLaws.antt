-- A binary search of rising numbers finds exactly the numbers that they name.
use Rattle.std.proofs.Common.{◌≡◌, ℕ, ◌<◌, ◌≤◌, false, Ok, Err, Result, List, length, get_or, sym, ◌∙◌, inl, inr, arith}
use Rattle.std.specs.List.Sorted.{IsStrictlyIncreasing, IsBinarySearchResult}
use Rattle.std.specs.Ordering.{nat_cmp}
use Rattle.std.specs.Result.{is_ok}
use Rattle.std.proofs.lemmas.Bool.{cases_Bool, cases_lt}
use Rattle.std.proofs.lemmas.List.{get_or_default}
use Rattle.std.proofs.lemmas.List.Kept.{AllPairs-from_increasing}
use Rattle.std.proofs.lemmas.List.Sorted.{searched}
use Rattle.rc_instance.specs.Lists.{names}
use Rattle.rc_instance.proofs.ListLaws.{names_decides}

-- rising numbers do not fall
never_falls : (xs : List ℕ) → IsStrictlyIncreasing xs → (i j : ℕ) → i ≤ j → j < length xs
    → get_or xs i 0 ≤ get_or xs j 0
never_falls xs rising i j le within =
    elim (cases_lt i j) as (λ _. get_or xs i 0 ≤ get_or xs j 0) [
      | inl less ↦ omega (arith, AllPairs-from_increasing xs rising i j 0 less within)
      | inr more ↦
          let same : i ≡ j = omega arith in
          rw same (omega arith)
    ]

-- the search finds a number exactly where they name it
pub found_is_named : (xs : List ℕ) (x : ℕ) (found : Result ℕ ℕ) → IsStrictlyIncreasing xs
    → IsBinarySearchResult (λ y. nat_cmp y x) xs found → is_ok found ≡ names xs x
found_is_named xs x (Ok i) rising search =
    let at = searched xs x (Ok i) search (never_falls xs rising) in
    sym ((names_decides xs x).1 (i, at.0, get_or_default xs i x 0 at.0 ∙ at.1))
found_is_named xs x (Err i) rising search =
    let apart = searched xs x (Err i) search (never_falls xs rising) in
    elim (cases_Bool (names xs x)) as (λ _. false ≡ names xs x) [
      | inl named ↦
          let there = (names_decides xs x).0 named in
          let is : get_or xs there.0 0 ≡ x = get_or_default xs there.0 0 x there.1 ∙ there.2 in
          absurd (elim (cases_lt there.0 i) as (λ _. ⊥) [
            | inl before ↦ omega (arith, apart.1 there.0 before)
            | inr after ↦ omega (arith, apart.2 there.0 after there.1)
          ])
      | inr other ↦ sym other
    ]
