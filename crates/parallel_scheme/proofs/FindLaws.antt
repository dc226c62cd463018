-- What a search in a list finds.
use Rattle.std.proofs.Common.{◌≡◌, ℕ, zero, suc, ◌<◌, Bool, true, false, None, Some, List, [], ◌∷◌, length, cond, subst, ◌∙◌, refl, arith, slice_index}
use Rattle.std.specs.List.{All, filter, find}
use Rattle.std.proofs.lemmas.Bool.{cond-true, cond-false}
use Rattle.std.proofs.lemmas.List.Elements.{All-head, All-tail}

-- where nothing of a list passes, nothing is found
pub find_nothing : (test : ℕ → Bool) (xs : List ℕ) → All (λ x. test x ≡ false) xs
    → find test xs ≡ None
find_nothing test [] none = refl
find_nothing test (x ∷ xs) none =
    cond-false (test x) (Some x) (find test xs) (All-head (λ y. test y ≡ false) x xs none)
    ∙ find_nothing test xs (All-tail (λ y. test y ≡ false) x xs none)

-- the first that passes is found
pub find_first : (test : ℕ → Bool) (xs : List ℕ) (i : ℕ) → i < length xs
    → ((j : ℕ) → j < i → test (slice_index xs j) ≡ false) → test (slice_index xs i) ≡ true
    → find test xs ≡ Some (slice_index xs i)
find_first test [] i within before passes = Prim.absurd (omega arith)
find_first test (x ∷ xs) zero within before passes =
    cond-true (test x) (Some x) (find test xs) passes
find_first test (x ∷ xs) (suc i) within before passes =
    cond-false (test x) (Some x) (find test xs) (before 0 (omega arith))
    ∙ find_first test xs i (omega arith) (λ j below. before (suc j) (omega arith)) passes

-- what is true of each number of a list is true of what is found
pub find_all : (P : ℕ → Type 0) (test : ℕ → Bool) (xs : List ℕ) (x : ℕ) → All P xs
    → find test xs ≡ Some x → P x
find_all P test [] x all found = Prim.absurd (cc)
find_all P test (y ∷ ys) x all found =
    elim (test y) as (λ b. cond b (Some y) (find test ys) ≡ Some x → P x) [
      | true ↦ λ h. let same : y ≡ x = cc in subst P same (All-head P y ys all)
      | false ↦ λ h. find_all P test ys x (All-tail P y ys all) h
    ] found

-- a filter keeps a list of which each passes, and leaves nothing of one of which none does
pub filter_kept : {X : Type 0} (test : X → Bool) (xs : List X) → All (λ x. test x ≡ true) xs
    → filter test xs ≡ xs
filter_kept test [] all = refl
filter_kept test (x ∷ xs) all =
    rw (
      All-head (λ y. test y ≡ true) x xs all,
      filter_kept test xs (All-tail (λ y. test y ≡ true) x xs all),
    )
    refl

pub filter_dropped : {X : Type 0} (test : X → Bool) (xs : List X)
    → All (λ x. test x ≡ false) xs → filter test xs ≡ []
filter_dropped test [] none = refl
filter_dropped test (x ∷ xs) none =
    rw (All-head (λ y. test y ≡ false) x xs none)
    (filter_dropped test xs (All-tail (λ y. test y ≡ false) x xs none))
