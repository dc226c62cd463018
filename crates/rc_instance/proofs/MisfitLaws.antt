-- The computed first misfit is the one that the relation names.
use Rattle.std.proofs.Common.{◌≡◌, ℕ, zero, suc, ◌+◌, ◌<◌, ◌≤◌, true, false, nat_lt, Option, None, Some, sym, refl, ap, ◌∙◌, inl, inr, subst, arith}
use Rattle.std.specs.List.{range_with_len}
use Rattle.std.proofs.lemmas.Bool.{cases_eq, cases_lt}
use Rattle.std.proofs.lemmas.Bool.Decides.{nat_tests}
use Rattle.rc_instance.specs.declared.misfit.Misfit.{Misfit as Shown}
use Rattle.rc_instance.specs.Lists.{first_of}
use Rattle.rc_instance.specs.Project.{Project, IsActivity, IsResource, activity_count, resource_count, duration, demand, last_capacity}
use Rattle.rc_instance.specs.Misfit.{IsMisfit, HasNoMisfit, IsFirstMisfitOf, IsFirstMisfit, misfit_at, misfit_of, first_misfit}

-- where no number of a range has a value, there is none
pub first_of-none : {X : Type 0} (value : ℕ → Option X) (a n : ℕ) → ((j : ℕ) → a ≤ j → j < a + n → value j ≡ None)
    → first_of value (range_with_len a n) ≡ None
first_of-none value a zero none = refl
first_of-none value a (suc n) none =
    rw (none a (omega arith) (omega arith)) (first_of-none value (a + 1) n (λ j from below. none j (omega arith) (omega arith)))

-- the value of the first number of a range that has one
pub first_of-is : {X : Type 0} (value : ℕ → Option X) (a n i : ℕ) (x : X) → a ≤ i → i < a + n → value i ≡ Some x
    → ((j : ℕ) → a ≤ j → j < i → value j ≡ None) → first_of value (range_with_len a n) ≡ Some x
first_of-is value a zero i x from below is none = absurd (omega arith)
first_of-is value a (suc n) i x from below is none =
    elim (cases_eq i a) as (λ _. first_of value (range_with_len a (suc n)) ≡ Some x) [
      | inl same ↦
          let here : value a ≡ Some x = subst (λ m. value m ≡ Some x) same is in
          rw here refl
      | inr differ ↦
          rw (none a (omega arith) (omega arith))
          (first_of-is value (a + 1) n i x (omega arith) (omega arith) is (λ j low high. none j (omega arith) high))
    ]

-- a misfit, with its demand and the last capacity
misfit_shown : (project : Project) (a k : ℕ) → IsMisfit project a k
    → misfit_at project a k ≡ Some (record { activity = a; resource = k; demand = demand project a k; capacity = last_capacity project k })
unfolding misfit_at
misfit_shown project a k is =
    let runs : nat_lt 0 (duration project a) ≡ true = grind (arith, nat_tests, is.runs) in
    let exceeds : nat_lt (last_capacity project k) (demand project a k) ≡ true = grind (arith, nat_tests, is.exceeds) in
    rw (runs, exceeds) refl

-- what is no misfit shows none
no_misfit_shown : (project : Project) (a k : ℕ) → IsActivity project a → IsResource project k → (IsMisfit project a k → ⊥)
    → misfit_at project a k ≡ None
unfolding misfit_at
no_misfit_shown project a k activity resource not =
    elim (cases_lt 0 (duration project a)) as (λ _. misfit_at project a k ≡ None) [
      | inl runs ↦ elim (cases_lt (last_capacity project k) (demand project a k)) as (λ _. misfit_at project a k ≡ None) [
        | inl exceeds ↦ absurd (not (record { activity = activity; resource = resource; runs = runs; exceeds = exceeds }))
        | inr within ↦
            let fits : nat_lt (last_capacity project k) (demand project a k) ≡ false = grind (arith, nat_tests) in
            let takes : nat_lt 0 (duration project a) ≡ true = grind (arith, nat_tests) in
            rw (takes, fits) refl
      ]
      | inr empty ↦
          let takes : nat_lt 0 (duration project a) ≡ false = grind (arith, nat_tests) in
          rw takes refl
    ]

-- a misfit of these numbers
abbrev shown_of : ℕ → ℕ → ℕ → ℕ → Shown
shown_of a k needs has = record { activity = a; resource = k; demand = needs; capacity = has }

-- the first misfit of an activity
pub misfit_of-is : (project : Project) (a : ℕ) (shown : Shown) → IsFirstMisfitOf project a shown → misfit_of project a ≡ Some shown
unfolding misfit_of
misfit_of-is project a shown first =
    let k = shown.resource in
    let same : shown_of a k (demand project a k) (last_capacity project k) ≡ shown =
    ap (λ n. shown_of n k (demand project a k) (last_capacity project k)) (sym first.activity)
    ∙ ap (λ n. shown_of shown.activity k n (last_capacity project k)) (sym first.demand)
    ∙ ap (λ n. shown_of shown.activity k shown.demand n) (sym first.capacity) in
    let is = first.misfit in
    first_of-is (misfit_at project a) 1 (resource_count project) k shown is.resource.0 (omega (arith, is.resource.1))
    (misfit_shown project a k is ∙ ap Some same)
    (λ j from below. no_misfit_shown project a j is.activity (from, omega (arith, is.resource.1)) (λ misfit. absurd (omega (arith, first.least j misfit))))

pub misfit_of-none : (project : Project) (a : ℕ) → IsActivity project a → ((k : ℕ) → IsMisfit project a k → ⊥) → misfit_of project a ≡ None
unfolding misfit_of
misfit_of-none project a activity none =
    first_of-none (misfit_at project a) 1 (resource_count project)
    (λ k from below. no_misfit_shown project a k activity (from, omega arith) (none k))

-- the misfit that is the first by the relation is the computed one
pub first_misfit-is : (project : Project) (shown : Shown) → IsFirstMisfit project shown → first_misfit project ≡ Some shown
unfolding first_misfit
first_misfit-is project shown first =
    let is = first.first.misfit in
    first_of-is (misfit_of project) 1 (activity_count project) shown.activity shown is.activity.0 (omega (arith, is.activity.1))
    (misfit_of-is project shown.activity shown first.first)
    (λ b from below. misfit_of-none project b (from, omega (arith, is.activity.1)) (λ k misfit. absurd (omega (arith, first.least b k misfit))))

-- without a misfit there is no first one
pub first_misfit-none : (project : Project) → HasNoMisfit project → first_misfit project ≡ None
unfolding first_misfit
first_misfit-none project fits =
    first_of-none (misfit_of project) 1 (activity_count project)
    (λ b from below. misfit_of-none project b (from, omega arith)
    (λ k misfit. absurd (omega (arith, misfit.exceeds, fits.fits b k misfit.activity misfit.resource misfit.runs))))
