-- What the improvement comes to, of every project and every list of starts.
use Rattle.std.proofs.Common.{◌≡◌, ℕ, zero, suc, ◌<◌, ◌≤◌, Bool, true, false, List, nat_lt, if◌then◌else◌, sym, refl, ap, ◌∙◌, subst, inl, inr, arith}
use Rattle.std.proofs.lemmas.Bool.{cases_Bool, cond-true, cond-false, ltb-true, ltb-false, lt-ltb, le-ltb}
use Rattle.rc_instance.specs.Project.{Project}
use Rattle.rc_instance.specs.Schedule.{makespan}
use Rattle.fwd_back.specs.Improved.{forward, improved, improved_within}

-- whether a round shortens a schedule
abbrev falls : Project → List ℕ → Bool
falls project starts = nat_lt (makespan project (forward project starts)) (makespan project starts)

-- a round that shortens is followed by the others
within_falls : (project : Project) (rounds : ℕ) (starts : List ℕ) → falls project starts ≡ true
    → improved_within project (suc rounds) starts
    ≡ improved_within project rounds (forward project starts)
unfolding improved_within
within_falls project rounds starts e =
    cond-true _ (improved_within project rounds (forward project starts)) starts e

-- a round that does not is the last
within_stays : (project : Project) (rounds : ℕ) (starts : List ℕ) → falls project starts ≡ false
    → improved_within project rounds starts ≡ starts
unfolding improved_within
within_stays project zero starts e = refl
within_stays project (suc rounds) starts e =
    cond-false _ (improved_within project rounds (forward project starts)) starts e

-- a schedule of no length is not shortened
falls_none : (project : Project) (starts : List ℕ) → makespan project starts ≤ 0
    → falls project starts ≡ false
falls_none project starts short =
    le-ltb (makespan project (forward project starts)) (makespan project starts) (omega arith)

-- at least as many rounds as there are periods come to the same
within_enough : (project : Project) (one other : ℕ) (starts : List ℕ)
    → makespan project starts ≤ one → makespan project starts ≤ other
    → improved_within project one starts ≡ improved_within project other starts
within_enough project zero other starts first second =
    let e = falls_none project starts first in
    within_stays project zero starts e ∙ sym (within_stays project other starts e)
within_enough project (suc one) zero starts first second =
    let e = falls_none project starts second in
    within_stays project (suc one) starts e ∙ sym (within_stays project zero starts e)
within_enough project (suc one) (suc other) starts first second =
    elim (cases_Bool (falls project starts)) [
      | inr e ↦
          within_stays project (suc one) starts e ∙ sym (within_stays project (suc other) starts e)
      | inl e ↦
          let next = forward project starts in
          let below = ltb-true (makespan project next) (makespan project starts) e in
          within_falls project one starts e
          ∙ (within_enough project one other next (omega arith) (omega arith)
          ∙ sym (within_falls project other starts e))
    ]

-- a schedule that no round shortens is its own improvement
pub improved-stays : (project : Project) (starts : List ℕ)
    → makespan project starts ≤ makespan project (forward project starts)
    → improved project starts ≡ starts
unfolding improved
improved-stays project starts le =
    within_stays project (makespan project starts) starts
    (le-ltb (makespan project (forward project starts)) (makespan project starts) le)

-- one that a round shortens is improved from there on
pub improved-falls : (project : Project) (starts : List ℕ)
    → makespan project (forward project starts) < makespan project starts
    → improved project starts ≡ improved project (forward project starts)
unfolding improved
improved-falls project starts below =
    let next = forward project starts in
    let m = makespan project starts in
    within_enough project m (suc m) starts (omega arith) (omega arith)
    ∙ (within_falls project m starts (lt-ltb (makespan project next) m below)
    ∙ within_enough project m (makespan project next) next (omega arith) (omega arith))

-- both in one equation
pub improved-repeated : (project : Project) (starts : List ℕ)
    → improved project starts
    ≡ (if falls project starts then improved project (forward project starts) else starts)
improved-repeated project starts =
    let next = forward project starts in
    elim (cases_Bool (falls project starts)) [
      | inl e ↦
          improved-falls project starts
          (ltb-true (makespan project next) (makespan project starts) e)
          ∙ sym (cond-true _ (improved project next) starts e)
      | inr e ↦
          improved-stays project starts
          (ltb-false (makespan project next) (makespan project starts) e)
          ∙ sym (cond-false _ (improved project next) starts e)
    ]

-- rounds never lengthen a schedule
within-le : (project : Project) (rounds : ℕ) (starts : List ℕ)
    → makespan project (improved_within project rounds starts) ≤ makespan project starts
unfolding improved_within
within-le project zero starts = omega arith
within-le project (suc rounds) starts =
    let M : List ℕ → ℕ = makespan project in
    elim (cases_Bool (falls project starts)) [
      | inl e ↦
          let next = forward project starts in
          omega (
            arith,
            ap M (within_falls project rounds starts e),
            within-le project rounds next,
            ltb-true (M next) (M starts) e,
          )
      | inr e ↦ omega (arith, ap M (within_stays project (suc rounds) starts e))
    ]

pub makespan-improved : (project : Project) (starts : List ℕ)
    → makespan project (improved project starts) ≤ makespan project starts
unfolding improved
makespan-improved project starts = within-le project (makespan project starts) starts

-- after enough rounds no further one shortens it
within_settles : (project : Project) (rounds : ℕ) (starts : List ℕ)
    → makespan project starts ≤ rounds
    → falls project (improved_within project rounds starts) ≡ false
within_settles project zero starts enough =
    let none = falls_none project starts enough in
    subst (λ s. falls project s ≡ false) (sym (within_stays project zero starts none)) none
within_settles project (suc rounds) starts enough =
    elim (cases_Bool (falls project starts)) [
      | inr none ↦
          subst (λ s. falls project s ≡ false) (sym (within_stays project (suc rounds) starts none))
          none
      | inl e ↦
          let next = forward project starts in
          let below = ltb-true (makespan project next) (makespan project starts) e in
          subst (λ s. falls project s ≡ false) (sym (within_falls project rounds starts e))
          (within_settles project rounds next (omega arith))
    ]

-- improving an improved schedule again changes nothing
pub improved-improved : (project : Project) (starts : List ℕ)
    → improved project (improved project starts) ≡ improved project starts
unfolding improved
improved-improved project starts =
    let better = improved_within project (makespan project starts) starts in
    within_stays project (makespan project better) better
    (within_settles project (makespan project starts) starts (omega arith))
