-- Ranges of samples and their parts.
use Rattle.std.proofs.Common.{◌≡◌, ℕ, zero, suc, ◌+◌, ◌-◌, ◌<◌, ◌≤◌, ◌⊎◌, ◌||◌, ◌&&◌, Bool, true, false, List, [], ◌∷◌, ◌++◌, nat_eq, nat_le, if◌then◌else◌, sym, refl, ap, ◌∙◌, subst, inl, inr, arith, true≢false, append_assoc, append-nil, eq-eqb, ne_eqb}
use Rattle.std.proofs.lemmas.Bool.{cases_lt, cases_eq, cases_Bool, and_from, and_parts, lt-ltb, le-ltb, le-leb, leb-true}
use Rattle.std.proofs.lemmas.List.FromFn.{map-range_with_len_more}
use Rattle.rc_instance.specs.Project.{Project}
use Rattle.key_sampling.specs.declared.best.Best.{Best}
use Rattle.key_sampling.specs.Samples.{sample_makespan, sample_values}
use Rattle.key_sampling.specs.Best.{IsNoWorse, valued, IsBest, is_no_worse, better, best_up_to, best_of}

-- the values of a range are those of its parts, joined
pub sample_values-add : (project : Project) (seed from first second : ℕ)
    → sample_values project seed from (first + second)
    ≡ sample_values project seed from first ++ sample_values project seed (from + first) second
sample_values-add project seed from first zero =
    let none : first + 0 ≡ first = omega arith in
    ap (sample_values project seed from) none
    ∙ sym (append-nil (sample_values project seed from first))
sample_values-add project seed from first (suc second) =
    let value = sample_makespan project seed in
    let next : first + suc second ≡ first + second + 1 = omega arith in
    let back : second + 1 ≡ suc second = omega arith in
    let last : value (from + (first + second)) ≡ value (from + first + second) =
    ap value (omega arith) in
    ap (sample_values project seed from) next
    ∙ (map-range_with_len_more value from (first + second) (from + (first + second)) refl
    ∙ (ap (λ (xs : List ℕ). xs ++ value (from + (first + second)) ∷ [])
    (sample_values-add project seed from first second)
    ∙ (append_assoc (sample_values project seed from first)
    (sample_values project seed (from + first) second) (value (from + (first + second)) ∷ [])
    ∙ ap (λ (xs : List ℕ). sample_values project seed from first ++ xs)
    (ap (λ (x : ℕ). sample_values project seed (from + first) second ++ x ∷ []) last
    ∙ (sym (map-range_with_len_more value (from + first) second (from + first + second) refl)
    ∙ ap (sample_values project seed (from + first)) back)))))

-- what is no worse than one that is no worse than another is no worse than it
no_worse-through : (a b c : Best) → IsNoWorse a b → IsNoWorse b c → IsNoWorse a c
no_worse-through a b c (inl p) (inl q) = inl (omega arith)
no_worse-through a b c (inl p) (inr q) = inl (omega (arith, q.0))
no_worse-through a b c (inr p) (inl q) = inl (omega (arith, p.0))
no_worse-through a b c (inr p) (inr q) = inr (p.0 ∙ q.0, omega (arith, p.1, q.1))

-- what the test says
no_worse-true : (a b : Best) → is_no_worse a b ≡ true → IsNoWorse a b
unfolding is_no_worse
no_worse-true a b test =
    let rest = nat_eq a.makespan b.makespan && nat_le a.sample b.sample in
    elim (cases_lt a.makespan b.makespan) [
      | inl less ↦ inl less
      | inr more ↦
          let off = le-ltb a.makespan b.makespan more in
          let on : rest ≡ true = sym (ap (λ (t : Bool). t || rest) off) ∙ test in
          let parts = and_parts (nat_eq a.makespan b.makespan) (nat_le a.sample b.sample) on in
          elim (cases_eq a.makespan b.makespan) [
            | inl same ↦ inr (same, leb-true a.sample b.sample parts.1)
            | inr differ ↦ Prim.absurd (true≢false (sym parts.0
                ∙ ne_eqb a.makespan b.makespan differ))
          ]
    ]

no_worse-false : (a b : Best) → is_no_worse a b ≡ false → IsNoWorse b a
unfolding is_no_worse
no_worse-false a b test =
    let rest = nat_eq a.makespan b.makespan && nat_le a.sample b.sample in
    elim (cases_lt a.makespan b.makespan) [
      | inl less ↦ Prim.absurd (true≢false
          (sym (ap (λ (t : Bool). t || rest) (lt-ltb a.makespan b.makespan less)) ∙ test))
      | inr more ↦ elim (cases_eq b.makespan a.makespan) [
        | inr differ ↦ inl (omega arith)
        | inl same ↦ elim (cases_lt b.sample a.sample) [
          | inl below ↦ inr (same, omega arith)
          | inr above ↦
              let off = le-ltb a.makespan b.makespan more in
              let on : rest ≡ false = sym (ap (λ (t : Bool). t || rest) off) ∙ test in
              let both = and_from (nat_eq a.makespan b.makespan) (nat_le a.sample b.sample)
              (eq-eqb a.makespan b.makespan (sym same)) (le-leb a.sample b.sample above) in
              Prim.absurd (true≢false (sym both ∙ on))
        ]
      ]
    ]

-- the better of two is no worse than either, and is one of them
pub better-is : (a b : Best) → ((better a b ≡ a) × IsNoWorse a b) ⊎ ((better a b ≡ b) × IsNoWorse b a)
better-is a b =
    elim (cases_Bool (is_no_worse a b)) [
      | inl good ↦ inl (ap (λ (t : Bool). if t then a else b) good, no_worse-true a b good)
      | inr bad ↦ inr (ap (λ (t : Bool). if t then a else b) bad, no_worse-false a b bad)
    ]

-- where the first is no worse it is the best of both parts
first-best : (project : Project) (seed from first second : ℕ) (a b : Best)
    → IsBest project seed from first a → IsBest project seed (from + first) second b
    → IsNoWorse a b → IsBest project seed from (first + second) a
first-best project seed from first second a b best other good =
    let within = best.within in record {
      within = (within.0, omega (arith, within.1));
      value = best.value;
      least = λ s above below. elim (cases_lt s (from + first)) [
        | inl here ↦ best.least s above here
        | inr there ↦ no_worse-through a b (valued project seed s) good
            (other.least s there (omega arith))
      ];
    }

-- and where the second is
second-best : (project : Project) (seed from first second : ℕ) (a b : Best)
    → IsBest project seed from first a → IsBest project seed (from + first) second b
    → IsNoWorse b a → IsBest project seed from (first + second) b
second-best project seed from first second a b other best good =
    let within = best.within in record {
      within = (omega (arith, within.0), omega (arith, within.1));
      value = best.value;
      least = λ s above below. elim (cases_lt s (from + first)) [
        | inl here ↦ no_worse-through b a (valued project seed s) good (other.least s above here)
        | inr there ↦ best.least s there (omega arith)
      ];
    }

-- the better of the best of two parts is the best of both
pub best-of-parts : (project : Project) (seed from first second : ℕ) (a b : Best)
    → IsBest project seed from first a → IsBest project seed (from + first) second b
    → IsBest project seed from (first + second) (better a b)
best-of-parts project seed from first second a b p q =
    elim (better-is a b) [
      | inl one ↦ subst (IsBest project seed from (first + second)) (sym one.0)
          (first-best project seed from first second a b p q one.1)
      | inr other ↦ subst (IsBest project seed from (first + second)) (sym other.0)
          (second-best project seed from first second a b p q other.1)
    ]

-- of two that are no worse than each other each is the other
same-parts : (m s n t : ℕ) → (m < n) ⊎ ((m ≡ n) × (s ≤ t)) → (n < m) ⊎ ((n ≡ m) × (t ≤ s))
    → (m ≡ n) × (s ≡ t)
same-parts m s n t (inl p) (inl q) = absurd (omega arith)
same-parts m s n t (inl p) (inr q) = absurd (omega (arith, q.0))
same-parts m s n t (inr p) (inl q) = absurd (omega (arith, p.0))
same-parts m s n t (inr p) (inr q) = (p.0, omega (arith, p.1, q.1))

-- a best sample is no worse than another of the range
no-worse-than : (project : Project) (seed from count : ℕ) (a b : Best)
    → IsBest project seed from count a → IsBest project seed from count b → IsNoWorse a b
no-worse-than project seed from count a b p q =
    let least = p.least b.sample q.within.0 q.within.1 in
    subst (λ (m : ℕ). (a.makespan < m) ⊎ ((a.makespan ≡ m) × (a.sample ≤ b.sample))) (sym q.value)
    least

-- so a range has one best sample
pub best-unique : (project : Project) (seed from count : ℕ) (a b : Best)
    → IsBest project seed from count a → IsBest project seed from count b → a ≡ b
best-unique project seed from count a b p q =
    let same = same-parts a.makespan a.sample b.makespan b.sample
    (no-worse-than project seed from count a b p q)
    (no-worse-than project seed from count b a q p) in
    λ i. record { makespan = same.0 i; sample = same.1 i }

-- the best of one sample is this
best-alone : (project : Project) (seed from : ℕ) → IsBest project seed from 1 (valued project seed from)
best-alone project seed from = record {
  within = (omega arith, omega arith);
  value = refl;
  least = λ s above below.
      let is : from ≡ s = omega arith in
      subst (λ (x : ℕ). IsNoWorse (valued project seed from) (valued project seed x)) is
      (inr (refl, omega arith));
}

-- the computed best is the best of a sample and those after it
best_up_to-is : (project : Project) (seed from more : ℕ)
    → IsBest project seed from (more + 1) (best_up_to project seed from more)
unfolding best_up_to
best_up_to-is project seed from zero =
    let one : 1 ≡ 0 + 1 = omega arith in
    subst (λ (n : ℕ). IsBest project seed from n (valued project seed from)) one
    (best-alone project seed from)
best_up_to-is project seed from (suc more) =
    let next : more + 1 ≡ suc more = omega arith in
    let last : IsBest project seed (from + (more + 1)) 1 (valued project seed (from + suc more)) =
    subst (λ (n : ℕ). IsBest project seed (from + (more + 1)) 1 (valued project seed (from + n))) next
    (best-alone project seed (from + (more + 1))) in
    let count : more + 1 + 1 ≡ suc more + 1 = omega arith in
    subst (λ (n : ℕ). IsBest project seed from n
    (better (best_up_to project seed from more) (valued project seed (from + suc more)))) count
    (best-of-parts project seed from (more + 1) 1 (best_up_to project seed from more)
    (valued project seed (from + suc more)) (best_up_to-is project seed from more) last)

-- so the computed best is the best of a range
pub best_of-is : (project : Project) (seed from count : ℕ) → 1 ≤ count
    → IsBest project seed from count (best_of project seed from count)
best_of-is project seed from count some =
    let whole : count - 1 + 1 ≡ count = omega arith in
    subst (λ (n : ℕ). IsBest project seed from n (best_of project seed from count)) whole
    (best_up_to-is project seed from (count - 1))

-- and no other is
pub best_of-unique : (project : Project) (seed from count : ℕ) (best : Best)
    → IsBest project seed from count best → best ≡ best_of project seed from count
best_of-unique project seed from count best is =
    let within = is.within in
    let some : 1 ≤ count = omega (arith, within.0, within.1) in
    best-unique project seed from count best (best_of project seed from count) is
    (best_of-is project seed from count some)
