-- Counts of what passes a test.
use Rattle.std.proofs.Common.{◌≡◌, ◌≢◌, ℕ, suc, ◌+◌, ◌<◌, Bool, true, false, ◌||◌, not, List, [], ◌∷◌, ◌++◌, length, nat_eq, cond, if◌then◌else◌, sym, refl, ap, ◌∙◌, subst, inl, inr, arith, true≢false}
use Rattle.std.specs.List.{AllPairs, count_by}
use Rattle.std.proofs.lemmas.Bool.{cases_eq, or_right}
use Rattle.std.proofs.lemmas.Bool.Decides.{nat_tests}
use Rattle.std.proofs.lemmas.List.Sums.{sum_by-cons}
use Rattle.rc_instance.specs.Lists.{names}
use Rattle.activity_net.proofs.NameLaws.{names_push, not_named}

-- a count of none: nothing of the list passes
pub count-none : (test : ℕ → Bool) (xs : List ℕ) (x : ℕ) → count_by test xs ≡ 0 → names xs x ≡ true
    → test x ≡ false
count-none test [] x none named = Prim.absurd (true≢false (sym named))
count-none test (y ∷ ys) x none named =
    let step = sum_by-cons (λ n. cond (test n) 1 0) y ys in
    let here : test y ≡ false =
    elim (test y) as (λ b. test y ≡ b → cond b 1 0 + count_by test ys ≡ 0 → b ≡ false) [
      | true ↦ λ e h. Prim.absurd (omega arith)
      | false ↦ λ e h. refl
    ] refl (sym step ∙ none) in
    elim (cases_eq y x) as (λ _. test x ≡ false) [
      | inl same ↦ subst (λ n. test n ≡ false) same here
      | inr differ ↦ count-none test ys x (let rest : cond (test y) 1 0 + count_by test ys
          ≡ 0 = sym step ∙ none in omega arith)
          (let f : nat_eq y x ≡ false = grind (arith, nat_tests) in rw f at named)
    ]

-- a count of some: something of the list passes
pub count-some : (test : ℕ → Bool) (xs : List ℕ) → 0 < count_by test xs
    → (x : ℕ) × (names xs x ≡ true) × (test x ≡ true)
count-some test [] some = Prim.absurd (omega arith)
count-some test (y ∷ ys) some =
    let step = sum_by-cons (λ n. cond (test n) 1 0) y ys in
    let t : nat_eq y y ≡ true = grind (arith, nat_tests) in
    elim (test y) as (λ b. test y ≡ b → cond b 1 0 + count_by test ys ≡ count_by test (y ∷ ys)
    → (x : ℕ) × (names (y ∷ ys) x ≡ true) × (test x ≡ true)) [
      | true ↦ λ e h. (y, rw t refl, e)
      | false ↦ λ e h.
          let rest = count-some test ys (omega arith) in
          (rest.0, or_right (nat_eq y rest.0) (names ys rest.0) rest.1, rest.2)
    ] refl (sym step)

-- what passes is counted
pub count-named : (test : ℕ → Bool) (xs : List ℕ) (x : ℕ) → names xs x ≡ true → test x ≡ true
    → 0 < count_by test xs
count-named test xs x named passes =
    elim (cases_eq (count_by test xs) 0) as (λ _. 0 < count_by test xs) [
      | inl none ↦ Prim.absurd (true≢false (sym passes ∙ count-none test xs x none named))
      | inr some ↦ omega arith
    ]

-- where all pass, the count is the length
pub count-all : (test : ℕ → Bool) (xs : List ℕ) → ((x : ℕ) → test x ≡ true)
    → count_by test xs ≡ length xs
count-all test [] all = refl
count-all test (x ∷ xs) all =
    let step : count_by test (x ∷ xs) ≡ cond (test x) 1 0 + count_by test xs = sum_by-cons
    (λ n. cond (test n) 1 0) x xs in
    let rest = count-all test xs all in
    step ∙ (ap (λ (b : Bool). cond b 1 0 + count_by test xs) (all x) ∙ omega arith)

-- a test of two numbers that are equal, and of two that are not
eq_true : (a b : ℕ) → a ≡ b → nat_eq a b ≡ true
eq_true a b same = grind (arith, nat_tests)

eq_false : (a b : ℕ) → a ≢ b → nat_eq a b ≡ false
eq_false a b differ = grind (arith, nat_tests)

-- the sum of one more number, where the order has one more activity
count_step : (x a now before : ℕ) (listed named : Bool) → (x ≡ a → listed ≡ false)
    → (x ≡ a → named ≡ false)
    → now + (if named then 1 else 0) ≡ before
    → (cond (not (listed || nat_eq a x)) 1 0 + now) + (if nat_eq x a || named then 1 else 0)
    ≡ cond (not listed) 1 0 + before
count_step x a now before listed named fresh once was =
    elim (cases_eq x a) as (λ _. (cond (not (listed || nat_eq a x)) 1 0 + now)
    + (if nat_eq x a || named then 1 else 0) ≡ cond (not listed) 1 0 + before) [
      | inl same ↦
          let e : now + (if false then 1 else 0) ≡ before = rw (once same) at was in
          rw (eq_true x a same, eq_true a x (sym same), fresh same) (omega arith)
      | inr differ ↦
          let other : a ≢ x = λ e. differ (sym e) in
          rw (eq_false x a differ, eq_false a x other)
          (elim listed as (λ p. (cond (not (p || false)) 1 0 + now) + (if named then 1 else 0)
          ≡ cond (not p) 1 0 + before) [
            | true ↦ omega arith
            | false ↦ omega arith
          ])
    ]

-- of distinct numbers one more is named once the order has one more activity
pub count-push : (order xs : List ℕ) (a : ℕ) → names order a ≡ false → AllPairs (λ x y. x ≢ y) xs
    → count_by (λ x. not (names (order ++ a ∷ []) x)) xs + (if names xs a then 1 else 0)
    ≡ count_by (λ x. not (names order x)) xs
count-push order [] a fresh once = refl
count-push order (x ∷ xs) a fresh once =
    let before = sum_by-cons (λ n. cond (not (names order n)) 1 0) x xs in
    let after = sum_by-cons (λ n. cond (not (names (order ++ a ∷ []) n)) 1 0) x xs in
    let rest = count-push order xs a fresh (λ i j d below within. once (suc i) (suc j) d
    (omega arith) (omega arith)) in
    let alone : x ≡ a → names xs a ≡ false = λ same. not_named xs a
    (λ h. once 0 (suc h.0) a (omega arith) (omega (arith, h.1)) (same ∙ sym h.2)) in
    ap (λ (n : ℕ). n + (if names (x ∷ xs) a then 1 else 0)) after
    ∙ (ap (λ (b : Bool). (cond (not b) 1 0 + count_by (λ n. not (names (order ++ a ∷ []) n)) xs)
    + (if names (x ∷ xs) a then 1 else 0)) (names_push order a x)
    ∙ (count_step x a _ _ (names order x) (names xs a)
    (λ same. subst (λ n. names order n ≡ false) (sym same) fresh) alone rest
    ∙ sym before))
