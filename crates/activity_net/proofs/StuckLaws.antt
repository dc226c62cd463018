-- Which activities can never be taken away.
use Rattle.std.proofs.Common.{◌≡◌, ℕ, zero, suc, ◌<◌, ◌≤◌, Bool, true, false, not, List, [], ◌∷◌, length, get_or, Option, Some, nat_eq, sym, refl, ap, ◌∙◌, subst, inl, inr, arith, true≢false, unwrap_or}
use Rattle.std.specs.List.{All, find, list_any}
use Rattle.std.proofs.lemmas.Bool.{cases_Bool, and_from, and_parts, not-true, or_cases, or_left, or_right, eqb-true}
use Rattle.std.proofs.lemmas.Bool.Decides.{nat_tests}
use Rattle.std.proofs.lemmas.List.{get_or_default, get_or-take, length-take}
use Rattle.rc_instance.specs.Lists.{names, numbers}
use Rattle.rc_instance.specs.Project.{Project, activity_count, IsActivity, Precedes, precedes}
use Rattle.rc_instance.proofs.ListLaws.{length-numbers, get_or-numbers}
use Rattle.rc_instance.proofs.OrderLaws.{Contains-numbers}
use Rattle.activity_net.specs.Network.{predecessors_of}
use Rattle.activity_net.specs.Removal.{IsBeginning, IsRemoval}
use Rattle.activity_net.specs.Tables.{is_unmarked}
use Rattle.activity_net.specs.Ring.{left_after, stuck, first_stuck, step_back}
use Rattle.activity_net.proofs.NameLaws.{names_filter, contains_named, named_contains}
use Rattle.activity_net.proofs.PredecessorLaws.{predecessors_are}
use Rattle.activity_net.proofs.RemovalLaws.{named_predecessor, predecessor_named, length-beginning-le}

-- some number of a list passes a test exactly where the list names one that passes
pub any_named : (test : ℕ → Bool) (xs : List ℕ) (x : ℕ) → names xs x ≡ true → test x ≡ true
    → list_any test xs ≡ true
any_named test [] x named passes = Prim.absurd (true≢false (sym named))
any_named test (y ∷ ys) x named passes =
    elim (or_cases (nat_eq y x) (names ys x) named) as (λ _. list_any test (y ∷ ys) ≡ true) [
      | inl here ↦ or_left (test y) (list_any test ys) (ap test (eqb-true y x here) ∙ passes)
      | inr later ↦ or_right (test y) (list_any test ys) (any_named test ys x later passes)
    ]

pub named_any : (test : ℕ → Bool) (xs : List ℕ) → list_any test xs ≡ true
    → (x : ℕ) × (names xs x ≡ true) × (test x ≡ true)
named_any test [] any = Prim.absurd (true≢false (sym any))
named_any test (y ∷ ys) any =
    let same : nat_eq y y ≡ true = grind (arith, nat_tests) in
    elim (or_cases (test y) (list_any test ys) any) as
    (λ _. (x : ℕ) × (names (y ∷ ys) x ≡ true) × (test x ≡ true)) [
      | inl here ↦ (y, or_left (nat_eq y y) (names ys y) same, here)
      | inr later ↦ let rest = named_any test ys later in
          (rest.0, or_right (nat_eq y rest.0) (names ys rest.0) rest.1, rest.2)
    ]

-- the first number that passes, where one of the list does
pub find_named : (test : ℕ → Bool) (xs : List ℕ) (x : ℕ) → names xs x ≡ true → test x ≡ true
    → (y : ℕ) × (find test xs ≡ Some y) × (names xs y ≡ true) × (test y ≡ true)
find_named test [] x named passes = Prim.absurd (true≢false (sym named))
find_named test (z ∷ zs) x named passes =
    let same : nat_eq z z ≡ true = grind (arith, nat_tests) in
    elim (cases_Bool (test z)) as (λ _. (y : ℕ) × (find test (z ∷ zs) ≡ Some y)
    × (names (z ∷ zs) y ≡ true) × (test y ≡ true)) [
      | inl here ↦ (z, rw here refl, or_left (nat_eq z z) (names zs z) same, here)
      | inr not_here ↦
          let later : names zs x ≡ true =
          elim (or_cases (nat_eq z x) (names zs x) named) as (λ _. names zs x ≡ true) [
            | inl e ↦ Prim.absurd
                (true≢false (sym passes ∙ (ap test (sym (eqb-true z x e)) ∙ not_here)))
            | inr e ↦ e
          ] in
          let rest = find_named test zs x later passes in
          (rest.0, rw not_here rest.1, or_right (nat_eq z rest.0) (names zs rest.0) rest.2, rest.3)
    ]

-- the numbers from 1 to n are those that it names
pub named_numbers : (n a : ℕ) → 1 ≤ a → a ≤ n → names (numbers n) a ≡ true
named_numbers n a from upto = named_contains (numbers n) a (Contains-numbers n a from upto)

pub numbers_named : (n a : ℕ) → names (numbers n) a ≡ true → (1 ≤ a) × (a ≤ n)
numbers_named n a named =
    let h = contains_named (numbers n) a named in
    let e = get_or-numbers n h.0 a (omega (arith, length-numbers n, h.1)) in
    (omega (arith, e, h.2), omega (arith, e, h.2, h.1, length-numbers n))

-- what is left is named among the activities
pub left_are : (project : Project) (rounds a : ℕ) → names (left_after project rounds) a ≡ true
    → IsActivity project a
unfolding left_after
left_are project zero a named = numbers_named (activity_count project) a named
left_are project (suc rounds) a named =
    let left = left_after project rounds in
    left_are project rounds a (and_parts (names left a) (list_any (λ p. precedes project p a) left)
    (sym (names_filter (λ b. list_any (λ p. precedes project p b) left) left a) ∙ named)).0

-- what is left after a round has a direct predecessor that was left before it
pub left_after-before : (project : Project) (rounds b : ℕ) → names (left_after project (suc rounds))
    b ≡ true
    → (a : ℕ) × (names (left_after project rounds) a ≡ true) × Precedes project a b
unfolding left_after
left_after-before project rounds b named =
    let left = left_after project rounds in
    named_any (λ p. precedes project p b) left (and_parts (names left b)
    (list_any (λ p. precedes project p b) left)
    (sym (names_filter (λ b. list_any (λ p. precedes project p b) left) left b) ∙ named)).1

-- what a removal does not name is left after each round
left_from_held : (project : Project) (order : List ℕ) (removed : List Bool) (rounds b : ℕ)
    → IsRemoval project order removed
    → IsActivity project b → names order b ≡ false → names (left_after project rounds) b ≡ true
unfolding left_after
left_from_held project order removed zero b removal activity out = named_numbers
    (activity_count project) b activity.0 activity.1
left_from_held project order removed (suc rounds) b removal activity out =
    let left = left_after project rounds in
    let held = removal.held b activity out in
    let by = left_from_held project order removed rounds held.by removal held.activity held.left in
    names_filter (λ b. list_any (λ p. precedes project p b) left) left b
    ∙ and_from (names left b) (list_any (λ p. precedes project p b) left)
    (left_from_held project order removed rounds b removal activity out)
    (any_named (λ p. precedes project p b) left held.by by held.precedes)

-- what stands at a place of a removal's order is gone after more rounds than the place
gone_after : (project : Project) (order : List ℕ) (rounds place : ℕ) → IsBeginning project order
    → place < rounds → place < length order
    → names (left_after project rounds) (get_or order place 0) ≡ true → ⊥
gone_after project order zero place beginning below within named = omega arith
gone_after project order (suc rounds) place beginning below within named =
    let before = left_after-before project rounds (get_or order place 0) named in
    let activity = left_are project rounds before.0 before.1 in
    let earlier = beginning.after place before.0 within activity before.2 in
    let long = length-take place order in
    let at : get_or order earlier.0 0 ≡ before.0 =
    get_or_default order earlier.0 0 before.0 (omega arith)
    ∙ (sym (get_or-take place order earlier.0 before.0 (omega arith)) ∙ earlier.2) in
    gone_after project order rounds earlier.0 beginning (omega arith) (omega arith)
    (subst (λ (a : ℕ). names (left_after project rounds) a ≡ true) (sym at) before.1)

-- the stuck activities are those that a removal does not name
pub stuck_is : (project : Project) (order : List ℕ) (removed : List Bool) (b : ℕ)
    → IsRemoval project order removed → IsActivity project b
    → names (stuck project) b ≡ not (names order b)
unfolding stuck
stuck_is project order removed b removal activity =
    elim (cases_Bool (names order b)) as (λ _. names (stuck project) b ≡ not (names order b)) [
      | inl named ↦
          let h = contains_named order b named in
          let at : get_or order h.0 0 ≡ b = get_or_default order h.0 0 b h.1 ∙ h.2 in
          let few = length-beginning-le project order removal.beginning in
          rw named (elim (cases_Bool (names (stuck project) b)) as
          (λ _. names (stuck project) b ≡ false) [
            | inl left ↦ Prim.absurd (gone_after project order (activity_count project) h.0
                removal.beginning (omega (arith, h.1)) h.1
                (subst (λ (a : ℕ). names (left_after project (activity_count project)) a ≡ true)
                (sym at) left))
            | inr out ↦ out
          ])
      | inr out ↦ rw out (left_from_held project order removed (activity_count project) b removal
          activity out)
    ]

-- a stuck activity is one of the project
pub stuck_are : (project : Project) (b : ℕ) → names (stuck project) b ≡ true → IsActivity project b
unfolding stuck
stuck_are project b named = left_are project (activity_count project) b named

-- the step back from a stuck activity goes to a stuck one that precedes it
pub step_back_is : (project : Project) (order : List ℕ) (removed : List Bool) (b : ℕ)
    → IsRemoval project order removed
    → names (stuck project) b ≡ true
    → (find (names (stuck project)) (predecessors_of project b) ≡ Some (step_back project b))
    × (names (stuck project) (step_back project b) ≡ true) × Precedes project (step_back project b)
    b
unfolding first_stuck
step_back_is project order removed b removal named =
    let activity = stuck_are project b named in
    let out : names order b ≡ false = not-true (names order b)
    (sym (stuck_is project order removed b removal activity) ∙ named) in
    let held = removal.held b activity out in
    let by : names (stuck project) held.by ≡ true = stuck_is project order removed held.by removal
    held.activity ∙ ap not held.left in
    let found = find_named (names (stuck project)) (predecessors_of project b) held.by
    (named_predecessor project held.by b held.activity ∙ held.precedes) by in
    let same : step_back project b ≡ found.0 = ap (λ (o : Option ℕ). unwrap_or o 0) found.1 in (
      found.1 ∙ ap Some (sym same),
      subst (λ (a : ℕ). names (stuck project) a ≡ true) (sym same) found.3,
      subst (λ (a : ℕ). Precedes project a b) (sym same)
          (predecessor_named project found.0 b found.2).1,
    )

-- two tests that agree on a list find the same
pub find_agree : (p q : ℕ → Bool) (xs : List ℕ) → All (λ x. p x ≡ q x) xs → find p xs ≡ find q xs
find_agree p q [] agree = refl
find_agree p q (x ∷ xs) agree =
    let here : p x ≡ q x = agree 0 0 (omega arith) in
    rw (here, find_agree p q xs (λ i d within. agree (suc i) d (omega arith))) refl

-- among activities those without a mark of a removal are the stuck ones
pub find_unmarked : (project : Project) (order : List ℕ) (removed : List Bool) (xs : List ℕ)
    → IsRemoval project order removed
    → All (IsActivity project) xs → find (is_unmarked removed) xs ≡ find (names (stuck project)) xs
find_unmarked project order removed xs removal activities =
    find_agree (is_unmarked removed) (names (stuck project)) xs
    (λ i d within.
    let is = activities i d within in
    ap not (removal.shows.at (get_or xs i d) is.0 is.1)
    ∙ sym (stuck_is project order removed (get_or xs i d) removal is))

-- the search among the predecessors of a stuck activity finds the step back
pub search_back : (project : Project) (order : List ℕ) (removed marks : List Bool) (list : List ℕ)
    (b : ℕ) (result : Option ℕ)
    → IsRemoval project order removed → names (stuck project) b ≡ true
    → list ≡ predecessors_of project b → marks ≡ removed
    → result ≡ find (is_unmarked marks) list → result ≡ Some (step_back project b)
search_back project order removed marks list b result removal left is_list is_marks searched =
    let found = find_unmarked project order removed (predecessors_of project b) removal
    (predecessors_are project b).within in
    searched ∙ (ap (λ (xs : List ℕ). find (is_unmarked marks) xs) is_list
    ∙ (ap (λ (ms : List Bool). find (is_unmarked ms) (predecessors_of project b)) is_marks
    ∙ (found ∙ (step_back_is project order removed b removal left).0)))
