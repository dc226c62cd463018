-- The ring that is shown is a cycle.
use Rattle.std.proofs.Common.{◌≡◌, ◌≢◌, ℕ, zero, suc, ◌+◌, ◌-◌, ◌<◌, ◌≤◌, Bool, true, false, not, Some, None, List, [], ◌∷◌, ◌++◌, length, get_or, take, drop, reverse, nat_eq, nat_lt, sym, refl, ap, ◌∙◌, subst, inl, inr, arith, true≢false, if◌then◌else◌}
use Rattle.std.specs.List.{All, AllPairs, position, position_or_len}
use Rattle.std.proofs.lemmas.Bool.{cases_eq, cases_lt, cases_Bool, eqb-true, eq-eqb, lt-ltb, not-false}
use Rattle.std.proofs.lemmas.List.{get_or_push, get_or_append_left, get_or-append_right, get_or_default, get_or-reverse, get_or-drop, get_or-take, length_push, length-append, length-drop, length-take, length-reverse, take_all, drop_all}
use Rattle.std.proofs.lemmas.List.Elements.{All-push}
use Rattle.std.proofs.lemmas.List.Quantifiers.{all_pairs_push, position-Some}
use Rattle.std.proofs.lemmas.List.Sums.{prefix_len_passes, prefix_len_stops, prefix_len-le-length}
use Rattle.rc_instance.specs.Lists.{names}
use Rattle.rc_instance.specs.Project.{Project, activity_count, IsActivity, Precedes}
use Rattle.rc_instance.specs.Order.{IsCycle}
use Rattle.activity_net.specs.Removal.{IsRemoval}
use Rattle.activity_net.specs.Ring.{stuck, step_back, least, least_stuck, place_of, way_back, from_least, shown_ring}
use Rattle.activity_net.proofs.NameLaws.{contains_named, named_contains}
use Rattle.activity_net.proofs.RemovalLaws.{distinct_few}
use Rattle.activity_net.proofs.StuckLaws.{stuck_are, step_back_is}

-- the place that a search answers, and what no answer says
pub place-some : (test : ℕ → Bool) (xs : List ℕ) (k : ℕ) → position test xs ≡ Some k
    → k ≡ position_or_len test xs
place-some test xs k is =
    elim (nat_lt (position_or_len test xs) (length xs)) as
    (λ b. (if b then Some (position_or_len test xs) else None) ≡ Some k
    → k ≡ position_or_len test xs) [
      | true ↦ λ e. cc
      | false ↦ λ e. cc
    ] is

pub place-within : (n : ℕ) (xs : List ℕ) → names xs n ≡ true
    → (place_of n xs < length xs) × (get_or xs (place_of n xs) 0 ≡ n)
place-within n xs named =
    let h = contains_named xs n named in
    let most = prefix_len-le-length (λ x. not (nat_eq x n)) xs in
    let within : place_of n xs < length xs =
    elim (cases_lt (place_of n xs) (length xs)) as (λ _. place_of n xs < length xs) [
      | inl less ↦ less
      | inr past ↦
          let passes : not (nat_eq (get_or xs h.0 n) n) ≡ true = prefix_len_passes
          (λ x. not (nat_eq x n)) xs h.0 n (omega (arith, h.1)) in
          let equal : nat_eq (get_or xs h.0 n) n ≡ true = eq-eqb (get_or xs h.0 n) n h.2 in
          Prim.absurd (true≢false (sym passes ∙ ap not equal))
    ] in (
      within,
      eqb-true (get_or xs (place_of n xs) 0) n (not-false (nat_eq (get_or xs (place_of n xs) 0) n)
          (prefix_len_stops (λ x. not (nat_eq x n)) xs 0 within)),
    )

pub place-none : (n : ℕ) (xs : List ℕ) → position (λ x. nat_eq x n) xs ≡ None → names xs n ≡ false
place-none n xs is =
    elim (cases_Bool (names xs n)) as (λ _. names xs n ≡ false) [
      | inl named ↦
          let within : nat_lt (place_of n xs) (length xs) ≡ true = lt-ltb (place_of n xs)
          (length xs) (place-within n xs named).0 in
          let some : (if nat_lt (place_of n xs) (length xs) then Some (place_of n xs) else None)
          ≡ None = is in
          let wrong : Some (place_of n xs) ≡ None = rw within at some in
          Prim.absurd (cc)
      | inr fresh ↦ fresh
    ]

pub named-some : (n : ℕ) (xs : List ℕ) (k : ℕ) → position (λ x. nat_eq x n) xs ≡ Some k
    → names xs n ≡ true
named-some n xs k is =
    let h = position-Some (λ x. nat_eq x n) xs k n is in
    named_contains xs n (k, h.0, eqb-true (get_or xs k n) n h.1)

-- the way back, by its cases
pub way_back-found : (project : Project) (steps : ℕ) (passed : List ℕ) (b : ℕ) → 0 < steps
    → names passed b ≡ true
    → way_back project steps passed b ≡ drop (place_of b passed) passed
unfolding way_back
way_back-found project zero passed b some named = Prim.absurd (omega arith)
way_back-found project (suc steps) passed b some named = rw named refl

pub way_back-more : (project : Project) (steps : ℕ) (passed : List ℕ) (b : ℕ) → 0 < steps
    → names passed b ≡ false
    → way_back project steps passed b ≡ way_back project (steps - 1) (passed ++ b ∷ [])
    (step_back project b)
unfolding way_back
way_back-more project zero passed b some fresh = Prim.absurd (omega arith)
way_back-more project (suc steps) passed b some fresh =
    let same : suc steps - 1 ≡ steps = omega arith in rw (fresh, same) refl

-- what was passed on a way back to b: stuck activities, each once, each the step back from the one
-- before
pub record IsWay (project : Project) (passed : List ℕ) (b : ℕ) : Type 0 where
  pub steps : (i : ℕ) → i < length passed → get_or (passed ++ b ∷ []) (i + 1) 0
      ≡ step_back project (get_or passed i 0)
  pub all : All (λ a. names (stuck project) a ≡ true) passed
  pub once : AllPairs (λ x y. x ≢ y) passed
  pub here : names (stuck project) b ≡ true

pub IsWay-push : (project : Project) (passed : List ℕ) (b c : ℕ) → IsWay project passed b
    → names passed b ≡ false
    → c ≡ step_back project b → names (stuck project) c ≡ true → IsWay project (passed ++ b ∷ []) c
IsWay-push project passed b c way fresh same left =
    let long = length_push passed b in
    record {
      steps = λ i within.
          elim (cases_lt i (length passed)) as (λ _. get_or ((passed ++ b ∷ []) ++ c ∷ []) (i + 1) 0
          ≡ step_back project (get_or (passed ++ b ∷ []) i 0)) [
            | inl less ↦
                rw (
                  get_or_append_left (passed ++ b ∷ []) (c ∷ []) 0 (i + 1) (omega arith),
                  get_or_append_left passed (b ∷ []) 0 i less,
                )
                (way.steps i less)
            | inr last ↦
                let here : length passed ≡ i = omega arith in
                rw (
                  get_or_push (passed ++ b ∷ []) c 0 (i + 1) (omega arith),
                  get_or_push passed b 0
                      i here,
                ) same
          ];
      all = All-push (λ a. names (stuck project) a ≡ true) passed b way.all way.here;
      once = all_pairs_push (λ x y. x ≢ y) passed b way.once
          (λ k d within e. true≢false
          (sym (named_contains passed b (k, within, get_or_default passed k b d within ∙ e))
          ∙ fresh));
      here = left;
    }

-- where the way comes to a number that it has passed, what lies between is a cycle
IsCycle-from_way : (project : Project) (order : List ℕ) (removed : List Bool) (passed : List ℕ)
    (b : ℕ) → IsRemoval project order removed
    → IsWay project passed b → names passed b ≡ true → IsCycle project
    (reverse (drop (place_of b passed) passed))
IsCycle-from_way project order removed passed b removal way named =
    let k = place_of b passed in
    let found = place-within b passed named in
    let ring = reverse (drop k passed) in
    let long : length ring + k ≡ length passed = omega
    (arith, length-reverse (drop k passed), length-drop k passed, found.0) in
    let at : (i d : ℕ) → i < length ring → get_or ring i d ≡ get_or passed (length passed - 1 - i)
    d =
    λ i d within.
    let e : k + (length (drop k passed) - 1 - i) ≡ length passed - 1 - i = omega
    (arith, length-reverse (drop k passed), length-drop k passed) in
    get_or-reverse (drop k passed) i d (omega (arith, length-reverse (drop k passed)))
    ∙ (get_or-drop k passed (length (drop k passed) - 1 - i) d
    ∙ ap (λ (j : ℕ). get_or passed j d) e) in
    let before : (i : ℕ) → i < length passed → Precedes project
    (get_or (passed ++ b ∷ []) (i + 1) 0) (get_or passed i 0) =
    λ i within. subst (λ (a : ℕ). Precedes project a (get_or passed i 0)) (sym (way.steps i within))
    (step_back_is project order removed (get_or passed i 0) removal (way.all i 0 within)).2 in
    record {
      some = omega (arith, found.0);
      activities = λ i d within. stuck_are project (get_or ring i d)
          (subst (λ (a : ℕ). names (stuck project) a ≡ true) (sym (at i d within))
          (way.all (length passed - 1 - i) d (omega arith)));
      next = λ place within.
          let j = length passed - 2 - place in
          let here : get_or ring place 0 ≡ get_or (passed ++ b ∷ []) (j + 1) 0 =
          let e : length passed - 1 - place ≡ j + 1 = omega arith in
          at place 0 (omega arith) ∙ (ap (λ (i : ℕ). get_or passed i 0) e
          ∙ sym (get_or_append_left passed (b ∷ []) 0 (j + 1) (omega arith))) in
          let there : get_or ring (place + 1) 0 ≡ get_or passed j 0 =
          let e : length passed - 1 - (place + 1) ≡ j = omega arith in
          at (place + 1) 0 within ∙ ap (λ (i : ℕ). get_or passed i 0) e in
          rw (here, there) (before j (omega arith));
      closes = λ place last.
          let j = length passed - 1 in
          let here : get_or ring place 0 ≡ get_or (passed ++ b ∷ []) (j + 1) 0 =
          let e : length passed - 1 - place ≡ k = omega arith in
          at place 0 (omega arith) ∙ (ap (λ (i : ℕ). get_or passed i 0) e
          ∙ (found.1 ∙ sym (get_or_push passed b 0 (j + 1) (omega (arith, found.0))))) in
          let there : get_or ring 0 0 ≡ get_or passed j 0 =
          let e : length passed - 1 - 0 ≡ j = omega arith in
          at 0 0 (omega arith) ∙ ap (λ (i : ℕ). get_or passed i 0) e in
          rw (here, there) (before j (omega (arith, found.0)));
    }

-- the way back is a cycle: among more activities than there are one comes twice
way_back-cycle : (project : Project) (order : List ℕ) (removed : List Bool) (steps : ℕ)
    (passed : List ℕ) (b : ℕ) → IsRemoval project order removed
    → IsWay project passed b → length passed + steps ≡ activity_count project + 1
    → IsCycle project (reverse (way_back project steps passed b))
way_back-cycle project order removed zero passed b removal way fuel =
    let few = distinct_few project passed (λ i d within. stuck_are project (get_or passed i d)
    (way.all i d within)) way.once in
    Prim.absurd (omega arith)
way_back-cycle project order removed (suc steps) passed b removal way fuel =
    elim (cases_Bool (names passed b)) as
    (λ _. IsCycle project (reverse (way_back project (suc steps) passed b))) [
      | inl named ↦ rw (way_back-found project (suc steps) passed b (omega arith) named)
          (IsCycle-from_way project order removed passed b removal way named)
      | inr fresh ↦
          let back = step_back_is project order removed b removal way.here in
          let same : suc steps - 1 ≡ steps = omega arith in
          rw (way_back-more project (suc steps) passed b (omega arith) fresh, same)
          (way_back-cycle project order removed steps (passed ++ b ∷ []) (step_back project b)
          removal
          (IsWay-push project passed b (step_back project b) way fresh refl back.1)
          (omega (arith, length_push passed b)))
    ]

-- a cycle is one wherever it begins
IsCycle-turned : (project : Project) (ring : List ℕ) (k : ℕ) → IsCycle project ring
    → k ≤ length ring → IsCycle project (drop k ring ++ take k ring)
IsCycle-turned project ring k cycle upto =
    let turned = drop k ring ++ take k ring in
    let rest = length ring - k in
    let front : length (drop k ring) ≡ rest = length-drop k ring in
    let back : length (take k ring) ≡ k = omega (arith, length-take k ring) in
    let long : length turned ≡ length ring = omega
    (arith, length-append (drop k ring) (take k ring)) in
    let low : (i p d : ℕ) → i < rest → p ≡ k + i → get_or turned i d ≡ get_or ring p d =
    λ i p d less e. get_or_append_left (drop k ring) (take k ring) d i (omega arith)
    ∙ (get_or-drop k ring i d ∙ ap (λ (j : ℕ). get_or ring j d) (sym e)) in
    let high : (i p d : ℕ) → i < length ring → p + rest ≡ i → get_or turned i d ≡ get_or ring p d =
    λ i p d within e.
    let same : i - rest ≡ p = omega arith in
    get_or-append_right (drop k ring) (take k ring) rest i d front (omega arith)
    ∙ (get_or-take k ring (i - rest) d (omega arith) ∙ ap (λ (j : ℕ). get_or ring j d) same) in
    record {
      some = omega (arith, cycle.some);
      activities = λ i d within.
          elim (cases_lt i rest) as (λ _. IsActivity project (get_or turned i d)) [
            | inl less ↦ rw (low i (k + i) d less refl) (cycle.activities (k + i) d (omega arith))
            | inr more ↦ rw (high i (i - rest) d (omega arith) (omega arith))
                (cycle.activities (i - rest) d (omega arith))
          ];
      next = λ i within.
          elim (cases_lt (i + 1) rest) as (λ _. Precedes project (get_or turned i 0)
          (get_or turned (i + 1) 0)) [
            | inl less ↦
                rw (
                  low i (k + i) 0 (omega arith) refl,
                  low (i + 1) (k + i + 1) 0 less
                      (omega arith),
                ) (cycle.next (k + i) (omega arith))
            | inr more ↦
                elim (cases_lt i rest) as (λ _. Precedes project (get_or turned i 0)
                (get_or turned (i + 1) 0)) [
                  | inl last ↦
                      rw (low i (k + i) 0 last refl, high (i + 1) 0 0 (omega arith) (omega arith))
                      (cycle.closes (k + i) (omega arith))
                  | inr past ↦
                      rw (
                        high i (i - rest) 0 (omega arith) (omega arith),
                        high (i + 1)
                            (i - rest + 1) 0 (omega arith) (omega arith),
                      )
                      (cycle.next (i - rest) (omega arith))
                ]
          ];
      closes = λ i last.
          elim (cases_lt 0 rest) as (λ _. Precedes project (get_or turned i 0) (get_or turned 0 0)) [
            | inl some ↦
                elim (cases_eq k 0) as (λ _. Precedes project (get_or turned i 0)
                (get_or turned 0 0)) [
                  | inl whole ↦
                      rw (low i (k + i) 0 (omega arith) refl, low 0 0 0 some (omega arith))
                      (cycle.closes (k + i) (omega arith))
                  | inr part ↦
                      let e : k - 1 + 1 ≡ k = omega arith in
                      rw (
                        high i (k - 1) 0 (omega arith) (omega arith),
                        low 0 (k - 1 + 1) 0 some
                            (omega arith),
                      ) (cycle.next (k - 1) (omega arith))
                ]
            | inr none ↦
                rw (
                  high i i 0 (omega arith) (omega arith),
                  high 0 0 0 (omega (arith, cycle.some))
                      (omega arith),
                ) (cycle.closes i (omega arith))
          ];
    }

-- a search that finds nothing turns nothing
pub from_least-none : (ring : List ℕ) → position (λ x. nat_eq x (least ring)) ring ≡ None
    → from_least ring ≡ ring
unfolding from_least
from_least-none ring is =
    let past : length ring ≤ place_of (least ring) ring =
    elim (cases_lt (place_of (least ring) ring) (length ring)) as
    (λ _. length ring ≤ place_of (least ring) ring) [
      | inl less ↦
          let some : (if nat_lt (place_of (least ring) ring) (length ring) then Some
          (place_of (least ring) ring) else None) ≡ None = is in
          let wrong : Some (place_of (least ring) ring) ≡ None =
          rw (lt-ltb (place_of (least ring) ring) (length ring) less) at some in
          Prim.absurd (cc)
      | inr past ↦ past
    ] in
    rw (
      drop_all (place_of (least ring) ring) ring past,
      take_all (place_of (least ring) ring) ring
          past,
    ) refl

-- the ring that is shown, where an activity is stuck, is a cycle
pub IsCycle-shown_ring : (project : Project) (order : List ℕ) (removed : List Bool)
    → IsRemoval project order removed
    → names (stuck project) (least_stuck project) ≡ true → IsCycle project (shown_ring project)
unfolding shown_ring from_least
IsCycle-shown_ring project order removed removal left =
    let ring = reverse (way_back project (activity_count project + 1) [] (least_stuck project)) in
    let cycle = way_back-cycle project order removed (activity_count project + 1) []
    (least_stuck project) removal
    (record {
      steps = λ i within. Prim.absurd (omega arith);
      all = λ i d within. Prim.absurd (omega arith);
      once = λ i j d below within. Prim.absurd (omega arith);
      here = left;
    }) (omega arith) in
    IsCycle-turned project ring (place_of (least ring) ring) cycle
    (prefix_len-le-length (λ x. not (nat_eq x (least ring))) ring)

-- one step of the walk: nothing of its end changes
pub way_back-next : (project : Project) (order : List ℕ) (removed : List Bool)
    (passed later way : List ℕ) (here next steps rest : ℕ)
    → IsRemoval project order removed → names (stuck project) here ≡ true
    → names passed here ≡ false → 0 < steps → rest ≡ steps - 1
    → later ≡ passed ++ here ∷ [] → next ≡ step_back project here
    → way_back project steps passed here ≡ way
    → (way_back project rest later next ≡ way) × (names (stuck project) next ≡ true)
way_back-next project order removed passed later way here next steps rest removal left fresh some
    fewer more back same =
    let step = step_back_is project order removed here removal left in
    let whole = sym (way_back-more project steps passed here some fresh) ∙ same in
    (rw (fewer, more, back) whole, rw back step.1)

-- after the last step all that was passed is left
pub way_back-end : (project : Project) (steps : ℕ) (passed way : List ℕ) (here : ℕ) → steps ≡ 0
    → way_back project steps passed here ≡ way → passed ≡ way
unfolding way_back
way_back-end project steps passed way here none same = rw none at same
