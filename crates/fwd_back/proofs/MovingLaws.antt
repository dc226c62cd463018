-- Which activity moves next, and what stays when it has.
use Rattle.std.proofs.Common.{◌≡◌, ◌≢◌, ℕ, zero, suc, ◌+◌, ◌<◌, ◌≤◌, ◌&&◌, Bool, true, false, List, [], ◌∷◌, ◌++◌, length, get_or, nat_eq, nat_le, sym, ◌∙◌, subst, inl, inr, arith, le-leb, leb-true}
use Rattle.std.specs.List.{All, AllPairs}
use Rattle.std.proofs.lemmas.Bool.{and_from, and_parts, or_parts}
use Rattle.std.proofs.lemmas.List.{map_push}
use Rattle.std.proofs.lemmas.List.Elements.{All-contains, All-push, Contains-get_or}
use Rattle.std.proofs.lemmas.List.Sums.{list_all-from_AllPass, AllPass-from_list_all}
use Rattle.rc_instance.specs.Lists.{last_below, names, numbers}
use Rattle.rc_instance.specs.Project.{Project, IsActivity, Precedes, activity_count, duration, precedes, successors_of}
use Rattle.rc_instance.specs.Calendar.{IsWithinLimits}
use Rattle.rc_instance.specs.Usage.{Booking, Fits, IsLastBy}
use Rattle.rc_instance.specs.Order.{IsFeasibleList}
use Rattle.rc_instance.specs.Schedule.{IsFeasible, makespan, start_at}
use Rattle.rc_instance.proofs.LimitLaws.{successors_are}
use Rattle.rc_instance.proofs.ListLaws.{last_below-is}
use Rattle.rc_instance.proofs.OrderLaws.{Contains-numbers, feasible_list-before, place_in_feasible_list}
use Rattle.rc_instance.proofs.SetLaws.{numbers_that}
use Rattle.activity_net.proofs.NameLaws.{contains_named, named_contains, names_filter, names_push}
use Rattle.serial_plain.specs.Shown.{finish_at}
use Rattle.fwd_back.specs.Backward.{activities_of, due, ends_last, may_move, movable, next_moved}
use Rattle.fwd_back.specs.Moving.{EndsFirst, IsNextMoved}
use Rattle.fwd_back.proofs.BookedLaws.{all_or_some, distinct_push, same_place}
use Rattle.fwd_back.proofs.FitLaws.{Fits-present, IsMoved}
use Rattle.fwd_back.proofs.DueLaws.{due-ge, may_move-fresh, may_move-from}

-- an activity that may move next is one of the movable ones
movable_named : (project : Project) (moved : List ℕ) (a : ℕ) → IsActivity project a
    → may_move project moved a ≡ true → names (movable project moved) a ≡ true
unfolding movable
movable_named project moved a activity may =
    let n = activity_count project in
    names_filter (may_move project moved) (numbers n) a
    ∙ and_from _ _ (named_contains (numbers n) a (Contains-numbers n a activity.0 activity.1)) may

-- and the other way round
named_movable : (project : Project) (moved : List ℕ) (a : ℕ)
    → names (movable project moved) a ≡ true
    → IsActivity project a × (may_move project moved a ≡ true)
unfolding movable
named_movable project moved a named =
    let n = activity_count project in
    let test = may_move project moved in
    let parts = and_parts (names (numbers n) a) (test a)
    (sym (names_filter test (numbers n) a) ∙ named) in
    let is : IsActivity project a = All-contains (IsActivity project) (movable project moved) a
    (numbers_that n test).within (contains_named (movable project moved) a named) in
    (is, parts.1)

-- what ends first ends no later
pub EndsFirst-le : (project : Project) (starts : List ℕ) (b a : ℕ) → EndsFirst project starts b a
    → finish_at project starts b ≤ finish_at project starts a
EndsFirst-le project starts b a (inl before) = omega arith
EndsFirst-le project starts b a (inr same) = omega (arith, same.0)

-- and where it ends no earlier, its number is no greater
EndsFirst-number : (project : Project) (starts : List ℕ) (b a : ℕ) → EndsFirst project starts b a
    → finish_at project starts a ≤ finish_at project starts b → b ≤ a
EndsFirst-number project starts b a (inl before) after = Prim.absurd (omega arith)
EndsFirst-number project starts b a (inr same) after = same.1

-- the next activity is the computed one
pub next_moved-is : (project : Project) (starts moved : List ℕ) (a : ℕ)
    → IsNextMoved project starts moved (activity_count project) a
    → next_moved project starts moved ≡ a
unfolding next_moved
next_moved-is project starts moved a next =
    let n = activity_count project in
    let end : ℕ → ℕ = finish_at project starts in
    let all = movable project moved in
    let test : ℕ → Bool = λ x. names all x && ends_last project starts all x in
    let named = movable_named project moved a next.activity next.may in
    let good : ends_last project starts all a ≡ true =
    list_all-from_AllPass (λ b. nat_le (end b) (end a)) all
    (λ k d within.
    let b = get_or all k d in
    let is = named_movable project moved b
    (named_contains all b (Contains-get_or all k d within)) in
    le-leb (end b) (end a)
    (EndsFirst-le project starts b a (next.last b is.0 is.0.1 is.1))) in
    let passes : test a ≡ true =
    and_from (names all a) (ends_last project starts all a) named good in
    let found = last_below-is test (n + 1) a (omega (arith, next.activity.1)) passes in
    let r = last_below test (n + 1) in
    let parts = and_parts (names all r) (ends_last project starts all r) found.0 in
    let is = named_movable project moved r parts.0 in
    let after = leb-true (end a) (end r)
    (All-contains (λ b. nat_le (end b) (end r) ≡ true) all a
    (AllPass-from_list_all (λ b. nat_le (end b) (end r)) all parts.1)
    (contains_named all a named)) in
    let upto = EndsFirst-number project starts r a (next.last r is.0 is.0.1 is.1) after in
    omega (arith, found.2, upto)

-- above each activity that has not moved, at a place of a feasible list, there is one that may move
-- next and ends no earlier
movable_from : (project : Project) (order starts moved : List ℕ) → IsWithinLimits project
    → IsFeasibleList project order → IsFeasible project starts
    → (left place : ℕ) → length order ≤ place + left → place < length order
    → names moved (get_or order place 0) ≡ false
    → (a : ℕ) × IsActivity project a × (may_move project moved a ≡ true)
    × (finish_at project starts (get_or order place 0) ≤ finish_at project starts a)
unfolding precedes
movable_from project order starts moved limits list feasible zero place enough within unmoved =
    Prim.absurd (omega arith)
movable_from project order starts moved limits list feasible (suc left) place enough within
    unmoved =
    let c = get_or order place 0 in
    let activity : IsActivity project c = list.activities place 0 within in
    let after = successors_of project c in
    elim (all_or_some (names moved) after) [
      | inl all ↦ (c, activity, may_move-from project moved c unmoved all, omega arith)
      | inr some ↦
          let s = some.0 in
          let is : IsActivity project s = All-contains (IsActivity project) after s
          (successors_are project c limits activity).within some.1 in
          let before : Precedes project c s = named_contains after s some.1 in
          let at = place_in_feasible_list project order s list is in
          let back = feasible_list-before project order at.0 c list at.1 activity
          (subst (Precedes project c) (sym at.2) before) in
          let here = same_place order back.0 place list.once (omega (arith, back.1, at.1)) within
          back.2 in
          let found = movable_from project order starts moved limits list feasible left at.0
          (omega (arith, back.1)) at.1
          (subst (λ x. names moved x ≡ false) (sym at.2) some.2) in
          let ends : finish_at project starts s ≤ finish_at project starts found.0 =
          subst (λ x. finish_at project starts x ≤ finish_at project starts found.0) at.2 found.3
          in (
            found.0,
            found.1,
            found.2,
            omega (arith, feasible.precedence c s activity is before, ends),
          )
    ]

-- above each activity that has not moved there is one that may move next and ends no earlier
pub movable_above : (project : Project) (order starts moved : List ℕ) (c : ℕ)
    → IsWithinLimits project → IsFeasibleList project order → IsFeasible project starts
    → IsActivity project c → names moved c ≡ false
    → (a : ℕ) × IsActivity project a × (may_move project moved a ≡ true)
    × (finish_at project starts c ≤ finish_at project starts a)
movable_above project order starts moved c limits list feasible activity unmoved =
    let at = place_in_feasible_list project order c list activity in
    let found = movable_from project order starts moved limits list feasible (length order) at.0
    (omega arith) at.1 (subst (λ x. names moved x ≡ false) (sym at.2) unmoved) in (
      found.0,
      found.1,
      found.2,
      subst (λ x. finish_at project starts x ≤ finish_at project starts found.0) at.2 found.3,
    )

-- the next activity has a start that fits and ends by its due period: its own in the schedule
pub present_fits : (project : Project) (starts : List ℕ) (moved : List Booking) (a : ℕ)
    → IsWithinLimits project → IsFeasible project starts → IsMoved project starts moved
    → IsActivity project a → may_move project (activities_of moved) a ≡ true
    → (start_at starts a + duration project a ≤ due project (makespan project starts) moved a)
    × Fits project moved a (start_at starts a)
present_fits project starts moved a limits feasible is activity may = (
  due-ge project starts moved a limits feasible is activity may,
  Fits-present project starts moved a feasible is activity
      (may_move-fresh project (activities_of moved) a may),
)

-- the activities of one more booking
pub activities_push : (moved : List Booking) (a t : ℕ)
    → activities_of (moved ++ record { activity = a; start = t } ∷ [])
    ≡ activities_of moved ++ a ∷ []
activities_push moved a t =
    let own : Booking = record { activity = a; start = t } in
    map_push (λ (b : Booking). b.activity) moved own

-- at its latest start by its due period the next activity joins those that have moved
pub IsMoved_push : (project : Project) (order starts : List ℕ) (moved : List Booking) (a t : ℕ)
    → IsWithinLimits project → IsFeasibleList project order → IsFeasible project starts
    → IsMoved project starts moved
    → IsNextMoved project starts (activities_of moved) (activity_count project) a
    → IsLastBy project moved a (due project (makespan project starts) moved a) t
    → IsMoved project starts (moved ++ record { activity = a; start = t } ∷ [])
IsMoved_push project order starts moved a t limits list feasible is next last =
    let all = activities_of moved in
    let own : Booking = record { activity = a; start = t } in
    let fits = present_fits project starts moved a limits feasible is next.activity next.may in
    let more = sym (activities_push moved a t) in
    record {
      activities = subst (All (IsActivity project)) more
          (All-push (IsActivity project) all a is.activities next.activity);
      once = subst (AllPairs (λ x y. x ≢ y)) more
          (distinct_push all a is.once (may_move-fresh project all a next.may));
      later = All-push (λ (b : Booking). start_at starts b.activity ≤ b.start) moved own is.later
          (last.last (start_at starts a) fits.0 fits.1);
      last = λ c activity unmoved.
          let parts = or_parts (names all c) (nat_eq a c)
          (sym (names_push all a c)
          ∙ subst (λ xs. names xs c ≡ false) (activities_push moved a t) unmoved)
          in
          let above = movable_above project order starts all c limits list feasible activity parts.0
          in
          let upto = EndsFirst-le project starts above.0 a
          (next.last above.0 above.1 above.1.1 above.2) in
          All-push
          (λ (b : Booking). finish_at project starts c ≤ finish_at project starts b.activity)
          moved own (is.last c activity parts.0) (omega (arith, above.3));
    }
