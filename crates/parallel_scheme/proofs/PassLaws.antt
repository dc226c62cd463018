-- One pass over the list is all that the scheme books in a period.
use Rattle.std.proofs.Common.{◌≡◌, ℕ, zero, suc, ◌+◌, ◌<◌, ◌≤◌, min, List, [], ◌∷◌, ◌++◌, length, take, sym, refl, ap, ◌∙◌, subst, inl, inr, arith, slice_index}
use Rattle.std.proofs.lemmas.Bool.{cases_eq, cases_lt, false_from_ne_true}
use Rattle.std.proofs.lemmas.List.{length_push, take_all}
use Rattle.rc_instance.specs.Project.{Project, Precedes, horizon}
use Rattle.rc_instance.specs.Misfit.{HasNoMisfit}
use Rattle.rc_instance.specs.Usage.{Booking}
use Rattle.rc_instance.specs.Serial.{serial_bookings}
use Rattle.rc_instance.specs.Order.{IsFeasibleList}
use Rattle.rc_instance.proofs.OrderLaws.{feasible_list-before, place_in_feasible_list}
use Rattle.serial_plain.specs.Shown.{ShowsStarts}
use Rattle.serial_plain.proofs.StepLaws.{all_shown}
use Rattle.parallel_scheme.specs.declared.progress.Progress.{Progress}
use Rattle.parallel_scheme.specs.Parallel.{CanStart, can_start, activities_of, with_found, booked_at, booked_before, parallel_bookings, parallel_schedule}
use Rattle.parallel_scheme.specs.Passing.{IsReached, IsTold, IsVisited, WaitsUntil}
use Rattle.parallel_scheme.proofs.FindLaws.{find_first}
use Rattle.parallel_scheme.proofs.StartLaws.{can_start_decides, can_start_without}
use Rattle.parallel_scheme.proofs.ReachLaws.{booked_still, none_settled, parallel_order, parallel_reached, parallel_serial, reached_before, reached_more, reached_open}

-- between two periods in which nothing can start nothing is booked
pub skip : (project : Project) (order : List ℕ) (from t : ℕ) → IsFeasibleList project order
    → from ≤ t
    → ((a : ℕ) → WaitsUntil project (booked_before project order from) t a)
    → booked_before project order t ≡ booked_before project order from
unfolding booked_before
skip project order from zero list le waits =
    let same : from ≡ 0 = omega arith in ap (booked_before project order) (sym same)
skip project order from (suc t) list le waits =
    elim (cases_lt from (suc t))
    as (λ _. booked_before project order (suc t) ≡ booked_before project order from) [
      | inl below ↦
          let front = booked_before project order from in
          let same = skip project order from t list (omega arith)
          (λ a u early. waits a u (omega arith)) in
          let none = none_settled project order front t list.activities
          (λ a can. waits a t (omega arith) can) in
          ap (booked_at project order t (length order)) same
          ∙ booked_still project order t (length order) front none
      | inr upto ↦
          let same : from ≡ suc t = omega arith in ap (booked_before project order) (sym same)
    ]

-- the activities before a place were visited in period t, and the pass goes on
pub record IsPassing (project : Project) (order : List ℕ) (t : ℕ) (before now : List Booking)
    (place next : ℕ) : Type 0 where
  pub reached : IsReached project now t
  pub times : ℕ
  pub count : times + length now ≡ length order + length before
  pub left : booked_at project order t times now ≡ booked_before project order (suc t)
  pub waits : (j : ℕ) → j < place → WaitsUntil project now next (slice_index order j)
  pub rises : t < next
  pub within : next ≤ horizon project + 1

pub passing_none : (project : Project) (order : List ℕ) (t next : ℕ) (bookings : List Booking)
    → IsFeasibleList project order → t ≤ horizon project → next ≡ horizon project + 1
    → bookings ≡ booked_before project order t
    → IsPassing project order t bookings bookings 0 next
unfolding booked_before
passing_none project order t next bookings list time end is = record {
  reached = subst (λ bs. IsReached project bs t) (sym is) (reached_before project order list t);
  times = length order;
  count = refl;
  left = ap (booked_at project order t (length order)) is;
  waits = λ j below. Prim.absurd (omega arith);
  rises = omega arith;
  within = omega arith;
}

-- an activity at an earlier place does not follow one at a later place
not_before : (project : Project) (order : List ℕ) (j place : ℕ) → IsFeasibleList project order
    → j < place → place < length order
    → Precedes project (slice_index order place) (slice_index order j) → ⊥
not_before project order j place list below within precedes =
    let activity = list.activities place 0 within in
    let earlier = feasible_list-before project order j (slice_index order place) list
    (omega arith) activity precedes in
    list.once earlier.0 place 0 (omega (arith, earlier.1)) within earlier.2

-- once one is booked, one time less is left
booked_once : (project : Project) (order : List ℕ) (t times place : ℕ) (now : List Booking)
    → IsFeasibleList project order → place < length order → 0 < times
    → ((j : ℕ) → j < place → CanStart project now t (slice_index order j) → ⊥)
    → CanStart project now t (slice_index order place)
    → (left : ℕ) × (left + 1 ≡ times) × (booked_at project order t times now
    ≡ booked_at project order t left
    (now ++ record { activity = slice_index order place; start = t } ∷ []))
unfolding booked_at
booked_once project order t zero place now list within some before can =
    Prim.absurd (omega arith)
booked_once project order t (suc left) place now list within some before can =
    let test = can_start project now t in
    let found = find_first test order place within
    (λ j below. false_from_ne_true (test (slice_index order j)) (λ h. before j below
    ((can_start_decides project now t (slice_index order j)
    (list.activities j 0 (omega arith))).0 h)))
    ((can_start_decides project now t (slice_index order place)
    (list.activities place 0 within)).1 can) in (
      left,
      omega arith,
      ap (λ o. booked_at project order t left (with_found now t o)) found,
    )

-- where nothing was booked
passing_same : (project : Project) (order : List ℕ) (t place next result : ℕ)
    (before now : List Booking) → IsPassing project order t before now place next
    → t < result → result ≤ horizon project + 1
    → WaitsUntil project now result (slice_index order place)
    → IsPassing project order t before now (place + 1) (min next result)
passing_same project order t place next result before now passing rises within waits = record {
  reached = passing.reached;
  times = passing.times;
  count = passing.count;
  left = passing.left;
  waits = λ j below u early.
      elim (cases_eq j place) as (λ _. CanStart project now u (slice_index order j) → ⊥) [
        | inl same ↦ subst (λ i. CanStart project now u (slice_index order i) → ⊥) (sym same)
            (waits u (omega arith))
        | inr differ ↦ passing.waits j (omega arith) u (omega arith)
      ];
  rises = omega (arith, passing.rises);
  within = omega (arith, passing.within);
}

-- where the activity was booked
passing_booked : (project : Project) (order : List ℕ) (t place next result : ℕ)
    (before now after : List Booking) → IsFeasibleList project order
    → IsPassing project order t before now place next → place < length order
    → t < result → result ≤ horizon project + 1
    → WaitsUntil project after result (slice_index order place)
    → after ≡ now ++ record { activity = slice_index order place; start = t } ∷ []
    → CanStart project now t (slice_index order place)
    → IsPassing project order t before after (place + 1) (min next result)
passing_booked project order t place next result before now after list passing inside rises within
    waits is can =
    let a = slice_index order place in
    let booking : Booking = record { activity = a; start = t } in
    let room = reached_open project now t a passing.reached can in
    let once = booked_once project order t passing.times place now list inside
    (omega (arith, room, passing.count, list.count))
    (λ j below. passing.waits j below t passing.rises) can in
    record {
      reached = subst (λ bs. IsReached project bs t) (sym is)
          (reached_more project now t a passing.reached can);
      times = once.0;
      count = omega (arith, ap length is, length_push now booking, once.1, passing.count);
      left = ap (booked_at project order t once.0) is ∙ (sym once.2 ∙ passing.left);
      waits = λ j below u early again.
          elim (cases_eq j place) as (λ _. ⊥) [
            | inl same ↦ waits u (omega arith)
                (subst (λ i. CanStart project after u (slice_index order i)) same again)
            | inr differ ↦
                let first : j < place = omega arith in
                passing.waits j first u (omega arith)
                (can_start_without project now booking u (slice_index order j)
                (not_before project order j place list first inside)
                (subst (λ bs. CanStart project bs u (slice_index order j)) is again))
          ];
      rises = omega (arith, passing.rises);
      within = omega (arith, passing.within);
    }

-- one more activity was visited
pub passing_more : (project : Project) (order : List ℕ) (t place next result : ℕ)
    (before now after : List Booking) → IsFeasibleList project order
    → IsPassing project order t before now place next → place < length order
    → IsVisited project t (slice_index order place) now after result
    → IsPassing project order t before after (place + 1) (min next result)
passing_more project order t place next result before now after list passing inside visited =
    elim visited.booked
    as (λ _. IsPassing project order t before after (place + 1) (min next result)) [
      | inl same ↦ subst (λ bs. IsPassing project order t before bs (place + 1) (min next result))
          (sym same)
          (passing_same project order t place next result before now passing visited.rises
          visited.within
          (subst (λ bs. WaitsUntil project bs result (slice_index order place)) same visited.waits))
      | inr more ↦ passing_booked project order t place next result before now after list passing
          inside visited.rises visited.within visited.waits more.0 more.1
    ]

-- once all were visited, what is booked is what is booked before the next period
pub passing_all : (project : Project) (order : List ℕ) (t place next : ℕ)
    (before now : List Booking) → IsFeasibleList project order
    → IsPassing project order t before now place next → length order ≤ place
    → now ≡ booked_before project order next
passing_all project order t place next before now list passing all =
    let waits : (a : ℕ) → WaitsUntil project now next a = λ a u early can.
    let at = place_in_feasible_list project order a list can.eligible.activity in
    passing.waits at.0 (omega (arith, at.1)) u early
    (subst (CanStart project now u) (sym at.2) can) in
    let none = none_settled project order now t list.activities
    (λ a can. waits a t passing.rises can) in
    let here : now ≡ booked_before project order (suc t) =
    sym (booked_still project order t passing.times now none) ∙ passing.left in
    let rises = passing.rises in
    here ∙ sym (skip project order (suc t) next list (omega arith)
    (λ a. subst (λ bs. WaitsUntil project bs next a) here (waits a)))

-- at the end all is booked
pub passed_all : (project : Project) (order : List ℕ) (t : ℕ) → t ≡ horizon project + 1
    → booked_before project order t ≡ parallel_bookings project order
unfolding parallel_bookings
passed_all project order t end = ap (booked_before project order) end

-- and the starts that are told are the parallel schedule
pub told_all : (project : Project) (order : List ℕ) (t : ℕ) (bookings : List Booking)
    (progress : Progress) → HasNoMisfit project → IsFeasibleList project order
    → bookings ≡ booked_before project order t → t ≤ horizon project + 1 → progress.end ≤ t
    → IsTold project t bookings progress → progress.starts ≡ parallel_schedule project order
told_all project order t bookings progress none list is upto end told =
    let all = parallel_bookings project order in
    let booked = activities_of all in
    let last : t ≡ horizon project + 1 = omega (arith, told.end) in
    let same : bookings ≡ all = is ∙ passed_all project order t last in
    let whole : bookings ≡ serial_bookings project (take (length booked) booked) =
    same ∙ ((parallel_reached project order list).serial
    ∙ ap (serial_bookings project) (sym (take_all (length booked) booked (omega arith)))) in
    all_shown project booked (length booked) progress.starts
    (parallel_order project order none list) (omega arith) told.count
    (subst (λ bs. ShowsStarts bs progress.starts) whole told.starts)
    ∙ sym (parallel_serial project order list)
