-- The parallel schedule lets nothing wait that could run.
use Rattle.std.proofs.Common.{◌≡◌, ◌≢◌, ℕ, zero, suc, ◌+◌, ◌-◌, ◌<◌, ◌≤◌, Bool, true, false, None, Some, List, [], ◌∷◌, ◌++◌, length, get_or, sym, refl, ap, ◌∙◌, subst, inl, inr, arith, nat_le, if◌then◌else◌, append-nil, append_assoc, le-leb, slice_index}
use Rattle.std.specs.List.{All, AllPairs, Contains, filter, find, sum_by}
use Rattle.std.specs.List.Sorted.{IsPermutation}
use Rattle.std.proofs.lemmas.Bool.{cases_lt, cond-true, cond-false, lt-leb}
use Rattle.std.proofs.lemmas.List.{length-map, length-append, get_or-map, get_or_append_left, get_or_default, map-append}
use Rattle.std.proofs.lemmas.List.Elements.{All-nil, All-cons, All-append, All-map, All-contains, All-filter, All-weaker, filter_passes, filter-append, Contains-append_cases}
use Rattle.std.proofs.lemmas.List.FromFn.{get_or-map-range_with_len}
use Rattle.std.proofs.lemmas.List.Sorted.{sum_by-IsPermutation}
use Rattle.std.proofs.lemmas.List.Sums.{sum_by-cons}
use Rattle.rc_instance.specs.Project.{Project, IsActivity, activity_count, horizon, precedes}
use Rattle.rc_instance.specs.Misfit.{HasNoMisfit}
use Rattle.rc_instance.specs.Usage.{Booking, usage, use_of}
use Rattle.rc_instance.specs.Serial.{serial_bookings}
use Rattle.rc_instance.specs.Order.{IsFeasibleList}
use Rattle.rc_instance.specs.Schedule.{bookings_of, start_at, start_of}
use Rattle.rc_instance.proofs.UsageLaws.{last_finish-le}
use Rattle.rc_instance.proofs.OrderLaws.{place_in_feasible_list}
use Rattle.rc_instance.proofs.ScheduleLaws.{finish-le-makespan, start_of-booked}
use Rattle.rc_instance.proofs.FeasibleLaws.{IsPermutation-serial_schedule}
use Rattle.serial_plain.specs.Shown.{ShowsStarts}
use Rattle.parallel_scheme.specs.Parallel.{can_start, activities_of, with_found, booked_at, booked_before, parallel_bookings, parallel_schedule}
use Rattle.parallel_scheme.specs.NonDelay.{IsNonDelay, started_by}
use Rattle.parallel_scheme.specs.Passing.{IsReached}
use Rattle.parallel_scheme.proofs.FindLaws.{filter_kept, filter_dropped}
use Rattle.parallel_scheme.proofs.ReachLaws.{parallel_reached, parallel_order, parallel_serial, reached_in, makespan-parallel, IsFeasible-parallel}

-- bookings are some that are known, and more of them from a period on
pub record IsMore (from : ℕ) (before after : List Booking) : Type 0 where
  pub more : List Booking
  pub is : after ≡ before ++ more
  pub late : All (λ b. from ≤ b.start) more

nothing_more : (from : ℕ) (bookings : List Booking) → IsMore from bookings bookings
nothing_more from bookings =
    record { more = []; is = sym (append-nil bookings); late = All-nil _ }

still_more : (from : ℕ) (first second third : List Booking) → IsMore from first second
    → IsMore from second third → IsMore from first third
still_more from first second third one other = record {
  more = one.more ++ other.more;
  is = other.is ∙ (ap (λ bs. bs ++ other.more) one.is ∙ append_assoc first one.more other.more);
  late = All-append (λ (b : Booking). from ≤ b.start) one.more other.more one.late other.late;
}

-- in a period more is booked at it
more_at : (project : Project) (order : List ℕ) (from t times : ℕ) (bookings : List Booking)
    → from ≤ t → IsMore from bookings (booked_at project order t times bookings)
unfolding booked_at
more_at project order from t zero bookings le = nothing_more from bookings
more_at project order from t (suc times) bookings le =
    elim (find (can_start project bookings t) order)
    as (λ o. IsMore from bookings (booked_at project order t times (with_found bookings t o))) [
      | None ↦ more_at project order from t times bookings le
      | Some a ↦
          let next : Booking = record { activity = a; start = t } in
          let one : IsMore from bookings (bookings ++ next ∷ []) = record {
            more = next ∷ [];
            is = refl;
            late = All-cons (λ (b : Booking). from ≤ b.start) next [] le (All-nil _);
          } in
          still_more from bookings (bookings ++ next ∷ []) _ one
          (more_at project order from t times (bookings ++ next ∷ []) le)
    ]

-- and up to a later period more from the earlier one on
more_before : (project : Project) (order : List ℕ) (from t : ℕ) → from ≤ t
    → IsMore from (booked_before project order from) (booked_before project order t)
unfolding booked_before
more_before project order from zero le =
    let same : from ≡ 0 = omega arith in
    subst (λ t. IsMore from (booked_before project order from) (booked_before project order t)) same
    (nothing_more from (booked_before project order from))
more_before project order from (suc t) le =
    elim (cases_lt from (suc t))
    as (λ _. IsMore from (booked_before project order from) (booked_before project order (suc t))) [
      | inl below ↦
          let before = booked_before project order t in
          still_more from (booked_before project order from) before
          (booked_at project order t (length order) before)
          (more_before project order from t (omega arith))
          (more_at project order from t (length order) before (omega arith))
      | inr upto ↦
          let same : from ≡ suc t = omega arith in
          subst (λ u. IsMore from (booked_before project order from) (booked_before project order u))
          same (nothing_more from (booked_before project order from))
    ]

parallel_more : (project : Project) (order : List ℕ) (from : ℕ) → from ≤ horizon project + 1
    → IsMore from (booked_before project order from) (parallel_bookings project order)
unfolding parallel_bookings
parallel_more project order from le = more_before project order from (horizon project + 1) le

-- an activity's start in the parallel schedule is its start among the bookings
start_at-parallel : (project : Project) (order : List ℕ) (a : ℕ) → IsActivity project a
    → start_at (parallel_schedule project order) a ≡ start_of (parallel_bookings project order) a
unfolding parallel_schedule start_at
start_at-parallel project order a activity =
    get_or-map-range_with_len (start_of (parallel_bookings project order)) 1
    (activity_count project) (a - 1) a 0 (omega arith) (omega arith)

-- bookings of distinct activities
distinct_bookings : (bookings : List Booking) → AllPairs (λ a b. a ≢ b) (activities_of bookings)
    → AllPairs (λ (a b : Booking). a.activity ≢ b.activity) bookings
distinct_bookings bookings once = λ i j d below within.
    let long = length-map bookings (λ (b : Booking). b.activity) in
    let first = get_or-map (λ (b : Booking). b.activity) bookings i d 0 (omega arith) in
    let second = get_or-map (λ (b : Booking). b.activity) bookings j d 0 within in
    λ same. once i j 0 below (omega arith) (first ∙ (same ∙ sym second))

-- the parallel schedule shows what the scheme books
pub parallel_shown : (project : Project) (order : List ℕ) → IsFeasibleList project order
    → ShowsStarts (parallel_bookings project order) (parallel_schedule project order)
parallel_shown project order list = λ i d within.
    let bookings = parallel_bookings project order in
    let beginning = (parallel_reached project order list).beginning in
    let long = length-map bookings (λ (b : Booking). b.activity) in
    let at = get_or-map (λ (b : Booking). b.activity) bookings i d 0 within in
    let activity = subst (IsActivity project) at (beginning.activities i 0 (omega arith)) in
    start_at-parallel project order (get_or bookings i d).activity activity
    ∙ start_of-booked bookings (distinct_bookings bookings beginning.once) i d within

-- what holds of all bookings holds of the first of them, and of the others
All-first : (P : Booking → Type 0) (xs ys : List Booking) → All P (xs ++ ys) → All P xs
All-first P xs ys all = λ i d within.
    subst P (get_or_append_left xs ys d i within) (all i d (omega (arith, length-append xs ys)))

All-later : (P : Booking → Type 0) (xs ys : List Booking) → All P (xs ++ ys) → All P ys
All-later P [] ys all = all
All-later P (x ∷ xs) ys all =
    All-later P xs ys (λ i d within. all (suc i) d (omega arith))

-- what holds of the starts of bookings that a schedule shows holds of the start of each activity
start_contained : (P : ℕ → Type 0) (bookings : List Booking) (starts : List ℕ) (a : ℕ)
    → ShowsStarts bookings starts → All (λ b. P b.start) bookings
    → Contains (activities_of bookings) a → P (start_at starts a)
start_contained P bookings starts a shown all contained =
    All-contains (λ x. P (start_at starts x)) (activities_of bookings) a
    (All-map (λ x. P (start_at starts x)) (λ (b : Booking). b.activity) bookings
    (λ i d within. subst P (sym (shown i d within)) (all i d within)))
    contained

-- a sum over what a filter keeps is one over all, in which the others count nothing
sum_by-filter : (test : Booking → Bool) (f : Booking → ℕ) (xs : List Booking)
    → sum_by f (filter test xs) ≡ sum_by (λ x. if test x then f x else 0) xs
sum_by-filter test f [] = refl
sum_by-filter test f (x ∷ xs) =
    let rest = sum_by-filter test f xs in
    let cons = sum_by-cons (λ y. if test y then f y else 0) x xs in
    elim (test x) as (λ b. test x ≡ b → sum_by f (if b then x ∷ filter test xs else filter test xs)
    ≡ sum_by (λ y. if test y then f y else 0) (x ∷ xs)) [
      | true ↦ λ e.
          let here = cond-true (test x) (f x) 0 e in
          omega (arith, sum_by-cons f x (filter test xs), rest, cons, here)
      | false ↦ λ e.
          let here = cond-false (test x) (f x) 0 e in omega (arith, rest, cons, here)
    ] refl

-- what has started by t of the parallel schedule uses what was booked up to t
usage_started : (project : Project) (order : List ℕ) (t k p : ℕ) → HasNoMisfit project
    → IsFeasibleList project order → suc t ≤ horizon project + 1
    → usage project (started_by t (bookings_of (parallel_schedule project order))) k p
    ≡ usage project (booked_before project order (suc t)) k p
usage_started project order t k p none list within =
    let all = parallel_bookings project order in
    let listed = activities_of all in
    let schedule = bookings_of (parallel_schedule project order) in
    let front = booked_before project order (suc t) in
    let rest = parallel_more project order (suc t) within in
    let test : Booking → Bool = λ b. nat_le b.start t in
    let used : Booking → ℕ = use_of project k p in
    let reached = parallel_reached project order list in
    let moved : IsPermutation all schedule =
    subst (λ bs. IsPermutation bs schedule) (sym reached.serial)
    (subst (λ starts. IsPermutation (serial_bookings project listed) (bookings_of starts))
    (sym (parallel_serial project order list))
    (IsPermutation-serial_schedule project listed (parallel_order project order none list))) in
    let kept : filter test front ≡ front =
    filter_kept test front (All-weaker (λ (b : Booking). b.start ≤ t) (λ b. test b ≡ true)
    (λ b h. le-leb b.start t h) front (reached_in project order t list).0.by) in
    let dropped : filter test rest.more ≡ [] =
    filter_dropped test rest.more
    (All-weaker (λ (b : Booking). suc t ≤ b.start) (λ b. test b ≡ false)
    (λ b h. lt-leb b.start t (omega arith)) rest.more rest.late) in
    let split : filter test all ≡ front =
    ap (filter test) rest.is
    ∙ (filter-append test front rest.more
    ∙ (ap (λ bs. bs ++ filter test rest.more) kept
    ∙ (ap (λ bs. front ++ bs) dropped ∙ append-nil front))) in
    sum_by-filter test used schedule
    ∙ (sum_by-IsPermutation (λ b. if test b then used b else 0) all schedule moved
    ∙ (sym (sum_by-filter test used all) ∙ ap (sum_by used) split))

-- a number at a place of a list is contained
contains_place : (xs : List ℕ) (x i : ℕ) → i < length xs → slice_index xs i ≡ x → Contains xs x
contains_place xs x i within at = (i, within, get_or_default xs i x 0 within ∙ at)

-- what is reached is of activities
pub activities_are : (project : Project) (bookings : List Booking) (t : ℕ)
    → IsReached project bookings t → All (λ b. IsActivity project b.activity) bookings
activities_are project bookings t reached = λ i d within.
    let long = length-map bookings (λ (b : Booking). b.activity) in
    subst (IsActivity project) (get_or-map (λ (b : Booking). b.activity) bookings i d 0 within)
    (reached.beginning.activities i 0 (omega arith))

-- the parallel schedule of a feasible list is non-delay
pub IsNonDelay-parallel : (project : Project) (order : List ℕ) → HasNoMisfit project
    → IsFeasibleList project order → IsNonDelay project (parallel_schedule project order)
IsNonDelay-parallel project order none list = record {
  each = λ a t activity early ended fits.
      let starts = parallel_schedule project order in
      let all = parallel_bookings project order in
      let front = booked_before project order (suc t) in
      let count = (IsFeasible-parallel project order none list).count in
      let soon = finish-le-makespan project starts a activity.0 (omega arith) in
      let end = makespan-parallel project order none list in
      let within : suc t ≤ horizon project + 1 = omega arith in
      let rest = parallel_more project order (suc t) within in
      let here = reached_in project order t list in
      let shown : ShowsStarts (front ++ rest.more) starts =
      subst (λ bs. ShowsStarts bs starts) rest.is (parallel_shown project order list) in
      let P : Booking → Type 0 = λ b. start_at starts b.activity ≡ b.start in
      let shown_front : ShowsStarts front starts = All-first P front rest.more shown in
      let shown_rest : ShowsStarts rest.more starts = All-later P front rest.more shown in
      let split : activities_of all ≡ activities_of front ++ activities_of rest.more =
      ap activities_of rest.is ∙ map-append (λ (b : Booking). b.activity) front rest.more in
      let feasible = parallel_order project order none list in
      let test : Booking → Bool = λ b. precedes project b.activity a in
      let passes = filter_passes test front in
      let named = All-filter test (λ b. start_at starts b.activity ≡ b.start) front shown_front in
      let are = All-filter test (λ b. IsActivity project b.activity) front
      (activities_are project front t here.0) in
      here.1 a (record {
        eligible = record {
          activity = activity;
          unlisted = λ h. omega (arith, start_contained (λ s. s ≤ t) front starts a shown_front here.0.by h);
          ready = λ p is before.
              let place = place_in_feasible_list project (activities_of all) p feasible is in
              let contained : Contains (activities_of front ++ activities_of rest.more) p =
              rw split at (contains_place (activities_of all) p place.0 place.1 place.2) in
              elim (Contains-append_cases (activities_of front) (activities_of rest.more) p contained)
              as (λ _. Contains (activities_of front) p) [
                | inl earlier ↦ earlier
                | inr later ↦
                    let soon = ended p is before in
                    Prim.absurd (omega (
                      arith,
                      start_contained (λ s. suc t ≤ s) rest.more starts p
                          shown_rest rest.late later,
                    ))
              ];
        };
        ready = last_finish-le project (filter test front) t (λ i d inside.
            let b = get_or (filter test front) i d in
            let by = ended b.activity (are i d inside) (passes i d inside) in
            let same : start_at starts b.activity ≡ b.start = named i d inside in
            omega arith);
        fits = record {
          within = λ k p resource from below.
              omega (
                arith,
                fits.within k p resource from below,
                usage_started project order t k p none list within,
              );
        };
      });
}
