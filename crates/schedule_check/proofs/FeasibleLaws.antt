-- Plans without a violation and feasible schedules are the same.
use Rattle.std.proofs.Common.{◌≡◌, ◌≢◌, ℕ, zero, suc, ◌+◌, ◌-◌, ◌<◌, ◌≤◌, ◌&&◌, ◌||◌, Bool, true, false, nat_eq, nat_lt, None, List, [], ◌∷◌, ◌++◌, length, sym, refl, subst, inl, inr, arith, eq-eqb, ne_eqb}
use Rattle.std.specs.List.{All}
use Rattle.std.proofs.lemmas.Bool.{cases_lt}
use Rattle.std.proofs.lemmas.Bool.Decides.{nat_tests}
use Rattle.std.proofs.lemmas.List.Elements.{All-head, All-push, All-tail, All-weaker}
use Rattle.std.proofs.lemmas.List.FromFn.{get_or-map-range_with_len, length-map-range_with_len}
use Rattle.std.proofs.lemmas.List.Sorted.{sum_by-IsPermutation}
use Rattle.rc_instance.specs.Project.{Project, IsActivity, IsResource, activity_count, resource_count, capacity_at, duration, precedes, Precedes}
use Rattle.rc_instance.specs.Usage.{Booking, last_finish, usage, use_of}
use Rattle.rc_instance.specs.Schedule.{IsFeasible, bookings_from, bookings_of, makespan, start_at, start_of}
use Rattle.rc_instance.proofs.FeasibleLaws.{last_finish-IsPermutation}
use Rattle.rc_instance.proofs.MisfitLaws.{first_of-none}
use Rattle.rc_instance.proofs.ListLaws.{neither}
use Rattle.rc_instance.proofs.ScheduleLaws.{start_of-bookings_of}
use Rattle.schedule_check.specs.Laws.{starts_of}
use Rattle.schedule_check.specs.Violation.{early_after, early_at, first_early, first_missing, first_name_violation, first_over, first_time_violation, first_violation, first_wrong_name, is_booked, is_early, missing_at, over_at, over_of, wrong_name}
use Rattle.schedule_check.proofs.AnswerLaws.{none_of_both}
use Rattle.schedule_check.proofs.EntryLaws.{right_name}
use Rattle.schedule_check.proofs.FirstLaws.{none_at}
use Rattle.schedule_check.proofs.SameLaws.{IsPermutation-starts_of}
use Rattle.schedule_check.proofs.TurningLaws.{over_of-none, over_at-ended, within_from_none}

-- where no activity is early, each starts once its direct predecessors have ended
ended_before : (project : Project) (bookings : List Booking) (a b : ℕ)
    → first_early project bookings ≡ None
    → IsActivity project a → IsActivity project b → Precedes project a b
    → start_of bookings a + duration project a ≤ start_of bookings b
unfolding first_early early_at is_early
ended_before project bookings a b none before later precedes =
    let count = activity_count project in
    let here = none_at (early_after project bookings b) 1 count
    (none_at (early_at project bookings) 1 count none b later.0 (omega (arith, later.1))) a before.0
    (omega (arith, before.1)) in
    elim (cases_lt (start_of bookings b) (start_of bookings a + duration project a)) as
    (λ _. start_of bookings a + duration project a ≤ start_of bookings b) [
      | inl early ↦
          let test : nat_lt (start_of bookings b) (start_of bookings a + duration project a)
          ≡ true = grind (arith, nat_tests) in
          absurd (let is = rw (test, precedes) at here in cc)
      | inr ended ↦ ended
    ]

-- where no period is over-full, no capacity is exceeded
within_everywhere : (project : Project) (bookings : List Booking) (k p : ℕ)
    → first_over project bookings ≡ None
    → IsResource project k → usage project bookings k p ≤ capacity_at project k p
unfolding first_over over_at
within_everywhere project bookings k p none resource =
    let at : over_at project bookings p ≡ None =
    elim (cases_lt p (last_finish project bookings)) as (λ _. over_at project bookings p ≡ None) [
      | inl before ↦
          none_at (over_at project bookings) 0 (last_finish project bookings) none p (omega arith)
          (omega arith)
      | inr past ↦ over_at-ended project bookings p past
    ] in
    within_from_none project bookings p k
    (none_at (over_of project bookings p) 1 (resource_count project) at k resource.0
    (omega (arith, resource.1)))

-- the start that a plan gives an activity
start_at-starts_of : (project : Project) (bookings : List Booking) (a : ℕ) → IsActivity project a
    → start_at (starts_of project bookings) a ≡ start_of bookings a
unfolding start_at
start_at-starts_of project bookings a activity =
    get_or-map-range_with_len (start_of bookings) 1 (activity_count project) (a - 1) a 0
    (omega (arith, activity.0, activity.1)) (omega (arith, activity.0))

-- a plan without a violation is a feasible schedule, and its last finish is the makespan
pub feasible_without_violation : (project : Project) (bookings : List Booking)
    → first_violation project bookings ≡ None
    → IsFeasible project (starts_of project bookings)
    × (makespan project (starts_of project bookings) ≡ last_finish project bookings)
unfolding first_violation
feasible_without_violation project bookings none =
    let split = neither (first_name_violation (activity_count project) bookings)
    (first_time_violation project bookings) none in
    let time = neither (first_early project bookings) (first_over project bookings) split.1 in
    let moved = IsPermutation-starts_of project bookings split.0 in (
      record {
        count = length-map-range_with_len (start_of bookings) 1 (activity_count project);
        precedence = λ a b before later precedes.
            rw (
              start_at-starts_of project bookings a before,
              start_at-starts_of project bookings b
                  later,
            )
            (ended_before project bookings a b time.0 before later precedes);
        capacity = λ k p resource.
            omega (
              arith,
              within_everywhere project bookings k p time.1 resource,
              sum_by-IsPermutation (use_of project k p) bookings
                  (bookings_of (starts_of project bookings)) moved,
            );
      },
      sym (last_finish-IsPermutation project bookings
          (bookings_of (starts_of project bookings)) moved),
    )

-- bookings of lower activities do not book an activity
lower_not_booked : (bookings : List Booking) (a : ℕ) → All (λ b. b.activity < a) bookings
    → is_booked bookings a ≡ false
lower_not_booked [] a all = refl
lower_not_booked (b ∷ bookings) a all =
    let below : b.activity < a = All-head (λ (b : Booking). b.activity < a) b bookings all in
    let other : b.activity ≢ a = λ e. omega arith in
    rw (ne_eqb b.activity a other)
    (lower_not_booked bookings a (All-tail (λ (b : Booking). b.activity < a) b bookings all))

-- bookings in order of number have no wrong name
no_wrong_name : (count : ℕ) (earlier : List Booking) (starts : List ℕ) (a : ℕ) → 1 ≤ a
    → a + length starts ≤ count + 1
    → All (λ b. b.activity < a) earlier → first_wrong_name count earlier (bookings_from a starts)
    ≡ None
unfolding first_wrong_name
no_wrong_name count earlier [] a low fits all = refl
no_wrong_name count earlier (start ∷ starts) a low fits all =
    let booking : Booking = record { activity = a; start = start } in
    let here = right_name count earlier a low (omega arith) (lower_not_booked earlier a all) in
    let more = All-push (λ b. b.activity < a + 1) earlier booking
    (All-weaker (λ (b : Booking). b.activity < a) (λ b. b.activity < a + 1)
    (λ b h. omega arith) earlier all) (omega arith) in
    none_of_both (wrong_name count earlier a) _ here
    (no_wrong_name count (earlier ++ booking ∷ []) starts (a + 1) (omega arith) (omega arith) more)

-- they book each activity
all_booked : (starts : List ℕ) (a i : ℕ) → i < length starts
    → is_booked (bookings_from a starts) (a + i) ≡ true
all_booked [] a i inside = absurd (omega arith)
all_booked (start ∷ starts) a zero inside =
    let here : a ≡ a + 0 = omega arith in
    rw (eq-eqb a (a + 0) here) refl
all_booked (start ∷ starts) a (suc i) inside =
    let next : a + 1 + i ≡ a + suc i = omega arith in
    let later = subst (λ x. is_booked (bookings_from (a + 1) starts) x ≡ true) next
    (all_booked starts (a + 1) i (omega arith)) in
    rw later (or_true (nat_eq a (a + suc i)))
  where
    or_true : (v : Bool) → (v || true) ≡ true
    or_true true = refl
    or_true false = refl

-- an activity of a feasible schedule is not early
not_early : (project : Project) (starts : List ℕ) (a b : ℕ) → IsFeasible project starts
    → IsActivity project a → IsActivity project b → is_early project (bookings_of starts) b a
    ≡ false
unfolding is_early
not_early project starts a b feasible before later =
    let from = start_of-bookings_of starts a before.0 (omega (arith, before.1, feasible.count)) in
    let to = start_of-bookings_of starts b later.0 (omega (arith, later.1, feasible.count)) in
    rw (from, to) (by (precedes project a b) refl)
  where
    and_false : (v : Bool) → (v && false) ≡ false
    and_false true = refl
    and_false false = refl

    by : (direct : Bool) → precedes project a b ≡ direct
        → (nat_lt (start_at starts b) (start_at starts a + duration project a) && direct) ≡ false
    by false is = and_false (nat_lt (start_at starts b) (start_at starts a + duration project a))
    by true is =
        let ended = feasible.precedence a b before later is in
        let test : nat_lt (start_at starts b) (start_at starts a + duration project a)
        ≡ false = grind (arith, nat_tests) in
        rw test refl

-- the bookings of a feasible schedule have no violation
pub no_violation_of_feasible : (project : Project) (starts : List ℕ) → IsFeasible project starts
    → first_violation project (bookings_of starts) ≡ None
unfolding first_violation first_early early_at first_over over_at
no_violation_of_feasible project starts feasible =
    let count = activity_count project in
    let bookings = bookings_of starts in
    let wrong = no_wrong_name count [] starts 1 (omega arith) (omega (arith, feasible.count))
    (λ i d within. absurd (omega arith)) in
    let missing : first_missing count bookings ≡ None =
    first_of-none (missing_at bookings) 1 count
    (λ a low high.
    let same : 1 + (a - 1) ≡ a = omega arith in
    let booked = subst (λ x. is_booked bookings x ≡ true) same
    (all_booked starts 1 (a - 1) (omega (arith, feasible.count))) in
    rw booked refl) in
    let early : first_early project bookings ≡ None =
    first_of-none (early_at project bookings) 1 count
    (λ b low high. first_of-none (early_after project bookings b) 1 count
    (λ a from below. rw (not_early project starts a b feasible (from, omega arith)
    (low, omega arith)) refl)) in
    let over : first_over project bookings ≡ None =
    first_of-none (over_at project bookings) 0 (last_finish project bookings)
    (λ p from below. first_of-none (over_of project bookings p) 1 (resource_count project)
    (λ k low high. over_of-none project bookings p k (feasible.capacity k p (low, omega arith)))) in
    none_of_both (first_name_violation count bookings) (first_time_violation project bookings)
    (none_of_both (first_wrong_name count [] bookings) (first_missing count bookings) wrong missing)
    (none_of_both (first_early project bookings) (first_over project bookings) early over)
