-- How far a backward pass has come, step by step.
use Rattle.std.proofs.Common.{◌≡◌, ◌≢◌, ℕ, suc, ◌+◌, ◌-◌, ◌<◌, ◌≤◌, Bool, true, false, List, [], ◌∷◌, ◌++◌, length, map, min, nat_eq, set, sym, refl, ap, ◌∙◌, subst, inl, inr, arith, true≢false, eq-eqb}
use Rattle.std.specs.List.{All, Contains, fold}
use Rattle.std.proofs.lemmas.Bool.{cases_Bool, or_parts}
use Rattle.std.proofs.lemmas.List.{length-map, length-set, length_push}
use Rattle.std.proofs.lemmas.List.Elements.{All-cons, All-nil, All-weaker}
use Rattle.rc_instance.specs.declared.limits.TheConstants.{MAX_HORIZON}
use Rattle.rc_instance.specs.Lists.{names, numbers}
use Rattle.rc_instance.specs.Project.{Project, IsActivity, activity_count, duration, successors_of}
use Rattle.rc_instance.specs.Calendar.{IsWithinLimits}
use Rattle.rc_instance.specs.Usage.{Booking, Fits, IsLastBy, last_by}
use Rattle.rc_instance.specs.Order.{IsFeasibleList}
use Rattle.rc_instance.specs.Schedule.{IsFeasible, makespan, start_at, start_of}
use Rattle.rc_instance.proofs.OrderLaws.{sum_by-distinct}
use Rattle.rc_instance.proofs.StartLaws.{last_by-exact}
use Rattle.activity_net.specs.Tables.{Shows}
use Rattle.activity_net.proofs.NameLaws.{contains_named}
use Rattle.activity_net.proofs.RemovalLaws.{distinct_few, ones}
use Rattle.activity_net.proofs.TableLaws.{Shows-push}
use Rattle.event_line.specs.Timeline.{Timeline}
use Rattle.serial_plain.specs.Shown.{ShowsStarts}
use Rattle.fwd_back.specs.Backward.{activities_of, back_bookings, backward, due, next_moved, with_moved}
use Rattle.fwd_back.specs.Moving.{IsNextMoved, NoneMoves}
use Rattle.fwd_back.proofs.BookedLaws.{ShowsStarts_push, start_of-all, starts_given}
use Rattle.fwd_back.proofs.FitLaws.{IsMoved}
use Rattle.fwd_back.proofs.DueLaws.{due-le, due_shown, may_move-fresh}
use Rattle.fwd_back.proofs.MovingLaws.{IsMoved_push, activities_push, movable_above, next_moved-is, present_fits}

-- the bookings are those of the first steps of the backward pass, which the marks and the table
-- tell
pub record IsPassed (project : Project) (starts : List ℕ) (moved : List Booking) (marks : List Bool)
    (table : List ℕ) : Type 0 where
  pub booked : moved ≡ back_bookings project starts (length moved)
  pub is_moved : IsMoved project starts moved
  pub marked : Shows (activity_count project) marks (activities_of moved)
  pub count : length table ≡ activity_count project
  pub shown : ShowsStarts moved table

-- at first nothing has moved
pub passed_none : (project : Project) (starts : List ℕ) (marks : List Bool) (table : List ℕ)
    → Shows (activity_count project) marks [] → length table ≡ activity_count project
    → IsPassed project starts [] marks table
unfolding back_bookings
passed_none project starts marks table shows count = record {
  booked = refl;
  is_moved = record {
    activities = All-nil _;
    once = λ i j d below within. Prim.absurd (omega arith);
    later = All-nil _;
    last = λ a activity unmoved. All-nil _;
  };
  marked = shows;
  count = count;
  shown = All-nil _;
}

-- the bookings of one more step
back_bookings-more : (project : Project) (starts : List ℕ) (moved : List Booking) (a t : ℕ)
    → moved ≡ back_bookings project starts (length moved)
    → next_moved project starts (activities_of moved) ≡ a
    → last_by project moved a (due project (makespan project starts) moved a) ≡ t
    → moved ++ record { activity = a; start = t } ∷ []
    ≡ back_bookings project starts (length (moved ++ record { activity = a; start = t } ∷ []))
unfolding back_bookings
back_bookings-more project starts moved a t booked next last =
    let end = makespan project starts in
    let own : Booking = record { activity = a; start = t } in
    let at : ℕ → Booking = λ x. record { activity = a; start = x } in
    let book : ℕ → Booking = λ x. record {
      activity = x;
      start = last_by project moved x (due project end moved x);
    } in
    let one : own ≡ book (next_moved project starts (activities_of moved)) =
    ap at (sym last) ∙ ap book (sym next) in
    let count : length (moved ++ own ∷ []) ≡ suc (length moved) =
    length_push moved own ∙ omega arith in
    let step : moved ++ own ∷ [] ≡ with_moved project starts moved =
    ap (λ (b : Booking). moved ++ b ∷ []) one in
    let more : with_moved project starts moved ≡ back_bookings project starts (suc (length moved)) =
    ap (with_moved project starts) booked in
    step ∙ (more ∙ ap (back_bookings project starts) (sym count))

-- with the next activity at its latest start, and its mark and its start written, the pass has come
-- one step further
pub passed_push : (project : Project) (order starts : List ℕ) (moved : List Booking)
    (marks : List Bool) (table : List ℕ) (a t : ℕ)
    → IsWithinLimits project → IsFeasibleList project order → IsFeasible project starts
    → IsPassed project starts moved marks table
    → IsNextMoved project starts (activities_of moved) (activity_count project) a
    → IsLastBy project moved a (due project (makespan project starts) moved a) t
    → IsPassed project starts (moved ++ record { activity = a; start = t } ∷ [])
    (set marks (a - 1) true) (set table (a - 1) t)
passed_push project order starts moved marks table a t limits list feasible passed next last =
    let n = activity_count project in
    let is = passed.is_moved in
    let fresh = may_move-fresh project (activities_of moved) a next.may in
    record {
      booked = back_bookings-more project starts moved a t passed.booked
          (next_moved-is project starts (activities_of moved) a next)
          (last_by-exact project moved a (due project (makespan project starts) moved a) t last);
      is_moved = IsMoved_push project order starts moved a t limits list feasible is next last;
      marked = subst (Shows n (set marks (a - 1) true)) (sym (activities_push moved a t))
          (Shows-push n marks (activities_of moved) a next.activity.0 next.activity.1
          passed.marked);
      count = length-set table (a - 1) t ∙ passed.count;
      shown = ShowsStarts_push moved table a t
          (All-weaker (IsActivity project) (λ x. 1 ≤ x) (λ x h. h.0) (activities_of moved)
          is.activities)
          fresh next.activity.0 (omega (arith, next.activity.1, passed.count)) passed.shown;
    }

-- distinct activities are at most all of them
pub moved-le : (project : Project) (starts : List ℕ) (moved : List Booking)
    → IsMoved project starts moved → length moved ≤ activity_count project
moved-le project starts moved is =
    omega (
      arith,
      length-map moved (λ (b : Booking). b.activity),
      distinct_few project (activities_of moved) is.activities is.once,
    )

-- so a pass makes at most as many steps
pub moved-lt : (project : Project) (order starts : List ℕ) (moved : List Booking) (a t : ℕ)
    → IsWithinLimits project → IsFeasibleList project order → IsFeasible project starts
    → IsMoved project starts moved
    → IsNextMoved project starts (activities_of moved) (activity_count project) a
    → IsLastBy project moved a (due project (makespan project starts) moved a) t
    → length moved < activity_count project
moved-lt project order starts moved a t limits list feasible is next last =
    let own : Booking = record { activity = a; start = t } in
    omega (
      arith,
      length_push moved own,
      moved-le project starts (moved ++ own ∷ [])
          (IsMoved_push project order starts moved a t limits list feasible is next last),
    )

-- where no activity may move next, all have moved
moved_all : (project : Project) (order starts moved : List ℕ) (a : ℕ) → IsWithinLimits project
    → IsFeasibleList project order → IsFeasible project starts
    → NoneMoves project moved (activity_count project) → IsActivity project a
    → names moved a ≡ true
moved_all project order starts moved a limits list feasible none activity =
    elim (cases_Bool (names moved a)) [
      | inl named ↦ named
      | inr unmoved ↦
          let above = movable_above project order starts moved a limits list feasible activity
          unmoved in
          Prim.absurd (true≢false
          (sym above.2 ∙ none.none above.0 above.1 above.1.1))
    ]

-- then as many have moved as there are, and the table has the backward starts
pub passed_all : (project : Project) (order starts : List ℕ) (moved : List Booking)
    (marks : List Bool) (table : List ℕ)
    → IsWithinLimits project → IsFeasibleList project order → IsFeasible project starts
    → IsPassed project starts moved marks table
    → NoneMoves project (activities_of moved) (activity_count project)
    → table ≡ backward project starts
unfolding backward
passed_all project order starts moved marks table limits list feasible passed none =
    let n = activity_count project in
    let all = activities_of moved in
    let is = passed.is_moved in
    let named = λ (a : ℕ) (activity : IsActivity project a).
    moved_all project order starts all a limits list feasible none activity in
    let within = All-weaker (IsActivity project) (Contains all)
    (λ a h. contains_named all a (named a h)) order list.activities in
    let count : length moved ≡ n = omega (
      arith,
      list.count,
      moved-le project starts moved is,
      sum_by-distinct (λ _. 1) order all list.once within,
      ones order,
      ones all,
      length-map moved (λ (b : Booking). b.activity),
    ) in
    let whole : moved ≡ back_bookings project starts n =
    passed.booked ∙ ap (back_bookings project starts) count in
    starts_given table n (start_of moved) passed.count
    (λ a from upto. start_of-all (λ x t. start_at table x ≡ t) moved a passed.shown
    (named a (from, upto)))
    ∙ ap (λ (bookings : List Booking). map (start_of bookings) (numbers n)) whole

-- a line, a table of marks and a table of starts in a backward pass over a feasible schedule
pub record IsPassing (line : Timeline) (order present : List ℕ) (marks : List Bool)
    (table : List ℕ) : Type 0 where
  pub limits : IsWithinLimits line.project
  pub list : IsFeasibleList line.project order
  pub feasible : IsFeasible line.project present
  pub within : makespan line.project present ≤ MAX_HORIZON
  pub passed : IsPassed line.project present line.bookings marks table

-- a line without bookings, and no marks
pub passing_none : (project : Project) (line : Timeline) (order present : List ℕ)
    (marks : List Bool) (table : List ℕ)
    → line ≡ record { project = project; bookings = [] }
    → IsWithinLimits project → IsFeasibleList project order → IsFeasible project present
    → makespan project present ≤ MAX_HORIZON → Shows (activity_count project) marks []
    → length table ≡ activity_count project
    → IsPassing line order present marks table
passing_none project line order present marks table is limits list feasible within shows count =
    subst (λ (l : Timeline). IsPassing l order present marks table) (sym is) (record {
      limits = limits;
      list = list;
      feasible = feasible;
      within = within;
      passed = passed_none project present marks table shows count;
    })

-- no booking is of the next activity
pub passing-unbooked : (moved : List Booking) (a : ℕ) → names (activities_of moved) a ≡ false
    → All (λ b. b.activity ≢ a) moved
passing-unbooked [] a fresh = All-nil _
passing-unbooked (b ∷ bs) a fresh =
    let parts = or_parts (nat_eq b.activity a) (names (activities_of bs) a) fresh in
    All-cons (λ (c : Booking). c.activity ≢ a) b bs
    (λ e. true≢false (sym (eq-eqb b.activity a e) ∙ parts.0)) (passing-unbooked bs a parts.1)

-- the least of the end and of the written starts is the due period of the next activity
pub passing-due : (line : Timeline) (order present : List ℕ) (marks : List Bool)
    (table : List ℕ) (a end by : ℕ) → IsPassing line order present marks table
    → IsNextMoved line.project present (activities_of line.bookings) (activity_count line.project) a
    → end ≡ makespan line.project present
    → by ≡ fold (λ by s. min by (start_at table s)) end (successors_of line.project a)
    → by ≡ due line.project (makespan line.project present) line.bookings a
passing-due line order present marks table a end by passing next is by_is =
    by_is
    ∙ (due_shown line.project end line.bookings table a passing.passed.shown next.may
    ∙ ap (λ n. due line.project n line.bookings a) is)

-- it is within the greatest horizon
pub passing-within : (line : Timeline) (order present : List ℕ) (marks : List Bool)
    (table : List ℕ) (a by : ℕ) → IsPassing line order present marks table
    → by ≡ due line.project (makespan line.project present) line.bookings a
    → by ≤ MAX_HORIZON
passing-within line order present marks table a by passing is =
    omega (
      arith,
      passing.within,
      due-le line.project (makespan line.project present) line.bookings a,
    )

-- and a start that ends by it fits
pub passing-fits : (line : Timeline) (order present : List ℕ) (marks : List Bool)
    (table : List ℕ) (a by : ℕ) → IsPassing line order present marks table
    → IsNextMoved line.project present (activities_of line.bookings) (activity_count line.project) a
    → by ≡ due line.project (makespan line.project present) line.bookings a
    → (t : ℕ) × (t + duration line.project a ≤ by) × Fits line.project line.bookings a t
passing-fits line order present marks table a by passing next is =
    let fits = present_fits line.project present line.bookings a passing.limits passing.feasible
    passing.passed.is_moved next.activity next.may in
    (start_at present a, omega (arith, fits.0), fits.1)

-- with the next activity booked at its latest start, and its mark and its start written
pub passing_push : (line new : Timeline) (order present : List ℕ) (marks : List Bool)
    (table : List ℕ) (a by t : ℕ) → IsPassing line order present marks table
    → IsNextMoved line.project present (activities_of line.bookings) (activity_count line.project) a
    → by ≡ due line.project (makespan line.project present) line.bookings a
    → IsLastBy line.project line.bookings a by t
    → new ≡ record line { bookings = line.bookings ++ record { activity = a; start = t } ∷ [] }
    → IsPassing new order present (set marks (a - 1) true) (set table (a - 1) t)
passing_push line new order present marks table a by t passing next is last booked =
    let due_last = subst (λ n. IsLastBy line.project line.bookings a n t) is last in
    subst
    (λ (l : Timeline). IsPassing l order present (set marks (a - 1) true) (set table (a - 1) t))
    (sym booked) (record {
      limits = passing.limits;
      list = passing.list;
      feasible = passing.feasible;
      within = passing.within;
      passed = passed_push line.project order present line.bookings marks table a t passing.limits
          passing.list passing.feasible passing.passed next due_last;
    })

-- fewer activities are left then
pub passing-left : (line new : Timeline) (order present : List ℕ) (marks : List Bool)
    (table : List ℕ) (a by t : ℕ) → IsPassing line order present marks table
    → IsNextMoved line.project present (activities_of line.bookings) (activity_count line.project) a
    → by ≡ due line.project (makespan line.project present) line.bookings a
    → IsLastBy line.project line.bookings a by t
    → new ≡ record line { bookings = line.bookings ++ record { activity = a; start = t } ∷ [] }
    → activity_count new.project - length new.bookings
    < activity_count line.project - length line.bookings
passing-left line new order present marks table a by t passing next is last booked =
    let own : Booking = record { activity = a; start = t } in
    let due_last = subst (λ n. IsLastBy line.project line.bookings a n t) is last in
    let some = moved-lt line.project order present line.bookings a t passing.limits passing.list
    passing.feasible passing.passed.is_moved next due_last in
    subst (λ (l : Timeline). activity_count l.project - length l.bookings
    < activity_count line.project - length line.bookings)
    (sym booked) (omega (arith, some, length_push line.bookings own))

-- where no activity may move, the table has the backward starts
pub passing_all : (line : Timeline) (order present : List ℕ) (marks : List Bool) (table : List ℕ)
    → IsPassing line order present marks table
    → NoneMoves line.project (activities_of line.bookings) (activity_count line.project)
    → table ≡ backward line.project present
passing_all line order present marks table passing none =
    passed_all line.project order present line.bookings marks table passing.limits passing.list
    passing.feasible passing.passed none
