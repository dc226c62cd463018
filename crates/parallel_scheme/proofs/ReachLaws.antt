-- What is booked, period by period: it is what the serial scheme books of the same activities.
use Rattle.std.proofs.Common.{◌≡◌, ℕ, zero, suc, ◌+◌, ◌<◌, ◌≤◌, Bool, true, false, not, None, Some, List, [], ◌∷◌, ◌++◌, length, get_or, map, sym, refl, ap, ◌∙◌, subst, inl, inr, arith, true≢false}
use Rattle.std.specs.List.{All, Contains, find}
use Rattle.std.proofs.lemmas.Bool.{cases_lt, both_ways, not-true, not-false, false_from_ne_true}
use Rattle.std.proofs.lemmas.List.{length-map, length_push, map_push}
use Rattle.std.proofs.lemmas.List.Elements.{All-nil, All-push, All-weaker, Contains-get_or}
use Rattle.std.proofs.lemmas.List.Sums.{fold_push}
use Rattle.rc_instance.specs.Lists.{names, numbers}
use Rattle.rc_instance.specs.Project.{Project, IsActivity, activity_count, horizon}
use Rattle.rc_instance.specs.Misfit.{HasNoMisfit}
use Rattle.rc_instance.specs.Usage.{Booking, last_finish, rest_time}
use Rattle.rc_instance.specs.Serial.{with_next, serial_bookings}
use Rattle.rc_instance.specs.Order.{IsFeasibleList}
use Rattle.rc_instance.specs.Schedule.{IsFeasible, makespan, start_of, serial_schedule}
use Rattle.rc_instance.proofs.UsageLaws.{Fits-at_rest, ready_time-le-last_finish}
use Rattle.rc_instance.proofs.OrderLaws.{sum_by-distinct, place_in_feasible_list}
use Rattle.rc_instance.proofs.FeasibleLaws.{IsFeasible-serial_schedule, last_finish-serial-le-horizon, makespan-serial_schedule-le-horizon}
use Rattle.activity_net.specs.Removal.{IsBeginning}
use Rattle.activity_net.proofs.NameLaws.{named_at, named_contains, contains_named, not_named}
use Rattle.activity_net.proofs.NetLaws.{find-some, find-none}
use Rattle.activity_net.proofs.RemovalLaws.{ones, length-beginning-le, IsBeginning-push}
use Rattle.activity_net.proofs.EligibleLaws.{eligible_exists}
use Rattle.parallel_scheme.specs.Parallel.{CanStart, can_start, activities_of, with_found, booked_at, booked_before, parallel_bookings, parallel_schedule}
use Rattle.parallel_scheme.specs.Passing.{IsReached}
use Rattle.parallel_scheme.proofs.FindLaws.{find_nothing, find_all}
use Rattle.parallel_scheme.proofs.StartLaws.{can_start_decides, start_least, can_start_earlier}

-- in period t nothing can start
abbrev pub IsSettled : Project → List Booking → ℕ → Type 0
IsSettled project bookings t = (a : ℕ) → CanStart project bookings t a → ⊥

-- before period 0 nothing is booked
pub reached_none : (project : Project) → IsReached project [] 0
unfolding serial_bookings
reached_none project = record {
  beginning = record {
    activities = λ i d h. Prim.absurd (omega arith);
    once = λ i j d h k. Prim.absurd (omega arith);
    after = λ place a h is before. Prim.absurd (omega arith);
  };
  serial = refl;
  by = All-nil _;
  settled = λ u a below can. omega arith;
}

-- where nothing can start, time rises
pub reached_later : (project : Project) (bookings : List Booking) (t : ℕ)
    → IsReached project bookings t → IsSettled project bookings t
    → IsReached project bookings (suc t)
reached_later project bookings t reached settled = record {
  beginning = reached.beginning;
  serial = reached.serial;
  by = All-weaker (λ (b : Booking). b.start ≤ t) (λ (b : Booking). b.start ≤ suc t)
      (λ b h. omega arith) bookings reached.by;
  settled = λ u a below can.
      elim (cases_lt u t) as (λ _. ⊥) [
        | inl early ↦ reached.settled u a early can
        | inr late ↦
            let same : u ≡ t = omega arith in
            settled a (subst (λ v. CanStart project bookings v a) same can)
      ];
}

-- with one more activity the serial scheme books it at its least start
serial_push : (project : Project) (order : List ℕ) (a : ℕ)
    → serial_bookings project (order ++ a ∷ []) ≡ with_next project (serial_bookings project order) a
unfolding serial_bookings
serial_push project order a = fold_push (with_next project) [] order a

-- what can start is booked
pub reached_more : (project : Project) (bookings : List Booking) (t a : ℕ)
    → IsReached project bookings t → CanStart project bookings t a
    → IsReached project (bookings ++ record { activity = a; start = t } ∷ []) t
reached_more project bookings t a reached can =
    let next : Booking = record { activity = a; start = t } in
    let booked = activities_of bookings in
    let more : activities_of (bookings ++ next ∷ []) ≡ booked ++ a ∷ [] =
    map_push (λ (b : Booking). b.activity) bookings next in
    let least = start_least project bookings t a (λ u early. reached.settled u a early) can in
    record {
      beginning = subst (IsBeginning project) (sym more)
          (IsBeginning-push project booked a reached.beginning can.eligible.activity
          (not_named booked a can.eligible.unlisted)
          (λ p is before. named_contains booked p (can.eligible.ready p is before)));
      serial = sym (ap (serial_bookings project) more
          ∙ (serial_push project booked a
          ∙ (ap (λ bs. with_next project bs a) (sym reached.serial)
          ∙ ap (λ (u : ℕ). let b : Booking = record { activity = a; start = u } in
          bookings ++ b ∷ []) least)));
      by = All-push (λ (b : Booking). b.start ≤ t) bookings next reached.by (omega arith);
      settled = λ u b early later. reached.settled u b early
          (can_start_earlier project bookings next u b early later);
    }

-- as long as something can start, not all is booked
pub reached_open : (project : Project) (bookings : List Booking) (t a : ℕ)
    → IsReached project bookings t → CanStart project bookings t a
    → length bookings < activity_count project
reached_open project bookings t a reached can =
    let next : Booking = record { activity = a; start = t } in
    let more = reached_more project bookings t a reached can in
    omega (
      arith,
      length-beginning-le project _ more.beginning,
      length-map (bookings ++ next ∷ []) (λ (b : Booking). b.activity),
      length_push bookings next,
    )

-- an activity is named in each feasible list
listed : (project : Project) (order : List ℕ) (a : ℕ) → IsFeasibleList project order
    → IsActivity project a → names order a ≡ true
listed project order a list activity =
    let place = place_in_feasible_list project order a list activity in
    subst (λ b. names order b ≡ true) place.2 (named_at order place.0 place.1)

-- where the search finds nothing, nothing can start
settled_none : (project : Project) (order : List ℕ) (bookings : List Booking) (t : ℕ)
    → IsFeasibleList project order → find (can_start project bookings t) order ≡ None
    → IsSettled project bookings t
settled_none project order bookings t list none = λ a can.
    let activity = can.eligible.activity in
    true≢false (sym ((can_start_decides project bookings t a activity).1 can)
    ∙ find-none (can_start project bookings t) order a none (listed project order a list activity))

-- and the other way round
pub none_settled : (project : Project) (order : List ℕ) (bookings : List Booking) (t : ℕ)
    → All (IsActivity project) order → IsSettled project bookings t
    → find (can_start project bookings t) order ≡ None
none_settled project order bookings t activities settled =
    find_nothing (can_start project bookings t) order
    (All-weaker (IsActivity project) (λ a. can_start project bookings t a ≡ false)
    (λ a activity. false_from_ne_true (can_start project bookings t a)
    (λ h. settled a ((can_start_decides project bookings t a activity).0 h))) order activities)

-- what the search finds can start
found_can : (project : Project) (order : List ℕ) (bookings : List Booking) (t a : ℕ)
    → All (IsActivity project) order → find (can_start project bookings t) order ≡ Some a
    → CanStart project bookings t a
found_can project order bookings t a activities some =
    (can_start_decides project bookings t a
    (find_all (IsActivity project) (can_start project bookings t) order a activities some)).0
    (find-some (can_start project bookings t) order a some)

-- where the search finds nothing, no more is booked
pub booked_still : (project : Project) (order : List ℕ) (t times : ℕ) (bookings : List Booking)
    → find (can_start project bookings t) order ≡ None
    → booked_at project order t times bookings ≡ bookings
unfolding booked_at
booked_still project order t zero bookings none = refl
booked_still project order t (suc times) bookings none =
    rw none (booked_still project order t times bookings none)

-- so many times as there are activities is enough to book all that can start
reached_at : (project : Project) (order : List ℕ) (t times : ℕ) (bookings : List Booking)
    → IsFeasibleList project order → IsReached project bookings t
    → activity_count project ≤ times + length bookings
    → IsReached project (booked_at project order t times bookings) t
    × IsSettled project (booked_at project order t times bookings) t
unfolding booked_at
reached_at project order t zero bookings list reached count = (
  reached,
  λ a can. omega (arith, reached_open project bookings t a reached can),
)
reached_at project order t (suc times) bookings list reached count =
    elim (find (can_start project bookings t) order)
    as (λ o. find (can_start project bookings t) order ≡ o
    → IsReached project (booked_at project order t times (with_found bookings t o)) t
    × IsSettled project (booked_at project order t times (with_found bookings t o)) t) [
      | None ↦ λ none.
          let still = booked_still project order t times bookings none in
          let here : IsReached project bookings t × IsSettled project bookings t =
          (reached, settled_none project order bookings t list none) in
          subst (λ bs. IsReached project bs t × IsSettled project bs t) (sym still) here
      | Some a ↦ λ some.
          let next : Booking = record { activity = a; start = t } in
          let can = found_can project order bookings t a list.activities some in
          reached_at project order t times (bookings ++ next ∷ []) list
          (reached_more project bookings t a reached can)
          (omega (arith, length_push bookings next))
    ] refl

-- what is booked before each period
pub reached_before : (project : Project) (order : List ℕ) → IsFeasibleList project order → (t : ℕ)
    → IsReached project (booked_before project order t) t
unfolding booked_before
reached_before project order list zero = reached_none project
reached_before project order list (suc t) =
    let before = booked_before project order t in
    let at = reached_at project order t (length order) before list
    (reached_before project order list t) (omega (arith, list.count)) in
    reached_later project (booked_at project order t (length order) before) t at.0 at.1

-- what is booked up to a period has started by it, and nothing else can start there
pub reached_in : (project : Project) (order : List ℕ) (t : ℕ) → IsFeasibleList project order
    → IsReached project (booked_before project order (suc t)) t
    × IsSettled project (booked_before project order (suc t)) t
unfolding booked_before
reached_in project order t list =
    reached_at project order t (length order) (booked_before project order t) list
    (reached_before project order list t) (omega (arith, list.count))

-- all that is booked ends by the horizon
pub reached_within : (project : Project) (bookings : List Booking) (t : ℕ)
    → IsReached project bookings t → last_finish project bookings ≤ horizon project
reached_within project bookings t reached =
    subst (λ bs. last_finish project bs ≤ horizon project) (sym reached.serial)
    (last_finish-serial-le-horizon project (activities_of bookings) reached.beginning.activities
    reached.beginning.once)

-- of fewer numbers than there are activities one activity is missing
missing : (project : Project) (order listed : List ℕ) → IsFeasibleList project order
    → length listed < activity_count project
    → (a : ℕ) × IsActivity project a × (Contains listed a → ⊥)
missing project order listed list fewer =
    let test : ℕ → Bool = λ a. not (names listed a) in
    elim (find test order)
    as (λ o. find test order ≡ o → (a : ℕ) × IsActivity project a × (Contains listed a → ⊥)) [
      | None ↦ λ none.
          let all : All (Contains listed) order = λ i d within.
          contains_named listed _ (not-false _ (find-none test order (get_or order i d) none
          (named_contains order _ (Contains-get_or order i d within)))) in
          let few = sum_by-distinct (λ (_ : ℕ). 1) order listed list.once all in
          Prim.absurd (omega (arith, few, ones order, ones listed, list.count))
      | Some a ↦ λ some. (
        a,
        find_all (IsActivity project) test order a list.activities some,
        λ h. both_ways (names listed a) (not-true (names listed a) (find-some test order a some))
            (named_contains listed a h),
      )
    ] refl

-- after the horizon all is booked
pub reached_all : (project : Project) (order : List ℕ) (bookings : List Booking) (t : ℕ)
    → HasNoMisfit project → IsFeasibleList project order → horizon project < t
    → IsReached project bookings t → IsFeasibleList project (activities_of bookings)
reached_all project order bookings t none list late reached =
    let booked = activities_of bookings in
    let upto = length-beginning-le project booked reached.beginning in
    elim (cases_lt (length booked) (activity_count project))
    as (λ _. IsFeasibleList project booked) [
      | inl fewer ↦
          let left = missing project order booked list fewer in
          let next = eligible_exists project order booked left.0 list left.1 left.2 in
          let rest = rest_time project bookings in
          let within = reached_within project bookings t reached in
          Prim.absurd (reached.settled rest next.0 (omega arith) (record {
            eligible = next.1;
            ready = omega (arith, ready_time-le-last_finish project bookings next.0);
            fits = Fits-at_rest project bookings next.0 rest none next.1.activity (omega arith);
          }))
      | inr all ↦ record {
        count = omega arith;
        activities = reached.beginning.activities;
        once = reached.beginning.once;
        after = reached.beginning.after;
      }
    ]

-- what the scheme books in the end
pub parallel_reached : (project : Project) (order : List ℕ) → IsFeasibleList project order
    → IsReached project (parallel_bookings project order) (horizon project + 1)
unfolding parallel_bookings
parallel_reached project order list = reached_before project order list (horizon project + 1)

-- the order in which it books is a feasible list
pub parallel_order : (project : Project) (order : List ℕ) → HasNoMisfit project
    → IsFeasibleList project order
    → IsFeasibleList project (activities_of (parallel_bookings project order))
parallel_order project order none list =
    reached_all project order (parallel_bookings project order) (horizon project + 1) none list
    (omega arith) (parallel_reached project order list)

-- and its schedule is the serial schedule of that list
pub parallel_serial : (project : Project) (order : List ℕ) → IsFeasibleList project order
    → parallel_schedule project order
    ≡ serial_schedule project (activities_of (parallel_bookings project order))
unfolding parallel_schedule serial_schedule
parallel_serial project order list =
    ap (λ bs. map (start_of bs) (numbers (activity_count project)))
    (parallel_reached project order list).serial

-- so it is feasible
pub IsFeasible-parallel : (project : Project) (order : List ℕ) → HasNoMisfit project
    → IsFeasibleList project order → IsFeasible project (parallel_schedule project order)
IsFeasible-parallel project order none list =
    subst (IsFeasible project) (sym (parallel_serial project order list))
    (IsFeasible-serial_schedule project (activities_of (parallel_bookings project order)) none
    (parallel_order project order none list))

-- and ends by the horizon
pub makespan-parallel : (project : Project) (order : List ℕ) → HasNoMisfit project
    → IsFeasibleList project order
    → makespan project (parallel_schedule project order) ≤ horizon project
makespan-parallel project order none list =
    subst (λ starts. makespan project starts ≤ horizon project)
    (sym (parallel_serial project order list))
    (makespan-serial_schedule-le-horizon project
    (activities_of (parallel_bookings project order)) (parallel_order project order none list))
