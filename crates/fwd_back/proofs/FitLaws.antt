-- An activity that has not moved fits at its start beside those that have: where it runs, each of
-- them runs only if it ran there before.
use Rattle.std.proofs.Common.{◌≡◌, ◌≢◌, ℕ, ◌<◌, ◌≤◌, false, List, [], ◌∷◌, ◌++◌, length, map, sym, ap, ◌∙◌, inl, inr, arith}
use Rattle.std.specs.List.{All, AllPairs, Contains, sum_by}
use Rattle.std.proofs.lemmas.Bool.{cases_lt, cond_both}
use Rattle.std.proofs.lemmas.Bool.Decides.{nat_tests}
use Rattle.std.proofs.lemmas.List.Elements.{All-head, All-push, All-tail, All-weaker}
use Rattle.std.proofs.lemmas.List.Sums.{sum_by-cons, sum_by_push}
use Rattle.rc_instance.specs.Lists.{names, numbers}
use Rattle.rc_instance.specs.Project.{Project, IsActivity, activity_count, demand}
use Rattle.rc_instance.specs.Usage.{Booking, Fits, finish, usage, use_of}
use Rattle.rc_instance.specs.Schedule.{IsFeasible, bookings_of, start_at}
use Rattle.rc_instance.proofs.FeasibleLaws.{bookings_from-map}
use Rattle.rc_instance.proofs.OrderLaws.{Contains-numbers, sum_by-distinct}
use Rattle.serial_plain.specs.Shown.{finish_at}
use Rattle.fwd_back.specs.Backward.{activities_of}
use Rattle.fwd_back.proofs.BookedLaws.{distinct_push, starts_by_number}

-- bookings of distinct activities, each at its start in the schedule or later, which end there no
-- earlier than all others
pub record IsMoved (project : Project) (starts : List ℕ) (moved : List Booking) : Type 0 where
  pub activities : All (IsActivity project) (activities_of moved)
  pub once : AllPairs (λ a b. a ≢ b) (activities_of moved)
  pub later : All (λ b. start_at starts b.activity ≤ b.start) moved
  pub last : (a : ℕ) → IsActivity project a → names (activities_of moved) a ≡ false
      → All (λ b. finish_at project starts a ≤ finish_at project starts b.activity) moved

-- an activity at its start in a schedule
abbrev booked_at : List ℕ → ℕ → Booking
booked_at starts a = record { activity = a; start = start_at starts a }

-- what an activity uses at its start in a schedule
abbrev use_at : Project → List ℕ → ℕ → ℕ → ℕ → ℕ
use_at project starts k p a = use_of project k p (booked_at starts a)

-- where a booking runs it uses its demand
use_of-runs : (project : Project) (k p : ℕ) (b : Booking) → b.start ≤ p → p < finish project b
    → use_of project k p b ≡ demand project b.activity k
use_of-runs project k p b from below = grind (arith, nat_tests)

-- before its start it uses nothing
use_of-waits : (project : Project) (k p : ℕ) (b : Booking) → p < b.start
    → use_of project k p b ≡ 0
use_of-waits project k p b before = grind (arith, nat_tests)

-- it never uses more than its demand
use_of-le : (project : Project) (k p : ℕ) (b : Booking)
    → use_of project k p b ≤ demand project b.activity k
use_of-le project k p b =
    cond_both _ (demand project b.activity k) 0 (λ x. x ≤ demand project b.activity k)
    (λ _. omega arith) (λ _. omega arith)

-- before its end in the schedule a booking that is no earlier uses no more than its activity there
use_of-later : (project : Project) (starts : List ℕ) (k p : ℕ) (b : Booking)
    → start_at starts b.activity ≤ b.start → p < finish_at project starts b.activity
    → use_of project k p b ≤ use_at project starts k p b.activity
use_of-later project starts k p b later ends =
    elim (cases_lt p b.start) [
      | inl before ↦ omega (arith, use_of-waits project k p b before)
      | inr after ↦
          omega (
            arith,
            use_of-le project k p b,
            use_of-runs project k p (booked_at starts b.activity) (omega arith) ends,
          )
    ]

-- so it is with what all bookings use
usage-later : (project : Project) (starts : List ℕ) (k p : ℕ) (moved : List Booking)
    → All (λ b. start_at starts b.activity ≤ b.start) moved
    → All (λ b. p < finish_at project starts b.activity) moved
    → usage project moved k p ≤ sum_by (use_at project starts k p) (activities_of moved)
usage-later project starts k p [] later ends = omega arith
usage-later project starts k p (b ∷ bs) later ends =
    let P : Booking → Type 0 = λ c. start_at starts c.activity ≤ c.start in
    let Q : Booking → Type 0 = λ c. p < finish_at project starts c.activity in
    omega (
      arith,
      sum_by-cons (use_of project k p) b bs,
      sum_by-cons (use_at project starts k p) b.activity (activities_of bs),
      use_of-later project starts k p b (All-head P b bs later) (All-head Q b bs ends),
      usage-later project starts k p bs (All-tail P b bs later) (All-tail Q b bs ends),
    )

-- a sum over bookings that are made of numbers
sum_by-booked : (f : Booking → ℕ) (book : ℕ → Booking) (xs : List ℕ)
    → sum_by f (map book xs) ≡ sum_by (λ a. f (book a)) xs
sum_by-booked f book [] = omega arith
sum_by-booked f book (x ∷ xs) =
    omega (
      arith,
      sum_by-cons f (book x) (map book xs),
      sum_by-cons (λ (a : ℕ). f (book a)) x xs,
      sum_by-booked f book xs,
    )

-- a schedule uses what its activities use at their starts
usage-schedule : (project : Project) (starts : List ℕ) (k p : ℕ)
    → length starts ≡ activity_count project
    → usage project (bookings_of starts) k p
    ≡ sum_by (use_at project starts k p) (numbers (activity_count project))
usage-schedule project starts k p count =
    let n = activity_count project in
    let by_number : bookings_of starts ≡ map (booked_at starts) (numbers n) =
    ap bookings_of (sym (starts_by_number starts n count))
    ∙ bookings_from-map (start_at starts) n 1 in
    ap (λ bookings. usage project bookings k p) by_number
    ∙ sum_by-booked (use_of project k p) (booked_at starts) (numbers n)

-- an activity that has not moved fits at its start in the schedule beside those that have
pub Fits-present : (project : Project) (starts : List ℕ) (moved : List Booking) (a : ℕ)
    → IsFeasible project starts → IsMoved project starts moved
    → IsActivity project a → names (activities_of moved) a ≡ false
    → Fits project moved a (start_at starts a)
Fits-present project starts moved a feasible is activity unmoved = record {
  within = λ k p resource from below.
      let n = activity_count project in
      let all = activities_of moved in
      let f = use_at project starts k p in
      let ends = All-weaker
      (λ (b : Booking). finish_at project starts a ≤ finish_at project starts b.activity)
      (λ (b : Booking). p < finish_at project starts b.activity)
      (λ b h. omega arith) moved (is.last a activity unmoved) in
      let inside = All-weaker (IsActivity project) (Contains (numbers n))
      (λ x h. Contains-numbers n x h.0 h.1) all is.activities in
      let once = distinct_push all a is.once unmoved in
      let whole = All-push (Contains (numbers n)) all a inside
      (Contains-numbers n a activity.0 activity.1) in
      omega (
        arith,
        usage-later project starts k p moved is.later ends,
        use_of-runs project k p (booked_at starts a) from below,
        sum_by_push f all a,
        sum_by-distinct f (all ++ a ∷ []) (numbers n) once whole,
        usage-schedule project starts k p feasible.count,
        feasible.capacity k p resource,
      );
}
