-- Between two turning periods nothing more is used, and no capacity changes.
use Rattle.std.proofs.Common.{◌≡◌, ◌≢◌, ℕ, suc, ◌+◌, ◌≤◌, ◌&&◌, true, false, nat_eq, nat_le, nat_lt, eqb, if◌then◌else◌, None, List, [], ◌∷◌, ◌++◌, map, get_or, sym, refl, subst, inl, inr, arith}
use Rattle.std.specs.List.{All, Contains, dedup, fold}
use Rattle.std.specs.List.Sorted.{IsPermutation, IsSorted}
use Rattle.std.specs.Ordering.{nat_cmp}
use Rattle.std.proofs.lemmas.Bool.{cases_lt}
use Rattle.std.proofs.lemmas.Bool.Decides.{nat_tests}
use Rattle.std.proofs.lemmas.List.{length-map, get_or-map}
use Rattle.std.proofs.lemmas.List.Elements.{All-head, All-tail, Contains-append_left, Contains-append_right, Contains-get_or}
use Rattle.std.proofs.lemmas.List.Kept.{Contains-dedup_nat}
use Rattle.std.proofs.lemmas.List.Sorted.{Contains-permutation}
use Rattle.std.proofs.lemmas.Map.Keys.{IsStrictlyIncreasing-dedup}
use Rattle.std.proofs.lemmas.List.Sums.{sum_by-cons}
use Rattle.rc_instance.specs.declared.change.Change.{Change}
use Rattle.rc_instance.specs.Project.{Project, resource_count, capacity, capacity_at}
use Rattle.rc_instance.specs.Usage.{Booking, use_of, usage, last_finish}
use Rattle.rc_instance.specs.Schedule.{bookings_from, bookings_of}
use Rattle.rc_instance.proofs.MisfitLaws.{first_of-none}
use Rattle.rc_instance.proofs.UsageLaws.{usage-ended}
use Rattle.schedule_check.specs.Violation.{over_of, over_at}
use Rattle.schedule_check.specs.Turning.{AreTurning}
use Rattle.schedule_check.proofs.FirstLaws.{Covers, none_at}

-- a change in another period than the next applies in the next exactly where it applies now
applies_alike : (p q : ℕ) → p ≢ suc q → nat_le p (suc q) ≡ nat_le p q
applies_alike p q ne = grind (arith, nat_tests)

-- the capacity after changes of which none is in the next period
capacity_stays : (k q : ℕ) (changes : List Change) (now : ℕ)
    → All (λ (c : Change). c.period ≢ suc q) changes
    → fold (λ now change. if nat_eq change.resource k
    && nat_le change.period (suc q) then change.capacity else now) now changes
    ≡ fold (λ now change. if nat_eq change.resource k
    && nat_le change.period q then change.capacity else now) now changes
capacity_stays k q [] now all = refl
capacity_stays k q (change ∷ changes) now all =
    let here = All-head (λ (c : Change). c.period ≢ suc q) change changes all in
    rw (applies_alike change.period q here)
    (capacity_stays k q changes _ (All-tail (λ (c : Change). c.period ≢ suc q) change changes all))

-- where no change is in the next period, each capacity is in it what it is now
pub capacity_at-stays : (project : Project) (k q : ℕ)
    → All (λ (c : Change). c.period ≢ suc q) project.changes
    → capacity_at project k (suc q) ≡ capacity_at project k q
unfolding capacity_at
capacity_at-stays project k q all = capacity_stays k q project.changes (capacity project k) all

-- a booking that does not start in the next period uses no more in it than now
use_of-falls : (project : Project) (k q : ℕ) (booking : Booking) → booking.start ≢ suc q
    → use_of project k (suc q) booking ≤ use_of project k q booking
use_of-falls project k q booking ne = grind (arith, nat_tests)

-- where no start is the next period, no more is used in it than now
pub usage-falls : (project : Project) (k q a : ℕ) (starts : List ℕ) → All (λ t. t ≢ suc q) starts
    → usage project (bookings_from a starts) k (suc q) ≤ usage project (bookings_from a starts) k q
usage-falls project k q a [] all = omega arith
usage-falls project k q a (start ∷ starts) all =
    let booking : Booking = record { activity = a; start = start } in
    let rest = bookings_from (a + 1) starts in
    omega (
      arith,
      sum_by-cons (use_of project k (suc q)) booking rest,
      sum_by-cons (use_of project k q) booking rest,
      use_of-falls project k q booking (All-head (λ t. t ≢ suc q) start starts all),
      usage-falls project k q (a + 1) starts (All-tail (λ t. t ≢ suc q) start starts all),
    )

-- a resource of which no more is used than there is has no violation, and the other way round
pub over_of-none : (project : Project) (bookings : List Booking) (p k : ℕ)
    → usage project bookings k p ≤ capacity_at project k p → over_of project bookings p k ≡ None
unfolding over_of
over_of-none project bookings p k within =
    let test : nat_lt (capacity_at project k p) (usage project bookings k p)
    ≡ false = grind (arith, nat_tests) in
    rw test refl

pub within_from_none : (project : Project) (bookings : List Booking) (p k : ℕ)
    → over_of project bookings p k ≡ None → usage project bookings k p ≤ capacity_at project k p
unfolding over_of
within_from_none project bookings p k none =
    elim (cases_lt (capacity_at project k p) (usage project bookings k p)) as
    (λ _. usage project bookings k p ≤ capacity_at project k p) [
      | inl over ↦
          let test : nat_lt (capacity_at project k p) (usage project bookings k p)
          ≡ true = grind (arith, nat_tests) in
          absurd (let is = rw test at none in cc)
      | inr within ↦ within
    ]

-- from the last finish on there is no violation
pub over_at-ended : (project : Project) (bookings : List Booking) (p : ℕ)
    → last_finish project bookings ≤ p → over_at project bookings p ≡ None
unfolding over_at
over_at-ended project bookings p past =
    first_of-none (over_of project bookings p) 1 (resource_count project)
    (λ k low high. over_of-none project bookings p k
    (omega (arith, usage-ended project bookings k p past)))

-- whether there is a violation in each period shows in the turning periods
pub turning_covers : (project : Project) (starts periods : List ℕ)
    → AreTurning project starts periods
    → Covers (over_at project (bookings_of starts)) periods
unfolding over_at
turning_covers project starts periods turning = record {
  rising = turning.rising;
  first = turning.first;
  step = λ q other none.
      let bookings = bookings_of starts in
      let starts_else : All (λ t. t ≢ suc q) starts =
      λ i d within e. other (subst (Contains periods) e (turning.starts i d within)) in
      let changes_else : All (λ (c : Change). c.period ≢ suc q) project.changes =
      λ i d within e. other (subst (Contains periods) e (turning.changes i d within)) in
      first_of-none (over_of project bookings (suc q)) 1 (resource_count project)
      (λ k low high.
      let now = within_from_none project bookings q k
      (none_at (over_of project bookings q) 1 (resource_count project) none k low high) in
      over_of-none project bookings (suc q) k
      (omega (
        arith,
        now,
        usage-falls project k q 1 starts starts_else,
        capacity_at-stays project k
            q changes_else,
      )));
}

-- the first period, all starts and the periods of all changes, sorted and each kept once
pub turning_sorted : (project : Project) (schedule periods sorted : List ℕ)
    → periods ≡ (0 ∷ schedule) ++ map (λ (c : Change). c.period) project.changes
    → IsPermutation periods sorted → IsSorted nat_cmp sorted
    → AreTurning project schedule (dedup eqb sorted)
turning_sorted project schedule periods sorted is moved in_order =
    let period = λ (c : Change). c.period in
    let changed = map period project.changes in
    let kept = λ (p : ℕ) (there : Contains ((0 ∷ schedule) ++ changed) p).
    Contains-dedup_nat sorted p (Contains-permutation periods sorted p moved
    (subst (λ xs. Contains xs p) (sym is) there)) in
    let start = λ (p : ℕ) (there : Contains (0 ∷ schedule) p). kept p
    (Contains-append_left (0 ∷ schedule) changed p there) in
    record {
      rising = IsStrictlyIncreasing-dedup sorted in_order;
      first = start 0 (0, omega arith, refl);
      starts = λ i d within. start (get_or schedule i d)
          (Contains-get_or (0 ∷ schedule) (suc i) d (omega arith));
      changes = λ i d within.
          let at = Contains-get_or changed i 0 (omega (arith, length-map project.changes period)) in
          let there : Contains changed (period (get_or project.changes i d)) =
          subst (Contains changed) (get_or-map period project.changes i d 0 within) at in
          kept _ (Contains-append_right (0 ∷ schedule) changed _ there);
    }
