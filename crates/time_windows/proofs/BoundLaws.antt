-- The capacity bound: what it is at most.
use Rattle.std.proofs.Common.{◌≡◌, ℕ, zero, suc, ◌+◌, ◌*◌, ◌<◌, ◌≤◌, ◌&&◌, ◌||◌, ◌==◌, ◌⊎◌, max, Bool, true, false, if◌then◌else◌, List, [], ◌∷◌, map, slice_index, nat_eq, nat_lt, nat_le, ap, inl, inr, arith, le-leb, leb-true}
use Rattle.std.specs.Bool.{Decides}
use Rattle.std.specs.Int.{div_ceil}
use Rattle.std.specs.List.{filter, fold, range_with_len, sum_by}
use Rattle.std.proofs.Math.Nat.{lt_of_mul-lt-mul_right, mul-le-mul_left}
use Rattle.std.proofs.lemmas.Grind.{div_ceil_times}
use Rattle.std.proofs.lemmas.Bool.{cond_both}
use Rattle.std.proofs.lemmas.Bool.Decides.{Decides-and, Decides-or, Decides-eqb, Decides-ltb}
use Rattle.std.proofs.lemmas.List.Elements.{All-map, All-from_get_or}
use Rattle.std.proofs.lemmas.List.Sums.{sum_by-cons}
use Rattle.std.proofs.lemmas.Nat.{mul-le}
use Rattle.rc_instance.proofs.OrderLaws.{sum_by-duration-le}
use Rattle.rc_instance.specs.declared.change.Change.{Change}
use Rattle.rc_instance.specs.Lists.{greatest, numbers}
use Rattle.rc_instance.specs.Project.{Project, activity_count, resource_count, IsResource, duration, demand, capacity, capacity_at, duration_sum}
use Rattle.rc_instance.specs.Schedule.{IsFeasible, makespan}
use Rattle.rc_instance.proofs.ListLaws.{greatest-le, list_all-range, get_or-numbers, length-numbers}
use Rattle.time_windows.specs.CapacityBound.{top_capacity, work_of, work, is_enough, bound_by, capacity_bound_of}
use Rattle.time_windows.proofs.WorkLaws.{work-le-makespan}

-- a capacity after some changes is at most the greatest of those that there are
fold_capacity-le-top : (k : ℕ) (applies : Change → Bool) (changes : List Change) (now : ℕ)
    → fold (λ n change. if nat_eq change.resource k && applies change then change.capacity else n)
    now changes
    ≤ max now (greatest (map (λ (change : Change). change.capacity)
    (filter (λ change. nat_eq change.resource k) changes)))
fold_capacity-le-top k applies [] now = omega arith
fold_capacity-le-top k applies (c ∷ cs) now =
    let rest = λ (n : ℕ). fold_capacity-le-top k applies cs n in
    elim (nat_eq c.resource k)
    as (λ b. fold (λ n change. if nat_eq change.resource k && applies change then change.capacity
    else n) (if b && applies c then c.capacity else now) cs
    ≤ max now (greatest (map (λ (change : Change). change.capacity)
    (if b then c ∷ filter (λ change. nat_eq change.resource k) cs
    else filter (λ change. nat_eq change.resource k) cs)))) [
      | true ↦
          elim (applies c)
          as (λ b. fold (λ n change. if nat_eq change.resource k && applies change
          then change.capacity else n) (if b then c.capacity else now) cs
          ≤ max now (max c.capacity (greatest (map (λ (change : Change). change.capacity)
          (filter (λ change. nat_eq change.resource k) cs))))) [
            | true ↦ omega (arith, rest c.capacity)
            | false ↦ omega (arith, rest now)
          ]
      | false ↦ rest now
    ]

-- no period has more of a resource than its top capacity
pub capacity_at-le-top : (project : Project) (k p : ℕ)
    → capacity_at project k p ≤ top_capacity project k
unfolding capacity_at top_capacity
capacity_at-le-top project k p =
    fold_capacity-le-top k (λ change. nat_le change.period p) project.changes (capacity project k)

-- a quotient rounded up is at most what the divisor times it is enough for
pub div_ceil-le : (x d q : ℕ) → 0 < d → x ≤ d * q → div_ceil x d ≤ q
div_ceil-le x d q some enough =
    let below : div_ceil x d * d < (q + 1) * d = omega (arith, (div_ceil_times x d some).1) in
    omega (arith, lt_of_mul-lt-mul_right d below)

-- `is_enough` tells whether no activity that takes time demands more than the top capacity
pub is_enough_decides : (project : Project) (k : ℕ)
    → Decides (is_enough project k)
    ((a : ℕ) → 1 ≤ a → a < 1 + activity_count project
    → (duration project a ≡ 0) ⊎ (demand project a k ≤ top_capacity project k))
unfolding is_enough
is_enough_decides project k =
    let top = top_capacity project k in
    list_all-range (λ a. duration project a == 0 || nat_le (demand project a k) top)
    (λ a. (duration project a ≡ 0) ⊎ (demand project a k ≤ top))
    (λ a. Decides-or (duration project a == 0) (nat_le (demand project a k) top)
    (Decides-eqb (duration project a) 0)
    (leb-true (demand project a k) top, le-leb (demand project a k) top))
    1 (activity_count project)

-- the greatest value over numbers is at most what each value is at most
greatest_numbers-le : (f : ℕ → ℕ) (n m : ℕ) → ((k : ℕ) → (1 ≤ k) × (k ≤ n) → f k ≤ m)
    → greatest (map f (numbers n)) ≤ m
greatest_numbers-le f n m each =
    greatest-le (map f (numbers n)) m
    (All-map (λ x. x ≤ m) f (numbers n)
    (All-from_get_or (λ k. f k ≤ m) (numbers n) 0
    (λ i within.
    let e = get_or-numbers n i 0 (omega (arith, length-numbers n)) in
    each (slice_index (numbers n) i) (omega arith, omega (arith, length-numbers n)))))

-- a sum of values that are at most m times others is at most m times the sum of those
sum_by-times : (f g : ℕ → ℕ) (m a n : ℕ)
    → ((x : ℕ) → a ≤ x → x < a + n → f x ≤ m * g x)
    → sum_by f (range_with_len a n) ≤ m * sum_by g (range_with_len a n)
sum_by-times f g m a zero each = omega arith
sum_by-times f g m a (suc n) each =
    let rest = range_with_len (a + 1) n in
    omega (
      arith,
      sum_by-cons f a rest,
      ap (λ s. m * s) (sum_by-cons g a rest),
      each a (omega arith) (omega arith),
      sum_by-times f g m (a + 1) n (λ x from below. each x (omega arith) (omega arith)),
    )

-- the durations by number are at most those of all activities together
sum_by-numbers-le : (project : Project)
    → sum_by (duration project) (numbers (activity_count project)) ≤ duration_sum project
sum_by-numbers-le project =
    let n = activity_count project in
    let long = length-numbers n in
    sum_by-duration-le project (numbers n)
    (λ i d within. let e = get_or-numbers n i d (omega arith) in (omega arith, omega arith))
    (λ i j d below within.
    let e = get_or-numbers n i d (omega arith) in
    let f = get_or-numbers n j d (omega arith) in
    omega arith)

-- no feasible schedule is shorter than the bound by a resource
bound_by-le-makespan : (project : Project) (starts : List ℕ) (k : ℕ) → IsFeasible project starts
    → IsResource project k → bound_by project k ≤ makespan project starts
unfolding bound_by
bound_by-le-makespan project starts k feasible resource =
    let top = top_capacity project k in
    cond_both (nat_lt 0 top && is_enough project k) (div_ceil (work project k) top) 0
    (λ x. x ≤ makespan project starts)
    (λ e. let both = (Decides-and (nat_lt 0 top) (is_enough project k) (Decides-ltb 0 top)
    (is_enough_decides project k)).0 e in
    div_ceil-le (work project k) top (makespan project starts) both.0
    (work-le-makespan project starts k top feasible resource (capacity_at-le-top project k)))
    (λ _. omega arith)

-- so none is shorter than the capacity bound
pub capacity_bound-le-makespan : (project : Project) (starts : List ℕ) → IsFeasible project starts
    → capacity_bound_of project ≤ makespan project starts
unfolding capacity_bound_of
capacity_bound-le-makespan project starts feasible =
    greatest_numbers-le (bound_by project) (resource_count project) (makespan project starts)
    (λ k resource. bound_by-le-makespan project starts k feasible resource)

-- the work of a resource that is enough is at most its top capacity over all durations
work-le-durations : (project : Project) (k : ℕ) → is_enough project k ≡ true
    → work project k ≤ top_capacity project k * duration_sum project
unfolding work
work-le-durations project k enough =
    let n = activity_count project in
    let top = top_capacity project k in
    omega (
      arith,
      sum_by-times (work_of project k) (duration project) top 1 n
          (λ a from below.
          elim ((is_enough_decides project k).0 enough a from below) [
            | inl none ↦ omega (arith, ap (λ d. demand project a k * d) none)
            | inr few ↦
                let d = duration project a in mul-le (demand project a k) d top d few (omega arith)
          ]),
      mul-le-mul_left top (sum_by-numbers-le project),
    )

-- so no resource gives a bound above the sum of all durations
pub bound_by-le-durations : (project : Project) (k : ℕ) → bound_by project k ≤ duration_sum project
unfolding bound_by
bound_by-le-durations project k =
    let top = top_capacity project k in
    cond_both (nat_lt 0 top && is_enough project k) (div_ceil (work project k) top) 0
    (λ x. x ≤ duration_sum project)
    (λ e. let both = (Decides-and (nat_lt 0 top) (is_enough project k) (Decides-ltb 0 top)
    ((λ h. h), (λ h. h))).0 e in
    div_ceil-le (work project k) top (duration_sum project) both.0
    (work-le-durations project k both.1))
    (λ _. omega arith)

pub capacity_bound-le-durations : (project : Project)
    → capacity_bound_of project ≤ duration_sum project
unfolding capacity_bound_of
capacity_bound-le-durations project =
    greatest_numbers-le (bound_by project) (resource_count project) (duration_sum project)
    (λ k resource. bound_by-le-durations project k)
