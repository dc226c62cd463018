-- A bound from the work that each resource has to do.
use Rattle.std.specs.Prelude.{ℕ, max, ◌*◌, ◌<◌, ◌≤◌, ◌&&◌, ◌||◌, ◌==◌, Bool, map, nat_eq, nat_le, nat_lt, if◌then◌else◌}
use Rattle.std.specs.List.{filter, list_all, sum_by}
use Rattle.std.specs.Int.{div_ceil}
use Rattle.rc_instance.specs.declared.change.Change.{Change}
use Rattle.rc_instance.specs.Lists.{greatest, numbers}
use Rattle.rc_instance.specs.Project.{Project, IsActivity, activity_count, resource_count, duration, demand, capacity}

-- the greatest capacity that a resource ever has: the one before any change, or one of a change
unfoldable pub top_capacity : Project → ℕ → ℕ
top_capacity project k =
    max (capacity project k) (greatest (map (λ (change : Change). change.capacity)
    (filter (λ change. nat_eq change.resource k) project.changes)))

-- what activity a asks of a resource in all its periods together
abbrev pub work_of : Project → ℕ → ℕ → ℕ
work_of project k a = demand project a k * duration project a

-- what all activities ask of a resource in all their periods together
unfoldable pub work : Project → ℕ → ℕ
work project k = sum_by (work_of project k) (numbers (activity_count project))

-- no activity that takes time demands more of a resource than a capacity
abbrev pub IsEnough : Project → ℕ → ℕ → Type 0
IsEnough project k c =
    (a : ℕ) → IsActivity project a → 0 < duration project a → demand project a k ≤ c

-- whether no activity that takes time demands more of a resource than its top capacity
unfoldable pub is_enough : Project → ℕ → Bool
is_enough project k =
    list_all (λ a. duration project a == 0 || nat_le (demand project a k) (top_capacity project k))
    (numbers (activity_count project))

-- the work of a resource over its top capacity, rounded up;
-- 0 where its top capacity is 0, or an activity that takes time demands more
unfoldable pub bound_by : Project → ℕ → ℕ
bound_by project k =
    if nat_lt 0 (top_capacity project k) && is_enough project k
    then div_ceil (work project k) (top_capacity project k) else 0

-- the greatest bound by a resource, or 0 where there is none: no schedule ends earlier
unfoldable pub capacity_bound_of : Project → ℕ
capacity_bound_of project = greatest (map (bound_by project) (numbers (resource_count project)))
