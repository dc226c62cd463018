-- Demands that no period can meet.
use Rattle.std.specs.Prelude.{◌≡◌, ℕ, ◌<◌, ◌≤◌, ◌&&◌, nat_lt, Option, None, Some, if◌then◌else◌}
use Rattle.rc_instance.specs.declared.misfit.Misfit.{Misfit as Shown}
use Rattle.rc_instance.specs.Lists.{numbers, first_of}
use Rattle.rc_instance.specs.Project.{Project, IsActivity, IsResource, activity_count, resource_count, duration, demand, last_capacity}

-- activity a takes time, and demands more of resource k than there is after all changes
pub record IsMisfit (project : Project) (a k : ℕ) : Type 0 where
  pub activity : IsActivity project a
  pub resource : IsResource project k
  pub runs : 0 < duration project a
  pub exceeds : last_capacity project k < demand project a k

-- no demand of an activity that takes time is above the last capacity
pub record HasNoMisfit (project : Project) : Type 0 where
  pub fits : (a k : ℕ) → IsActivity project a → IsResource project k → 0 < duration project a
      → demand project a k ≤ last_capacity project k

-- the misfit of activity a and its least resource, with its demand and the last capacity
pub record IsFirstMisfitOf (project : Project) (a : ℕ) (shown : Shown) : Type 0 where
  pub activity : shown.activity ≡ a
  pub misfit : IsMisfit project a shown.resource
  pub least : (k : ℕ) → IsMisfit project a k → shown.resource ≤ k
  pub demand : shown.demand ≡ demand project a shown.resource
  pub capacity : shown.capacity ≡ last_capacity project shown.resource

-- the misfit of the least activity that has one, and of its least resource
pub record IsFirstMisfit (project : Project) (shown : Shown) : Type 0 where
  pub first : IsFirstMisfitOf project shown.activity shown
  pub least : (a k : ℕ) → IsMisfit project a k → shown.activity ≤ a

-- the same as it is computed: the first misfit in order of activity, then of resource

-- the misfit of an activity and a resource, if they are one
unfoldable pub misfit_at : Project → ℕ → ℕ → Option Shown
misfit_at project a k =
    if nat_lt 0 (duration project a) && nat_lt (last_capacity project k) (demand project a k)
    then Some (record { activity = a; resource = k; demand = demand project a k; capacity = last_capacity project k })
    else None

-- the misfit of an activity and its least resource, if it has one
unfoldable pub misfit_of : Project → ℕ → Option Shown
misfit_of project a = first_of (misfit_at project a) (numbers (resource_count project))

-- the misfit of the least activity that has one
unfoldable pub first_misfit : Project → Option Shown
first_misfit project = first_of (misfit_of project) (numbers (activity_count project))
