-- Instances within the limits, with small demands.
use Rattle.std.proofs.Common.{◌≡◌, ℕ, ◌*◌, ◌<◌, ◌≤◌, ◌^◌, List, length, sym, subst, ◌∙◌, All}
use Rattle.std.specs.List.{sum}
use Rattle.rc_instance.specs.declared.limits.TheConstants.{MAX_ACTIVITIES, MAX_RESOURCES, MAX_CAPACITY, MAX_DURATION_SUM}
use Rattle.rc_instance.specs.Lists.{IsUpTo}
use Rattle.rc_instance.specs.Project.{Project}
use Rattle.rc_instance.specs.Parts.{made}
use Rattle.rc_instance.specs.Calendar.{IsWithinLimits}
use Rattle.rc_instance.proofs.BuildLaws.{made_within}

-- an instance within the limits, each demand of which is a number that a text can give
pub record IsFit (project : Project) : Type 0 where
  pub limits : IsWithinLimits project
  pub modest : All (λ d. d < 2 ^ 32) project.demands

-- what so many lists within the limits make
pub within_limits : (capacities durations demands : List ℕ) (successors : List (List ℕ)) (n : ℕ)
    → length durations ≡ n → 1 ≤ n → n ≤ MAX_ACTIVITIES → length capacities ≤ MAX_RESOURCES
    → All (λ c. c ≤ MAX_CAPACITY) capacities → All (All (IsUpTo n)) successors
    → sum durations ≤ MAX_DURATION_SUM → length successors ≡ n
    → length demands ≡ n * length capacities
    → IsWithinLimits (made capacities durations demands successors)
within_limits capacities durations demands successors n count some few resources small within short
    lists shape =
    made_within capacities durations demands successors
    (record {
      some = subst (λ (m : ℕ). 1 ≤ m) (sym count) some;
      activities = subst (λ (m : ℕ). m ≤ MAX_ACTIVITIES) (sym count) few;
      resources = resources;
      capacities_within = small;
      successors_within = subst (λ (m : ℕ). All (All (IsUpTo m)) successors) (sym count) within;
      sum_within = short;
    })
    (lists ∙ sym count)
    (subst (λ (m : ℕ). length demands ≡ m * length capacities) (sym count) shape)
