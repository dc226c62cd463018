-- What makes a calendar of changes, and the limits that every instance keeps.
use Rattle.std.specs.Prelude.{◌≡◌, ℕ, ◌*◌, ◌<◌, ◌≤◌, ◌⊎◌, List, length, All, AllPairs}
use Rattle.rc_instance.specs.declared.change.Change.{Change}
use Rattle.rc_instance.specs.declared.limits.TheConstants.{MAX_ACTIVITIES, MAX_RESOURCES, MAX_CAPACITY, MAX_DURATION_SUM, MAX_CHANGES, MAX_CHANGE_PERIOD}
use Rattle.rc_instance.specs.Lists.{IsRising}
use Rattle.rc_instance.specs.Project.{Project, activity_count, resource_count, duration_sum}

-- a change of a resource that is there, in a period and to a capacity within the limits
pub record IsChange (resources : ℕ) (change : Change) : Type 0 where
  pub resource : (1 ≤ change.resource) × (change.resource ≤ resources)
  pub period : (1 ≤ change.period) × (change.period ≤ MAX_CHANGE_PERIOD)
  pub capacity : change.capacity ≤ MAX_CAPACITY

-- one change comes before another: of a lower resource, or of the same one in an earlier period
abbrev pub ComesBefore : Change → Change → Type 0
ComesBefore a b = (a.resource < b.resource) ⊎ ((a.resource ≡ b.resource) × (a.period < b.period))

-- a calendar for so many resources: changes within the limits, each pair of resource and period above the one before
pub record IsCalendar (resources : ℕ) (changes : List Change) : Type 0 where
  pub count : length changes ≤ MAX_CHANGES
  pub within : All (IsChange resources) changes
  pub rising : AllPairs ComesBefore changes

-- what the successors of an activity are: numbers of activities in rising order
abbrev pub AreSuccessors : ℕ → List ℕ → Type 0
AreSuccessors count successors = IsRising count successors

-- what every instance keeps: its lists have their lengths, and no limit is passed
pub record IsWithinLimits (project : Project) : Type 0 where
  pub some : 1 ≤ activity_count project
  pub activities : activity_count project ≤ MAX_ACTIVITIES
  pub resources : resource_count project ≤ MAX_RESOURCES
  pub capacities : All (λ c. c ≤ MAX_CAPACITY) project.capacities
  pub demands : length project.demands ≡ activity_count project * resource_count project
  pub successors : length project.successors ≡ activity_count project
  pub successor_lists : All (IsRising (activity_count project)) project.successors
  pub durations : duration_sum project ≤ MAX_DURATION_SUM
  pub calendar : IsCalendar (resource_count project) project.changes
