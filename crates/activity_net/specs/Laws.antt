-- The main laws of networks and feasible lists, each over all projects.
use Rattle.std.specs.Prelude.{◌≡◌, ◌↔◌, ℕ, ◌<◌, List, None, length, slice_index, Contains, IsTrue}
use Rattle.rc_instance.specs.Lists.{names}
use Rattle.rc_instance.specs.Project.{Project, IsActivity, Precedes}
use Rattle.rc_instance.specs.Calendar.{IsWithinLimits}
use Rattle.rc_instance.specs.Order.{IsFeasibleList, IsCycle}
use Rattle.activity_net.specs.Follows.{Follows, followers}
use Rattle.activity_net.specs.ListFault.{first_list_fault}

-- an activity may be listed next: it is not listed, and all its direct predecessors are
pub record IsEligible (project : Project) (listed : List ℕ) (a : ℕ) : Type 0 where
  pub activity : IsActivity project a
  pub unlisted : Contains listed a → ⊥
  pub ready : (p : ℕ) → IsActivity project p → Precedes project p a → Contains listed p

-- in a feasible list each direct predecessor stands before
abbrev pub PredecessorStandsBefore : Type 0
PredecessorStandsBefore = (project : Project) (order : List ℕ) (place a : ℕ)
    → IsFeasibleList project order → place < length order → IsActivity project a
    → Precedes project a (slice_index order place)
    → (before : ℕ) × (before < place) × (slice_index order before ≡ a)

-- where a feasible list exists, whatever is listed, an activity is eligible as long as one is left
abbrev pub EligibleActivityExists : Type 0
EligibleActivityExists = (project : Project) (order listed : List ℕ) (left : ℕ)
    → IsFeasibleList project order → IsActivity project left → (Contains listed left → ⊥)
    → (a : ℕ) × IsEligible project listed a

-- where a feasible list exists there is no cycle
abbrev pub FeasibleListExcludesCycle : Type 0
FeasibleListExcludesCycle = (project : Project) (order ring : List ℕ)
    → IsFeasibleList project order → IsCycle project ring → ⊥

-- an order has no fault exactly where it is a feasible list
abbrev pub ListFaultIsExact : Type 0
ListFaultIsExact = (project : Project) (order : List ℕ)
    → (first_list_fault project order ≡ None) ↔ IsFeasibleList project order

-- the followers of an activity are just the activities that follow it
abbrev pub FollowersAreExact : Type 0
FollowersAreExact = (project : Project) (order : List ℕ) (a b : ℕ)
    → IsWithinLimits project → IsFeasibleList project order → IsActivity project a
    → IsTrue (names (followers project a) b) ↔ Follows project a b
