-- What the values of the reader stand for.
use Rattle.std.specs.Prelude.{◌≡◌, List, [], ◌∷◌, ◌++◌, map}
use Rattle.std.specs.List.{flat_map}
use Rattle.rc_instance.specs.declared.parts.Parts.{Parts}
use Rattle.patterson_read.specs.Rcp.{Activity, Text}

-- the parts hold what a text says, column by column
pub record Holds (text : Text) (parts : Parts) : Type 0 where
  pub capacities : parts.capacities.items ≡ text.capacities
  pub durations : parts.durations.items ≡ map (λ a. a.duration) text.activities
  pub demands : parts.demands.items ≡ flat_map (λ a. a.demands) text.activities
  pub successors : map (λ list. list.items) parts.successors.items
      ≡ map (λ a. a.successors) text.activities

-- the parts have gained an activity
pub record Gains (activity : Activity) (old new : Parts) : Type 0 where
  pub capacities : new.capacities.items ≡ old.capacities.items
  pub durations : new.durations.items ≡ old.durations.items ++ activity.duration ∷ []
  pub demands : new.demands.items ≡ old.demands.items ++ activity.demands
  pub successors : map (λ list. list.items) new.successors.items
      ≡ map (λ list. list.items) old.successors.items ++ activity.successors ∷ []
