-- The parts of the instance of words.
use Rattle.std.specs.Prelude.{◌≡◌, ℕ, List, map}
use Rattle.rc_instance.specs.declared.parts.Parts.{Parts}
use Rattle.trial_instance.specs.Trial.{capacities_of, durations_of, demands_of, successor_lists_of}

-- they have the lists that the words give
pub record AreParts (activities resources : ℕ) (words : List ℕ) (parts : Parts) : Type 0 where
  pub capacities : parts.capacities.items ≡ capacities_of resources words
  pub durations : parts.durations.items ≡ durations_of activities resources words
  pub demands : parts.demands.items ≡ demands_of activities resources words
  pub successors : map (λ list. list.items) parts.successors.items
      ≡ successor_lists_of activities resources words
