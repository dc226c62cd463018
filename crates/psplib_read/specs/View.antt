-- What the values of the reader stand for.
use Rattle.std.specs.Prelude.{◌≡◌, List, [], ◌∷◌, ◌++◌, map}
use Rattle.std.specs.List.{flat_map}
use Rattle.rc_instance.specs.declared.parts.Parts.{Parts}
use Rattle.psplib_read.specs.declared.requests.Requests.{Requests}
use Rattle.psplib_read.specs.Sm.{Request, Text}

-- requests, column by column
pub record Holds (found : List Request) (requests : Requests) : Type 0 where
  pub durations : requests.durations.items ≡ map (λ r. r.duration) found
  pub demands : requests.demands.items ≡ flat_map (λ r. r.demands) found

-- they have gained one
pub record Gains (request : Request) (old new : Requests) : Type 0 where
  pub durations : new.durations.items ≡ old.durations.items ++ request.duration ∷ []
  pub demands : new.demands.items ≡ old.demands.items ++ request.demands

-- the parts hold what a text says, column by column
pub record HoldsText (text : Text) (parts : Parts) : Type 0 where
  pub capacities : parts.capacities.items ≡ text.capacities
  pub durations : parts.durations.items ≡ map (λ r. r.duration) text.requests
  pub demands : parts.demands.items ≡ flat_map (λ r. r.demands) text.requests
  pub successors : map (λ list. list.items) parts.successors.items ≡ text.successors
