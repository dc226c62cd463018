-- What each step of a race tells its seeker.
use Rattle.std.specs.Prelude.{◌≡◌, ℕ, ◌<◌, ◌≤◌, slice_index, min, All}
use Rattle.atomic_table.specs.Table.{Me, Step}
use Rattle.race_rule.specs.declared.view.SeekerView.{SeekerView}
use Rattle.race_rule.specs.Views.{after_take, after_look, after_value}
use Rattle.race_rule.specs.Rule.{IsBestWord}

-- the best word that a step found or left: it has not risen, and no settled sample is better
pub record IsSeen (view : SeekerView) (best : ℕ) : Type 0 where
  pub real : IsBestWord view.words best
  pub falls : best ≤ view.best_seen
  pub settled : All (λ t. best ≤ slice_index view.words t) view.done

-- a ticket was drawn, above each that the seeker drew before
pub record IsTaking (step : Step (Unit {0})) (old : Me (Unit {0}) SeekerView) (ticket : ℕ)
    (new : Me (Unit {0}) SeekerView) : Type 0 where
  pub kept : new.1 ≡ old.1
  pub view : new.0 ≡ after_take old.0 ticket
  pub above : old.0.next ≤ ticket
  pub drawn : All (λ t. t < ticket) old.0.drawn

-- the best word was loaded, and the sample in hand given up where the limit is above it
pub record IsLooking (limit : ℕ) (step : Step (Unit {0})) (old : Me (Unit {0}) SeekerView) (best : ℕ)
    (new : Me (Unit {0}) SeekerView) : Type 0 where
  pub kept : new.1 ≡ old.1
  pub view : new.0 ≡ after_look limit old.0 best
  pub seen : IsSeen old.0 best

-- the best word was lowered to the sample's, if it was above
pub record IsValuing (step : Step (Unit {0})) (old : Me (Unit {0}) SeekerView) (found : ℕ)
    (new : Me (Unit {0}) SeekerView) : Type 0 where
  pub kept : new.1 ≡ old.1
  pub view : new.0 ≡ after_value old.0 (min found step.first)
  pub seen : IsSeen old.0 (min found step.first)
