-- The periods in which usage may rise or a capacity may fall.
use Rattle.std.specs.Prelude.{ℕ, List, Contains, All}
use Rattle.std.specs.List.Sorted.{IsStrictlyIncreasing}
use Rattle.rc_instance.specs.declared.change.Change.{Change}
use Rattle.rc_instance.specs.Project.{Project}

-- rising periods, among them the first, each start and the period of each change
pub record AreTurning (project : Project) (schedule periods : List ℕ) : Type 0 where
  pub rising : IsStrictlyIncreasing periods
  pub first : Contains periods 0
  pub starts : All (Contains periods) schedule
  pub changes : All (λ (change : Change). Contains periods change.period) project.changes
