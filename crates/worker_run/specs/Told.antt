-- What a watch has put on its note.
use Rattle.std.specs.Prelude.{◌≡◌, ℕ, ◌≤◌, Bool, true, false, List, [], ◌∷◌, ◌++◌, Option}
use Rattle.rc_edge.specs.Faults.{Rose}
use Rattle.rc_edge.specs.Sink.{Gains, GainsPrefix}
use Rattle.worker_run.specs.Lines.{report_lines, AreCounts}

-- What a sink took of a text: all of it where no put failed, and its count of faults stands; or a
-- prefix of it where one failed, and the count rose.
pub record Takes (before after : ℕ) (old new : Option (List ℕ)) (failed : Bool)
    (text : List ℕ) : Type 0 where
  pub later : before ≤ after
  pub whole : failed ≡ false → (after ≡ before) × Gains old new text
  pub part : failed ≡ true → Rose before after × GainsPrefix old new text

-- the lines of so many looks, of counts that never fall
pub record TellsLooks (n times before after : ℕ) (old new : Option (List ℕ))
    (failed : Bool) : Type 0 where
  pub counts : List ℕ
  pub rising : AreCounts n times counts
  pub taken : Takes before after old new failed (report_lines n counts)

-- the same, and at last the line that all is booked
pub record TellsRun (n times before after : ℕ) (old new : Option (List ℕ))
    (failed : Bool) : Type 0 where
  pub counts : List ℕ
  pub rising : AreCounts n times counts
  pub taken : Takes before after old new failed (report_lines n (counts ++ n ∷ []))
