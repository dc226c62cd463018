-- A sink before and after something is put on it.
use Rattle.std.specs.Prelude.{ℕ, ◌≤◌, List, Option}
use Rattle.rc_edge.specs.Faults.{Rose}
use Rattle.rc_edge.specs.Sink.{Gains, GainsPrefix}

-- a sink at one moment: the bytes that it tells, its faults, the puts that fail on purpose, and its room
pub record SinkAt : Type 0 where
  pub held : Option (List ℕ)
  pub faults : ℕ
  pub failing : Option (List ℕ)
  pub room : Option ℕ

-- the note gains a line, or a prefix of it where its count rose
pub record Tells (before after : SinkAt) (line : List ℕ) : Type 0 where
  pub later : before.faults ≤ after.faults
  pub part : GainsPrefix before.held after.held line
  pub whole : (Rose before.faults after.faults → ⊥) → Gains before.held after.held line
