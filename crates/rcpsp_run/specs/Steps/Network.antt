-- Whether the precedence of an instance has a cycle.
use Rattle.std.specs.Prelude.{ℕ, List, Option, None, Some, Result, Ok, Err}
use Rattle.rcpsp_run.specs.declared.refusal.Refusal.{Refusal}
use Rattle.rcpsp_run.specs.declared.refusal.Refusal.TheVariants.{Cycle}

-- nothing, or a cycle
abbrev pub without_cycle : Option (List ℕ) → Result (Unit {0}) Refusal
without_cycle None = Ok tt
without_cycle (Some ring) = Err (Cycle ring)
