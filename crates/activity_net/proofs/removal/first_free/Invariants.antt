use Rattle.std.proofs.Common.{ℕ, ◌≤◌}
use Rattle.activity_net.specs.Tables.{IsFree}
use Rattle.activity_net.proofs.removal.first_free.Given as goal

abbrev pub invariant-loop-i : goal.invariant-loop-i
invariant-loop-i l = (a : ℕ) → a ≤ l.i → IsFree l.waiting l.removed a → ⊥
