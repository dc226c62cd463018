use Rattle.std.proofs.Common.{◌≡◌, ℕ, ◌<◌, false, slice_index_or}
use Rattle.fwd_back.proofs.backward.unmark.Given as goal

abbrev pub invariant-loop-mark : goal.invariant-loop-mark
invariant-loop-mark l = (k : ℕ) → k < l.mark-index → slice_index_or l.mark-items k false ≡ false
