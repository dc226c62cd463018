use Rattle.std.proofs.Common.{◌≡◌, ◌≤◌, length, take}
use Rattle.swap_descent.proofs.placing.undo_to.Given as goal

abbrev pub invariant-undoing : goal.invariant-undoing
invariant-undoing l = record {
  project : l.line.project ≡ l.fn.line.project;
  left : l.line.bookings ≡ take (length l.line.bookings) l.fn.line.bookings;
  some : l.left ≤ length l.line.bookings;
}

abbrev pub decreases-undoing : goal.decreases-undoing
decreases-undoing l = length l.line.bookings
