use Rattle.std.proofs.Common.{length}
use Rattle.time_windows.specs.Windows.{tail_of}
use Rattle.time_windows.proofs.FillLaws.{IsFilled}
use Rattle.time_windows.proofs.longest.fill_tails.Given as goal

abbrev pub invariant-loop-place : goal.invariant-loop-place
invariant-loop-place l = IsFilled (tail_of l.net.project) l.order l.tails l.place (length l.order)
