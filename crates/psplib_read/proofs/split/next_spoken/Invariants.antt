use Rattle.std.proofs.Common.{◌≡◌, ◌+◌, ◌≤◌, false, length}
use Rattle.psplib_read.specs.Lines.{lines_from, spoken}
use Rattle.psplib_read.proofs.split.next_spoken.Given as goal

abbrev pub invariant-loop-rest : goal.invariant-loop-rest
invariant-loop-rest l =
    (spoken (lines_from false l.at l.rest) ≡ spoken (lines_from false l.fn.from l.fn.bytes))
    × (l.at + length l.rest ≤ l.fn.from + length l.fn.bytes)

abbrev pub decreases-loop-rest : goal.decreases-loop-rest
decreases-loop-rest l = length l.rest
