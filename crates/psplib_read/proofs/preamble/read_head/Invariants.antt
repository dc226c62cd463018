use Rattle.std.proofs.Common.{◌≡◌, length}
use Rattle.psplib_read.specs.Preamble.{preamble_in, head_due}
use Rattle.psplib_read.proofs.preamble.read_head.Given as goal

abbrev pub invariant-loop-line : goal.invariant-loop-line
invariant-loop-line l = (l.cursor.size ≡ l.size) × (preamble_in l.size l.preamble l.cursor.lines
    ≡ head_due l.fn.cursor)

abbrev pub decreases-loop-line : goal.decreases-loop-line
decreases-loop-line l = length l.cursor.lines
