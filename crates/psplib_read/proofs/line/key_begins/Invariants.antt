use Rattle.std.proofs.Common.{◌≡◌, ◌≤◌, length, drop}
use Rattle.psplib_read.specs.Lines.{begins_with, key_in}
use Rattle.psplib_read.proofs.line.key_begins.Given as goal

abbrev pub invariant-loop-byte : goal.invariant-loop-byte
invariant-loop-byte l =
    (l.matched ≤ length l.word)
    × (begins_with (drop l.matched l.word) (key_in (drop l.byte-index l.text))
    ≡ begins_with l.word (key_in l.text))
