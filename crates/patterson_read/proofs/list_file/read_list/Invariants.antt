use Rattle.std.proofs.Common.{◌≡◌, length}
use Rattle.patterson_read.specs.ListFile.{numbers_in, read_list}
use Rattle.patterson_read.proofs.ListLaws.{after}
use Rattle.patterson_read.proofs.list_file.read_list.Given as goal

abbrev pub invariant-loop-cursor : goal.invariant-loop-cursor
invariant-loop-cursor l =
    after l.list.items (numbers_in l.cursor.tokens) ≡ read_list l.bytes

abbrev pub decreases-loop-cursor : goal.decreases-loop-cursor
decreases-loop-cursor l = length l.cursor.tokens
