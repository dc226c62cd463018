use Rattle.std.proofs.Common.{◌∙◌, append_assoc, lit<}
use lib.Utf8.{encode}
use Rattle.rc_edge.proofs.PlaceLaws.{styled_decimal-placed}
use Rattle.psplib_read.specs.Written.{relation}
use Rattle.psplib_read.proofs.write.push_relation.Goals as goal

pub returns : goal.returns
unfolding relation encode
returns c =
    let row = rw (c.laid_out.ensures, c.laid_out-2.ensures, c.laid_out-3.ensures)
    at c.in_ok-write.ensures.bytes in
    c.in_ok-push.ensures.bytes
    ∙ rw (
      c.in_ok-push_columns.ensures,
      row,
      styled_decimal-placed 4 c.args.job (lit< tt),
      styled_decimal-placed 8 1 (lit< tt),
      styled_decimal-placed 10 c.successor_count-count.result (lit< tt),
      c.successor_count-count.ensures,
      c.successors.ensures.value,
    )
    (simp append_assoc)
