use Rattle.std.proofs.Common.{◌∙◌, append_assoc, lit<}
use lib.Utf8.{encode}
use Rattle.rc_edge.proofs.PlaceLaws.{styled_decimal-placed}
use Rattle.psplib_read.specs.Written.{request}
use Rattle.psplib_read.proofs.write.push_request.Goals as goal

pub returns-clause-value : goal.returns-clause-value
unfolding request encode
returns-clause-value c =
    let row = rw (c.laid_out.ensures, c.laid_out-2.ensures, c.laid_out-3.ensures)
    at c.in_ok-write.ensures.bytes in
    c.in_ok-push.ensures.bytes
    ∙ rw (
      c.in_ok-push_demands.ensures.value,
      row,
      styled_decimal-placed 4 c.args.job (lit< tt),
      styled_decimal-placed 5 1 (lit< tt),
      styled_decimal-placed 8 c.duration-duration.result (lit< tt),
      c.duration-duration.ensures.value,
    )
    (simp append_assoc)
