use Rattle.std.proofs.Common.{◌<◌, ◌∙◌, length, get_or, arith, lit<}
use Rattle.std.proofs.lemmas.List.{take_more, flat_map_more}
use Rattle.std.specs.String.{string_bytes}
use Rattle.rc_edge.proofs.PlaceLaws.{styled_decimal-placed}
use Rattle.psplib_read.specs.Written.{column}
use Rattle.psplib_read.proofs.write.push_columns.Goals as goal

pub loop-number-preserved : goal.loop-number-preserved
loop-number-preserved c =
    let i = c.loop-number.number-index in
    let numbers = c.args.numbers.now in
    let inside : i < length numbers = omega arith in
    rw c.laid_out.ensures at c.in_ok-write.ensures.bytes
    ∙ rw (
      styled_decimal-placed 4 (get_or numbers i 0) (lit< tt),
      c.loop-number.invariant,
      take_more
          numbers i 0 inside,
    )
    (flat_map_more (column 4) (string_bytes c.args.text.now) _ _)
