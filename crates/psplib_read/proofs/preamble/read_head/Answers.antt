use Rattle.std.proofs.Common.{sym, ap, length, ◌∙◌, arith}
use Rattle.std.proofs.lemmas.Result.{err_from_is_err_and}
use Rattle.psplib_read.proofs.PreambleLaws.{next_is, end_comes, line_comes, line_refused, lines_end}
use Rattle.psplib_read.proofs.preamble.read_head.Goals as goal

pub returns-then-says : goal.returns-then-says
returns-then-says c =
    let so_far = c.loop-line.invariant in
    let found = c.in-Some.ensures.found in
    let ends = sym c.says.ensures ∙ c.if-says.true in
    rw c.skip_line.ensures (end_comes c.size-size.result c.loop-line.preamble c.loop-line.cursor
    c.next_line.new.self c.in-Some.line c.head.result _ found ends
    (rw (← c.first_at.ensures) c.head.ensures) so_far.0 so_far.1)

pub returns-in_err-preamble : goal.returns-in_err-preamble
returns-in_err-preamble c =
    let passed = err_from_is_err_and c.from_residual.result c.from_residual.ensures.1 in
    let so_far = c.loop-line.invariant in
    let other = sym c.says.ensures ∙ c.if-says.false in
    rw (passed.1, passed.2) (line_refused c.size-size.result c.loop-line.preamble c.loop-line.cursor
    c.next_line.new.self c.in-Some.line c.in_err-preamble.field-0.0 _ c.in-Some.ensures.found
    other c.in_err-preamble.ensures so_far.1)

pub loop-line-smaller : goal.loop-line-smaller
loop-line-smaller c =
    let lines = next_is c.loop-line.cursor c.next_line.new.self c.in-Some.line
    c.in-Some.ensures.found in
    omega (arith, ap length lines.0)

pub loop-line-preserved : goal.loop-line-preserved
loop-line-preserved c =
    let so_far = c.loop-line.invariant in
    let other = sym c.says.ensures ∙ c.if-says.false in
    let lines = next_is c.loop-line.cursor c.next_line.new.self c.in-Some.line
    c.in-Some.ensures.found in (
      lines.1 ∙ so_far.0,
      line_comes c.size-size.result c.loop-line.preamble
          c.in_ok-preamble.preamble c.loop-line.cursor c.next_line.new.self c.in-Some.line _
          c.in-Some.ensures.found other c.in_ok-preamble.ensures so_far.1,
    )

pub returns : goal.returns
returns c = lines_end c.size-size.result c.loop-line.preamble c.loop-line.cursor _
    c.in_default.ensures.found c.loop-line.invariant.1
