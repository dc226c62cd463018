use Rattle.std.proofs.Common.{inl, arith}
use Rattle.std.proofs.lemmas.Result.{err_from_is_err_and}
use Rattle.patterson_read.specs.ListFile.{read_list}
use Rattle.patterson_read.proofs.ListLaws.{list_begins, list_goes_on, list_fails, list_ends, list_kind_is, not_at_end}
use Rattle.patterson_read.proofs.list_file.read_list.Goals as goal

pub loop-cursor-init : goal.loop-cursor-init
loop-cursor-init c =
    rw (c.new-list.ensures.items, c.new-cursor.ensures) (list_begins c.args.bytes.now)

pub returns-in_err-number-clause-reads : goal.returns-in_err-number-clause-reads
returns-in_err-number-clause-reads c =
    let some = not_at_end _ c.is_at_end.result c.is_at_end.ensures c.loop-cursor-test.true in
    let passed = err_from_is_err_and c.from_residual.result c.from_residual.ensures.1 in
    rw (passed.1, passed.2) (inl (list_fails c.loop-cursor.cursor c.loop-cursor.list.items
    c.in_err-number.field-0.0 (read_list c.args.bytes.now) some c.in_err-number.ensures
    c.loop-cursor.invariant))

pub returns-in_err-number-clause-kinds : goal.returns-in_err-number-clause-kinds
returns-in_err-number-clause-kinds c =
    let some = not_at_end _ c.is_at_end.result c.is_at_end.ensures c.loop-cursor-test.true in
    let passed = err_from_is_err_and c.from_residual.result c.from_residual.ensures.1 in
    let fault = c.in_err-number.field-0.0 in
    let refused = list_fails c.loop-cursor.cursor c.loop-cursor.list.items fault
    (read_list c.args.bytes.now) some c.in_err-number.ensures c.loop-cursor.invariant in
    rw (passed.1, passed.2) (list_kind_is c.args.bytes.now fault (inl refused))

pub loop-cursor-smaller : goal.loop-cursor-smaller
loop-cursor-smaller c =
    let some = not_at_end _ c.is_at_end.result c.is_at_end.ensures c.loop-cursor-test.true in
    let goes_on = list_goes_on c.loop-cursor.cursor c.loop-cursor.list.items c.in_ok-number.number
    c.number.new.self (read_list c.args.bytes.now) some c.in_ok-number.ensures
    c.loop-cursor.invariant in
    omega (arith, goes_on.1)

pub loop-cursor-preserved : goal.loop-cursor-preserved
loop-cursor-preserved c =
    let some = not_at_end _ c.is_at_end.result c.is_at_end.ensures c.loop-cursor-test.true in
    let number = c.in_ok-number.number in
    let goes_on = list_goes_on c.loop-cursor.cursor c.loop-cursor.list.items number
    c.number.new.self (read_list c.args.bytes.now) some c.in_ok-number.ensures
    c.loop-cursor.invariant in
    rw c.in_ok-push.ensures.items goes_on.0

pub returns-clause-reads : goal.returns-clause-reads
returns-clause-reads c =
    let end = c.is_at_end.ensures.0 c.loop-cursor-test.false in
    list_ends c.loop-cursor.list.items c.loop-cursor.cursor.tokens (read_list c.args.bytes.now) end
    c.loop-cursor.invariant
