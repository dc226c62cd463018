use Rattle.std.proofs.Common.{◌≡◌, inl, [], ◌∷◌, ◌++◌, Ok, Err, ◌∙◌}
use Rattle.std.proofs.lemmas.Result.{err_from_is_err_and}
use Rattle.rc_edge.proofs.GrammarLaws.{goes_on, fails, ends}
use Rattle.patterson_read.specs.Calendar.{last_of, next_change}
use Rattle.patterson_read.proofs.calendar.read_each.Goals as goal

pub returns-in_err-change : goal.returns-in_err-change
returns-in_err-change c =
    let passed = err_from_is_err_and c.from_residual.result c.from_residual.ensures.1 in
    let one = next_change c.args.resources in
    let found = c.loop.changes.items in
    let fault = c.in_err-change.field-0.0 in
    let last : c.copied.result ≡ last_of c.loop.changes.items =
    c.copied.ensures ∙ rw c.deref.ensures.value at c.last.ensures.value in
    let refused : one found c.loop.cursor ≡ Err fault = rw last at c.in_err-change.ensures in
    rw (passed.1, passed.2) (inl (fails one c.args.count c.loop.counter found c.loop.cursor fault _
    c.loop-test.true c.loop.invariant refused))

pub loop-preserved : goal.loop-preserved
loop-preserved c =
    let one = next_change c.args.resources in
    let found = c.loop.changes.items in
    let change = c.in_ok-change.change in
    let left = c.read_change.new.cursor in
    let last : c.copied.result ≡ last_of c.loop.changes.items =
    c.copied.ensures ∙ rw c.deref.ensures.value at c.last.ensures.value in
    let read : one found c.loop.cursor ≡ Ok (change, left) = rw last at c.in_ok-change.ensures in
    let pushed : c.push.new.self.items ≡ found ++ change ∷ [] = c.in_ok-push.ensures.items in
    rw pushed (goes_on one c.args.count c.loop.counter found c.loop.cursor change left _
    c.loop-test.true read c.loop.invariant)

pub returns : goal.returns
returns c =
    ends (next_change c.args.resources) c.args.count c.loop.counter c.loop.changes.items
    c.loop.cursor _ c.loop-test.false c.loop.invariant
