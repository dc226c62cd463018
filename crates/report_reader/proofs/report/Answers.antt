use Rattle.std.proofs.Common.{◌≡◌, ℕ, ◌+◌, ◌*◌, ◌≤◌, ◌<◌, ap, arith, w32}
use Rattle.book_rule.specs.declared.view.View.{View}
use Rattle.book_rule.specs.Listed.{count, begins, horizon_of, lasts}
use Rattle.book_rule.proofs.ListedLaws.{begins-ends, horizon-small}
use Rattle.report_reader.proofs.report.Goals as goal

-- a start is at most the horizon
pub overflow_cast-out : goal.overflow_cast-out
overflow_cast-out c =
    let list = c.args.book.now.listing in
    let i = c.loop-position.position in
    let known = c.positions.ensures.bookable in
    let ends : begins list i + lasts list i ≤ horizon_of list =
    begins-ends list known i (omega arith) in
    let small : horizon_of list ≤ 131070 = horizon-small list known in
    let loop_seen = ap (λ (v : View). v.seen) c.loop-position.invariant.0.view in
    let turn_seen = ap (λ (v : View). v.seen) c.load_turn-turn.ensures.told.view in
    let told = c.load_start-word.ensures.told.start in
    let word : c.load_start-word.result ≡ begins list i + 1 = told.due (omega arith) in
    omega arith
