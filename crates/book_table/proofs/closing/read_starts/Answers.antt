use Rattle.std.proofs.Common.{◌≡◌, ◌-◌, ◌<◌, length, ap, subst, arith}
use Rattle.book_rule.specs.Listed.{count, begins}
use Rattle.book_table.proofs.FillLaws.{IsFilled}
use Rattle.book_table.proofs.ClosedLaws.{start_read, starts_are}
use Rattle.book_table.proofs.closing.read_starts.Goals as goal

pub overflow_cast-start : goal.overflow_cast-start
overflow_cast-start c =
    let list = c.args.list.now in
    let long = ap length c.order-order.ensures.value in
    let below : c.loop-position.position < count list =
    omega (arith, long, c.loop-position-test.true) in
    let read =
    start_read list c.args.shut.now c.loop-position.position c.at-start.result
    c.requires.bookable c.requires.complete below c.at-start.ensures in
    let is = read.0 in
    let small = read.1 in
    let few : c.at-start.result - 1 < 4294967296 = omega (arith, is, small) in
    omega arith

pub returns : goal.returns
returns c =
    let list = c.args.list.now in
    let feasible = c.order-order.ensures.feasible in
    let long = ap length c.order-order.ensures.value in
    let last : c.loop-position.position ≡ count list =
    omega (arith, long, c.loop-position-test.false, c.loop-position.auto.position-end) in
    starts_are list c.loop-position.schedule feasible
    (subst (λ n. IsFilled list (begins list) n c.loop-position.schedule)
    last c.loop-position.invariant)
