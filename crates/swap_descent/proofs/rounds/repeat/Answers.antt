use Rattle.std.proofs.Common.{◌≡◌, ◌+◌, ◌-◌, ℕ, refl, sym, ◌∙◌, ap, arith}
use Rattle.swap_descent.specs.Descent.{descent}
use Rattle.swap_descent.proofs.DescentLaws.{repeated, repeat_more, repeat_still, repeat_end}
use Rattle.swap_descent.proofs.rounds.repeat.Goals as goal

pub loop-done-init : goal.loop-done-init
loop-done-init c =
    let all : c.args.rounds - 0 ≡ c.args.rounds = omega arith in
    record {
      network = refl;
      placed = c.requires.placed;
      same = ap (λ (n : ℕ). descent c.args.list.now.network.project n c.args.list.now.order) all;
    }

pub round-requires-clause-windows : goal.round-requires-clause-windows
round-requires-clause-windows c = c.requires.windows ∙ sym c.loop-done.invariant.network

pub round-requires-clause-placed : goal.round-requires-clause-placed
round-requires-clause-placed c = c.loop-done.invariant.placed

pub loop-done-preserved : goal.loop-done-preserved
loop-done-preserved c =
    let more = repeat_more c.loop-done.list c.round.new.list (c.args.rounds - c.loop-done.done)
    (c.args.rounds - (c.loop-done.done + 1)) (omega arith) c.round.ensures.list in
    record {
      network = more.0 ∙ c.loop-done.invariant.network;
      placed = c.round.ensures.placed;
      same = more.1 ∙ c.loop-done.invariant.same;
    }

pub returns-then-not-round-clause-list : goal.returns-then-not-round-clause-list
returns-then-not-round-clause-list c =
    let still = repeat_still c.loop-done.list c.round.new.list c.round.result
    (c.args.rounds - c.loop-done.done) c.if-not-round.true c.round.ensures.told c.round.ensures.list in
    (repeated c.args.list.now c.round.new.list _ _ c.round.new.line c.round.new.starts
    (still.0 ∙ c.loop-done.invariant.network) (still.1 ∙ c.loop-done.invariant.same)
    c.round.ensures.placed).0

pub returns-then-not-round-clause-schedule : goal.returns-then-not-round-clause-schedule
returns-then-not-round-clause-schedule c =
    let still = repeat_still c.loop-done.list c.round.new.list c.round.result
    (c.args.rounds - c.loop-done.done) c.if-not-round.true c.round.ensures.told c.round.ensures.list in
    (repeated c.args.list.now c.round.new.list _ _ c.round.new.line c.round.new.starts
    (still.0 ∙ c.loop-done.invariant.network) (still.1 ∙ c.loop-done.invariant.same)
    c.round.ensures.placed).1

pub returns-clause-list : goal.returns-clause-list
returns-clause-list c =
    let none : c.args.rounds - c.loop-done.done ≡ 0 = omega arith in
    let end = repeat_end c.loop-done.list (c.args.rounds - c.loop-done.done) none in
    (repeated c.args.list.now c.loop-done.list _ _ c.loop-done.line c.loop-done.starts
    c.loop-done.invariant.network (end ∙ c.loop-done.invariant.same)
    c.loop-done.invariant.placed).0

pub returns-clause-schedule : goal.returns-clause-schedule
returns-clause-schedule c =
    let none : c.args.rounds - c.loop-done.done ≡ 0 = omega arith in
    let end = repeat_end c.loop-done.list (c.args.rounds - c.loop-done.done) none in
    (repeated c.args.list.now c.loop-done.list _ _ c.loop-done.line c.loop-done.starts
    c.loop-done.invariant.network (end ∙ c.loop-done.invariant.same)
    c.loop-done.invariant.placed).1
