use Rattle.std.proofs.Common.{◌≡◌, ◌-◌, Bool, length, if◌then◌else◌, refl, sym, ◌∙◌, subst, ap, ℕ, arith}
use Rattle.rc_instance.specs.Project.{Project, activity_count}
use Rattle.rc_instance.specs.Schedule.{makespan}
use Rattle.activity_net.specs.Network.{Network}
use Rattle.swap_descent.specs.Descent.{swapped}
use Rattle.swap_descent.specs.Placed.{IsPlaced}
use Rattle.swap_descent.proofs.RoundLaws.{limit_is, at_first, at_after, at_more, at_found, at_end, at_late, round_none, round_some}
use Rattle.swap_descent.proofs.rounds.round.Goals as goal

pub makespan-limit-requires : goal.makespan-limit-requires
makespan-limit-requires c =
    c.requires.placed.count
    ∙ sym (ap activity_count (c.instance.ensures.value
    ∙ ap (λ (network : Network). network.project) c.net.ensures.value))

pub loop-position-init : goal.loop-position-init
loop-position-init c =
    let is = c.instance.ensures.value
    ∙ ap (λ (network : Network). network.project) c.net.ensures.value in
    record {
      same = refl;
      at = at_first c.args.windows.now c.args.list.now c.length_of-count.result
          c.makespan-limit.result c.args.line.now c.clear.new.self c.args.starts.now
          c.requires.windows c.length_of-count.ensures.length c.requires.placed
          (c.makespan-limit.ensures
          ∙ (ap (λ (p : Project). makespan p c.args.starts.now) is
          ∙ limit_is c.args.list.now c.args.line.now c.args.starts.now c.requires.placed))
          c.clear.ensures;
    }

pub try_swap-requires-clause-position : goal.try_swap-requires-clause-position
try_swap-requires-clause-position c = omega (arith, c.loop-position.invariant.at.count)

pub try_swap-requires-clause-windows : goal.try_swap-requires-clause-windows
try_swap-requires-clause-windows c = c.loop-position.invariant.at.network

pub try_swap-requires-clause-placed : goal.try_swap-requires-clause-placed
try_swap-requires-clause-placed c = c.loop-position.invariant.at.placed

pub try_swap-requires-clause-below : goal.try_swap-requires-clause-below
try_swap-requires-clause-below c = c.loop-position.invariant.at.below

pub try_swap-requires-clause-limit : goal.try_swap-requires-clause-limit
try_swap-requires-clause-limit c = c.loop-position.invariant.at.limit

pub returns-then-try_swap-clause-told : goal.returns-then-try_swap-clause-told
returns-then-try_swap-clause-told c =
    let count = c.loop-position.invariant.at.count in
    let some = at_found _ _ _ _ _ _ _ c.loop-position.invariant.at (omega arith)
    (sym c.try_swap.ensures.told ∙ c.if-try_swap.true) in
    let list = c.loop-position.list in
    let place = c.loop-position.position in
    let made = c.try_swap.ensures.list
    ∙ ap (λ (b : Bool). if b then record list { order = swapped list.order place } else list)
    c.if-try_swap.true in
    sym (round_some c.args.list.now list c.try_swap.new.list place c.loop-position.invariant.same
    some made).0

pub returns-then-try_swap-clause-list : goal.returns-then-try_swap-clause-list
returns-then-try_swap-clause-list c =
    let count = c.loop-position.invariant.at.count in
    let some = at_found _ _ _ _ _ _ _ c.loop-position.invariant.at (omega arith)
    (sym c.try_swap.ensures.told ∙ c.if-try_swap.true) in
    let list = c.loop-position.list in
    let place = c.loop-position.position in
    let made = c.try_swap.ensures.list
    ∙ ap (λ (b : Bool). if b then record list { order = swapped list.order place } else list)
    c.if-try_swap.true in
    (round_some c.args.list.now list c.try_swap.new.list place c.loop-position.invariant.same
    some made).1

pub returns-then-try_swap-clause-placed : goal.returns-then-try_swap-clause-placed
returns-then-try_swap-clause-placed c =
    subst (λ (b : Bool). IsPlaced c.try_swap.new.list
    (if b then length c.try_swap.new.list.order else c.loop-position.position) c.try_swap.new.line
    c.try_swap.new.starts) c.if-try_swap.true c.try_swap.ensures.placed

pub book-requires-clause-position : goal.book-requires-clause-position
book-requires-clause-position c =
    let after = at_after _ _ _ _ _ _ _ _ _ _ _ c.loop-position.invariant.at c.if-try_swap.false
    c.try_swap.ensures.told c.try_swap.ensures.list c.try_swap.ensures.placed in
    omega (arith, after.2.count)

pub book-requires-clause-windows : goal.book-requires-clause-windows
book-requires-clause-windows c =
    (at_after _ _ _ _ _ _ _ _ _ _ _ c.loop-position.invariant.at c.if-try_swap.false
    c.try_swap.ensures.told c.try_swap.ensures.list c.try_swap.ensures.placed).2.network

pub book-requires-clause-placed : goal.book-requires-clause-placed
book-requires-clause-placed c =
    (at_after _ _ _ _ _ _ _ _ _ _ _ c.loop-position.invariant.at c.if-try_swap.false
    c.try_swap.ensures.told c.try_swap.ensures.list c.try_swap.ensures.placed).2.placed

pub finish-requires-clause-from : goal.finish-requires-clause-from
finish-requires-clause-from c =
    let after = at_after _ _ _ _ _ _ _ _ _ _ _ c.loop-position.invariant.at c.if-try_swap.false
    c.try_swap.ensures.told c.try_swap.ensures.list c.try_swap.ensures.placed in
    omega (arith, after.2.count)

pub finish-requires-clause-placed : goal.finish-requires-clause-placed
finish-requires-clause-placed c = c.book.ensures.placed

pub returns-then-not-book-clause-told : goal.returns-then-not-book-clause-told
returns-then-not-book-clause-told c =
    let after = at_after _ _ _ _ _ _ _ _ _ _ _ c.loop-position.invariant.at c.if-try_swap.false
    c.try_swap.ensures.told c.try_swap.ensures.list c.try_swap.ensures.placed in
    let none = at_late _ _ _ _ _ _ _ after.2 after.1
    (sym c.book.ensures.told ∙ c.if-not-book.true) in
    sym (round_none c.args.list.now c.try_swap.new.list
    (after.0 ∙ c.loop-position.invariant.same) none).0

pub returns-then-not-book-clause-list : goal.returns-then-not-book-clause-list
returns-then-not-book-clause-list c =
    let after = at_after _ _ _ _ _ _ _ _ _ _ _ c.loop-position.invariant.at c.if-try_swap.false
    c.try_swap.ensures.told c.try_swap.ensures.list c.try_swap.ensures.placed in
    let none = at_late _ _ _ _ _ _ _ after.2 after.1
    (sym c.book.ensures.told ∙ c.if-not-book.true) in
    (round_none c.args.list.now c.try_swap.new.list
    (after.0 ∙ c.loop-position.invariant.same) none).1

pub returns-then-not-book-clause-placed : goal.returns-then-not-book-clause-placed
returns-then-not-book-clause-placed c = c.finish.ensures

pub loop-position-preserved : goal.loop-position-preserved
loop-position-preserved c =
    let after = at_after _ _ _ _ _ _ _ _ _ _ _ c.loop-position.invariant.at c.if-try_swap.false
    c.try_swap.ensures.told c.try_swap.ensures.list c.try_swap.ensures.placed in
    record {
      same = after.0 ∙ c.loop-position.invariant.same;
      at = at_more _ _ _ _ _ _ _ _ _ after.2 after.1
          (sym c.book.ensures.told ∙ c.if-not-book.false) c.book.ensures.placed;
    }

pub finish-requires-2-clause-from : goal.finish-requires-2-clause-from
finish-requires-2-clause-from c = omega (arith, c.loop-position.invariant.at.count)

pub finish-requires-2-clause-placed : goal.finish-requires-2-clause-placed
finish-requires-2-clause-placed c =
    let last : c.loop-position.position ≡ c.length_of-count.result - 1 = omega arith in
    subst (λ (place : ℕ). IsPlaced c.loop-position.list place c.loop-position.line
    c.loop-position.starts) last c.loop-position.invariant.at.placed

pub returns-clause-told : goal.returns-clause-told
returns-clause-told c =
    let none = at_end _ _ _ _ _ _ _ c.loop-position.invariant.at (omega arith) in
    sym (round_none c.args.list.now c.loop-position.list c.loop-position.invariant.same none).0

pub returns-clause-list : goal.returns-clause-list
returns-clause-list c =
    let none = at_end _ _ _ _ _ _ _ c.loop-position.invariant.at (omega arith) in
    (round_none c.args.list.now c.loop-position.list c.loop-position.invariant.same none).1

pub returns-clause-placed : goal.returns-clause-placed
returns-clause-placed c = c.finish-2.ensures
