use Rattle.std.proofs.Common.{◌+◌, Bool, length, if◌then◌else◌, sym, ◌∙◌, subst, ap, arith}
use Rattle.std.proofs.lemmas.List.Edits.{length-swap}
use Rattle.activity_net.specs.Network.{Listing}
use Rattle.swap_descent.specs.Placed.{IsPlaced}
use Rattle.swap_descent.proofs.BoundLaws.{improves-not}
use Rattle.swap_descent.proofs.TrialLaws.{made, refused, tried_placed, tried_below, tried_told, tried_back}
use Rattle.swap_descent.proofs.trial.try_swap.Goals as goal

pub returns-then-not-swap_at-clause-told : goal.returns-then-not-swap_at-clause-told
returns-then-not-swap_at-clause-told c =
    let no = refused c.args.list.now c.swap_at.new.self c.args.position _ c.if-not-swap_at.true
    c.swap_at.ensures.told c.swap_at.ensures.order in
    sym (improves-not c.args.list.now.network.project c.args.list.now.order c.args.position no.0)

pub returns-then-not-swap_at-clause-list : goal.returns-then-not-swap_at-clause-list
returns-then-not-swap_at-clause-list c =
    (refused c.args.list.now c.swap_at.new.self c.args.position _ c.if-not-swap_at.true
    c.swap_at.ensures.told c.swap_at.ensures.order).1

pub returns-then-not-swap_at-clause-placed : goal.returns-then-not-swap_at-clause-placed
returns-then-not-swap_at-clause-placed c =
    let no = refused c.args.list.now c.swap_at.new.self c.args.position _ c.if-not-swap_at.true
    c.swap_at.ensures.told c.swap_at.ensures.order in
    subst (λ (l : Listing). IsPlaced l c.args.position c.args.line.now c.args.starts.now) (sym no.1)
    c.requires.placed

pub attempt-requires-clause-from : goal.attempt-requires-clause-from
attempt-requires-clause-from c =
    let yes = made c.args.list.now c.swap_at.new.self c.args.position _ c.if-not-swap_at.false
    c.swap_at.ensures.told c.swap_at.ensures.order in
    omega (
      arith,
      ap (λ (l : Listing). length l.order) yes.1,
      length-swap c.args.list.now.order c.args.position (c.args.position + 1),
      c.requires.position,
    )

pub attempt-requires-clause-windows : goal.attempt-requires-clause-windows
attempt-requires-clause-windows c =
    c.requires.windows ∙ sym (ap (λ (l : Listing). l.network) c.swap_at.ensures.order)

pub attempt-requires-clause-placed : goal.attempt-requires-clause-placed
attempt-requires-clause-placed c =
    let yes = made c.args.list.now c.swap_at.new.self c.args.position _ c.if-not-swap_at.false
    c.swap_at.ensures.told c.swap_at.ensures.order in
    tried_placed c.args.list.now c.swap_at.new.self c.args.position c.args.line.now
    c.args.starts.now c.requires.position yes.0 yes.1 c.requires.placed

pub attempt-requires-clause-below : goal.attempt-requires-clause-below
attempt-requires-clause-below c =
    let yes = made c.args.list.now c.swap_at.new.self c.args.position _ c.if-not-swap_at.false
    c.swap_at.ensures.told c.swap_at.ensures.order in
    tried_below c.args.list.now c.swap_at.new.self c.args.position c.args.limit c.requires.position
    yes.1 c.requires.below

pub returns-then-attempt-clause-told : goal.returns-then-attempt-clause-told
returns-then-attempt-clause-told c =
    let yes = made c.args.list.now c.swap_at.new.self c.args.position _ c.if-not-swap_at.false
    c.swap_at.ensures.told c.swap_at.ensures.order in
    sym c.if-attempt.true
    ∙ tried_told c.args.list.now c.swap_at.new.self c.args.position c.args.limit c.attempt.result
    yes.0 yes.1 c.requires.limit c.attempt.ensures.told

pub returns-then-attempt-clause-list : goal.returns-then-attempt-clause-list
returns-then-attempt-clause-list c =
    (made c.args.list.now c.swap_at.new.self c.args.position _ c.if-not-swap_at.false
    c.swap_at.ensures.told c.swap_at.ensures.order).1

pub returns-then-attempt-clause-placed : goal.returns-then-attempt-clause-placed
returns-then-attempt-clause-placed c =
    subst (λ (b : Bool). IsPlaced c.swap_at.new.self
    (if b then length c.swap_at.new.self.order else c.args.position) c.attempt.new.line
    c.attempt.new.starts) c.if-attempt.true c.attempt.ensures.placed

pub swap_at-requires-2 : goal.swap_at-requires-2
swap_at-requires-2 c =
    let yes = made c.args.list.now c.swap_at.new.self c.args.position _ c.if-not-swap_at.false
    c.swap_at.ensures.told c.swap_at.ensures.order in
    omega (
      arith,
      ap (λ (l : Listing). length l.order) yes.1,
      length-swap c.args.list.now.order c.args.position (c.args.position + 1),
      c.requires.position,
    )

pub returns-clause-told : goal.returns-clause-told
returns-clause-told c =
    let yes = made c.args.list.now c.swap_at.new.self c.args.position _ c.if-not-swap_at.false
    c.swap_at.ensures.told c.swap_at.ensures.order in
    sym c.if-attempt.false
    ∙ tried_told c.args.list.now c.swap_at.new.self c.args.position c.args.limit c.attempt.result
    yes.0 yes.1 c.requires.limit c.attempt.ensures.told

pub returns-clause-list : goal.returns-clause-list
returns-clause-list c =
    let yes = made c.args.list.now c.swap_at.new.self c.args.position _ c.if-not-swap_at.false
    c.swap_at.ensures.told c.swap_at.ensures.order in
    let placed = subst (λ (b : Bool). IsPlaced c.swap_at.new.self
    (if b then length c.swap_at.new.self.order else c.args.position) c.attempt.new.line
    c.attempt.new.starts) c.if-attempt.false c.attempt.ensures.placed in
    (tried_back c.args.list.now c.swap_at.new.self c.swap_at-2.new.self c.args.position
    c.swap_at-2.result c.attempt.new.line c.attempt.new.starts c.args.line.now c.args.starts.now
    c.requires.position yes.1 c.requires.placed c.swap_at-2.ensures.told c.swap_at-2.ensures.order
    placed).0

pub returns-clause-placed : goal.returns-clause-placed
returns-clause-placed c =
    let yes = made c.args.list.now c.swap_at.new.self c.args.position _ c.if-not-swap_at.false
    c.swap_at.ensures.told c.swap_at.ensures.order in
    let placed = subst (λ (b : Bool). IsPlaced c.swap_at.new.self
    (if b then length c.swap_at.new.self.order else c.args.position) c.attempt.new.line
    c.attempt.new.starts) c.if-attempt.false c.attempt.ensures.placed in
    let back = tried_back c.args.list.now c.swap_at.new.self c.swap_at-2.new.self c.args.position
    c.swap_at-2.result c.attempt.new.line c.attempt.new.starts c.args.line.now c.args.starts.now
    c.requires.position yes.1 c.requires.placed c.swap_at-2.ensures.told c.swap_at-2.ensures.order
    placed in
    subst (λ (l : Listing). IsPlaced l c.args.position c.attempt.new.line c.attempt.new.starts)
    (sym back.0) back.1
