use Rattle.std.proofs.Common.{◌≡◌, sym, ap, subst, ◌∙◌, arith}
use Rattle.activity_net.specs.Network.{Network}
use Rattle.rc_instance.specs.Project.{activity_count}
use Rattle.book_rule.specs.Listed.{count}
use Rattle.book_table.proofs.FillLaws.{IsFilled, places_are}
use Rattle.book_table.proofs.opening.places_of.Goals as goal

pub returns : goal.returns
returns c =
    let list = c.args.list.now in
    let feasible = c.order-order.ensures.feasible in
    let all = c.count-position-end.ensures.value ∙ (ap activity_count (c.instance.ensures.value
    ∙ ap (λ (n : Network). n.project) c.net.ensures.value) ∙ sym feasible.count) in
    let last : c.loop-position.position ≡ count list =
    omega (arith, all, c.loop-position-test.false, c.loop-position.auto.position-end) in
    places_are list c.loop-position.places.items feasible
    (subst (λ n. IsFilled list (λ i. i) n c.loop-position.places.items)
    last c.loop-position.invariant)
