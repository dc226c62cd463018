use Rattle.std.proofs.Common.{◌≡◌, ◌/◌, ◌%◌, length, ap, subst, ◌∙◌, arith}
use Rattle.std.proofs.lemmas.List.{length-replicate}
use Rattle.activity_net.specs.Network.{Network}
use Rattle.book_rule.specs.Listed.{count, width}
use Rattle.book_rule.specs.Layout.{place}
use Rattle.book_table.specs.BookView.{IsNeed}
use Rattle.book_table.proofs.NewLaws.{width_is}
use Rattle.book_table.proofs.PackLaws.{AreRight, IsNeedAt, right-none, right_more, needs-long, needs_are}
use Rattle.book_table.proofs.packed.needs_of.Goals as goal

pub loop-cell-init : goal.loop-cell-init
loop-cell-init c =
    let list = c.args.list.now in
    let project = c.instance-instance.ensures.value
    ∙ ap (λ (n : Network). n.project) c.net.ensures.value in
    right-none (IsNeedAt list) (place (width list) (count list) 0) c.in_ok-needs.needs.items
    (ap length (c.in_ok-needs.ensures.items_if_clones_equal (λ y e. e))
    ∙ (length-replicate _ 0
    ∙ needs-long list c.instance-instance.result.now c.count.result c.resources.result
    c.net.ensures.feasible project c.count.ensures.value c.resources.ensures.value))

pub loop-cell-preserved : goal.loop-cell-preserved
loop-cell-preserved c =
    let list = c.args.list.now in
    let at = c.loop-cell in
    let project = c.instance-instance.ensures.value
    ∙ ap (λ (n : Network). n.project) c.net.ensures.value in
    let columns = width_is list c.instance-instance.result.now c.resources.result project
    c.resources.ensures.value in
    let all = ap length (c.in_ok-needs.ensures.items_if_clones_equal (λ y e. e))
    ∙ (length-replicate _ 0
    ∙ needs-long list c.instance-instance.result.now c.count.result c.resources.result
    c.net.ensures.feasible project c.count.ensures.value c.resources.ensures.value) in
    right_more (IsNeedAt list) (place (width list) (count list) 0) at.cell c.need_word.result
    at.needs.items (omega (arith, all, c.len-cell-end.ensures, c.loop-cell-test.true))
    (subst (λ n. IsNeed list (at.cell / n) (at.cell % n) c.need_word.result) columns
    c.need_word.ensures)
    at.invariant

pub returns : goal.returns
returns c =
    let list = c.args.list.now in
    let at = c.loop-cell in
    let size = place (width list) (count list) 0 in
    let project = c.instance-instance.ensures.value
    ∙ ap (λ (n : Network). n.project) c.net.ensures.value in
    let all = ap length (c.in_ok-needs.ensures.items_if_clones_equal (λ y e. e))
    ∙ (length-replicate _ 0
    ∙ needs-long list c.instance-instance.result.now c.count.result c.resources.result
    c.net.ensures.feasible project c.count.ensures.value c.resources.ensures.value) in
    let last : at.cell ≡ size =
    omega (arith, all, c.len-cell-end.ensures, c.loop-cell-test.false, at.auto.cell-end) in
    needs_are list at.needs.items
    (subst (λ n. AreRight (IsNeedAt list) size n at.needs.items) last at.invariant)
