use Rattle.std.proofs.Common.{◌≡◌, length, ap, ◌∙◌, arith}
use Rattle.std.proofs.lemmas.List.{length-replicate}
use Rattle.rc_instance.specs.Project.{Project}
use Rattle.activity_net.specs.Network.{Network}
use Rattle.book_rule.specs.Listed.{width, project_of}
use Rattle.book_table.specs.BookView.{IsRoom}
use Rattle.book_table.proofs.NewLaws.{width_is}
use Rattle.book_table.proofs.PackLaws.{right-none, right_more, room_of_all}
use Rattle.book_table.proofs.packed.rooms_of.Goals as goal

pub loop-index-init : goal.loop-index-init
loop-index-init c =
    let list = c.args.list.now in
    let project = c.instance-instance.ensures.value
    ∙ ap (λ (n : Network). n.project) c.net.ensures.value in
    right-none (IsRoom list) (width list) c.in_ok-rooms.rooms.items
    (ap length (c.in_ok-rooms.ensures.items_if_clones_equal (λ y e. e))
    ∙ (length-replicate _ 0
    ∙ width_is list c.instance-instance.result.now c.resources.result project
    c.resources.ensures.value))

pub loop-index-preserved : goal.loop-index-preserved
loop-index-preserved c =
    let list = c.args.list.now in
    let at = c.loop-index in
    let project = c.instance-instance.ensures.value
    ∙ ap (λ (n : Network). n.project) c.net.ensures.value in
    let all = ap length (c.in_ok-rooms.ensures.items_if_clones_equal (λ y e. e))
    ∙ (length-replicate _ 0
    ∙ width_is list c.instance-instance.result.now c.resources.result project
    c.resources.ensures.value) in
    let changes = c.change_count.ensures ∙ ap (λ (p : Project). length p.changes) project in
    let none : length (project_of list).changes ≡ 0 =
    omega (arith, changes, c.if-change_count-ne0.false) in
    right_more (IsRoom list) (width list) at.index c.room_word.result at.rooms.items
    (omega (arith, all, c.len-index-end.ensures, c.loop-index-test.true))
    (room_of_all list at.index c.room_word.result none c.room_word.ensures) at.invariant
