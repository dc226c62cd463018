use Rattle.std.proofs.Common.{◌≡◌, ◌+◌, ◌*◌, ap, ◌∙◌, arith}
use Rattle.capacity_profile.specs.Lanes.{lane_of}
use Rattle.capacity_profile.proofs.LaneLaws.{four_cases}
use Rattle.activity_net.specs.Network.{Network}
use Rattle.book_rule.specs.Listed.{room}
use Rattle.book_table.proofs.LaneLaws.{room-at}
use Rattle.book_table.proofs.packed.room_word.Goals as goal

pub returns : goal.returns
returns c =
    let list = c.args.list.now in
    let project = c.instance-instance.ensures.value
    ∙ ap (λ (n : Network). n.project) c.net.ensures.value in
    let packed = c.pack.ensures.lanes in
    four_cases (λ l. lane_of c.pack.result l ≡ room list c.args.index l c.args.period)
    (packed 0 (omega arith)
    ∙ room-at list c.args.index 0 c.args.period (4 * c.args.index)
    c.capacity_of.result (omega arith) (rw (project) at c.capacity_of.ensures))
    (packed 1 (omega arith)
    ∙ room-at list c.args.index 1 c.args.period (4 * c.args.index + 1)
    c.capacity_of-2.result (omega arith) (rw (project) at c.capacity_of-2.ensures))
    (packed 2 (omega arith)
    ∙ room-at list c.args.index 2 c.args.period (4 * c.args.index + 2)
    c.capacity_of-3.result (omega arith) (rw (project) at c.capacity_of-3.ensures))
    (packed 3 (omega arith)
    ∙ room-at list c.args.index 3 c.args.period (4 * c.args.index + 3)
    c.capacity_of-4.result (omega arith) (rw (project) at c.capacity_of-4.ensures))
