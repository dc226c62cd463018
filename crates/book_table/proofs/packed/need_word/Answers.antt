use Rattle.std.proofs.Common.{◌≡◌, ◌+◌, ◌*◌, ap, ◌∙◌, arith}
use Rattle.capacity_profile.specs.Lanes.{lane_of}
use Rattle.capacity_profile.proofs.LaneLaws.{four_cases}
use Rattle.activity_net.specs.Network.{Network}
use Rattle.book_rule.specs.Listed.{lasts, need}
use Rattle.book_table.proofs.LaneLaws.{need-at}
use Rattle.book_table.proofs.packed.need_word.Goals as goal

pub returns-then-duration-eq0 : goal.returns-then-duration-eq0
unfolding lasts
returns-then-duration-eq0 c =
    let project = c.instance-instance.ensures.value
    ∙ ap (λ (n : Network). n.project) c.net.ensures.value in
    let takes = rw (project, c.order.ensures.value) at c.duration.ensures.value in
    λ runs l below. absurd (omega (arith, takes, c.if-duration-eq0.true, runs))

pub returns : goal.returns
returns c =
    let list = c.args.list.now in
    let i = c.args.position in
    let w = c.args.index in
    let project = c.instance-instance.ensures.value
    ∙ ap (λ (n : Network). n.project) c.net.ensures.value in
    let order = c.order.ensures.value in
    let packed = c.pack.ensures.lanes in
    λ runs. four_cases (λ l. lane_of c.pack.result l ≡ need list i w l)
    (packed 0 (omega arith) ∙ need-at list i w 0 (4 * w) c.demand_of.result (omega arith)
    (rw (project, order) at c.demand_of.ensures))
    (packed 1 (omega arith) ∙ need-at list i w 1 (4 * w + 1) c.demand_of-2.result (omega arith)
    (rw (project, order) at c.demand_of-2.ensures))
    (packed 2 (omega arith) ∙ need-at list i w 2 (4 * w + 2) c.demand_of-3.result (omega arith)
    (rw (project, order) at c.demand_of-3.ensures))
    (packed 3 (omega arith) ∙ need-at list i w 3 (4 * w + 3) c.demand_of-4.result (omega arith)
    (rw (project, order) at c.demand_of-4.ensures))
