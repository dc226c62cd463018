use Rattle.std.proofs.Common.{◌<◌, length, take, get_or, ◌∙◌, subst, sym, arith}
use Rattle.std.specs.List.{All}
use Rattle.std.proofs.lemmas.List.{take_more, take_all}
use Rattle.std.proofs.lemmas.List.Elements.{All-push, All-weaker}
use Rattle.std.proofs.lemmas.Option.{get_or_from_slice_get}
use Rattle.rc_instance.specs.declared.change.Change.{Change}
use Rattle.rc_instance.specs.Project.{resource_count}
use Rattle.event_line.specs.Shown.{HasNode}
use Rattle.event_line.proofs.ShownLaws.{node_longer, change_period}
use Rattle.event_line.proofs.capacities.mark_changes.Goals as goal

pub node_made-node-requires-clause-period : goal.node_made-node-requires-clause-period
node_made-node-requires-clause-period c =
    let project = c.args.instance.now in
    let soon = change_period (resource_count project) c.loop-index.index project.changes
    c.change.result c.requires.limits.calendar c.change.ensures in
    omega arith

pub loop-index-preserved : goal.loop-index-preserved
loop-index-preserved c =
    let l = c.loop-index in
    let changes = c.args.instance.now.changes in
    let change = c.change.result in
    let periods = c.node_made-node.new.self.periods in
    let made = c.node_made-node.ensures in
    let few = made.few in
    let so_far = l.invariant.0 in
    let within : l.index < length changes = omega arith in
    let P : Change → Type 0 = λ (c : Change). HasNode periods (length periods) c.period in
    let old = All-weaker (λ (c : Change). HasNode l.chain.periods (length l.chain.periods) c.period) P
    (λ x h. node_longer l.chain.periods periods x.period made.longer h) (take l.index changes)
    l.invariant.3 in
    let here : P change = (c.node_made-node.result, made.inside, made.at) in
    let read = get_or_from_slice_get changes l.index change change c.change.ensures in (
      omega arith,
      made.room ∙ l.invariant.1,
      made.inside,
      subst (All P) (sym (take_more changes l.index change within))
          (All-push P (take l.index changes) (get_or changes l.index change) old
          (subst P (sym read) here)),
    )

pub returns-clause-changes : goal.returns-clause-changes
returns-clause-changes c =
    let l = c.loop-index in
    let changes = c.args.instance.now.changes in
    let P : Change → Type 0 =
    λ (x : Change). HasNode l.chain.periods (length l.chain.periods) x.period in
    subst (All P) (take_all l.index changes (omega arith)) l.invariant.3
