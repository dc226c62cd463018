use Rattle.std.proofs.Common.{◌≡◌, ◌+◌, ◌*◌, ◌≤◌, length, take, sym, ap, ◌∙◌, subst, arith}
use Rattle.rc_instance.specs.Project.{activity_count}
use Rattle.event_line.specs.Chain.{Nodes}
use Rattle.event_line.specs.Journal.{nodes_with}
use Rattle.event_line.proofs.KeepLaws.{kept_packs}
use Rattle.event_line.proofs.StateLaws.{newest_entry, newest_runs, entry_rise, can_take_back, shown_undone, longer_fewer}
use Rattle.event_line.proofs.line.Line.undo.Goals as goal

pub overflow_sub-newest : goal.overflow_sub-newest
overflow_sub-newest c =
    let inside = c.self.inside in
    let shown = rw c.take_last-newest.ensures.items at c.self.invariant.shown in
    let newest = newest_entry inside.instance.now (length inside.base.chain.periods)
    inside.axis.chain.periods inside.axis.free.rows c.take_last-newest.new.self.items
    c.take_last-newest.result shown in
    let activity = newest.is.activity.0 in
    omega arith

pub index-demands-requires : goal.index-demands-requires
index-demands-requires c =
    let inside = c.self.inside in
    let shown = rw c.take_last-newest.ensures.items at c.self.invariant.shown in
    let newest = newest_entry inside.instance.now (length inside.base.chain.periods)
    inside.axis.chain.periods inside.axis.free.rows c.take_last-newest.new.self.items
    c.take_last-newest.result shown in
    let first = newest.is.activity.0 in
    let last = newest.is.activity.1 in
    omega (arith, c.self.invariant.demands_count)

pub give-requires-clause-width : goal.give-requires-clause-width
give-requires-clause-width c =
    let inside = c.self.inside in
    let shown = rw c.take_last-newest.ensures.items at c.self.invariant.shown in
    let newest = newest_entry inside.instance.now (length inside.base.chain.periods)
    inside.axis.chain.periods inside.axis.free.rows c.take_last-newest.new.self.items
    c.take_last-newest.result shown in
    let runs = newest_runs inside.instance.now (length inside.base.chain.periods)
    inside.axis.chain.periods inside.axis.free.rows c.index-demands.result.now
    c.take_last-newest.new.self.items c.take_last-newest.result c.self.invariant.limits shown
    (kept_packs inside c.take_last-newest.result.activity c.index-demands.result.now
    c.self.invariant newest.is.activity c.index-demands.ensures) in
    runs.count ∙ sym c.self.invariant.width

pub give-requires-clause-first : goal.give-requires-clause-first
give-requires-clause-first c =
    let inside = c.self.inside in
    let shown = rw c.take_last-newest.ensures.items at c.self.invariant.shown in
    (newest_entry inside.instance.now (length inside.base.chain.periods) inside.axis.chain.periods
    inside.axis.free.rows c.take_last-newest.new.self.items c.take_last-newest.result
    shown).first

pub give-requires-clause-end : goal.give-requires-clause-end
give-requires-clause-end c =
    let inside = c.self.inside in
    let shown = rw c.take_last-newest.ensures.items at c.self.invariant.shown in
    (newest_entry inside.instance.now (length inside.base.chain.periods) inside.axis.chain.periods
    inside.axis.free.rows c.take_last-newest.new.self.items c.take_last-newest.result
    shown).end

pub give-requires-clause-rise : goal.give-requires-clause-rise
give-requires-clause-rise c =
    let inside = c.self.inside in
    let shown = rw c.take_last-newest.ensures.items at c.self.invariant.shown in
    entry_rise inside.instance.now inside.axis.chain.periods c.take_last-newest.result
    (newest_entry inside.instance.now (length inside.base.chain.periods) inside.axis.chain.periods
    inside.axis.free.rows c.take_last-newest.new.self.items c.take_last-newest.result
    shown).is

pub give-requires-clause-fits : goal.give-requires-clause-fits
give-requires-clause-fits c =
    let inside = c.self.inside in
    let shown = rw c.take_last-newest.ensures.items at c.self.invariant.shown in
    let newest = newest_entry inside.instance.now (length inside.base.chain.periods)
    inside.axis.chain.periods inside.axis.free.rows c.take_last-newest.new.self.items
    c.take_last-newest.result shown in
    let runs = newest_runs inside.instance.now (length inside.base.chain.periods)
    inside.axis.chain.periods inside.axis.free.rows c.index-demands.result.now
    c.take_last-newest.new.self.items c.take_last-newest.result c.self.invariant.limits shown
    (kept_packs inside c.take_last-newest.result.activity c.index-demands.result.now
    c.self.invariant newest.is.activity c.index-demands.ensures) in
    can_take_back inside.instance.now (length inside.base.chain.periods)
    inside.axis.chain.periods inside.axis.free.rows c.index-demands.result.now
    c.take_last-newest.new.self.items c.take_last-newest.result c.self.invariant.limits shown runs

pub cut-requires : goal.cut-requires
cut-requires c =
    let inside = c.self.inside in
    let shown = rw c.take_last-newest.ensures.items at c.self.invariant.shown in
    let newest = newest_entry inside.instance.now (length inside.base.chain.periods)
    inside.axis.chain.periods inside.axis.free.rows c.take_last-newest.new.self.items
    c.take_last-newest.result shown in
    let few = newest.fewer in
    let more = newest.more in
    let some = c.len.ensures.chain.some in
    let same : length c.give.new.self.chain.periods ≡ length inside.axis.chain.periods =
    ap (λ (v : Nodes). length v.periods) c.give.ensures.chain in
    let nodes : c.nodes_with-nodes.result
    ≡ nodes_with (length inside.base.chain.periods) c.take_last-newest.new.self.items =
    c.nodes_with-nodes.ensures ∙ rw (c.len.ensures.value, c.deref.ensures.value) in
    (omega arith, omega arith)

pub invariant_of-self : goal.invariant_of-self
invariant_of-self c =
    let inside = c.self.inside in
    let keeps = c.self.invariant in
    let project = inside.instance.now in
    let n = length inside.base.chain.periods in
    let left = c.take_last-newest.new.self.items in
    let shown = rw c.take_last-newest.ensures.items at c.self.invariant.shown in
    let nodes : c.nodes_with-nodes.result ≡ nodes_with n left =
    c.nodes_with-nodes.ensures ∙ rw (c.len.ensures.value, c.deref.ensures.value) in
    let newest = newest_entry inside.instance.now (length inside.base.chain.periods)
    inside.axis.chain.periods inside.axis.free.rows c.take_last-newest.new.self.items
    c.take_last-newest.result shown in
    let runs = newest_runs inside.instance.now (length inside.base.chain.periods)
    inside.axis.chain.periods inside.axis.free.rows c.index-demands.result.now
    c.take_last-newest.new.self.items c.take_last-newest.result c.self.invariant.limits shown
    (kept_packs inside c.take_last-newest.result.activity c.index-demands.result.now
    c.self.invariant newest.is.activity c.index-demands.ensures) in
    let undone = shown_undone project n inside.axis.chain.periods inside.axis.free.rows
    c.give.new.self.free.rows c.index-demands.result.now left c.take_last-newest.result
    c.nodes_with-nodes.result shown runs c.give.ensures.given nodes in
    let chain : c.cut.new.self.chain ≡ record inside.axis.chain {
      periods = take c.nodes_with-nodes.result inside.axis.chain.periods;
    } = c.cut.ensures.chain ∙ ap (λ (v : Nodes). record v {
      periods = take c.nodes_with-nodes.result v.periods;
    }) c.give.ensures.chain in
    record {
      limits = keeps.limits;
      width = rw c.cut.ensures.free (c.give.ensures.width ∙ keeps.width);
      base_width = keeps.base_width;
      room = subst (λ (v : Nodes). n + 2 * activity_count project ≤ v.room) (sym chain) keeps.room;
      base_room = subst (λ (v : Nodes). inside.base.chain.room ≤ v.room) (sym chain) keeps.base_room;
      reserved = rw c.take_last-newest.ensures.capacity keeps.reserved;
      hints = keeps.hints;
      demands_count = keeps.demands_count;
      demands = keeps.demands;
      longer = rw chain (longer_fewer inside.base.chain.periods inside.axis.chain.periods
          c.nodes_with-nodes.result keeps.longer (omega (arith, newest.more)) (omega (arith, newest.fewer)));
      base = keeps.base;
      shown = rw (chain, c.cut.ensures.free) undone;
    }
