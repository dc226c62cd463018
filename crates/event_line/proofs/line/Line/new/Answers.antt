use Rattle.std.proofs.Common.{◌≡◌, [], length, refl, sym, ap, ◌∙◌, subst, arith}
use Rattle.event_line.specs.Chain.{Nodes, IsLonger}
use Rattle.event_line.specs.LineView.{IsShown}
use Rattle.event_line.proofs.StateLaws.{shown_same, shown_empty}
use Rattle.event_line.proofs.line.Line.new.Goals as goal

pub invariant_of-result : goal.invariant_of-result
invariant_of-result c =
    let project = c.args.instance.now in
    let base = c.in_ok-base.base in
    let axis = c.in_ok-axis.axis in
    let n = length base.chain.periods in
    let free = c.copy.new.self.free.rows in
    let old : IsShown project n base.chain.periods base.free.rows [] =
    shown_empty project base.chain.periods base.free.rows c.in_ok-base.ensures.changes
    c.in_ok-base.ensures.capacities in
    let within = base.nodes in
    let shown = shown_same project n base.chain.periods base.free.rows free [] old
    c.copy.ensures.free in
    let base_room = c.in_ok-base.ensures.room in
    let changes = c.change_count.ensures in
    let count = c.count.ensures.value in
    let room = ap (λ (v : Nodes). v.room) c.in_ok-axis.ensures.0 in
    let room' = ap (λ (v : Nodes). v.room) c.copy.ensures.chain in
    record {
      limits = c.count.ensures.limits;
      width = c.copy.ensures.width ∙ (c.in_ok-axis.ensures.1 ∙ c.resources.ensures.value);
      base_width = c.in_ok-base.ensures.width;
      room = omega arith;
      base_room = omega arith;
      reserved = omega (arith, c.in_ok-with_capacity.ensures.exact, c.count-2.ensures.value);
      hints = sym c.in_ok-vec.field-0.ok.0 ∙ (c.in_ok-vec.ensures.len ∙ c.count-3.ensures.value);
      demands_count = c.in_ok-pack_all.ensures.count;
      demands = c.in_ok-pack_all.ensures.demands;
      longer = subst (λ (v : Nodes). IsLonger base.chain.periods v.periods)
          (sym c.copy.ensures.chain) (record { long = omega arith; same = λ i h. refl });
      base = old;
      shown = rw c.in_ok-with_capacity.ensures.items (subst (λ (v : Nodes).
          IsShown project n v.periods free []) (sym c.copy.ensures.chain) shown);
    }
