use Rattle.std.proofs.Common.{◌≡◌, ◌+◌, ◌*◌, ◌≤◌, [], length, refl, sym, ◌∙◌, subst, arith}
use Rattle.rc_instance.specs.Project.{activity_count}
use Rattle.event_line.specs.Chain.{Nodes, IsLonger}
use Rattle.event_line.specs.LineView.{IsShown}
use Rattle.event_line.proofs.StateLaws.{shown_same}
use Rattle.event_line.proofs.line.Line.clear.Goals as goal

pub invariant_of-self : goal.invariant_of-self
invariant_of-self c =
    let inside = c.self.inside in
    let keeps = c.self.invariant in
    let project = inside.instance.now in
    let base = inside.base in
    let n = length base.chain.periods in
    let free = c.restore.new.self.free.rows in
    let chain = sym c.restore.ensures.chain in
    let shown = shown_same project n base.chain.periods base.free.rows free [] keeps.base
    c.restore.ensures.free in
    record {
      limits = keeps.limits;
      width = c.restore.ensures.width ∙ keeps.width;
      base_width = keeps.base_width;
      room = subst (λ (v : Nodes). n + 2 * activity_count project ≤ v.room) chain keeps.room;
      base_room = subst (λ (v : Nodes). base.chain.room ≤ v.room) chain keeps.base_room;
      reserved = rw c.truncate.ensures.capacity keeps.reserved;
      hints = keeps.hints;
      demands_count = keeps.demands_count;
      demands = keeps.demands;
      longer = subst (λ (v : Nodes). IsLonger base.chain.periods v.periods) chain
          (record { long = omega arith; same = λ i h. refl });
      base = keeps.base;
      shown = rw c.truncate.ensures.items (subst (λ (v : Nodes). IsShown project n v.periods free [])
          chain shown);
    }
