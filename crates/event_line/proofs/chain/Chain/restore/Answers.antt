use Rattle.std.proofs.Common.{◌≡◌, ◌≤◌, length, subst, sym, ap, ◌∙◌, arith}
use Rattle.std.proofs.lemmas.List.{with_items_is}
use Rattle.event_line.specs.Chain.{Nodes}
use Rattle.event_line.proofs.ChainLaws.{linked_same}
use Rattle.event_line.proofs.chain.Chain.restore.Goals as goal

pub invariant_of-self : goal.invariant_of-self
invariant_of-self c =
    let old = c.self.inside in
    let other = c.other.inside in
    let keeps = c.self.invariant in
    let next = with_items_is old.next c.copy_front.new.to (c.copy_front.auto.to ∙ c.deref_mut.ensures.len) in
    let previous = with_items_is old.previous c.copy_front-2.new.to (c.copy_front-2.auto.to ∙ c.deref_mut-2.ensures.len) in
    let periods : c.extend_from_slice.new.self.items ≡ other.periods.items =
    c.in-Ok.ensures.items ∙ rw (c.clear.ensures.items, c.deref.ensures.value) in
    let long = ap length periods in
    let next_long = ap length next ∙ (c.copy_front.auto.to ∙ ap length c.deref_mut.ensures.value) in
    let previous_long =
    ap length previous ∙ (c.copy_front-2.auto.to ∙ ap length c.deref_mut-2.ensures.value) in
    let room : length other.next.items ≤ length old.next.items =
    subst (λ (v : Nodes). length other.next.items ≤ v.room) (sym c.self.view_is)
    (subst (λ (v : Nodes). v.room ≤ c.args.self.now.room) (sym c.other.view_is) c.requires) in
    let few = keeps.few in
    let reserved = keeps.reserved in
    let pairs = keeps.pairs in
    let within = c.other.invariant.room in
    let pairs' = c.other.invariant.pairs in
    let one = rw c.deref-2.ensures.value at c.copy_front.ensures in
    let two = rw c.deref-3.ensures.value at c.copy_front-2.ensures in
    record {
      linked = rw (periods, next, previous) (linked_same other.periods.items c.copy_front.new.to
          other.next.items c.copy_front-2.new.to other.previous.items c.other.invariant.linked
          (λ i h. one i (omega arith)) (λ i h. two i (omega arith)));
      room = omega arith;
      pairs = previous_long ∙ (pairs ∙ sym next_long);
      reserved = omega (arith, c.in-Ok.ensures.capacity, c.clear.ensures.capacity);
      few = omega arith;
    }
