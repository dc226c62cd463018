use Rattle.std.proofs.Common.{◌-◌, ◌<◌, length, subst, sym, ap, ◌∙◌, arith, length-take, length-set}
use Rattle.std.proofs.lemmas.List.{get_or_read}
use Rattle.event_line.specs.Chain.{Nodes}
use Rattle.event_line.proofs.ChainLaws.{linked_fewer}
use Rattle.event_line.proofs.chain.Chain.remove_newest.Goals as goal

pub invariant_of-self : goal.invariant_of-self
invariant_of-self c =
    let old = c.self.inside in
    let keeps = c.self.invariant in
    let n = c.len-node.result - 1 in
    let y = c.index-next.result.now in
    let p = c.index-previous.result.now in
    let some : 2 < length old.periods.items =
    subst (λ (v : Nodes). 2 < length v.periods) (sym c.self.view_is) c.requires in
    let ey = get_or_read old.next.items n y (omega arith) c.index-next.ensures 0 in
    let ep = get_or_read old.previous.items n p (omega arith) c.index-previous.ensures 0 in
    let linked = linked_fewer old.periods.items old.next.items old.previous.items n y p keeps.linked
    (omega arith) (omega arith) keeps.room keeps.pairs ey ep in
    let left = c.truncate.ensures.items in
    let one = length-set old.next.items p y in
    let one' = length-set old.previous.items y p in
    let long = ap length left ∙ length-take n old.periods.items in
    let pairs = keeps.pairs in
    let few = keeps.few in
    let reserved = keeps.reserved in
    let room = keeps.room in
    let capacity = c.truncate.ensures.capacity in
    record {
      linked = rw left linked;
      room = omega arith;
      pairs = one' ∙ (pairs ∙ sym one);
      reserved = omega arith;
      few = omega arith;
    }
