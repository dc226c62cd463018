use Rattle.std.proofs.Common.{◌<◌, [], ◌∷◌, ◌++◌, length, set, get_or, subst, sym, ap, ◌∙◌, arith, length-append, length-set}
use Rattle.std.proofs.lemmas.List.{get_or_read}
use Rattle.event_line.specs.Chain.{Nodes, StandsFor}
use Rattle.event_line.proofs.ChainLaws.{linked_more}
use Rattle.event_line.proofs.chain.Chain.insert.Goals as goal

pub invariant_of-self : goal.invariant_of-self
invariant_of-self c =
    let old = c.self.inside in
    let keeps = c.self.invariant in
    let n = c.len-node.result in
    let y = c.index-next.result.now in
    let stands : StandsFor old.periods.items c.args.after c.args.period =
    subst (λ (v : Nodes). StandsFor v.periods c.args.after c.args.period) (sym c.self.view_is)
    c.requires.stands in
    let later : get_or old.periods.items c.args.after 0 < c.args.period =
    subst (λ (v : Nodes). get_or v.periods c.args.after 0 < c.args.period) (sym c.self.view_is)
    c.requires.later in
    let here : length old.periods.items < length old.next.items =
    subst (λ (v : Nodes). length v.periods < v.room) (sym c.self.view_is) c.requires.room in
    let inside = stands.inside in
    let within : c.args.after < length old.next.items = omega arith in
    let ey = get_or_read old.next.items c.args.after y within c.index-next.ensures 0 in
    let linked = linked_more old.periods.items old.next.items old.previous.items c.args.after
    c.args.period y n keeps.linked stands later (omega arith) here keeps.pairs ey
    (omega arith) in
    let pushed = c.push_reserved.ensures.items in
    let two = length-set (set old.next.items c.args.after n) n y in
    let one = length-set old.next.items c.args.after n in
    let two' = length-set (set old.previous.items y n) n c.args.after in
    let one' = length-set old.previous.items y n in
    let long = ap length pushed ∙ length-append old.periods.items (c.args.period ∷ []) in
    let pairs = keeps.pairs in
    let few = keeps.few in
    let reserved = keeps.reserved in
    let capacity = c.push_reserved.ensures.capacity in
    record {
      linked = rw pushed linked;
      room = omega arith;
      pairs = two' ∙ (one' ∙ (pairs ∙ (sym one ∙ sym two)));
      reserved = omega arith;
      few = omega arith;
    }
