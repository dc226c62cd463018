use Rattle.std.proofs.Common.{◌<◌, [], length, take, set, sym, subst, arith}
use Rattle.std.proofs.lemmas.List.{get_or_read, get_or-set_same, get_or-set_other, length-map}
use Rattle.event_line.specs.Lanes.{IsVector}
use Rattle.event_line.proofs.TableLaws.{lanes_from_fits, taken_lanes}
use Rattle.event_line.proofs.rows.Rows.give.Goals as goal

pub more-left-requires : goal.more-left-requires
more-left-requires c =
    let vectors = c.self.inside.vectors.items in
    let width = c.self.inside.width in
    let demands = c.demands.invariant in
    let node = rw (← c.self.view_is) at c.requires.node in
    let within : c.args.node < length vectors = omega (arith, length-map vectors (take width)) in
    let same = rw (← c.self.view_is, ← c.demands.view_is) at c.requires.width in
    let fits = rw (← c.self.view_is, ← c.demands.view_is) at c.requires.fits in
    let vector = subst IsVector (sym c.index.ensures)
    (c.self.invariant.whole c.args.node c.index.result.now within) in
    lanes_from_fits vectors width c.demands.inside.width c.args.node c.index.result.now
    c.demands.inside.vector
    (sym (get_or_read vectors c.args.node c.index.result.now within c.index.ensures []))
    demands.whole.whole demands.narrow same demands.rest vector.fit fits

pub returns-clause-given : goal.returns-clause-given
returns-clause-given c =
    let vectors = c.self.inside.vectors.items in
    let width = c.self.inside.width in
    let left = c.more-left.result in
    let demands = c.demands.invariant in
    let node = rw (← c.self.view_is) at c.requires.node in
    let within : c.args.node < length vectors = omega (arith, length-map vectors (take width)) in
    let same = rw (← c.self.view_is, ← c.demands.view_is) at c.requires.width in
    rw (← c.self.view_is, ← c.demands.view_is)
    (taken_lanes (set vectors c.args.node left) vectors width c.demands.inside.width c.args.node
    left c.index.result.now c.demands.inside.vector
    (get_or-set_same vectors c.args.node left [] within)
    (sym (get_or_read vectors c.args.node c.index.result.now within c.index.ensures []))
    (λ x ne. sym (get_or-set_other vectors c.args.node x left [] ne)) demands.whole.whole
    demands.narrow same (λ j h. sym (c.more-left.ensures.more j h)))
