use Rattle.std.proofs.Common.{◌<◌, [], length, take, set, sym, arith}
use Rattle.std.proofs.lemmas.List.{get_or_read, get_or-set_same, get_or-set_other, length-map}
use Rattle.event_line.proofs.TableLaws.{lanes_from_room, taken_lanes}
use Rattle.event_line.proofs.rows.Rows.take.Goals as goal

pub less-left-requires : goal.less-left-requires
less-left-requires c =
    let vectors = c.self.inside.vectors.items in
    let width = c.self.inside.width in
    let demands = c.demands.invariant in
    let node = rw (← c.self.view_is) at c.requires.node in
    let within : c.args.node < length vectors = omega (arith, length-map vectors (take width)) in
    let same = rw (← c.self.view_is, ← c.demands.view_is) at c.requires.width in
    let room = rw (← c.self.view_is, ← c.demands.view_is) at c.requires.room in
    lanes_from_room vectors width c.demands.inside.width c.args.node c.index.result.now
    c.demands.inside.vector
    (sym (get_or_read vectors c.args.node c.index.result.now within c.index.ensures []))
    demands.whole.whole demands.narrow same demands.rest room

pub returns-clause-taken : goal.returns-clause-taken
returns-clause-taken c =
    let vectors = c.self.inside.vectors.items in
    let width = c.self.inside.width in
    let left = c.less-left.result in
    let demands = c.demands.invariant in
    let node = rw (← c.self.view_is) at c.requires.node in
    let within : c.args.node < length vectors = omega (arith, length-map vectors (take width)) in
    let same = rw (← c.self.view_is, ← c.demands.view_is) at c.requires.width in
    rw (← c.self.view_is, ← c.demands.view_is)
    (taken_lanes vectors (set vectors c.args.node left) width c.demands.inside.width c.args.node
    c.index.result.now left c.demands.inside.vector
    (sym (get_or_read vectors c.args.node c.index.result.now within c.index.ensures []))
    (get_or-set_same vectors c.args.node left [] within)
    (λ x ne. get_or-set_other vectors c.args.node x left [] ne) demands.whole.whole
    demands.narrow same c.less-left.ensures.less)
