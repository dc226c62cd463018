use Rattle.std.proofs.Common.{◌≡◌, ◌-◌, get_or, set, arith, refl}
use Rattle.std.proofs.lemmas.List.{get_or-set_same}
use Rattle.activity_net.proofs.TableLaws.{still_waits}
use Rattle.priority_rules.proofs.ReleaseLaws.{releasing_room, releasing_numbers, releasing_waits, releasing_frees}
use Rattle.priority_rules.proofs.choosing.release.Goals as goal
use Rattle.priority_rules.proofs.choosing.release.Goals.{then-waiting-place-eq0, else-waiting-place-eq0}

pub overflow_sub-waiting : goal.overflow_sub-waiting
overflow_sub-waiting c =
    still_waits c.args.successors.now c.args.waiting.now c.loop-b.waiting c.loop-b.b-index
    c.requires.successors (omega arith) c.requires.wait c.loop-b.invariant.released

pub add-requires-clause-room : goal.add-requires-clause-room
add-requires-clause-room c =
    releasing_room c.args.successors.now c.args.keys.now c.args.waiting.now c.loop-b.waiting
    c.args.pile.now c.loop-b.pile c.args.free c.loop-b.free c.loop-b.b-index c.requires.successors
    c.requires.wait (omega arith) c.requires.free c.loop-b.invariant

pub add-requires-clause-numbers : goal.add-requires-clause-numbers
add-requires-clause-numbers c =
    releasing_numbers _ c.args.keys.now c.args.waiting.now c.loop-b.waiting c.args.pile.now
    c.loop-b.pile c.args.free c.loop-b.free c.requires.free c.requires.keys c.loop-b.invariant

pub loop-b-preserved : goal.loop-b-preserved
loop-b-preserved c =
    let l = c.loop-b in
    let place = get_or c.args.successors.now l.b-index 0 - 1 in
    let less = get_or l.waiting place 0 - 1 in
    let inside = c.requires.successors.within l.b-index 0 (omega arith) in
    let at : get_or (set l.waiting place less) place 0 ≡ less =
    get_or-set_same l.waiting place less 0 (omega (arith, inside.1)) in
    elim c.if-waiting-place-eq0.branch [
      | then-waiting-place-eq0 w ↦ rw (w.pile-is, w.free-is)
          (releasing_frees c.args.successors.now c.args.keys.now c.args.waiting.now l.waiting
          c.args.pile.now l.pile w.add.new.pile c.args.free l.free l.b-index less
          c.requires.successors c.requires.wait (omega arith) l.invariant refl (omega arith)
          (releasing_room c.args.successors.now c.args.keys.now c.args.waiting.now l.waiting
          c.args.pile.now l.pile c.args.free l.free l.b-index c.requires.successors
          c.requires.wait (omega arith) c.requires.free l.invariant) w.add.auto.pile
          w.add.ensures.added w.add.ensures.falling)
      | else-waiting-place-eq0 w ↦ rw (w.pile-is, w.free-is)
          (releasing_waits c.args.successors.now c.args.keys.now c.args.waiting.now l.waiting
          c.args.pile.now l.pile c.args.free l.free l.b-index less c.requires.successors
          c.requires.wait (omega arith) l.invariant refl (omega arith))
    ]

pub returns-clause-within : goal.returns-clause-within
returns-clause-within c = c.loop-b.invariant.within

pub returns-clause-free : goal.returns-clause-free
returns-clause-free c = rw c.loop-b.invariant.long.0 c.loop-b.invariant.are_free
