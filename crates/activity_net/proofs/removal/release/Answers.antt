use Rattle.activity_net.proofs.TableLaws.{IsReleased-more, still_waits}
use Rattle.activity_net.proofs.removal.release.Goals as goal

pub overflow_sub-waiting-in-loop-b : goal.overflow_sub-waiting-in-loop-b
overflow_sub-waiting-in-loop-b c =
    still_waits c.args.successors.now c.args.waiting.now c.loop-b.waiting c.loop-b.b-index
    c.requires.within c.loop-b-test.true
    c.requires.some c.loop-b.invariant

pub loop-b-preserved : goal.loop-b-preserved
loop-b-preserved c =
    IsReleased-more c.args.successors.now c.args.waiting.now c.loop-b.waiting c.loop-b.b-index
    c.requires.within c.loop-b-test.true
    c.loop-b.auto.waiting
    (still_waits c.args.successors.now c.args.waiting.now c.loop-b.waiting c.loop-b.b-index
    c.requires.within c.loop-b-test.true
    c.requires.some c.loop-b.invariant)
    c.loop-b.invariant
