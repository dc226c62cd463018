use Rattle.std.proofs.Common.{arith}
use Rattle.activity_net.proofs.BitLaws.{has_bit-both}
use Rattle.activity_net.proofs.bits.insert_all.Goals as goal

pub returns : goal.returns
returns c n =
    has_bit-both c.loop-i.words c.args.words.now c.args.others.now n
    (λ k h. c.loop-i.invariant.done k (omega arith)) c.loop-i.auto.words c.requires
