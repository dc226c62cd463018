use Rattle.activity_net.proofs.BitLaws.{has_bit-insert}
use Rattle.activity_net.proofs.bits.insert.Goals as goal

pub returns : goal.returns
returns c n = has_bit-insert c.args.words.now c.args.number n c.requires
