use Rattle.psplib_read.proofs.TopicLaws.{head_told}
use Rattle.psplib_read.proofs.laws.preamble_tells_topics.Goals as goal

pub returns : goal.returns
returns c = head_told
