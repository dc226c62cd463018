use Rattle.patterson_read.proofs.ReadBackLaws.{written_is_read}
use Rattle.patterson_read.proofs.laws.written_text_is_read_back.Goals as goal

pub returns : goal.returns
returns c = written_is_read
