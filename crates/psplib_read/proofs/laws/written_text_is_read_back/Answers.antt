use Rattle.psplib_read.proofs.WrittenText.{written_is_read}
use Rattle.psplib_read.proofs.laws.written_text_is_read_back.Goals as goal

pub returns : goal.returns
returns c = written_is_read
