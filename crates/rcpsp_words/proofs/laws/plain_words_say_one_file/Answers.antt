use Rattle.rcpsp_words.proofs.PlainLaws.{plain_words_say}
use Rattle.rcpsp_words.proofs.laws.plain_words_say_one_file.Goals as goal

pub returns : goal.returns
returns c = plain_words_say
