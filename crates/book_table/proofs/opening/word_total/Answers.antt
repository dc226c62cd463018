use Rattle.std.proofs.Common.{arith}
use Rattle.book_rule.specs.Layout.{place}
use Rattle.book_table.proofs.opening.word_total.Goals as goal

pub returns : goal.returns
unfolding place
returns c = omega arith
