use Rattle.text_bounds.proofs.TableBounds.{table_short}
use Rattle.text_bounds.proofs.laws.table_is_short.Goals as goal

pub returns : goal.returns
returns c = table_short
