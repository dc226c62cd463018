use Rattle.priority_rules.proofs.NumberLaws.{number_list-rising}
use Rattle.priority_rules.proofs.laws.list_by_number_is_rising.Goals as goal

pub returns : goal.returns
returns c = number_list-rising
