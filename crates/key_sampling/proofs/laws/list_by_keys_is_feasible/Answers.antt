use Rattle.priority_rules.proofs.KeyListLaws.{IsFeasibleList-key_list}
use Rattle.key_sampling.proofs.laws.list_by_keys_is_feasible.Goals as goal

pub returns : goal.returns
returns c project key order = IsFeasibleList-key_list project key order
