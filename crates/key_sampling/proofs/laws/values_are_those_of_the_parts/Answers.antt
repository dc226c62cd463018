use Rattle.key_sampling.proofs.PartLaws.{sample_values-add}
use Rattle.key_sampling.proofs.laws.values_are_those_of_the_parts.Goals as goal

pub returns : goal.returns
returns c project seed from first second = sample_values-add project seed from first second
