use Rattle.activity_net.proofs.CycleLaws.{feasible_list-no_cycle}
use Rattle.activity_net.proofs.laws.feasible_list_excludes_cycle.Goals as goal

pub returns : goal.returns
returns c project order ring = feasible_list-no_cycle project order ring
