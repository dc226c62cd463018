use Rattle.rc_instance.proofs.OrderLaws.{feasible_list-before}
use Rattle.activity_net.proofs.laws.predecessor_stands_before.Goals as goal

pub returns : goal.returns
returns c project order place a = feasible_list-before project order place a
