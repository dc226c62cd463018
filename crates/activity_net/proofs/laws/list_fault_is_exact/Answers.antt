use Rattle.activity_net.proofs.ListFaultLaws.{first_list_fault-none, first_list_fault-feasible}
use Rattle.activity_net.proofs.laws.list_fault_is_exact.Goals as goal

pub returns : goal.returns
returns c project order = (
  first_list_fault-none project order,
  first_list_fault-feasible project
      order,
)
