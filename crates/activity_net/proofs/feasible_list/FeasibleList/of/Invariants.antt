use Rattle.std.proofs.Common.{◌≡◌, [], take, drop}
use Rattle.rc_instance.specs.Project.{activity_count}
use Rattle.activity_net.specs.Tables.{Shows}
use Rattle.activity_net.specs.ListFault.{later_fault}
use Rattle.activity_net.proofs.feasible_list.FeasibleList.of.Given as goal

abbrev pub invariant-loop-position : goal.invariant-loop-position
invariant-loop-position l = record {
  shows : Shows (activity_count l.net.project) l.listed.items (take l.position l.order);
  later : later_fault l.net.project (take l.position l.order) (drop l.position l.order)
      ≡ later_fault l.net.project [] l.order;
}
