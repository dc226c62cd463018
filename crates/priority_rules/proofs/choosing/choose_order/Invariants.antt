use Rattle.std.proofs.Common.{◌≡◌, length, take}
use Rattle.rc_instance.specs.Project.{activity_count}
use Rattle.priority_rules.specs.KeyList.{key_list, key_in}
use Rattle.priority_rules.specs.Picking.{HasPicked, picking}
use Rattle.priority_rules.proofs.choosing.choose_order.Given as goal

abbrev pub invariant-loop-listed : goal.invariant-loop-listed
invariant-loop-listed l = record {
  picked : HasPicked l.net.project l.keys (picking l.waiting l.pile l.free l.listed);
  long : length l.order ≡ activity_count l.net.project;
  list : take l.listed l.order ≡ take l.listed (key_list l.net.project (key_in l.keys));
}
