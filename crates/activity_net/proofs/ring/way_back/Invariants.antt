use Rattle.std.proofs.Common.{◌≡◌, ◌-◌, ◌+◌, [], IsTrue}
use Rattle.rc_instance.specs.Lists.{names}
use Rattle.rc_instance.specs.Project.{activity_count}
use Rattle.activity_net.specs.Ring.{stuck, way_back}
use Rattle.activity_net.proofs.ring.way_back.Given as goal

abbrev pub invariant-loop : goal.invariant-loop
invariant-loop l = record {
  same : way_back l.instance (l.end - l.counter) l.passed.items l.here
      ≡ way_back l.instance (activity_count l.instance + 1) [] l.start;
  left : IsTrue (names (stuck l.instance) l.here);
  upto : l.end ≡ activity_count l.instance + 1;
}
