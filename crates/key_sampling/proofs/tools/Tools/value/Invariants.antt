use Rattle.std.proofs.Common.{◌≡◌, ◌-◌, ◌≤◌, length, take}
use Rattle.rc_instance.specs.declared.limits.TheConstants.{MAX_HORIZON}
use Rattle.rc_instance.specs.Usage.{last_finish}
use Rattle.rc_instance.specs.Serial.{serial_bookings}
use Rattle.key_sampling.specs.Tools.{IsPlaced, HaveSameKeys, list_in, places_in}
use Rattle.key_sampling.proofs.tools.Tools.value.Given as goal

abbrev pub invariant-places : goal.invariant-places
invariant-places l = record {
  same : HaveSameKeys l.initial.self l.self;
  placed : IsPlaced l.self;
  makespan : l.makespan ≡ last_finish l.self.net.now.project
      (serial_bookings l.self.net.now.project (take (places_in l.self) (list_in l.self)));
  within : l.makespan ≤ MAX_HORIZON;
}

abbrev pub decreases-places : goal.decreases-places
decreases-places l = length (list_in l.self) - places_in l.self
