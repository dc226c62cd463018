use Rattle.std.proofs.Common.{◌≡◌, ◌-◌, ◌≤◌, length, take, Some}
use Rattle.rc_instance.specs.Usage.{last_finish}
use Rattle.rc_instance.specs.Serial.{serial_bookings}
use Rattle.key_sampling.specs.Tools.{IsPlaced, HaveSameKeys, list_in, places_in}
use Rattle.key_sampling.specs.Race.{view_of, sample_in_hand, value_in, StaysAtWork}
use Rattle.key_sampling.proofs.search.place_all.Given as goal

abbrev pub invariant-places : goal.invariant-places
invariant-places l = record {
  stays : StaysAtWork l.race l.initial.seeker l.seeker;
  hand : sample_in_hand (view_of l.seeker) ≡ Some l.sample;
  same : HaveSameKeys l.initial.tools l.tools;
  placed : IsPlaced l.tools;
  low : l.bound ≤ value_in l.race l.sample;
  covers : last_finish l.tools.net.now.project
      (serial_bookings l.tools.net.now.project (take (places_in l.tools) (list_in l.tools)))
      ≤ l.bound;
}

abbrev pub decreases-places : goal.decreases-places
decreases-places l = length (list_in l.tools) - places_in l.tools
