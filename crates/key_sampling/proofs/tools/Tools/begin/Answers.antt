use Rattle.std.proofs.Common.{ap}
use Rattle.std.proofs.lemmas.List.Elements.{All-nil}
use Rattle.rc_instance.specs.Serial.{serial_bookings}
use Rattle.key_sampling.proofs.tools.Tools.begin.Goals as goal

pub returns-clause-placed : goal.returns-clause-placed
unfolding serial_bookings
returns-clause-placed c =
    let none = ap (λ line. line.bookings) c.clear.ensures in
    record {
      picked = rw c.deref.ensures.value at c.begin.ensures.picked;
      booked = rw c.begin.ensures.none none;
      shown = rw none (All-nil _);
    }
