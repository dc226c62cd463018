use Rattle.std.proofs.Common.{◌≡◌, length, take}
use Rattle.rc_instance.specs.Project.{activity_count}
use Rattle.rc_instance.specs.Serial.{serial_bookings}
use Rattle.serial_plain.specs.Shown.{ShowsStarts}
use Rattle.serial_plain.proofs.on.serial_on.Given as goal

abbrev pub invariant-loop-position : goal.invariant-loop-position
invariant-loop-position l =
    (l.line.project ≡ l.list.network.project)
    × (l.line.bookings ≡ serial_bookings l.list.network.project (take l.position l.list.order))
    × (length l.into ≡ activity_count l.list.network.project)
    × ShowsStarts l.line.bookings l.into
