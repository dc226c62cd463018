use Rattle.std.proofs.Common.{◌≡◌, ◌+◌, ◌≤◌, [], length}
use Rattle.schedule_check.specs.Reading.{bookings_read}
use Rattle.schedule_check.specs.Records.{IsReading, records_left}
use Rattle.schedule_check.proofs.reading.read_placements.Given as goal

abbrev pub invariant-loop-plan : goal.invariant-loop-plan
invariant-loop-plan l =
    IsReading l.reader
    × (bookings_read l.row l.plan (records_left l.reader)
    ≡ bookings_read 2 [] (records_left l.fn.reader))
    × (l.row + length (records_left l.reader) ≤ 2 + length (records_left l.fn.reader))

abbrev pub decreases-loop-plan : goal.decreases-loop-plan
decreases-loop-plan l = length (records_left l.reader)
