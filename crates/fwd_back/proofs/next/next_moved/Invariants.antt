use Rattle.std.proofs.Common.{◌-◌}
use Rattle.fwd_back.specs.Backward.{activities_of}
use Rattle.fwd_back.proofs.NextLaws.{IsFound}
use Rattle.fwd_back.proofs.next.next_moved.Given as goal

abbrev pub invariant-loop-activity : goal.invariant-loop-activity
invariant-loop-activity l =
    IsFound l.line.project l.present (activities_of l.line.bookings) (l.activity - 1) l.next l.end
