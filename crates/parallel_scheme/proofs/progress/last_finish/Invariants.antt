use Rattle.std.proofs.Common.{◌≡◌, max, drop}
use Rattle.serial_plain.specs.Shown.{last_finish_of}
use Rattle.parallel_scheme.proofs.progress.last_finish.Given as goal

abbrev pub invariant-loop-activity : goal.invariant-loop-activity
invariant-loop-activity l =
    max l.latest
    (last_finish_of l.instance l.starts (drop l.activity-index l.activities))
    ≡ last_finish_of l.instance l.starts l.activities
