use Rattle.time_windows.specs.Windows.{earliest_of}
use Rattle.time_windows.proofs.FillLaws.{IsFilled}
use Rattle.time_windows.proofs.longest.fill_earliest.Given as goal

abbrev pub invariant-loop-activity : goal.invariant-loop-activity
invariant-loop-activity l =
    IsFilled (earliest_of l.net.project) l.activity-items l.starts 0 l.activity-index
