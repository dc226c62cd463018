use Rattle.time_windows.proofs.WindowLaws.{critical-greatest}
use Rattle.time_windows.proofs.laws.critical_is_greatest_window.Goals as goal

pub returns : goal.returns
returns c project order = critical-greatest project order
