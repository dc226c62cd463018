use Rattle.patterson_read.proofs.CalendarLaws.{calendar_is, calendar_kind_is}
use Rattle.patterson_read.proofs.calendar.read_calendar.Goals as goal

pub returns-clause-calendar : goal.returns-clause-calendar
returns-clause-calendar c = calendar_is _ _ _ _ c.read_changes.ensures

pub returns-clause-kinds : goal.returns-clause-kinds
returns-clause-kinds c = calendar_kind_is _ _ _ _ c.read_changes.ensures
