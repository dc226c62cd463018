use Rattle.rcpsp_run.proofs.CalendarLaws.{on_calendar-empty}
use Rattle.rcpsp_run.proofs.calendar_laws.empty_calendar_is_none.Goals as goal

pub returns : goal.returns
returns c project name texts without empty = on_calendar-empty project name texts without empty
