use Rattle.rcpsp_run.proofs.CalendarLaws.{serial_schedule-same}
use Rattle.rcpsp_run.proofs.calendar_laws.capacities_decide.Goals as goal

pub returns : goal.returns
returns c project changes others order same none activities =
    serial_schedule-same project changes others order same none activities
