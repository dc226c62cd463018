use Rattle.std.proofs.Common.{◌≤◌, sym, subst}
use Rattle.rc_instance.specs.declared.limits.TheConstants.{MAX_HORIZON}
use Rattle.rc_instance.specs.Project.{Project}
use Rattle.rc_instance.specs.Schedule.{makespan}
use Rattle.serial_plain.proofs.HorizonLaws.{makespan_by_horizon}
use Rattle.scheme_bench.proofs.whole.shown.Goals as goal

pub table-requires-clause-ends : goal.table-requires-clause-ends
table-requires-clause-ends c =
    let starts = c.args.schedule.now in
    subst (λ (project : Project). makespan project starts ≤ MAX_HORIZON)
    (sym c.instance-instance.ensures.value)
    (makespan_by_horizon c.args.net.now.project starts c.instance-instance.ensures.limits
    c.requires.within)
