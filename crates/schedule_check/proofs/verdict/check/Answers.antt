use Rattle.std.proofs.Common.{◌∙◌, ap, length, sym, subst}
use Rattle.std.proofs.lemmas.List.FromFn.{length-map-range_with_len}
use Rattle.std.proofs.lemmas.Result.{err_from_is_err_and}
use Rattle.rc_instance.specs.Project.{activity_count}
use Rattle.rc_instance.specs.Schedule.{bookings_of, makespan, start_of}
use Rattle.rc_instance.proofs.FeasibleLaws.{last_finish-IsPermutation}
use Rattle.schedule_check.specs.Checking.{Refuses}
use Rattle.schedule_check.specs.Violation.{first_violation, first_name_violation, first_time_violation}
use Rattle.schedule_check.proofs.AnswerLaws.{none_of_both, Refuses-first, Refuses-second}
use Rattle.schedule_check.proofs.SameLaws.{first_time_violation-starts_of, IsPermutation-starts_of}
use Rattle.schedule_check.proofs.verdict.check.Goals as goal

pub returns-in_err-schedule : goal.returns-in_err-schedule
unfolding first_violation
returns-in_err-schedule c =
    let p = err_from_is_err_and c.from_residual.result c.from_residual.ensures.1 in
    let project = c.args.instance.now in
    let plan = c.args.plan.now in
    rw (p.1, p.2) (Refuses-first (first_name_violation (activity_count project) plan)
    (first_time_violation project plan)
    c.in_err-schedule.field-0.0 c.in_err-schedule.ensures)

pub check_times-requires : goal.check_times-requires
check_times-requires c =
    ap length c.in_ok-schedule.ensures.1
    ∙ length-map-range_with_len (start_of c.args.plan.now) 1 (activity_count c.args.instance.now)

pub returns-in_err-makespan : goal.returns-in_err-makespan
unfolding first_violation
returns-in_err-makespan c =
    let p = err_from_is_err_and c.from_residual-in_err-makespan.result
    c.from_residual-in_err-makespan.ensures.1 in
    let project = c.args.instance.now in
    let plan = c.args.plan.now in
    let fault = c.in_err-makespan.field-0.0 in
    let none = c.in_ok-schedule.ensures.0 in
    let time = ap (λ starts. first_time_violation project (bookings_of starts))
    c.in_ok-schedule.ensures.1
    ∙ first_time_violation-starts_of project plan none in
    rw (p.1, p.2) (Refuses-second (first_name_violation (activity_count project) plan)
    (first_time_violation project plan)
    fault none (subst (λ first. Refuses first fault) time c.in_err-makespan.ensures))

pub returns : goal.returns
unfolding first_violation
returns c =
    let project = c.args.instance.now in
    let plan = c.args.plan.now in
    let none = c.in_ok-schedule.ensures.0 in
    let is = c.in_ok-schedule.ensures.1 in
    let time = ap (λ starts. first_time_violation project (bookings_of starts)) (sym is) in (
      none_of_both (first_name_violation (activity_count project) plan)
          (first_time_violation project plan) none
          (sym (first_time_violation-starts_of project plan none)
          ∙ (time ∙ c.in_ok-makespan.ensures.0)),
      c.in_ok-makespan.ensures.1
          ∙ (ap (makespan project) is
          ∙ sym (last_finish-IsPermutation project plan _
          (IsPermutation-starts_of project plan none))),
    )
