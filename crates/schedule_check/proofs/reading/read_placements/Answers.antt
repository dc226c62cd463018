use Rattle.std.proofs.Common.{ap, inl, length, arith}
use Rattle.std.proofs.lemmas.Result.{err_from_is_err_and}
use Rattle.csv.specs.Records.{fields_of}
use Rattle.schedule_check.specs.Plan.{booking_of}
use Rattle.schedule_check.specs.Records.{records_left}
use Rattle.schedule_check.proofs.PlanLaws.{plan_ends, plan_more, plan_fails}
use Rattle.schedule_check.proofs.reading.read_placements.Goals as goal

pub returns-in_err-placement_in : goal.returns-in_err-placement_in
returns-in_err-placement_in c =
    let p = err_from_is_err_and c.from_residual-in_err-placement_in.result
    c.from_residual-in_err-placement_in.ensures.1 in
    rw (p.1, p.2)
    (inl (plan_fails c.loop-plan.row c.loop-plan.plan (records_left c.loop-plan.reader)
    (records_left c.read_next.new.reader)
    (fields_of c.read_next.new.fields) c.in_err-placement_in.field-0.0 _
    (rw c.if-branch.true at c.in_ok-read_next.ensures.taken) c.in_err-placement_in.ensures
    c.loop-plan.invariant.1))

pub loop-plan-preserved : goal.loop-plan-preserved
loop-plan-preserved c =
    let takes = rw c.if-branch.true at c.in_ok-read_next.ensures.taken in
    let more = plan_more c.loop-plan.row c.loop-plan.plan (records_left c.loop-plan.reader)
    (records_left c.read_next.new.reader)
    (fields_of c.read_next.new.fields) (booking_of c.in_ok-placement_in.field-0) _ takes
    c.in_ok-placement_in.ensures
    c.loop-plan.invariant.1 in (
      c.in_ok-read_next.ensures.reading,
      rw c.in_ok-push.ensures.added more,
      omega
          (arith, ap length takes, c.loop-plan.invariant.2),
    )

pub returns : goal.returns
returns c =
    plan_ends c.loop-plan.row c.loop-plan.plan (records_left c.loop-plan.reader)
    (records_left c.read_next.new.reader)
    (fields_of c.read_next.new.fields) _ (rw c.if-branch.false at c.in_ok-read_next.ensures.taken)
    c.loop-plan.invariant.1
