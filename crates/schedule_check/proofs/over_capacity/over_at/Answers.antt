use Rattle.std.proofs.Common.{◌∙◌, sym, arith}
use Rattle.rc_instance.specs.Project.{resource_count}
use Rattle.rc_instance.specs.Schedule.{bookings_of}
use Rattle.rc_instance.proofs.MisfitLaws.{first_of-is, first_of-none}
use Rattle.schedule_check.specs.Violation.{over_of, over_at}
use Rattle.schedule_check.proofs.over_capacity.over_at.Goals as goal

pub returns-in-Some : goal.returns-in-Some
unfolding over_at
returns-in-Some c =
    let project = c.args.instance.now in
    sym (first_of-is (over_of project (bookings_of c.args.schedule.now) c.args.period) 1
    (resource_count project) c.loop-resource.resource c.in-Some.violation (omega arith)
    (omega (arith, c.resources-resource-end.ensures.value)) (sym c.over_of.ensures ∙ c.in-Some.is)
    c.loop-resource.invariant)

pub returns : goal.returns
unfolding over_at
returns c =
    let project = c.args.instance.now in
    sym (first_of-none (over_of project (bookings_of c.args.schedule.now) c.args.period) 1
    (resource_count project)
    (λ k low high. c.loop-resource.invariant k low
    (omega (arith, c.resources-resource-end.ensures.value))))
