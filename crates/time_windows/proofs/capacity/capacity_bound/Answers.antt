use Rattle.std.proofs.Common.{◌≡◌, ℕ, ◌-◌, map, ap, arith}
use Rattle.rc_instance.specs.Lists.{greatest, numbers}
use Rattle.rc_instance.specs.Project.{resource_count}
use Rattle.time_windows.specs.CapacityBound.{bound_by, capacity_bound_of}
use Rattle.time_windows.proofs.BoundLaws.{capacity_bound-le-durations}
use Rattle.time_windows.proofs.CapacityLaws.{greatest-numbers-more}
use Rattle.time_windows.proofs.capacity.capacity_bound.Goals as goal

pub loop-resource-preserved : goal.loop-resource-preserved
loop-resource-preserved c =
    let more = greatest-numbers-more (bound_by c.args.instance.now) c.loop-resource.resource
    (omega arith) in
    omega arith

value_is : (c : goal.After-loop-resource)
    → c.loop-resource.bound ≡ capacity_bound_of c.args.instance.now
unfolding capacity_bound_of
value_is c =
    let project = c.args.instance.now in
    let all : c.loop-resource.resource - 1 ≡ resource_count project = omega arith in
    omega (arith, ap (λ (n : ℕ). greatest (map (bound_by project) (numbers n))) all)

pub returns-clause-value : goal.returns-clause-value
returns-clause-value c = value_is c

pub returns-clause-within : goal.returns-clause-within
returns-clause-within c =
    omega (
      arith,
      value_is c,
      capacity_bound-le-durations c.args.instance.now,
      c.resources-resource-end.ensures.limits.durations,
    )
