use Rattle.std.proofs.Common.{◌≡◌, ℕ, ◌-◌, ◌*◌, ◌≤◌, ◌^◌, ap, arith}
use Rattle.std.specs.List.{sum_by}
use Rattle.std.proofs.lemmas.Nat.{mul-le}
use Rattle.rc_instance.specs.Lists.{numbers}
use Rattle.rc_instance.specs.Project.{activity_count}
use Rattle.time_windows.specs.CapacityBound.{work, work_of}
use Rattle.time_windows.proofs.CapacityLaws.{sum_by-numbers-more}
use Rattle.time_windows.proofs.capacity.work.Goals as goal

pub loop-activity-preserved : goal.loop-activity-preserved
loop-activity-preserved c =
    let project = c.args.instance.now in
    let a = c.loop-activity.activity in
    let demand = c.from-demand.result in
    let duration = c.from.result in
    let more = sum_by-numbers-more (work_of project c.args.resource) a (omega arith) in
    let asked : demand * duration ≡ work_of project c.args.resource a =
    rw (
      c.from-demand.ensures,
      c.demand.ensures,
      c.from.ensures,
      c.duration.ensures.value,
    ) in
    let few : demand * duration ≤ 2 ^ 32 * 2 ^ 16 =
    mul-le demand duration (2 ^ 32) (2 ^ 16) (omega arith) (omega arith) in
    record {
      value = omega arith;
      small = omega arith;
    }

pub returns-clause-value : goal.returns-clause-value
unfolding work
returns-clause-value c =
    let project = c.args.instance.now in
    let all : c.loop-activity.activity - 1 ≡ activity_count project = omega arith in
    omega (
      arith,
      ap (λ (n : ℕ). sum_by (work_of project c.args.resource) (numbers n)) all,
    )
