use Rattle.std.proofs.Common.{refl, arith, ◌≡◌, min, ◌<◌}
use Rattle.capacity_profile.specs.Lanes.{lane_of}
use Rattle.capacity_profile.proofs.LaneLaws.{four_cases}
use Rattle.capacity_profile.proofs.lanes.lane_min.Goals as goal

pub returns : goal.returns
returns c =
    let lanes = c.pack.ensures.lanes in
    four_cases (λ i. lane_of c.pack.result i ≡ min (lane_of c.args.one i) (lane_of c.args.other i))
    (omega (arith, lanes 0 (omega arith))) (omega (arith, lanes 1 (omega arith)))
    (omega (arith, lanes 2 (omega arith))) (omega (arith, lanes 3 (omega arith)))
