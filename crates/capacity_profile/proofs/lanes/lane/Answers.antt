use Rattle.std.proofs.Common.{refl, arith, sym}
use Rattle.capacity_profile.proofs.LaneLaws.{lane_of-first, lane_of-second, lane_of-third, lane_of-last}
use Rattle.capacity_profile.proofs.lanes.lane.Goals as goal

pub returns-in-0 : goal.returns-in-0
returns-in-0 c = sym (lane_of-first _ _ (omega arith))

pub returns-in-1 : goal.returns-in-1
returns-in-1 c = sym (lane_of-second _ _ (omega arith))

pub returns-in-2 : goal.returns-in-2
returns-in-2 c = sym (lane_of-third _ _ (omega arith))

pub returns-in_default : goal.returns-in_default
returns-in_default c = sym (lane_of-last _ _ (omega arith))
