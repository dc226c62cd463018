use Rattle.std.proofs.Common.{refl, arith, slice_index}
use Rattle.capacity_profile.proofs.LaneLaws.{lane_of-pack}
use Rattle.capacity_profile.proofs.lanes.pack.Goals as goal

pub returns-clause-lanes : goal.returns-clause-lanes
returns-clause-lanes c =
    let lane = slice_index c.args.lanes in
    lane_of-pack (lane 0) (lane 1) (lane 2) (lane 3) _ lane (omega arith)
    c.element_fits.fits c.element_fits2.fits c.element_fits3.fits c.element_fits4.fits refl refl
    refl refl
