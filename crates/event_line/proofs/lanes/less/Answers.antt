use Rattle.std.proofs.Common.{◌-◌, ◌≤◌, ◌∙◌, arith}
use Rattle.std.proofs.lemmas.Simd.{get_or-zip2, length-zip2}
use Rattle.event_line.proofs.LaneLaws.{each2_from, lane_fits, vector_from_lanes}
use Rattle.event_line.proofs.lanes.less.Goals as goal

pub overflow_sub-result : goal.overflow_sub-result
overflow_sub-result c =
    let long = c.fits-left.0 in
    let long' = c.fits-demands.0 in
    each2_from (λ a b. b ≤ a) c.args.left c.args.demands (omega arith)
    (λ j h. c.requires j (omega arith))

pub returns-clause-vector : goal.returns-clause-vector
returns-clause-vector c =
    let left = c.args.left in
    let demands = c.args.demands in
    let long = c.fits-left.0 in
    let long' = c.fits-demands.0 in
    vector_from_lanes _ (length-zip2 (λ a b. a - b) left demands (omega arith) ∙ long)
    (λ j h. omega (
      arith,
      get_or-zip2 (λ a b. a - b) left demands j 0 0 0 (omega arith) (omega arith),
      lane_fits left j c.fits-left.1 (omega arith),
    ))
