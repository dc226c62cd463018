use Rattle.std.proofs.Common.{◌+◌, ◌∙◌, Fits, w16, arith}
use Rattle.std.proofs.lemmas.Simd.{get_or-zip2, length-zip2}
use Rattle.event_line.proofs.LaneLaws.{each2_from, vector_from_lanes}
use Rattle.event_line.proofs.lanes.more.Goals as goal

pub overflow_add-result : goal.overflow_add-result
overflow_add-result c =
    let long = c.fits-left.0 in
    let long' = c.fits-demands.0 in
    each2_from (λ a b. Fits w16 (a + b)) c.args.left c.args.demands (omega arith)
    (λ j h. record { fits = c.requires j (omega arith) })

pub returns-clause-vector : goal.returns-clause-vector
returns-clause-vector c =
    let left = c.args.left in
    let demands = c.args.demands in
    let long = c.fits-left.0 in
    let long' = c.fits-demands.0 in
    vector_from_lanes _ (length-zip2 (λ a b. a + b) left demands (omega arith) ∙ long)
    (λ j h. omega (
      arith,
      get_or-zip2 (λ a b. a + b) left demands j 0 0 0 (omega arith) (omega arith),
      c.requires j h,
    ))
