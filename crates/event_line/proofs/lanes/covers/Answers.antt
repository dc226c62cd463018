use Rattle.std.proofs.lemmas.Bool.{eq-eqb, eqb-true}
use Rattle.event_line.proofs.LaneLaws.{covered_from_none, none_from_covered}
use Rattle.event_line.proofs.lanes.covers.Goals as goal

pub returns : goal.returns
returns c =
    let demands = c.args.demands in
    let left = c.args.left in (
      λ is. covered_from_none demands left c.fits-demands.0 c.fits-left.0 c.fits-demands.1
          c.fits-left.1 (eqb-true _ 0 is),
      λ all. eq-eqb _ 0 (none_from_covered demands left c.fits-demands.0 c.fits-left.0
          c.fits-demands.1 c.fits-left.1 all),
    )
