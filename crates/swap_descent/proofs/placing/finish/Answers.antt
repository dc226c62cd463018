use Rattle.std.proofs.Common.{arith}
use Rattle.swap_descent.proofs.PlacedLaws.{placed_more, placed_whole}
use Rattle.swap_descent.proofs.placing.finish.Goals as goal

pub serial_step-requires-clause-fits : goal.serial_step-requires-clause-fits
serial_step-requires-clause-fits c = c.loop-position.invariant.fits

pub serial_step-requires-clause-project : goal.serial_step-requires-clause-project
serial_step-requires-clause-project c = c.loop-position.invariant.project

pub serial_step-requires-clause-before : goal.serial_step-requires-clause-before
serial_step-requires-clause-before c = c.loop-position.invariant.booked

pub serial_step-requires-clause-count : goal.serial_step-requires-clause-count
serial_step-requires-clause-count c = c.loop-position.invariant.count

pub serial_step-requires-clause-shown : goal.serial_step-requires-clause-shown
serial_step-requires-clause-shown c = c.loop-position.invariant.shown

pub loop-position-preserved : goal.loop-position-preserved
loop-position-preserved c =
    placed_more c.args.list.now c.loop-position.position c.loop-position.line c.serial_step.new.line
    c.loop-position.starts c.serial_step.new.into _ _ c.loop-position.invariant
    c.serial_step.ensures.booked c.serial_step.ensures.start c.serial_step.ensures.shown

pub returns : goal.returns
returns c =
    placed_whole c.args.list.now c.loop-position.position c.loop-position.line c.loop-position.starts
    (omega (arith, c.length_of-count.ensures.length)) c.loop-position.invariant
