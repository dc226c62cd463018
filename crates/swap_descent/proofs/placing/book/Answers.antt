use Rattle.swap_descent.proofs.PlacedLaws.{placed_more}
use Rattle.swap_descent.proofs.placing.book.Goals as goal

pub serial_step-start-requires-clause-fits : goal.serial_step-start-requires-clause-fits
serial_step-start-requires-clause-fits c = c.requires.placed.fits

pub serial_step-start-requires-clause-project : goal.serial_step-start-requires-clause-project
serial_step-start-requires-clause-project c = c.requires.placed.project

pub serial_step-start-requires-clause-before : goal.serial_step-start-requires-clause-before
serial_step-start-requires-clause-before c = c.requires.placed.booked

pub serial_step-start-requires-clause-count : goal.serial_step-start-requires-clause-count
serial_step-start-requires-clause-count c = c.requires.placed.count

pub serial_step-start-requires-clause-shown : goal.serial_step-start-requires-clause-shown
serial_step-start-requires-clause-shown c = c.requires.placed.shown

pub tail-tail-requires : goal.tail-tail-requires
tail-tail-requires c =
    rw (c.requires.windows, c.order.ensures.value)
    (c.requires.placed.feasible.activities c.args.position 0 c.requires.position)

pub returns-clause-placed : goal.returns-clause-placed
returns-clause-placed c =
    placed_more c.args.list.now c.args.position c.args.line.now c.serial_step-start.new.line
    c.args.starts.now c.serial_step-start.new.into _ _ c.requires.placed
    c.serial_step-start.ensures.booked c.serial_step-start.ensures.start
    c.serial_step-start.ensures.shown
