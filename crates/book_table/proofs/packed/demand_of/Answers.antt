use Rattle.std.proofs.Common.{◌+◌, arith}
use Rattle.book_table.proofs.LaneLaws.{demand-small}
use Rattle.rc_instance.specs.Project.{IsResource}
use Rattle.book_table.proofs.packed.demand_of.Goals as goal

pub overflow_cast-result : goal.overflow_cast-result
overflow_cast-result c =
    let resources = c.resources.ensures.value in
    let below = c.if-resource-resources.true in
    let there : IsResource c.args.instance.now (c.args.resource + 1) = (omega arith, omega arith) in
    let small = demand-small c.args.instance.now c.args.activity (c.args.resource + 1)
    c.resources.ensures.limits c.requires.fits c.requires.activity there c.requires.runs in
    omega (arith, c.demand.ensures, small)
