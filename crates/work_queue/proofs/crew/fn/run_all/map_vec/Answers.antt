use Rattle.crossbeam_queue.specs.Passes.{view}
use Rattle.work_queue.proofs.SlotLaws.{given_back}
use Rattle.work_queue.proofs.crew.fn.run_all.map_vec.Goals as goal

pub returns : goal.returns
returns g c =
    given_back c.captures.queue.now c.captures.workers c.captures.count c.args.ready.0
    (view c.args.ready.1) _ c.work_on.result c.requires.ready.1 c.requires.ready.2
    c.work_on.ensures.queue c.work_on.ensures.worked
