use Rattle.std.proofs.Common.{◌∙◌, ap}
use Rattle.rc_instance.specs.Lists.{names}
use Rattle.rc_instance.specs.Project.{precedes}
use Rattle.schedule_check.proofs.SearchLaws.{found_is_named}
use Rattle.schedule_check.proofs.early_starts.precedes.Goals as goal

pub returns : goal.returns
unfolding precedes
returns c =
    let list = c.successors.result.now in
    c.is_ok.ensures.value
    ∙ (found_is_named list c.args.after c.binary_search.result c.successors.ensures.within.rising
    c.binary_search.ensures.position
    ∙ ap (λ xs. names xs c.args.after) c.successors.ensures.value)
