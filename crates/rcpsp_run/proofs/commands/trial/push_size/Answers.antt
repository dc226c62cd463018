use Rattle.std.proofs.Common.{◌∙◌, append_assoc}
use Rattle.rcpsp_run.proofs.commands.trial.push_size.Goals as goal

pub returns : goal.returns
returns c =
    c.in_ok-write.ensures.bytes
    ∙ rw (c.count-activities.ensures.value, c.resources-resources.ensures.value) (simp append_assoc)
