use Rattle.std.proofs.Common.{◌≡◌, None, rules, ap, ◌∙◌}
use Rattle.activity_net.specs.Ring.{shown_cycle}
use Rattle.rcpsp_run.specs.Answer.{told}
use Rattle.rcpsp_run.proofs.commands.windows.windows_answer.Goals as goal

pub returns-clause-printed : goal.returns-clause-printed
returns-clause-printed c =
    let project = c.in_ok-net.net.project in
    let acyclic : shown_cycle project ≡ None = search rules in
    (project, acyclic, c.told.ensures ∙ ap told c.in_ok-text.ensures)
