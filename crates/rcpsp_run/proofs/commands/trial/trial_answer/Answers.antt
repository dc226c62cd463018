use Rattle.std.proofs.Common.{Ok, ap, sym, ◌∙◌}
use Rattle.rcpsp_run.specs.Answer.{told}
use Rattle.rcpsp_run.proofs.SummaryLaws.{summary-made}
use Rattle.rcpsp_run.proofs.commands.trial.trial_answer.Goals as goal

pub returns-clause-printed : goal.returns-clause-printed
returns-clause-printed g c =
    let made = summary-made c.args.command.now c.in_ok-net.net c.in_ok-windows.windows c.in_ok-list.list
    c.in_ok-schedule.schedule c.in_ok-net.ensures.project c.in_ok-windows.ensures c.in_ok-list.ensures
    c.in_ok-schedule.ensures.starts in
    c.told.ensures ∙ ap told (c.in_ok-text.ensures ∙ made)

pub returns-clause-answer : goal.returns-clause-answer
returns-clause-answer g c =
    let made = summary-made c.args.command.now c.in_ok-net.net c.in_ok-windows.windows c.in_ok-list.list
    c.in_ok-schedule.schedule c.in_ok-net.ensures.project c.in_ok-windows.ensures c.in_ok-list.ensures
    c.in_ok-schedule.ensures.starts in
    ap Ok (sym (c.told.ensures ∙ ap told (c.in_ok-text.ensures ∙ made)))
