use Rattle.std.proofs.Common.{◌≡◌, None, ap, refl, subst, sym, ◌∙◌}
use Rattle.rc_instance.specs.Misfit.{HasNoMisfit}
use Rattle.activity_net.specs.Ring.{shown_cycle}
use Rattle.rcpsp_run.specs.Answer.{answer_view}
use Rattle.rcpsp_run.specs.Commands.Sample.{samples_told}
use Rattle.rcpsp_run.proofs.LiveLaws.{notes-early, notes-passed}
use Rattle.rcpsp_run.proofs.StepLaws.{without_cycle-none, ok_same}
use Rattle.rcpsp_run.proofs.commands.sample.sample_answer.Goals as goal

pub returns-clause-printed : goal.returns-clause-printed
returns-clause-printed g c =
    let project = c.in_ok-net.net.project in
    let acyclic : shown_cycle project ≡ None =
    ap shown_cycle c.in_ok-net.ensures.net
    ∙ without_cycle-none (shown_cycle c.in_ok-instance.instance) c.in_ok-net.ensures.acyclic in
    record {
      project = project;
      acyclic = acyclic;
      fits = subst HasNoMisfit c.instance.ensures.value c.in_ok-fitting.ensures.fits;
      shown = sym (ok_same (samples_told c.args.command.now project)
          (answer_view c.in_ok-answer.answer) c.in_ok-answer.ensures.answer);
    }

pub returns-in_err-instance-clause-noted : goal.returns-in_err-instance-clause-noted
returns-in_err-instance-clause-noted g c =
    notes-early _ _ _ _ _ _ c.from_residual.ensures.0 refl c.requires.well

pub returns-in_err-net-clause-noted : goal.returns-in_err-net-clause-noted
returns-in_err-net-clause-noted g c =
    notes-early _ _ _ _ _ _ c.from_residual-in_err-net.ensures.0 refl c.requires.well

pub returns-in_err-fitting-clause-noted : goal.returns-in_err-fitting-clause-noted
returns-in_err-fitting-clause-noted g c =
    notes-early _ _ _ _ _ _ c.from_residual-in_err-fitting.ensures.0 refl c.requires.well

pub returns-in_err-answer-clause-noted : goal.returns-in_err-answer-clause-noted
returns-in_err-answer-clause-noted g c =
    notes-passed _ _ _ _ _ _ c.in_err-answer.field-0.0 _
    c.from_residual-in_err-answer.ensures.1 c.in_err-answer.ensures.noted

pub returns-clause-noted : goal.returns-clause-noted
returns-clause-noted g c = record { told = c.in_ok-answer.ensures.noted.told; refused = tt }
