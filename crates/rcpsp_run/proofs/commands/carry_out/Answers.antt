use Rattle.std.proofs.Common.{rules, refl}
use Rattle.rcpsp_run.specs.Answer.{answer_view}
use Rattle.rcpsp_run.specs.Commands.{answer_of}
use Rattle.rcpsp_words.specs.declared.commands.Command.TheVariants.{Parallel, Check, Convert, Windows, Trial}
use Rattle.rcpsp_run.proofs.FetchCounts.{fetches-none}
use Rattle.rcpsp_run.proofs.FilelessLaws.{comes-fileless}
use Rattle.rcpsp_run.proofs.LiveLaws.{notes-early, notes-quiet}
use Rattle.rcpsp_run.proofs.commands.carry_out.Goals as goal

pub returns-in_err-names-in-Parallel-clause-comes : goal.returns-in_err-names-in-Parallel-clause-comes
returns-in_err-names-in-Parallel-clause-comes g c = record {
  told = refl;
  failing = refl;
  stand = search rules;
  cause = search rules;
  most = fetches-none _ _ _ refl;
  all = search rules;
  gives = search rules;
}

pub returns-in_err-names-in-Schedule-clause-comes : goal.returns-in_err-names-in-Schedule-clause-comes
returns-in_err-names-in-Schedule-clause-comes g c = record {
  told = refl;
  failing = refl;
  stand = search rules;
  cause = search rules;
  most = fetches-none _ _ _ refl;
  all = search rules;
  gives = search rules;
}

pub returns-in-Trial-clause-comes : goal.returns-in-Trial-clause-comes
returns-in-Trial-clause-comes g c =
    rw c.in-Trial.is (comes-fileless answer_view (answer_of (Trial c.in-Trial.command)) _
    c.trial_answer.result c.trial_answer.ensures.answer c.trial_answer.ensures.texts)

pub returns-in_ok-texts-in-Schedule-clause-noted : goal.returns-in_ok-texts-in-Schedule-clause-noted
returns-in_ok-texts-in-Schedule-clause-noted g c = rw c.in-Schedule.is c.schedule_answer.ensures.noted

pub returns-in_ok-texts-in-Parallel-clause-noted : goal.returns-in_ok-texts-in-Parallel-clause-noted
returns-in_ok-texts-in-Parallel-clause-noted g c =
    rw c.in-Parallel.is (notes-quiet (Parallel c.in-Parallel.command) _ _ c.parallel_answer.result c.requires refl
    c.parallel_answer.ensures.printed)

pub returns-in_ok-texts-in-Sample-clause-noted : goal.returns-in_ok-texts-in-Sample-clause-noted
returns-in_ok-texts-in-Sample-clause-noted g c = rw c.in-Sample.is c.sample_answer.ensures.noted

pub returns-in_ok-texts-in-Check-clause-noted : goal.returns-in_ok-texts-in-Check-clause-noted
returns-in_ok-texts-in-Check-clause-noted g c =
    rw c.in-Check.is (notes-quiet (Check c.in-Check.command) _ _ c.check_answer.result c.requires refl
    c.check_answer.ensures.printed)

pub returns-in_ok-texts-in-Convert-clause-noted : goal.returns-in_ok-texts-in-Convert-clause-noted
returns-in_ok-texts-in-Convert-clause-noted g c =
    rw c.in-Convert.is (notes-quiet (Convert c.in-Convert.command) _ _ c.convert_answer.result c.requires refl
    c.convert_answer.ensures.printed)

pub returns-in_ok-texts-in-Windows-clause-noted : goal.returns-in_ok-texts-in-Windows-clause-noted
returns-in_ok-texts-in-Windows-clause-noted g c =
    rw c.in-Windows.is (notes-quiet (Windows c.in-Windows.command) _ _ c.windows_answer.result c.requires refl
    c.windows_answer.ensures.printed)

pub returns-in-Trial-clause-noted : goal.returns-in-Trial-clause-noted
returns-in-Trial-clause-noted g c =
    rw c.in-Trial.is (notes-quiet (Trial c.in-Trial.command) _ _ c.trial_answer.result c.requires refl
    c.trial_answer.ensures.printed)

pub returns-in_err-names-in-Parallel-clause-noted : goal.returns-in_err-names-in-Parallel-clause-noted
returns-in_err-names-in-Parallel-clause-noted g c =
    notes-early _ _ _ _ _ _ c.from_residual-in_err-names-in-Parallel.ensures.0 refl c.requires

pub returns-in_err-names-in-Schedule-clause-noted : goal.returns-in_err-names-in-Schedule-clause-noted
returns-in_err-names-in-Schedule-clause-noted g c =
    notes-early _ _ _ _ _ _ c.from_residual.ensures.0 refl c.requires

pub returns-in_err-texts-in-Parallel-clause-noted : goal.returns-in_err-texts-in-Parallel-clause-noted
returns-in_err-texts-in-Parallel-clause-noted g c =
    notes-early _ _ _ _ _ _ c.from_residual-in_err-texts-in-Parallel.ensures.0 refl c.requires

pub returns-in_err-texts-in-Schedule-clause-noted : goal.returns-in_err-texts-in-Schedule-clause-noted
returns-in_err-texts-in-Schedule-clause-noted g c =
    notes-early _ _ _ _ _ _ c.from_residual-in_err-texts-in-Schedule.ensures.0 refl c.requires

pub returns-in_err-texts-in-Sample-clause-noted : goal.returns-in_err-texts-in-Sample-clause-noted
returns-in_err-texts-in-Sample-clause-noted g c =
    notes-early _ _ _ _ _ _ c.from_residual-in_err-texts-in-Sample.ensures.0 refl c.requires

pub returns-in_err-texts-in-Check-clause-noted : goal.returns-in_err-texts-in-Check-clause-noted
returns-in_err-texts-in-Check-clause-noted g c =
    notes-early _ _ _ _ _ _ c.from_residual-in_err-texts-in-Check.ensures.0 refl c.requires

pub returns-in_err-texts-in-Convert-clause-noted : goal.returns-in_err-texts-in-Convert-clause-noted
returns-in_err-texts-in-Convert-clause-noted g c =
    notes-early _ _ _ _ _ _ c.from_residual-in_err-texts-in-Convert.ensures.0 refl c.requires

pub returns-in_err-texts-in-Windows-clause-noted : goal.returns-in_err-texts-in-Windows-clause-noted
returns-in_err-texts-in-Windows-clause-noted g c =
    notes-early _ _ _ _ _ _ c.from_residual-in_err-texts-in-Windows.ensures.0 refl c.requires
