use Rattle.std.proofs.Common.{◌≡◌, map, string_bytes, Some, rules, refl}
use Rattle.rcpsp_words.specs.Words.{options_of}
use Rattle.rcpsp_run.proofs.FetchCounts.{fetches-none}
use Rattle.rcpsp_run.proofs.LiveLaws.{notes-early}
use Rattle.rcpsp_run.proofs.runs.decide.Goals as goal

pub returns-in_err-options-clause-comes : goal.returns-in_err-options-clause-comes
returns-in_err-options-clause-comes g c = record {
  told = refl;
  failing = refl;
  stand = search rules;
  cause = search rules;
  most = fetches-none _ _ _ refl;
  all = search rules;
  gives = search rules;
}

pub returns-in_err-options-clause-noted : goal.returns-in_err-options-clause-noted
returns-in_err-options-clause-noted g c =
    notes-early _ _ _ _ _ _ c.from_residual.ensures.0 refl c.requires

pub returns-clause-noted : goal.returns-clause-noted
returns-clause-noted g c =
    let is : options_of (map string_bytes c.args.words.now) ≡ Some c.in_ok-options.options =
    c.in_ok-options.ensures in
    rw is c.carry_out.ensures.noted
