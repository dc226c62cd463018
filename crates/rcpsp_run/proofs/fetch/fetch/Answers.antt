use Rattle.std.proofs.Common.{◌≡◌, length, [], sym, ap, ◌∙◌, subst}
use Rattle.std.proofs.lemmas.List.{length-map}
use Rattle.rc_edge.specs.Faults.{counted_on}
use Rattle.rc_edge.specs.Fetches.{HasReason}
use Rattle.rcpsp_run.specs.Causes.{FilesAt, FetchesAtMost}
use Rattle.rcpsp_run.proofs.CauseLaws.{names_now, contents-files, found_there, has_cause, explains_refused, of_fetch}
use Rattle.rcpsp_run.proofs.FetchCounts.{fetches-all, fetches-up_to}
use Rattle.rcpsp_run.proofs.RunLaws.{IfSome-implied, IfSome-both}
use Rattle.rcpsp_run.proofs.fetch.fetch.Goals as goal

pub returns-in-Ok-clause-comes : goal.returns-in-Ok-clause-comes
returns-in-Ok-clause-comes g c =
    let fetched = c.in-Ok.ensures in
    let count : length (names_now c.args.names.now) ≡ length c.args.names.now =
    length-map c.args.names.now (λ name. name.now) in
    let made = fetched.fetches.all ∙ ap (counted_on (g.F.Files.fetches c.args.files.now)) (sym count) in
    record {
      told = fetched.told;
      failing = fetched.failing;
      stand = fetched.stand;
      cause = tt;
      most = fetches-all _ _ _ made;
      all = made;
      gives = IfSome-implied (g.F.Files.told c.args.files.now) _ _
          (λ pairs are. contents-files pairs c.args.names.now c.in-Ok.texts.items are fetched.length)
          fetched.files;
    }

pub returns-in-Err-clause-comes : goal.returns-in-Err-clause-comes
returns-in-Err-clause-comes g c =
    let refused = c.in-Err.ensures in
    let names = c.args.names.now in
    let place = c.in-Err.place in
    let told = g.F.Files.told c.args.files.now in
    let before : FilesAt = record {
      told = told;
      failing = g.F.Files.failing c.args.files.now;
      faults = g.F.Files.faults c.args.files.now;
      long = g.F.Files.long c.args.files.now;
      fetches = g.F.Files.fetches c.args.files.now;
    } in
    let after : FilesAt = record {
      told = g.F.Files.told c.fetch_all.new.files;
      failing = g.F.Files.failing c.fetch_all.new.files;
      faults = g.F.Files.faults c.fetch_all.new.files;
      long = g.F.Files.long c.fetch_all.new.files;
      fetches = g.F.Files.fetches c.fetch_all.new.files;
    } in
    let found = found_there (λ name. HasReason c.in-Err.fault before.faults after.faults before.long after.long name.now)
    names place (record { ref_ptr = (0, 0); now = [] }) refused.reason in
    let count : length (names_now names) ≡ length names = length-map names (λ name. name.now) in
    record {
      told = refused.told;
      failing = refused.failing;
      stand = tt;
      cause = has_cause names place _ before after c.in-Err.fault c.refusal_of.result found.0 found.1 refused.before
          (IfSome-implied told _ _ (λ pairs beyond large. rw found.0 at (beyond large)) refused.beyond)
          c.refusal_of.ensures;
      most = subst (λ most. FetchesAtMost most before after) (sym count)
          (fetches-up_to names place _ before after found.0 refused.fetches.up_to);
      all = tt;
      gives = IfSome-implied told _ _
          (λ pairs both. explains_refused pairs names place _ c.in-Err.fault c.refusal_of.result found.0 both.0
          (λ large. rw found.0 at (both.1 large)) c.refusal_of.ensures)
          (IfSome-both told _ _ refused.before refused.beyond);
    }

pub returns-in-Err-clause-kinds : goal.returns-in-Err-clause-kinds
returns-in-Err-clause-kinds g c = of_fetch _ c.in-Err.fault c.refusal_of.result c.refusal_of.ensures
