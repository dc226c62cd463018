use Rattle.std.proofs.Common.{arith, ◌∙◌, ap, sym, ℕ, ◌≤◌, List, length, Vec, Global, Bor}
use Rattle.rc_edge.specs.Faults.{one_more}
use Rattle.rc_edge.specs.Files.{SameCounts}
use Rattle.rc_edge.proofs.CountLaws.{counted_on-more, counted_on-le}
use Rattle.rc_edge.specs.Fetches.{HasReason}
use Rattle.std.proofs.lemmas.List.Elements.{All-push}
use Rattle.rc_edge.proofs.FetchLaws.{IsSomeAnd-slice_get, IsSomeAnd-all, Counts-reason}
use Rattle.rc_edge.proofs.FetchLaws.{AreFiles-more, AreWithin-more, IsBeyond-at}
use Rattle.rc_edge.proofs.fetches.fetch_all.Goals as goal

pub returns-in-Err-clause-reason : goal.returns-in-Err-clause-reason
returns-in-Err-clause-reason g c =
    let before = c.loop-place.invariant in
    let P = λ (name : Bor (List ℕ)). HasReason c.in-Err.fault
    (g.F.Files.faults c.args.files.now) (g.F.Files.faults c.fetch_one.new.files)
    (g.F.Files.long c.args.files.now) (g.F.Files.long c.fetch_one.new.files) name.now in
    IsSomeAnd-slice_get P c.args.names.now c.loop-place.place _ c.loop-place-test.true
    (Counts-reason _ _ _ _ _ _ _ _ _ c.in-Err.is before.faults before.long
    c.fetch_one.ensures.counts)

pub returns-in-Err-clause-beyond : goal.returns-in-Err-clause-beyond
returns-in-Err-clause-beyond g c =
    IsBeyond-at _ _ _ _ _ _ _ c.loop-place.invariant.told c.loop-place-test.true
    c.in-Err.ensures.bytes

pub returns-in-Err-push-clause-reason : goal.returns-in-Err-push-clause-reason
returns-in-Err-push-clause-reason g c =
    let before = c.loop-place.invariant in
    let stand = c.in-Ok.ensures.counts.ok in
    let P = λ (_ : Bor (List ℕ)).
    SameCounts (g.F.Files.faults c.args.files.now) (g.F.Files.faults c.fetch_one.new.files)
    × SameCounts (g.F.Files.long c.args.files.now) (g.F.Files.long c.fetch_one.new.files) in
    IsSomeAnd-all P c.args.names.now c.loop-place.place c.loop-place-test.true
    (λ _. ((λ n. stand.0 n ∙ before.faults n), (λ n. stand.1 n ∙ before.long n)))

pub loop-place-preserved : goal.loop-place-preserved
loop-place-preserved g c =
    let before = c.loop-place.invariant in
    let inside = c.loop-place-test.true in
    let fetched = c.in-Ok.ensures in
    let pushed = c.in-Ok-push.ensures in
    let stand = fetched.counts.ok in
    let text = c.in-Ok.text in
    let IsShort = λ (text : Vec ℕ Global). length text.items ≤ c.args.limit in
    record {
      told = fetched.told ∙ before.told;
      failing = fetched.failing ∙ before.failing;
      fetches = fetched.fetches ∙ ap one_more before.fetches ∙ sym (counted_on-more _ c.loop-place.place);
      faults = λ n. stand.0 n ∙ before.faults n;
      long = λ n. stand.1 n ∙ before.long n;
      count = omega (arith, pushed.len, before.count);
      length = rw pushed.items (All-push IsShort _ text before.length fetched.length);
      texts = AreFiles-more _ _ _ _ _ _ _ text before.told inside pushed.items
          before.texts fetched.bytes;
      within = AreWithin-more _ _ _ _ _ _ text before.told inside fetched.length
          before.within fetched.bytes;
    }

pub returns-in-Err-clause-fetches : goal.returns-in-Err-clause-fetches
returns-in-Err-clause-fetches g c =
    let before = g.F.Files.fetches c.args.files.now in
    let made = c.fetch_one.ensures.fetches ∙ ap one_more c.loop-place.invariant.fetches
    ∙ sym (counted_on-more before c.loop-place.place) in
    record {
      most = omega (arith, made, counted_on-le before c.loop-place.place _ c.loop-place-test.true);
      all = tt;
      up_to = made;
    }

pub returns-in-Err-push-clause-fetches : goal.returns-in-Err-push-clause-fetches
returns-in-Err-push-clause-fetches g c =
    let before = g.F.Files.fetches c.args.files.now in
    let made = c.fetch_one.ensures.fetches ∙ ap one_more c.loop-place.invariant.fetches
    ∙ sym (counted_on-more before c.loop-place.place) in
    record {
      most = omega (arith, made, counted_on-le before c.loop-place.place _ c.loop-place-test.true);
      all = tt;
      up_to = made;
    }
