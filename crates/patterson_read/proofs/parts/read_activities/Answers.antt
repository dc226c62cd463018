use Rattle.std.proofs.Common.{◌≡◌, ℕ, ◌+◌, [], ◌∷◌, ◌++◌, length, Ok, refl, ap, ◌∙◌, arith}
use Rattle.std.proofs.lemmas.Result.{err_from_is_err_and}
use Rattle.std.proofs.lemmas.List.{length_push}
use Rattle.std.proofs.lemmas.List.Sums.{sum_by_push}
use Rattle.rc_edge.proofs.GrammarLaws.{goes_on, refused-more, ends}
use Rattle.patterson_read.specs.Left.{Left}
use Rattle.patterson_read.specs.Rcp.{Activity, next_activity}
use Rattle.patterson_read.proofs.Activities.{holds_more}
use Rattle.patterson_read.proofs.parts.read_activities.Goals as goal

pub returns-in_err-sum : goal.returns-in_err-sum
returns-in_err-sum c =
    let passed = err_from_is_err_and c.from_residual.result c.from_residual.ensures.1 in
    let found = c.loop-index.invariant.0 in
    let so_far = c.loop-index.invariant.1 in
    let fault = c.in_err-sum.field-0.0 in
    let refused = refused-more (next_activity c.args.head) c.args.head.activities c.loop-index.index
    found c.loop-index.cursor fault _ c.loop-index-test.true so_far.rest
    (rw (so_far.count, so_far.sum_is) c.in_err-sum.ensures.reads) in
    rw (passed.1, passed.2) refused

pub loop-index-preserved : goal.loop-index-preserved
loop-index-preserved c =
    let one = next_activity c.args.head in
    let found = c.loop-index.invariant.0 in
    let so_far = c.loop-index.invariant.1 in
    let read = c.in_ok-sum.ensures.reads in
    let activity = read.0.0 in
    let left = c.read_activity.new.cursor in
    let gives = read.1 ∙ ap (λ (rest : Left). Ok (activity, rest)) read.2.1 in
    let next : one found c.loop-index.cursor ≡ Ok (activity, left) =
    rw (so_far.count, so_far.sum_is) gives in
    let sum = sum_by_push (λ (a : Activity). a.duration) found activity in (
      found ++ activity ∷ [],
      record {
        count = length_push found activity ∙ ap (λ (n : ℕ). n + 1) so_far.count;
        sum_is = omega (arith, sum, so_far.sum_is, read.2.0);
        short = c.in_ok-sum.ensures.short;
        holds = holds_more _ found activity _ _ so_far.holds read.2.2;
        rest = goes_on one c.args.head.activities c.loop-index.index found c.loop-index.cursor
            activity left _ c.loop-index-test.true next so_far.rest;
      },
    )

pub returns : goal.returns
returns c =
    let found = c.loop-index.invariant.0 in
    let so_far = c.loop-index.invariant.1 in
    let all = ends (next_activity c.args.head) c.args.head.activities c.loop-index.index found
    c.loop-index.cursor _ c.loop-index-test.false so_far.rest in
    ((found, c.loop-index.cursor), all, (so_far.holds, refl))
