use Rattle.std.proofs.Common.{◌≢◌, ℕ, ◌<◌, List, length, slice_index, subst, ◌∙◌}
use Rattle.std.proofs.lemmas.List.{with_items_is}
use Rattle.key_sampling.specs.declared.values.TheConstants.{NO_VALUE}
use Rattle.key_sampling.specs.Values.{ShowsValues}
use Rattle.key_sampling.proofs.ValueLaws.{values-of}
use Rattle.key_sampling.proofs.values.sample_values.Goals as goal

pub returns-then-all_written : goal.returns-then-all_written
returns-then-all_written g c =
    let values = c.fill_all.new.values in
    let kept = c.fill_all.auto.values ∙ c.deref_mut.ensures.len in
    let same = with_items_is c.in_ok-values.values values kept in
    let read = c.deref.ensures.value ∙ same in
    same ∙ values-of c.args.net.now.project c.args.seed c.args.from c.args.count values
    (kept ∙ c.in_ok-values.ensures.len)
    (subst (λ (n : ℕ). ShowsValues c.args.net.now.project c.args.seed c.args.from n values)
    (c.deref_mut.ensures.len ∙ c.in_ok-values.ensures.len) c.fill_all.ensures)
    (subst (λ (xs : List ℕ). (k : ℕ) → k < length xs → slice_index xs k ≢ NO_VALUE) read
    (c.all_written.ensures.0 c.if-all_written.true))
