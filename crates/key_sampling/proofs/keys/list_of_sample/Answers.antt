use Rattle.std.proofs.Common.{◌≡◌, length, ap, ◌∙◌}
use Rattle.std.proofs.lemmas.List.{with_items_is}
use Rattle.std.proofs.lemmas.Result.{IfOk-weaker}
use Rattle.rc_instance.specs.Project.{activity_count}
use Rattle.activity_net.specs.Network.{Listing}
use Rattle.key_sampling.specs.Samples.{first_words, generator_of}
use Rattle.key_sampling.proofs.SampleLaws.{sample_list-drawn}
use Rattle.key_sampling.proofs.keys.list_of_sample.Goals as goal

pub returns : goal.returns
returns c =
    let project = c.args.net.now.project in
    let n = length c.deref_mut.result.now in
    let drawn : c.deref.result.now ≡ first_words n (generator_of c.args.seed c.args.sample) =
    c.deref.ensures.value
    ∙ (with_items_is c.in_ok-keys.keys c.draw_keys.new.keys
    (c.draw_keys.auto.keys ∙ c.deref_mut.ensures.len) ∙ c.draw_keys.ensures) in
    let count : n ≡ activity_count project =
    c.deref_mut.ensures.len ∙ (c.in_ok-keys.ensures.len ∙ (c.count.ensures.value
    ∙ ap activity_count c.instance.ensures.value)) in
    IfOk-weaker c.list_by_keys.result _ _ (λ list made. made ∙ ap (λ order. let l : Listing = record {
      network = c.args.net.now;
      order = order;
    } in l) (sample_list-drawn project c.args.seed c.args.sample n c.deref.result.now drawn count))
    c.list_by_keys.ensures
