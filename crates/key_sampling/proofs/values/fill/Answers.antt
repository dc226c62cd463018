use Rattle.std.proofs.Common.{◌≡◌, ℕ, ◌+◌, ◌<◌, length, ap, ◌∙◌, arith, get_or-set_other}
use Rattle.std.proofs.lemmas.List.{length-set}
use Rattle.activity_net.specs.Network.{Network}
use Rattle.key_sampling.specs.Samples.{sample_makespan}
use Rattle.key_sampling.proofs.ValueLaws.{written_more}
use Rattle.key_sampling.proofs.values.fill.Goals as goal

pub loop-place-init : goal.loop-place-init
loop-place-init c = record {
  network = c.in-Ok.ensures;
  written = λ k below. absurd (omega arith);
  left = λ k from within. c.requires.empty k within;
}

pub loop-place-preserved : goal.loop-place-preserved
loop-place-preserved c =
    let l = c.loop-place in
    let before = l.invariant in
    let value = λ (k : ℕ). sample_makespan c.args.net.now.project c.args.seed (c.args.from + k) in
    let within : l.place < length l.values = omega arith in
    let is : c.value.result ≡ value l.place =
    c.value.ensures.value ∙ ap (λ (n : Network). sample_makespan n.project c.args.seed
    (c.args.from + l.place)) before.network in
    record {
      network = c.value.ensures.net ∙ before.network;
      written = λ k below. written_more value l.values l.place c.value.result within is
          before.written k below;
      left = λ k above inside.
          let long = length-set l.values l.place c.value.result in
          get_or-set_other l.values l.place k c.value.result 0 (λ e. absurd (omega arith))
          ∙ before.left k (omega arith) (omega arith);
    }
