use Rattle.std.proofs.Common.{◌≡◌, ℕ, length, sym, ap, subst, ◌∙◌}
use Rattle.std.proofs.lemmas.List.{length-replicate}
use Rattle.rc_instance.specs.Project.{activity_count}
use Rattle.rc_instance.specs.Misfit.{HasNoMisfit}
use Rattle.activity_net.specs.Network.{Listing}
use Rattle.scheme_bench.proofs.every.every_call.Goals as goal

pub loop-init : goal.loop-init
loop-init c =
    let same : c.instance-instance.result.now ≡ c.in-Ok.list.network.project =
    c.instance-instance.ensures.value
    ∙ sym (ap (λ (l : Listing). l.network.project) c.in-Ok.ensures) in
    let count = ap activity_count same in
    record {
      fits = subst HasNoMisfit same c.in_default.ensures.ok;
      room = c.in-Ok-new.ensures ∙ (ap activity_count (sym c.instance-instance.ensures.value) ∙ count);
      keys = sym c.in-Ok-vec.keys.ok.0
          ∙ (c.in-Ok-vec.ensures.len ∙ (c.count-2.ensures.value ∙ count));
      line = ap (λ timeline. timeline.project) c.in-Ok-new-2.ensures ∙ same;
      schedule = ap length c.in-Ok-zero.ensures
          ∙ (length-replicate {A = ℕ} _ 0 ∙ (c.count.ensures.value ∙ count));
    }
