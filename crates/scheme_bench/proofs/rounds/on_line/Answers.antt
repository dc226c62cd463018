use Rattle.std.proofs.Common.{◌≡◌, ℕ, replicate, length, ap, subst, ◌∙◌}
use Rattle.std.proofs.lemmas.List.{length-replicate}
use Rattle.rc_instance.specs.Project.{activity_count}
use Rattle.rc_instance.specs.Misfit.{HasNoMisfit}
use Rattle.scheme_bench.proofs.rounds.on_line.Goals as goal

pub loop-init : goal.loop-init
loop-init c =
    let is : c.instance-instance.result.now ≡ c.args.list.now.network.project =
    c.instance-instance.ensures.value ∙ ap (λ network. network.project) c.net.ensures.value in
    record {
      line = ap (λ timeline. timeline.project) c.in-Ok.ensures ∙ is;
      count = ap length c.in-Ok-zero.ensures ∙ length-replicate {A = ℕ} _ 0 ∙ c.count.ensures.value ∙ ap activity_count is;
      fits = subst HasNoMisfit is c.in_default.ensures.ok;
    }
