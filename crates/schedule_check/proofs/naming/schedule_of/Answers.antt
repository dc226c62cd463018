use Rattle.std.proofs.Common.{◌≡◌, ◌∙◌, ℕ, false, Some, None, length, map, ap, sym, subst}
use Rattle.std.proofs.lemmas.List.{length-replicate}
use Rattle.rc_instance.specs.Lists.{numbers}
use Rattle.rc_instance.specs.Project.{activity_count}
use Rattle.rc_instance.specs.Schedule.{start_of}
use Rattle.schedule_check.specs.Violation.{first_name_violation}
use Rattle.schedule_check.proofs.naming.schedule_of.Goals as goal

pub returns-in-Some : goal.returns-in-Some
returns-in-Some c =
    let plan = c.args.plan.now in
    let made = ap length c.in_ok-named.ensures ∙ length-replicate c.count-count.result false in
    let long : length c.deref_mut.result.now ≡ activity_count c.args.instance.now =
    ap length c.deref_mut.ensures.value ∙ made ∙ c.count-count.ensures.value in
    subst (λ (n : ℕ). first_name_violation n plan ≡ Some c.in-Some.violation) long
    (sym c.first_name_violation.ensures.violation ∙ c.in-Some.is)

pub returns : goal.returns
returns c =
    let plan = c.args.plan.now in
    let made = ap length c.in_ok-named.ensures ∙ length-replicate c.count-count.result false in
    let long : length c.deref_mut.result.now ≡ activity_count c.args.instance.now =
    ap length c.deref_mut.ensures.value ∙ made ∙ c.count-count.ensures.value in (
      subst (λ (n : ℕ). first_name_violation n plan ≡ None) long
          (sym c.first_name_violation.ensures.violation ∙ c.in_default.is),
      subst (λ (n : ℕ). c.first_name_violation.new.schedule ≡ map (start_of plan) (numbers n)) long
          c.in_default.ensures.starts,
    )
