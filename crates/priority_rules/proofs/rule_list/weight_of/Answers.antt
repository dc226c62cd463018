use Rattle.std.proofs.Common.{◌≤◌, List, ℕ, sym, subst, arith}
use Rattle.std.specs.List.{sum_by}
use Rattle.std.proofs.lemmas.List.Sums.{sum_by_more_le}
use Rattle.rc_instance.specs.Project.{duration}
use Rattle.rc_instance.specs.declared.limits.TheConstants.{MAX_DURATION_SUM}
use Rattle.priority_rules.proofs.RuleLaws.{successors-le}
use Rattle.priority_rules.proofs.rule_list.weight_of.Goals as goal

pub overflow_add-weight : goal.overflow_add-weight
overflow_add-weight c =
    let instance = c.args.instance.now in
    let successors = c.successors-successor-items in
    let few = subst (λ (list : List ℕ). sum_by (duration instance) list ≤ MAX_DURATION_SUM)
    (sym successors.ensures.value)
    (successors-le instance c.args.activity successors.ensures.limits c.requires) in
    let more = sum_by_more_le (duration instance) successors.result.now
    c.loop-successor.successor-index 0 (omega arith) in
    omega (
      arith,
      c.loop-successor.invariant,
      few,
      more,
      c.duration-weight.ensures.value,
      c.duration-weight.ensures.within,
      c.duration-weight-in-loop-successor.ensures.value,
    )
