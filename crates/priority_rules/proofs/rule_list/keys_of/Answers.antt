use Rattle.std.proofs.Common.{◌∙◌, List, ℕ, ◌++◌, ◌∷◌, [], ap, arith}
use Rattle.priority_rules.specs.Rules.{rule_key}
use Rattle.priority_rules.proofs.RuleLaws.{keys_next}
use Rattle.priority_rules.proofs.rule_list.keys_of.Goals as goal

pub loop-activity-preserved : goal.loop-activity-preserved
loop-activity-preserved c =
    let key = rule_key c.args.windows.now.project c.args.rule in
    let activity = c.loop-activity.activity in
    c.in_ok-push.ensures.items
    ∙ (ap (λ (key : ℕ). c.loop-activity.keys.items ++ key ∷ []) c.key_of.ensures
    ∙ (ap (λ (keys : List ℕ). keys ++ key activity ∷ []) c.loop-activity.invariant
    ∙ keys_next key activity (omega arith)))
