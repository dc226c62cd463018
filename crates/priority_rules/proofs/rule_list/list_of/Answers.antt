use Rattle.std.proofs.Common.{◌≡◌, ◌∙◌, List, ℕ, IfOk, length, map, ap, subst}
use Rattle.std.proofs.lemmas.List.FromFn.{length-map-range_with_len}
use Rattle.rc_instance.specs.Calendar.{IsWithinLimits}
use Rattle.rc_instance.specs.Lists.{numbers}
use Rattle.rc_instance.specs.Project.{activity_count}
use Rattle.activity_net.specs.Network.{Network, Listing}
use Rattle.priority_rules.specs.KeyList.{key_list, key_in}
use Rattle.priority_rules.specs.Rules.{rule_key}
use Rattle.priority_rules.proofs.RuleLaws.{by_rule_keys}
use Rattle.priority_rules.proofs.rule_list.list_of.Goals as goal
use Rattle.priority_rules.proofs.rule_list.list_of.Goals.{After-deref}

-- the keys are those of the rule
keys_are : (c : After-deref) → c.deref.result.now
    ≡ map (rule_key c.args.net.now.project c.args.rule)
    (numbers (activity_count c.args.net.now.project))
keys_are c =
    c.deref.ensures.value
    ∙ (c.in_ok-keys.ensures.keys
    ∙ ap (λ (network : Network). map (rule_key network.project c.args.rule)
    (numbers (activity_count network.project))) c.requires)

pub list_by_keys-requires : goal.list_by_keys-requires
list_by_keys-requires c =
    let project = c.args.net.now.project in
    ap length (keys_are (goal.at.list_by_keys-requires c).After-deref)
    ∙ length-map-range_with_len (rule_key project c.args.rule) 1 (activity_count project)

pub returns : goal.returns
returns c =
    let network = c.args.net.now in
    let limits = subst (λ (network : Network). IsWithinLimits network.project) c.requires
    c.keys_of.ensures.limits in
    let same = ap (λ (keys : List ℕ). key_list network.project (key_in keys))
    (keys_are (goal.at.returns c).After-deref)
    ∙ by_rule_keys network.project c.args.rule limits in
    subst (λ (order : List ℕ). IfOk c.list_by_keys.result
    (λ list. let listing : Listing = record { network = network; order = order } in list
    ≡ listing)) same c.list_by_keys.ensures
