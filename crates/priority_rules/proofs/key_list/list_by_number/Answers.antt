use Rattle.std.proofs.Common.{◌≡◌, ◌∙◌, List, ℕ, IfOk, length, ap, subst}
use Rattle.rc_instance.specs.Lists.{numbers}
use Rattle.rc_instance.specs.Project.{activity_count}
use Rattle.rc_instance.proofs.ListLaws.{length-numbers}
use Rattle.activity_net.specs.Network.{Listing}
use Rattle.priority_rules.specs.KeyList.{key_list, key_in}
use Rattle.priority_rules.proofs.NumberLaws.{numbers_as_keys}
use Rattle.priority_rules.proofs.key_list.list_by_number.Goals as goal
use Rattle.priority_rules.proofs.key_list.list_by_number.Goals.{After-deref}

-- the keys are the numbers of the activities
keys_are : (c : After-deref) → c.deref.result.now ≡ numbers (activity_count c.args.net.now.project)
keys_are c =
    c.deref.ensures.value
    ∙ (c.in_ok-numbers.ensures ∙ ap numbers (c.count.ensures.value
    ∙ ap activity_count c.instance.ensures.value))

pub list_by_keys-requires : goal.list_by_keys-requires
list_by_keys-requires c =
    ap length (keys_are (goal.at.list_by_keys-requires c).After-deref)
    ∙ length-numbers (activity_count c.args.net.now.project)

pub returns : goal.returns
returns c =
    let network = c.args.net.now in
    let same = ap (λ (keys : List ℕ). key_list network.project (key_in keys))
    (keys_are (goal.at.returns c).After-deref)
    ∙ numbers_as_keys network.project in
    subst (λ (order : List ℕ). IfOk c.list_by_keys.result
    (λ list. let listing : Listing = record { network = network; order = order } in list
    ≡ listing)) same c.list_by_keys.ensures
