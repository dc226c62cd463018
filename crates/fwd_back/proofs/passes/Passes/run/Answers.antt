use Rattle.std.proofs.Common.{◌≡◌, ℕ, List, ap, ◌∙◌}
use Rattle.std.proofs.lemmas.List.{with_items_is}
use Rattle.rc_instance.specs.Schedule.{serial_schedule}
use Rattle.activity_net.specs.Network.{Listing}
use Rattle.priority_rules.specs.KeyList.{key_list, key_in}
use Rattle.fwd_back.specs.Improved.{forward}
use Rattle.fwd_back.proofs.passes.Passes.run.Goals as goal

pub returns-clause-forward : goal.returns-clause-forward
unfolding forward
returns-clause-forward c =
    let project = c.args.self.now.list.network.project in
    let keys : c.deref.result.now ≡ c.move_back.new.starts =
    c.deref.ensures.value
    ∙ with_items_is c.args.self.now.starts c.move_back.new.starts
    (c.move_back.auto.starts ∙ c.deref_mut-2.ensures.len) in
    c.serial_on.ensures.schedule
    ∙ (ap (λ (list : Listing). serial_schedule list.network.project list.order)
    c.choose.ensures.list
    ∙ ap (λ (xs : List ℕ). serial_schedule project (key_list project (key_in xs)))
    (keys ∙ c.move_back.ensures.backward))
