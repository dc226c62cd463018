use Rattle.std.proofs.Common.{ℕ, ◌+◌, [], reverse, ap, ◌∙◌}
use Rattle.std.proofs.lemmas.List.{with_items_is}
use Rattle.rc_instance.specs.Project.{activity_count}
use Rattle.activity_net.specs.Ring.{way_back, from_least, shown_ring}
use Rattle.activity_net.proofs.ring.Ring.on_way_back.Goals as goal

pub returns : goal.returns
unfolding shown_ring
returns c =
    let project = c.args.instance.now in
    with_items_is c.reverse.new.self c.turn_to_least.new.ring
    (c.turn_to_least.auto.ring ∙ c.deref_mut.ensures.len)
    ∙ (c.turn_to_least.ensures
    ∙ (ap from_least (c.deref_mut.ensures.value ∙ (c.reverse.ensures.items
    ∙ ap reverse c.in_ok-numbers.ensures))
    ∙ ap (λ (start : ℕ). from_least
    (reverse (way_back project (activity_count project + 1) [] start))) c.requires.start))
