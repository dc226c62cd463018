use Rattle.std.proofs.Common.{◌≡◌, ℕ, List, Some, true, sym, ap, ◌∙◌, subst}
use Rattle.rc_instance.specs.Calendar.{IsWithinLimits}
use Rattle.rc_instance.specs.Order.{IsCycle, IsFeasibleList}
use Rattle.activity_net.proofs.CycleLaws.{feasible_list-no_cycle}
use Rattle.activity_net.proofs.RingLaws.{IsCycle-shown_ring}
use Rattle.rc_instance.specs.Lists.{names}
use Rattle.activity_net.specs.Ring.{stuck}
use Rattle.activity_net.proofs.NetLaws.{IsFeasibleList-removal, least_stuck-is, searched, shown_cycle-is}
use Rattle.activity_net.proofs.net.Net.of.Goals as goal

pub on_way_back-requires-clause-left : goal.on_way_back-requires-clause-left
on_way_back-requires-clause-left c =
    let removal = c.in_ok-removal.ensures in
    let found = searched c.args.instance _ _ c.deref-2.result.now _ removal c.deref-2.ensures.value
    c.in-Some.ensures in
    (least_stuck-is c.args.instance _ _ c.in-Some.start removal found).0

pub on_way_back-requires-clause-start : goal.on_way_back-requires-clause-start
on_way_back-requires-clause-start c =
    let removal = c.in_ok-removal.ensures in
    let found = searched c.args.instance _ _ c.deref-2.result.now _ removal c.deref-2.ensures.value
    c.in-Some.ensures in
    (least_stuck-is c.args.instance _ _ c.in-Some.start removal found).1

pub returns-in-Some-clause-refused : goal.returns-in-Some-clause-refused
returns-in-Some-clause-refused c =
    let removal = c.in_ok-removal.ensures in
    let found = searched c.args.instance _ _ c.deref-2.result.now _ removal c.deref-2.ensures.value
    c.in-Some.ensures in
    let least = least_stuck-is c.args.instance _ _ c.in-Some.start removal found in
    let cycle = IsCycle-shown_ring c.args.instance _ _ removal
    (subst (λ (b : ℕ). names (stuck c.args.instance) b ≡ true) least.1 least.0) in (
      subst (IsCycle c.args.instance) (sym c.in_ok-ring.ensures) cycle,
      shown_cycle-is c.args.instance _ _ _ removal found ∙ ap Some (sym c.in_ok-ring.ensures),
    )

pub follower_sets-requires : goal.follower_sets-requires
follower_sets-requires c =
    let removal = c.in_ok-removal.ensures in
    let none = searched c.args.instance _ _ c.deref-2.result.now _ removal c.deref-2.ensures.value
    c.in_default.ensures in
    subst (IsFeasibleList c.args.instance) (sym c.deref-3.ensures.value)
    (IsFeasibleList-removal c.args.instance _ _ removal none)

pub invariant_of-result : goal.invariant_of-result
invariant_of-result c =
    let removal = c.in_ok-removal.ensures in
    let none = searched c.args.instance _ _ c.deref-2.result.now _ removal c.deref-2.ensures.value
    c.in_default.ensures in
    record {
      limits = subst IsWithinLimits c.instance.view_is c.instance.invariant;
      feasible = IsFeasibleList-removal c.args.instance _ _ removal none;
      predecessors = c.in_ok-predecessors.ensures;
      followers = c.in_ok-followers.ensures;
    }

pub returns-clause-acyclic : goal.returns-clause-acyclic
returns-clause-acyclic c ring =
    let removal = c.in_ok-removal.ensures in
    let none = searched c.args.instance _ _ c.deref-2.result.now _ removal c.deref-2.ensures.value
    c.in_default.ensures in
    feasible_list-no_cycle c.args.instance _ ring (IsFeasibleList-removal c.args.instance _ _
    removal none)

pub returns-clause-shown : goal.returns-clause-shown
returns-clause-shown c =
    let removal = c.in_ok-removal.ensures in
    let none = searched c.args.instance _ _ c.deref-2.result.now _ removal c.deref-2.ensures.value
    c.in_default.ensures in
    shown_cycle-is c.args.instance _ _ _ removal none
