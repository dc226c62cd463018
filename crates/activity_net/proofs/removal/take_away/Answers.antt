use Rattle.std.proofs.Common.{◌-◌, length, set, true, sym, ap, ◌∙◌, subst, arith}
use Rattle.std.proofs.lemmas.List.{with_items_is}
use Rattle.activity_net.proofs.RemovalLaws.{IsReached, IsSearched, IsSearched-none, IsSearched-more, reached_start, reached_step, reached_all, free_waits}
use Rattle.activity_net.proofs.removal.take_away.Goals as goal

pub loop-activity-init : goal.loop-activity-init
loop-activity-init c =
    let reached = reached_start c.args.instance.now c.new-order.result.items
    c.in_ok-removed.removed.items c.in_ok-waiting.waiting.items c.count.result
    c.args.predecessors.now c.requires c.new-order.ensures.items
    (c.in_ok-removed.ensures.items_if_clones_equal (λ y e. e)) c.count.ensures.value
    c.in_ok-waiting.ensures in
    (reached, IsSearched-none c.in_ok-waiting.waiting.items c.in_ok-removed.removed.items)

pub first_free-requires-clause-few : goal.first_free-requires-clause-few
first_free-requires-clause-few c =
    let marks = ap length c.deref-in-loop-activity.ensures.value in
    omega (arith, c.count.ensures.limits.activities, c.loop-activity.invariant.0.shows.count, marks)

pub first_free-requires-clause-inside : goal.first_free-requires-clause-inside
first_free-requires-clause-inside c =
    let marks = ap length c.deref-in-loop-activity.ensures.value in
    omega (arith, c.loop-activity.invariant.1.inside, marks)

pub first_free-requires-clause-none_before : goal.first_free-requires-clause-none_before
first_free-requires-clause-none_before c =
    rw (c.deref.ensures.value, c.deref-in-loop-activity.ensures.value)
    c.loop-activity.invariant.1.none

pub release-requires-clause-some : goal.release-requires-clause-some
release-requires-clause-some c =
    let free = rw (c.deref.ensures.value, c.deref-in-loop-activity.ensures.value) at
    c.in-Some.ensures.some in
    let within = rw c.successors-successors.ensures.value at c.successors-successors.ensures.within.within in
    rw (c.deref_mut.ensures.value, c.successors-successors.ensures.value)
    (free_waits c.args.instance.now c.loop-activity.order.items c.loop-activity.removed.items
    c.loop-activity.waiting.items c.in-Some.activity c.loop-activity.invariant.0 free within)

pub loop-activity-smaller : goal.loop-activity-smaller
loop-activity-smaller c =
    let step = reached_step c.args.instance.now c.loop-activity.order.items c.push.new.self.items
    c.loop-activity.removed.items c.deref-in-loop-activity.result.now c.loop-activity.waiting.items
    c.deref_mut.result.now c.deref.result.now c.release.new.waiting c.in-Some.activity
    c.successors-successors.result.now c.loop-activity.invariant.0 c.deref.ensures.value
    c.deref-in-loop-activity.ensures.value c.in-Some.ensures.some c.in_ok-push.ensures.items
    c.successors-successors.ensures.value c.deref_mut.ensures.value c.release.auto.waiting c.release.ensures in
    step.1

pub loop-activity-preserved : goal.loop-activity-preserved
loop-activity-preserved c =
    let removed = c.loop-activity.removed.items in
    let waiting = c.loop-activity.waiting.items in
    let activity = c.in-Some.activity in
    let marks = set removed (activity - 1) true in
    let step = reached_step c.args.instance.now c.loop-activity.order.items c.push.new.self.items
    removed c.deref-in-loop-activity.result.now waiting c.deref_mut.result.now c.deref.result.now
    c.release.new.waiting activity c.successors-successors.result.now c.loop-activity.invariant.0
    c.deref.ensures.value c.deref-in-loop-activity.ensures.value c.in-Some.ensures.some
    c.in_ok-push.ensures.items c.successors-successors.ensures.value c.deref_mut.ensures.value
    c.release.auto.waiting c.release.ensures in
    let free = rw (c.deref.ensures.value, c.deref-in-loop-activity.ensures.value) at
    c.in-Some.ensures.some in
    let least = rw (c.deref.ensures.value, c.deref-in-loop-activity.ensures.value) at
    c.in-Some.ensures.least in
    let released = rw c.deref_mut.ensures.value at c.release.ensures in
    let reached = c.loop-activity.invariant.0 in
    let searched = IsSearched-more waiting c.release.new.waiting removed activity
    c.next_place-from.result c.successors-successors.result.now (reached.count ∙ sym reached.shows.count) free least
    released c.next_place-from.ensures.within c.next_place-from.ensures.before in
    let back = with_items_is c.loop-activity.waiting c.release.new.waiting
    (c.release.auto.waiting ∙ c.deref_mut.ensures.len) in (
      subst (IsReached c.args.instance.now c.push.new.self.items marks) (sym back) step.0,
      subst (λ now. IsSearched now marks c.next_place-from.result) (sym back) searched,
    )

pub returns : goal.returns
returns c =
    let none = rw (c.deref.ensures.value, c.deref-in-loop-activity.ensures.value) at
    c.in_default.ensures.none in
    reached_all c.args.instance.now c.loop-activity.order.items c.loop-activity.removed.items
    c.loop-activity.waiting.items c.loop-activity.invariant.0 none
