use Rattle.std.proofs.Common.{◌≡◌, ℕ, ◌+◌, ◌-◌, ◌/◌, ◌<◌, List, Vec, Global, length, get_or, sym, ap, ◌∙◌, subst, arith}
use Rattle.std.specs.List.{Contains}
use Rattle.std.proofs.lemmas.List.{length-map, map-set}
use Rattle.std.proofs.lemmas.List.Elements.{Contains-get_or}
use Rattle.rc_instance.specs.Project.{activity_count, successors_of, precedes, Precedes, IsActivity}
use Rattle.activity_net.specs.Tables.{lists_in}
use Rattle.activity_net.specs.Follows.{IsGathered}
use Rattle.activity_net.proofs.NameLaws.{named_contains}
use Rattle.activity_net.proofs.ReachLaws.{HoldsFollowers-gathered, made_successor, made_more, made_all}
use Rattle.activity_net.proofs.reach.fill.Goals as goal

pub gathered-requires-clause-widths : goal.gathered-requires-clause-widths
unfolding precedes
gathered-requires-clause-widths c k d within =
    let project = c.args.instance.now in
    let order = c.args.order.now in
    let place = length order - 1 - c.loop-after.after in
    let s = get_or c.successors.result.now k d in
    let is : IsActivity project s = c.successors.ensures.within.within k d within in
    let before : Precedes project (get_or order place 0) s =
    named_contains (successors_of project (get_or order place 0)) s
    (subst (λ (xs : List ℕ). Contains xs s) c.successors.ensures.value
    (Contains-get_or c.successors.result.now k d within)) in
    let held = made_successor project order c.loop-after.after (lists_in c.loop-after.sets) place s
    c.requires.feasible c.loop-after.invariant
    (omega arith) (omega arith) is before in
    held.count ∙ ap (λ (n : ℕ). n / 64 + 1) (sym c.count.ensures.value)

pub loop-after-preserved : goal.loop-after-preserved
loop-after-preserved c =
    let project = c.args.instance.now in
    let order = c.args.order.now in
    let after = c.loop-after.after in
    let place = length order - 1 - after in
    let a = get_or order place 0 in
    let sets = lists_in c.loop-after.sets in
    let within : place < length order = omega arith in
    let count : length sets ≡ activity_count project = length-map c.loop-after.sets _
    ∙ (c.loop-after.auto.sets ∙ c.requires.count) in
    let gathered : IsGathered (c.count.result / 64 + 1) sets (successors_of project a)
    c.in_ok-set.set.items =
    subst (λ (xs : List ℕ). IsGathered (c.count.result / 64 + 1) sets xs c.in_ok-set.set.items)
    c.successors.ensures.value c.in_ok-set.ensures in
    let new = HoldsFollowers-gathered project order (c.count.result / 64 + 1) sets a
    c.in_ok-set.set.items c.successors.ensures.limits c.requires.feasible
    (c.requires.feasible.activities place 0 within)
    (ap (λ (n : ℕ). n / 64 + 1) c.count.ensures.value) gathered
    (λ s is before. made_successor project order after sets place s c.requires.feasible
    c.loop-after.invariant within (omega arith) is before) in
    rw (map-set (λ (v : Vec ℕ Global). v.items) c.loop-after.sets (a - 1) c.in_ok-set.set)
    (made_more project order after sets place c.in_ok-set.set.items c.requires.feasible
    c.loop-after.invariant count within (omega arith) new)

pub returns : goal.returns
returns c =
    made_all c.args.instance.now c.args.order.now c.loop-after.after (lists_in c.loop-after.sets)
    c.requires.feasible c.loop-after.invariant
    (length-map c.loop-after.sets _ ∙ (c.loop-after.auto.sets ∙ c.requires.count)) (omega arith)
