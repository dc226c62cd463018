use Rattle.std.proofs.Common.{◌≡◌, length, map, refl, sym, ap, ◌∙◌, arith}
use Rattle.std.proofs.lemmas.List.{length-map, with_items_is}
use Rattle.std.specs.Vec.{with_items}
use Rattle.rc_instance.specs.Lists.{IsUpTo}
use Rattle.rc_instance.specs.Parts.{made, named_up_to}
use Rattle.rc_instance.proofs.BuildLaws.{keeps_limits, made_within}
use Rattle.rc_instance.proofs.SortedLists.{lists_of, all_within}
use Rattle.rc_instance.proofs.instance.Instance.build.Goals as goal

pub overflow_cast-len : goal.overflow_cast-len
overflow_cast-len c =
    let parts = c.args.parts in
    let none = sym c.first_fault.ensures ∙ c.in_default.is in
    let keeps = keeps_limits parts.capacities.items parts.durations.items (lists_of parts.successors.items) none in
    omega (arith, keeps.activities, c.len.ensures, parts.durations.ok.0)

pub sort_all-requires : goal.sort_all-requires
sort_all-requires c =
    let parts = c.args.parts in
    let none = sym c.first_fault.ensures ∙ c.in_default.is in
    let keeps = keeps_limits parts.capacities.items parts.durations.items (lists_of parts.successors.items) none in
    let counted : c.len.result ≡ length parts.durations.items = omega (arith, c.len.ensures, parts.durations.ok.0) in
    rw (counted, c.deref_mut.ensures.value)
    (all_within (IsUpTo (length parts.durations.items)) parts.successors.items keeps.successors_within)

-- the lists of the new instance are those of the parts, with sorted successors
made_is : (c : goal.After-new)
    → lists_of (with_items c.args.parts.successors c.sort_all.new.lists).items ≡ map (named_up_to (length c.args.parts.durations.items)) (lists_of c.args.parts.successors.items)
made_is c =
    let counted : c.len.result ≡ length c.args.parts.durations.items = omega (arith, c.len.ensures, c.args.parts.durations.ok.0) in
    let same : length c.sort_all.new.lists ≡ c.args.parts.successors.len =
    c.sort_all.auto.lists ∙ ap length c.deref_mut.ensures.value ∙ sym c.args.parts.successors.ok.0 in
    ap lists_of (with_items_is c.args.parts.successors c.sort_all.new.lists same)
    ∙ c.sort_all.ensures
    ∙ ap (λ n. map (named_up_to n) (lists_of c.deref_mut.result.now)) counted
    ∙ ap (λ vs. map (named_up_to (length c.args.parts.durations.items)) (lists_of vs)) c.deref_mut.ensures.value

pub invariant_of-result : goal.invariant_of-result
unfolding made
invariant_of-result c =
    let parts = c.args.parts in
    let none = sym c.first_fault.ensures ∙ c.in_default.is in
    let keeps = keeps_limits parts.capacities.items parts.durations.items (lists_of parts.successors.items) none in
    let limits = made_within parts.capacities.items parts.durations.items parts.demands.items (lists_of parts.successors.items)
    keeps (length-map parts.successors.items _ ∙ c.requires.successors) c.requires.demands in
    rw (made_is c, c.new.ensures.items) limits

pub returns-clause-made : goal.returns-clause-made
unfolding made
returns-clause-made c = rw (made_is c, c.new.ensures.items) refl
