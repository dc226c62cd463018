use Rattle.std.proofs.Common.{length, drop, subst, ap, ◌∙◌, arith}
use Rattle.std.proofs.lemmas.List.{take_at}
use Rattle.rc_instance.specs.Lists.{greatest}
use Rattle.rc_instance.specs.Order.{IsFeasibleList}
use Rattle.time_windows.specs.CapacityBound.{capacity_bound_of}
use Rattle.time_windows.proofs.ReadLaws.{windows_made}
use Rattle.time_windows.proofs.windows.Windows.of.Goals as goal

pub invariant_of-result : goal.invariant_of-result
invariant_of-result c =
    let starts = c.fill_earliest.new.starts in
    let tails = c.fill_tails.new.tails in
    let first = take_at starts (drop (length starts) c.in_ok-earliest.earliest.items)
    c.in_ok-earliest.earliest.len (omega arith) in
    let last = take_at tails (drop (length tails) c.in_ok-tails.tails.items)
    c.in_ok-tails.tails.len (omega arith) in
    let order = subst (IsFeasibleList c.args.net.now.project) c.order-count.ensures.value
    c.order-count.ensures.feasible in
    windows_made c.args.net.now _ _ _ _ c.order-count.ensures.limits order
    (first ∙ c.fill_earliest.ensures) (last ∙ c.fill_tails.ensures)
    (c.greatest-critical.ensures ∙ ap greatest c.deref.ensures.value)
    (c.capacity_bound.ensures.value ∙ ap capacity_bound_of c.instance.ensures.value)
