use Rattle.std.proofs.Common.{◌≡◌, ◌+◌, ◌<◌, false, length, get_or, sym, ap, ◌∙◌, subst, arith}
use Rattle.std.proofs.lemmas.List.{get_or_read}
use Rattle.rc_instance.specs.Project.{precedes}
use Rattle.rc_instance.specs.Order.{IsFeasibleList}
use Rattle.activity_net.specs.Network.{Listing}
use Rattle.activity_net.proofs.SwapLaws.{IsFeasibleList-swap}
use Rattle.activity_net.proofs.feasible_list.FeasibleList.swap_at.Goals as goal

pub invariant_of-self : goal.invariant_of-self
invariant_of-self c =
    let project = c.self.inside.net.now.project in
    let order = c.self.inside.order.items in
    let here = c.args.position in
    let within : here + 1 < length order =
    omega (arith, c.requires, ap (λ (list : Listing). length list.order) c.self.view_is) in
    let first : c.index.result.now ≡ get_or order here 0 =
    get_or_read order here _ (omega arith) c.index.ensures 0 in
    let second : c.index-2.result.now ≡ get_or order (here + 1) 0 =
    get_or_read order (here + 1) _ within c.index-2.ensures 0 in
    let free : precedes project (get_or order here 0) (get_or order (here + 1) 0) ≡ false =
    ap (λ a. precedes project a (get_or order (here + 1) 0)) (sym first)
    ∙ (ap (precedes project c.index.result.now) (sym second)
    ∙ (sym c.precedes.ensures ∙ c.if-precedes.false)) in
    subst (IsFeasibleList project) (sym c.swap.ensures.items)
    (IsFeasibleList-swap project order here c.self.invariant within free)
