use Rattle.std.proofs.Common.{◌≡◌, ◌-◌, ◌<◌, List, [], ℕ, Vec, Global, length, sym, ap, ◌∙◌, subst, arith}
use Rattle.std.proofs.lemmas.List.{get_or-map, length-map}
use Rattle.rc_instance.specs.Calendar.{IsWithinLimits}
use Rattle.rc_instance.specs.Lists.{names}
use Rattle.rc_instance.specs.Project.{activity_count}
use Rattle.rc_instance.specs.Order.{IsFeasibleList}
use Rattle.activity_net.specs.Network.{Network}
use Rattle.activity_net.specs.Follows.{followers, has_bit, set_of}
use Rattle.activity_net.specs.Tables.{lists_in}
use Rattle.activity_net.proofs.FollowLaws.{follows_named, named_follower}
use Rattle.activity_net.proofs.net.Net.follows.Goals as goal

pub returns-clause-chain : goal.returns-clause-chain
returns-clause-chain c =
    let project = c.args.self.now.project in
    let a = c.args.activity in
    let b = c.args.later in
    let inside = c.self.inside in
    let same = ap (λ (network : Network). activity_count network.project) c.self.view_is in
    let holds = c.self.invariant.followers in
    let place : a - 1 < length inside.followers.items = omega (
      arith,
      length-map inside.followers.items (λ (v : Vec ℕ Global). v.items),
      holds.count,
      c.requires.activity,
    ) in
    let read : c.deref.result.now ≡ set_of (lists_in inside.followers.items) a =
    c.deref.ensures.value ∙ (ap (λ (v : Vec ℕ Global). v.items) c.index.ensures
    ∙ sym (get_or-map (λ (v : Vec ℕ Global). v.items) inside.followers.items (a - 1)
    c.index.result.now [] place)) in
    let held = (holds.at a
    (omega (arith, c.requires.activity), omega (arith, c.requires.activity))).at b
    (omega (arith, c.requires.later), omega (arith, c.requires.later)) in
    let value : c.has.result ≡ names (followers project a) b =
    c.has.ensures ∙ (ap (λ (xs : List ℕ). has_bit xs b) read
    ∙ (held ∙ ap (λ (network : Network). names (followers network.project a) b) c.self.view_is)) in
    let limits = subst (λ (network : Network). IsWithinLimits network.project) c.self.view_is
    c.self.invariant.limits in
    let feasible = subst (λ (network : Network). IsFeasibleList network.project network.order)
    c.self.view_is c.self.invariant.feasible in (
      λ has. follows_named project a b (sym value ∙ has),
      λ follows. value ∙ named_follower project c.args.self.now.order a b limits feasible
          c.requires.activity follows,
    )
