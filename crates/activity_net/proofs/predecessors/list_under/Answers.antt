use Rattle.std.proofs.Common.{◌≡◌, ℕ, ◌-◌, ◌+◌, ◌<◌, take, ◌++◌, ◌∷◌, [], List, Vec, Global, length, get_or, set, arith, sym, ap, ◌∙◌, subst}
use Rattle.std.proofs.lemmas.List.{get_or-map, length-map, map-set}
use Rattle.rc_instance.specs.Lists.{IsRising}
use Rattle.activity_net.specs.Tables.{lists_in, IsListedUnder}
use Rattle.activity_net.proofs.TableLaws.{IsListedUnder-more}
use Rattle.activity_net.proofs.predecessors.list_under.Goals as goal

pub loop-b-preserved : goal.loop-b-preserved
loop-b-preserved c =
    let a = c.args.activity in
    let xs = c.args.successors.now in
    let before = c.args.lists.now in
    let now = c.loop-b.lists in
    let i = c.loop-b.b-index in
    let are : IsRising (length (lists_in before)) xs = subst (λ (n : ℕ). IsRising n xs)
    (sym (length-map before (λ (v : Vec ℕ Global). v.items))) c.requires in
    let same : length (lists_in now) ≡ length (lists_in before) = length-map now _
    ∙ (c.loop-b.auto.lists ∙ sym (length-map before _)) in
    let step = IsListedUnder-more a xs (lists_in before) (lists_in now) i are c.loop-b-test.true
    same c.loop-b.invariant in
    let place = get_or xs i 0 - 1 in
    let inside : place < length now = let h = c.requires.within i 0 c.loop-b-test.true in omega
    (arith, c.loop-b.auto.lists) in
    let items : get_or (lists_in now) place [] ++ a ∷ [] ≡ c.push.new.self.items =
    ap (λ (list : List ℕ). list ++ a ∷ []) (get_or-map (λ (v : Vec ℕ Global). v.items) now place
    c.index-lists-b.result [] inside) ∙ sym c.in_ok-push.ensures.items in
    rw (map-set (λ (v : Vec ℕ Global). v.items) now place c.push.new.self)
    (subst (λ (list : List ℕ). IsListedUnder a (take (i + 1) xs) (lists_in before)
    (set (lists_in now) place list)) items step)
