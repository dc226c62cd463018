use Rattle.std.proofs.Common.{◌≡◌, ℕ, ◌-◌, ◌+◌, List, Some, Vec, Global, length, take, drop, nat_eq, sym, ap, ◌∙◌, subst, arith}
use Rattle.std.specs.List.{position, All}
use Rattle.std.specs.Option.{is_some}
use Rattle.std.proofs.lemmas.List.{take_rest, length-map}
use Rattle.std.proofs.lemmas.List.FromFn.{length-map-range_with_len}
use Rattle.rc_instance.specs.Lists.{IsUpTo}
use Rattle.rc_instance.specs.Project.{activity_count}
use Rattle.activity_net.specs.Network.{predecessors_of}
use Rattle.activity_net.specs.Ring.{step_back}
use Rattle.activity_net.proofs.PredecessorLaws.{predecessors_are, list_read}
use Rattle.activity_net.proofs.StuckLaws.{stuck_are, search_back}
use Rattle.activity_net.proofs.RingLaws.{place-some, place-none, named-some, way_back-found, way_back-next, way_back-end}
use Rattle.activity_net.proofs.ring.way_back.Goals as goal

pub returns-in-Some : goal.returns-in-Some
returns-in-Some c =
    let passed = c.loop.passed.items in
    let here = c.loop.here in
    let place = c.in-Some.place in
    let found : position (λ a. nat_eq a here) passed ≡ Some place =
    ap (position (λ a. nat_eq a here)) (sym c.deref.ensures.value) ∙ sym c.in-Some.ensures in
    let way = way_back-found c.args.instance.now _ passed here (omega arith)
    (named-some here passed place found) in
    c.in_ok-from_slice.ensures.items
    ∙ (ap (λ (xs : List ℕ). take (length xs - place) (drop place xs)) c.deref-in-Some.ensures.value
    ∙ (take_rest passed place ∙ (ap (λ (k : ℕ). drop k passed) (place-some _ passed place found)
    ∙ (sym way ∙ c.loop.invariant.same))))

pub overflow_sub-here : goal.overflow_sub-here
overflow_sub-here c = (stuck_are c.args.instance.now c.loop.here c.loop.invariant.left).0

pub bounds-predecessors-here : goal.bounds-predecessors-here
bounds-predecessors-here c =
    omega (
      arith,
      stuck_are c.args.instance.now c.loop.here c.loop.invariant.left,
      length-map c.args.predecessors.now (λ (list : Vec ℕ Global). list.items),
      ap length c.requires.table,
      length-map-range_with_len (predecessors_of c.args.instance.now) 1
          (activity_count c.args.instance.now),
    )

pub first_unmarked-requires : goal.first_unmarked-requires
first_unmarked-requires c =
    let project = c.args.instance.now in
    let list = list_read project c.args.predecessors.now c.loop.here c.deref-in-loop.result.now
    c.index-predecessors-here.result c.requires.table
    (stuck_are project c.loop.here c.loop.invariant.left) c.deref-in-loop.ensures.value
    c.index-predecessors-here.is in
    let marks : length c.deref-in-loop-2.result.now ≡ activity_count project = ap length
    c.deref-in-loop-2.ensures.value ∙ c.requires.removal.shows.count in
    let within : All (IsUpTo (length c.deref-in-loop-2.result.now))
    (predecessors_of project c.loop.here) =
    subst (λ (n : ℕ). All (IsUpTo n) (predecessors_of project c.loop.here)) (sym marks)
    (predecessors_are project c.loop.here).within in
    subst (All (IsUpTo (length c.deref-in-loop-2.result.now))) (sym list) within

pub unwrap-here-requires : goal.unwrap-here-requires
unwrap-here-requires c =
    let project = c.args.instance.now in
    let list = list_read project c.args.predecessors.now c.loop.here c.deref-in-loop.result.now
    c.index-predecessors-here.result c.requires.table
    (stuck_are project c.loop.here c.loop.invariant.left) c.deref-in-loop.ensures.value
    c.index-predecessors-here.is in
    ap is_some (search_back project c.args.removal.now.order.items c.args.removal.now.removed.items
    c.deref-in-loop-2.result.now
    c.deref-in-loop.result.now c.loop.here c.first_unmarked.result c.requires.removal
    c.loop.invariant.left list
    c.deref-in-loop-2.ensures.value c.first_unmarked.ensures)

pub loop-preserved : goal.loop-preserved
loop-preserved c =
    let project = c.args.instance.now in
    let here = c.loop.here in
    let passed = c.loop.passed.items in
    let list = list_read project c.args.predecessors.now here c.deref-in-loop.result.now
    c.index-predecessors-here.result c.requires.table
    (stuck_are project here c.loop.invariant.left) c.deref-in-loop.ensures.value
    c.index-predecessors-here.is in
    let found = search_back project c.args.removal.now.order.items c.args.removal.now.removed.items
    c.deref-in-loop-2.result.now
    c.deref-in-loop.result.now here c.first_unmarked.result c.requires.removal c.loop.invariant.left
    list
    c.deref-in-loop-2.ensures.value c.first_unmarked.ensures in
    let taken : Some c.unwrap-here.result ≡ Some (step_back project here) =
    sym c.unwrap-here.ensures ∙ found in
    let back : c.unwrap-here.result ≡ step_back project here = cc in
    let fresh = place-none here passed (ap (position (λ a. nat_eq a here))
    (sym c.deref.ensures.value) ∙ sym c.in_default.ensures) in
    let next = way_back-next project c.args.removal.now.order.items c.args.removal.now.removed.items
    passed c.push.new.self.items _ here
    c.unwrap-here.result _ (c.count-end.result + 1 - (c.loop.counter + 1)) c.requires.removal
    c.loop.invariant.left fresh (omega arith) (omega arith)
    c.in_ok-push.ensures.items back c.loop.invariant.same in
    record { same = next.0; left = next.1; upto = c.loop.invariant.upto }

pub returns : goal.returns
returns c = way_back-end c.args.instance.now _ c.loop.passed.items _ c.loop.here (omega arith)
    c.loop.invariant.same
