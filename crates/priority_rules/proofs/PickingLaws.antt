-- How the activities of a list by keys are picked one after another.
use Rattle.std.proofs.Common.{◌≡◌, ℕ, ◌+◌, ◌-◌, ◌<◌, ◌≤◌, true, false, not, List, [], ◌∷◌, ◌++◌, length, take, get_or, nat_le, sym, ap, ◌∙◌, subst, inl, inr, append_assoc, arith, true≢false, length-append}
use Rattle.std.specs.List.{All}
use Rattle.std.proofs.lemmas.Bool.{cases_eq, cases_lt, not_from_false}
use Rattle.std.proofs.lemmas.List.{take_more, length-take-le, get_or_default, get_or-take, get_or_append_left, get_or-append-add}
use Rattle.std.proofs.lemmas.List.Elements.{Contains-get_or}
use Rattle.std.proofs.lemmas.List.Sorted.{IsPermutation-append_right, IsPermutation-append_comm}
use Rattle.rc_instance.specs.Lists.{names}
use Rattle.rc_instance.specs.Project.{Project, activity_count, IsActivity, Precedes, precedes, successors_of}
use Rattle.rc_instance.specs.Calendar.{AreSuccessors, IsWithinLimits}
use Rattle.rc_instance.specs.Order.{IsFeasibleList}
use Rattle.activity_net.specs.Network.{predecessors_of}
use Rattle.activity_net.specs.Tables.{IsReleased}
use Rattle.activity_net.proofs.NameLaws.{contains_named, named_contains, not_named, distinct_from_rising}
use Rattle.activity_net.proofs.CountLaws.{count-named, count-push}
use Rattle.activity_net.proofs.PredecessorLaws.{predecessors_are}
use Rattle.activity_net.proofs.RemovalLaws.{named_predecessor}
use Rattle.priority_rules.specs.Choices.{is_eligible, choice}
use Rattle.priority_rules.specs.KeyList.{key_list, key_in}
use Rattle.priority_rules.specs.Choosing.{missing, IsWaiting, AreFree, IsPile, rank_in}
use Rattle.priority_rules.specs.Picking.{Picking, HasRoom, HasPicked, picked_of}
use Rattle.priority_rules.proofs.DistinctLaws.{length-distinct_up_to-le}
use Rattle.priority_rules.proofs.EligibleLaws.{eligible_from_missing, eligible-fresh, eligible-missing, some_eligible}
use Rattle.priority_rules.proofs.ChoiceLaws.{choice_by_key}
use Rattle.priority_rules.proofs.KeyListLaws.{IsFeasibleList-key_list, key_list-at, length-key_list}
use Rattle.priority_rules.proofs.FreeLaws.{AreFree-permutation}
use Rattle.priority_rules.proofs.PileLaws.{goes_first}

-- at first nothing is picked
pub picked_none : (project : Project) (known keys : List ℕ) (picking : Picking)
    → IsFeasibleList project known → IsWithinLimits project → HasRoom project picking
    → picking.picked ≡ 0
    → picking.free ≤ length picking.pile → IsWaiting project [] picking.waiting
    → AreFree (activity_count project) picking.waiting (take picking.free picking.pile)
    → IsPile keys picking.pile picking.free
    → HasPicked project keys picking
picked_none project known keys picking feasible limits room zero within waits are falling =
    let none : picked_of project keys picking ≡ [] =
    ap (λ n. take n (key_list project (key_in keys))) zero in
    record {
      room = room;
      limits = limits;
      feasible = IsFeasibleList-key_list project (key_in keys) known feasible;
      upto = omega arith;
      waits = subst (λ (list : List ℕ). IsWaiting project list picking.waiting) (sym none) waits;
      within = within;
      are_free = subst (λ (list : List ℕ). AreFree (activity_count project) picking.waiting
          (list ++ take picking.free picking.pile)) (sym none) are;
      falling = falling;
    }

-- so many activities are picked
length-picked : (project : Project) (keys : List ℕ) (picking : Picking)
    → HasPicked project keys picking
    → length (picked_of project keys picking) ≡ picking.picked
length-picked project keys picking is =
    let upto = is.upto in
    length-take-le picking.picked (key_list project (key_in keys))
    (omega (arith, length-key_list project (key_in keys)))

-- where a number of the pile stands behind others
piled_at : (front pile : List ℕ) (free i : ℕ) → i < free
    → get_or (front ++ take free pile) (length front + i) 0 ≡ get_or pile i 0
piled_at front pile free i below =
    get_or-append-add front (take free pile) i 0 ∙ get_or-take free pile i 0 below

-- an activity of the pile may be picked next
free_eligible : (project : Project) (keys : List ℕ) (picking : Picking) (place : ℕ)
    → HasPicked project keys picking → place < picking.free
    → IsActivity project (get_or picking.pile place 0)
    × (is_eligible project (picked_of project keys picking) (get_or picking.pile place 0) ≡ true)
free_eligible project keys picking place picked before =
    let waiting = picking.waiting in
    let a = get_or picking.pile place 0 in
    let front = picked_of project keys picking in
    let back = take picking.free picking.pile in
    let many = length-append front back in
    let filled = length-take-le picking.free picking.pile picked.within in
    let at = piled_at front picking.pile picking.free place before in
    let is : IsActivity project a =
    subst (IsActivity project) at (picked.are_free.within (length front + place) 0 (omega arith)) in
    let idle : get_or waiting (a - 1) 0 ≡ 0 =
    subst (λ (x : ℕ). get_or waiting (x - 1) 0 ≡ 0) at
    (picked.are_free.idle (length front + place) 0 (omega arith)) in
    let fresh : names front a ≡ false = not_named front a
    (λ h.
    let inside = h.1 in
    let there : get_or (front ++ back) h.0 0 ≡ a =
    get_or_append_left front back 0 h.0 h.1 ∙ (get_or_default front h.0 0 a h.1 ∙ h.2) in
    picked.are_free.once h.0 (length front + place) 0 (omega arith) (omega arith)
    (there ∙ sym at)) in (
      is,
      eligible_from_missing project front a fresh (sym (picked.waits.at a is) ∙ idle),
    )

-- an activity that may be picked next stands in the pile
eligible_free : (project : Project) (keys : List ℕ) (picking : Picking) (a : ℕ)
    → HasPicked project keys picking → IsActivity project a
    → is_eligible project (picked_of project keys picking) a ≡ true
    → (place : ℕ) × (place < picking.free) × (get_or picking.pile place 0 ≡ a)
eligible_free project keys picking a picked is may =
    let front = picked_of project keys picking in
    let back = take picking.free picking.pile in
    let fresh = eligible-fresh project front a may in
    let idle = picked.waits.at a is ∙ eligible-missing project front a may in
    let here = contains_named (front ++ back) a (picked.are_free.all a is idle) in
    let filled = length-take-le picking.free picking.pile picked.within in
    let many = length-append front back in
    let inside = here.1 in
    elim (cases_lt here.0 (length front)) [
      | inl below ↦
          let there : get_or front here.0 a ≡ a =
          sym (get_or_append_left front back a here.0 below) ∙ here.2 in
          Prim.absurd (true≢false (sym (named_contains front a (here.0, below, there)) ∙ fresh))
      | inr above ↦
          let place = here.0 - length front in
          let before : place < picking.free = omega arith in
          let e : here.0 ≡ length front + place = omega arith in (
            place,
            before,
            sym (piled_at front picking.pile picking.free place before)
                ∙ (ap (λ k. get_or (front ++ back) k 0) (sym e)
                ∙ (get_or_default (front ++ back) here.0 0 a here.1 ∙ here.2)),
          )
    ]

-- as long as activities are left, one of them is in the pile
pub some_free : (project : Project) (keys : List ℕ) (picking : Picking)
    → HasPicked project keys picking → picking.picked < activity_count project
    → 0 < picking.free
some_free project keys picking picked left =
    let long = length-picked project keys picking picked in
    let next = some_eligible project (key_list project (key_in keys))
    (picked_of project keys picking) picked.feasible (omega arith) in
    let place = eligible_free project keys picking next.0 picked next.1 next.2 in
    omega (arith, place.1)

-- so where it is empty all are picked
pub all_picked : (project : Project) (keys : List ℕ) (picking : Picking)
    → HasPicked project keys picking → picking.free ≡ 0
    → picking.picked ≡ activity_count project
all_picked project keys picking picked empty =
    let upto = picked.upto in
    elim (cases_lt picking.picked (activity_count project))
    as (λ _. picking.picked ≡ activity_count project) [
      | inl left ↦ absurd (omega (arith, some_free project keys picking picked left))
      | inr all ↦ omega arith
    ]

-- where it is not, some are left
some_left : (project : Project) (keys : List ℕ) (picking : Picking)
    → HasPicked project keys picking → 0 < picking.free → picking.picked < activity_count project
some_left project keys picking picked some =
    let are = picked.are_free in
    omega (
      arith,
      length-picked project keys picking picked,
      length-take-le picking.free picking.pile picked.within,
      length-append (picked_of project keys picking) (take picking.free picking.pile),
      length-distinct_up_to-le (activity_count project)
          (picked_of project keys picking ++ take picking.free picking.pile) are.once are.within,
    )

-- what is known when the next activity is taken from the end of the pile
pub record IsNext (project : Project) (keys : List ℕ) (picking : Picking) (next : ℕ)
    : Type 0 where
  pub picked : HasPicked project keys picking
  pub some : 0 < picking.free
  pub at : next ≡ get_or picking.pile (picking.free - 1) 0

-- it may be picked next
pub next_eligible : (project : Project) (keys : List ℕ) (picking : Picking) (next : ℕ)
    → IsNext project keys picking next
    → IsActivity project next
    × (is_eligible project (picked_of project keys picking) next ≡ true)
next_eligible project keys picking next is =
    let some = is.some in
    rw is.at (free_eligible project keys picking (picking.free - 1) is.picked (omega arith))

-- so there is a number left to count it
pub next_left : (project : Project) (keys : List ℕ) (picking : Picking) (next : ℕ)
    → IsNext project keys picking next → picking.picked < activity_count project
next_left project keys picking next is = some_left project keys picking is.picked is.some

-- it is the next choice
next_is_choice : (project : Project) (keys : List ℕ) (picking : Picking) (next : ℕ)
    → IsNext project keys picking next
    → choice project (λ a b. nat_le (key_in keys a) (key_in keys b))
    (picked_of project keys picking) ≡ next
next_is_choice project keys picking next is =
    let may = next_eligible project keys picking next is in
    let few = is.picked.limits.activities in
    let some = is.some in
    let up = may.0.1 in
    choice_by_key project (key_in keys) (picked_of project keys picking) next may.0 may.1
    (λ b activity eligible.
    let there = eligible_free project keys picking b is.picked activity eligible in
    let up' = activity.1 in
    let lower : rank_in keys next ≤ rank_in keys b =
    rw (is.at, sym there.2) (elim (cases_eq there.0 (picking.free - 1)) [
      | inl same ↦ rw same (omega arith)
      | inr apart ↦ is.picked.falling.falling there.0 (picking.free - 1) (omega (arith, there.1))
          (omega arith)
    ]) in
    goes_first keys next b (omega arith) (omega arith) lower)

-- so it is the next activity of the list by keys
pub next_is : (project : Project) (keys : List ℕ) (picking : Picking) (next : ℕ)
    → IsNext project keys picking next
    → next ≡ get_or (key_list project (key_in keys)) picking.picked 0
next_is project keys picking next is =
    sym (next_is_choice project keys picking next is)
    ∙ sym (key_list-at project (key_in keys) picking.picked
    (next_left project keys picking next is))

-- each direct successor of an activity that may be listed next waits for it
pub successors_wait : (project : Project) (listed waiting : List ℕ) (x : ℕ)
    → IsWaiting project listed waiting
    → IsActivity project x → names listed x ≡ false
    → All (IsActivity project) (successors_of project x)
    → All (λ b. 0 < get_or waiting (b - 1) 0) (successors_of project x)
unfolding precedes missing
successors_wait project listed waiting x waits activity fresh activities = λ k d within.
    let b = get_or (successors_of project x) k d in
    let before : Precedes project x b = named_contains (successors_of project x) b
    (Contains-get_or (successors_of project x) k d within) in
    let some = count-named (λ p. not (names listed p)) (predecessors_of project b) x
    (named_predecessor project x b activity ∙ before) (not_from_false (names listed x) fresh) in
    omega (arith, waits.at b (activities k d within))

-- once its successors are released, each activity waits for those that are not listed with it
waiting_more : (project : Project) (listed waiting now : List ℕ) (x : ℕ)
    → length waiting ≡ activity_count project
    → IsWaiting project listed waiting → IsActivity project x → names listed x ≡ false
    → IsReleased (successors_of project x) waiting now → IsWaiting project (listed ++ x ∷ []) now
unfolding precedes missing
waiting_more project listed waiting now x long waits activity fresh released = record {
  at = λ b is.
      let same : names (successors_of project x) b ≡ names (predecessors_of project b) x =
      sym (named_predecessor project x b activity) in
      let falls = rw same at (released.at b is.0 (omega (arith, is.1))) in
      let pushed = count-push listed (predecessors_of project b) x fresh
      (distinct_from_rising (predecessors_of project b) (predecessors_are project b).rising) in
      omega (arith, falls, pushed, waits.at b is);
}

-- its direct successors wait for it
pub next_waits : (project : Project) (keys : List ℕ) (picking : Picking) (successors : List ℕ)
    (next : ℕ)
    → IsNext project keys picking next
    → successors ≡ successors_of project next → AreSuccessors (activity_count project) successors
    → All (λ b. 0 < get_or picking.waiting (b - 1) 0) successors
next_waits project keys picking successors next is same are =
    let front = picked_of project keys picking in
    let may = next_eligible project keys picking next is in
    let all = subst (λ (list : List ℕ). All (IsActivity project) list) same are.within in
    subst (λ (list : List ℕ). All (λ b. 0 < get_or picking.waiting (b - 1) 0) list) (sym same)
    (successors_wait project front picking.waiting next is.picked.waits may.0
    (eligible-fresh project front next may.1) all)

-- with it picked, the others of the pile stay all that wait for nothing
pub next_free : (project : Project) (keys : List ℕ) (picking : Picking) (next : ℕ)
    → IsNext project keys picking next
    → AreFree (length picking.waiting) picking.waiting
    ((picked_of project keys picking ++ next ∷ []) ++ take (picking.free - 1) picking.pile)
next_free project keys picking next is =
    let waiting = picking.waiting in
    let pile = picking.pile in
    let front = picked_of project keys picking in
    let back = take (picking.free - 1) pile in
    let within = is.picked.within in
    let some = is.some in
    let whole : take picking.free pile ≡ back ++ next ∷ [] =
    ap (λ n. take n pile) (omega arith)
    ∙ (take_more pile (picking.free - 1) 0 (omega arith)
    ∙ ap (λ (x : ℕ). back ++ x ∷ []) (sym is.at)) in
    let moved = IsPermutation-append_right front (back ++ next ∷ []) (next ∷ back)
    (IsPermutation-append_comm back (next ∷ [])) in
    subst (λ n. AreFree n waiting ((front ++ next ∷ []) ++ back)) (sym is.picked.room.waiting)
    (subst (AreFree (activity_count project) waiting) (sym (append_assoc front (next ∷ []) back))
    (AreFree-permutation (activity_count project) waiting (front ++ (back ++ next ∷ []))
    (front ++ (next ∷ back)) moved (rw whole at is.picked.are_free)))

-- it is picked, and its successors are released
pub picked_more : (project : Project) (keys : List ℕ) (before after : Picking)
    (successors : List ℕ) (next : ℕ)
    → IsNext project keys before next
    → successors ≡ successors_of project next
    → IsReleased successors before.waiting after.waiting
    → HasRoom project after → after.free ≤ length after.pile
    → ((front : List ℕ)
    → AreFree (length before.waiting) before.waiting
    (front ++ take (before.free - 1) before.pile)
    → AreFree (length after.waiting) after.waiting (front ++ take after.free after.pile))
    → IsPile keys after.pile after.free → after.picked ≡ before.picked + 1
    → HasPicked project keys after
picked_more project keys before after successors next is same released room within are falling
    count =
    let list = key_list project (key_in keys) in
    let left = next_left project keys before next is in
    let may = next_eligible project keys before next is in
    let front = picked_of project keys before in
    let fresh = eligible-fresh project front next may.1 in
    let is_released : IsReleased (successors_of project next) before.waiting after.waiting =
    subst (λ (xs : List ℕ). IsReleased xs before.waiting after.waiting) same released in
    let longer : picked_of project keys after ≡ front ++ next ∷ [] =
    ap (λ n. take n list) count
    ∙ (take_more list before.picked 0 (omega (arith, length-key_list project (key_in keys)))
    ∙ ap (λ (a : ℕ). front ++ a ∷ []) (sym (next_is project keys before next is))) in
    record {
      room = room;
      limits = is.picked.limits;
      feasible = is.picked.feasible;
      upto = omega arith;
      waits = subst (λ (xs : List ℕ). IsWaiting project xs after.waiting) (sym longer)
          (waiting_more project front before.waiting after.waiting next is.picked.room.waiting
          is.picked.waits may.0 fresh is_released);
      within = within;
      are_free = subst (λ (xs : List ℕ). AreFree (activity_count project) after.waiting
          (xs ++ take after.free after.pile)) (sym longer)
          (subst (λ n. AreFree n after.waiting
          ((front ++ next ∷ []) ++ take after.free after.pile)) room.waiting
          (are (front ++ next ∷ []) (next_free project keys before next is)));
      falling = falling;
    }
