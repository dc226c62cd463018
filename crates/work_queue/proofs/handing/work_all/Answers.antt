use Rattle.std.proofs.Common.{◌≡◌, ℕ, List, ◌++◌, length, IfOk, Ok, All, sym, ap, ◌∙◌, subst, arith}
use Rattle.std.specs.Vec.Iter.{into_iter_items}
use Rattle.std.proofs.lemmas.Result.{IfOk-at_ok}
use Rattle.std.proofs.lemmas.List.Elements.{All-head, All-rest, All-same}
use Rattle.crossbeam_queue.specs.Passes.{view}
use Rattle.work_queue.specs.declared.hand.Hand.{Hand}
use Rattle.work_queue.specs.Work.{IsGiven, IsReturned, AreSlots}
use Rattle.work_queue.proofs.SlotLaws.{slots_empty, length-placed, answers_placed, answers_inside}
use Rattle.work_queue.proofs.handing.work_all.Goals as goal

pub loop-one-init : goal.loop-one-init
loop-one-init g c =
    let gives = λ (w i : ℕ) (x : g.row.T.Denot). goal.W-post g c.args.work.now w i (Ok x) in
    let returned = c.in_ok-returned.returned in
    let items = c.into_iter-one-iterator.ensures.into_iter_gives.0 in
    let size : length returned.items ≡ c.args.workers =
    sym returned.ok.0 ∙ (c.in_ok-returned.ensures.count ∙ c.in_ok-crew.ensures.count) in
    let long : length (into_iter_items c.into_iter-one-iterator.result) ≡ c.args.workers =
    ap length items ∙ size in
    let now = c.in_ok-crew.ensures.pass in
    let was = c.requires.filled in
    let parts = ap (λ (v : Hand). v.parts) now in
    let all = ap (λ (v : Hand). v.parts) was in
    let taken = ap (λ (v : Hand). v.taken) now ∙ ap (λ (v : Hand). v.taken) was in
    let below = c.requires.workers in record {
      can_next = tt;
      is_finite = tt;
      queue = c.in_ok-crew.ensures.queue;
      parts = omega arith;
      few = omega arith;
      pushed = ap (λ (v : Hand). v.pushed) now ∙ ap (λ (v : Hand). v.pushed) was;
      returned = All-same (λ one. IfOk one (IsReturned c.args.queue.now c.args.workers c.args.count gives))
          (into_iter_items c.into_iter-one-iterator.result) returned.items items
          c.in_ok-returned.ensures.returned;
      size = c.in_ok-slots.ensures.count;
      slots = subst (λ (l : List ℕ). AreSlots (IsGiven c.args.workers gives) l c.in_ok-slots.slots.items)
          (sym taken)
          (slots_empty (IsGiven c.args.workers gives) c.in_ok-slots.slots.items
          c.in_ok-slots.ensures.empty);
    }

pub take_back-requires-clause-queue : goal.take_back-requires-clause-queue
take_back-requires-clause-queue g c =
    let gives = λ (w i : ℕ) (x : g.row.T.Denot). goal.W-post g c.args.work.now w i (Ok x) in
    let R = IsReturned c.args.queue.now c.args.workers c.args.count gives in
    let first = All-head (λ one. IfOk one R) c.in-Some.one (into_iter_items c.next.new.self)
    (subst (All (λ one. IfOk one R)) c.in-Some.ensures.steps.0 c.loop-one.invariant.returned) in
    (c.loop-one.invariant.queue, (IfOk-at_ok R c.in_ok-back.was first).0)

pub place-requires : goal.place-requires
place-requires g c =
    let gives = λ (w i : ℕ) (x : g.row.T.Denot). goal.W-post g c.args.work.now w i (Ok x) in
    let R = IsReturned c.args.queue.now c.args.workers c.args.count gives in
    let first = All-head (λ one. IfOk one R) c.in-Some.one (into_iter_items c.next.new.self)
    (subst (All (λ one. IfOk one R)) c.in-Some.ensures.steps.0 c.loop-one.invariant.returned) in
    let back = IfOk-at_ok R c.in_ok-back.was first in
    answers_inside c.args.count (length c.loop-one.slots.items) (gives back.1.0)
    c.in_ok-back.back.1.items (sym c.loop-one.invariant.size) back.1.2.each.answers

pub loop-one-preserved : goal.loop-one-preserved
loop-one-preserved g c =
    let gives = λ (w i : ℕ) (x : g.row.T.Denot). goal.W-post g c.args.work.now w i (Ok x) in
    let R = IsReturned c.args.queue.now c.args.workers c.args.count gives in
    let l = c.loop-one in
    let rest = into_iter_items c.next.new.self in
    let more = c.in-Some.ensures.steps.0 in
    let first = All-head (λ one. IfOk one R) c.in-Some.one rest
    (subst (All (λ one. IfOk one R)) more l.invariant.returned) in
    let back = IfOk-at_ok R c.in_ok-back.was first in
    let each = back.1.2.each in
    let now = c.take_back.ensures.view in
    let parts = ap (λ (v : Hand). v.parts) now in
    let one : (view c.in_ok-back.back.0).parts ≡ 1 = each.parts in
    let long = ap length more in
    let before = l.invariant.parts in
    let few = l.invariant.few in record {
      can_next = tt;
      is_finite = tt;
      queue = c.take_back.ensures.queue;
      parts = omega arith;
      few = omega arith;
      pushed = ap (λ (v : Hand). v.pushed) now ∙ l.invariant.pushed;
      returned = All-rest (λ one. IfOk one R) c.in-Some.one rest (into_iter_items l.one-iterator) more
          l.invariant.returned;
      size = ap length c.place.ensures
          ∙ (length-placed l.slots.items c.in_ok-back.back.1.items ∙ l.invariant.size);
      slots = subst (λ s. AreSlots (IsGiven c.args.workers gives) (view c.take_back.new.pass).taken s)
          (sym c.place.ensures)
          (answers_placed c.args.workers c.args.count back.1.0 gives (view l.pass).taken
          (view c.take_back.new.pass).taken l.slots.items c.in_ok-back.back.1.items back.1.1
          (sym l.invariant.size) each.answers
          (ap (λ (v : Hand). v.taken) now ∙ ap (λ t. (view l.pass).taken ++ t) each.taken)
          l.invariant.slots);
    }
