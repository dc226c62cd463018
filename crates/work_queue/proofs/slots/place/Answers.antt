use Rattle.std.proofs.Common.{◌<◌, ℕ, length, sym, ap, ◌∙◌, subst}
use Rattle.std.specs.Vec.Iter.{into_iter_items}
use Rattle.std.proofs.lemmas.List.{length-set}
use Rattle.std.proofs.lemmas.List.Elements.{All-head, All-rest}
use Rattle.std.specs.List.{All}
use Rattle.work_queue.specs.Work.{placed}
use Rattle.work_queue.proofs.slots.place.Goals as goal

pub put-requires : goal.put-requires
put-requires g c =
    let l = c.loop-job in
    let n = length c.args.slots.now.items in
    let head : c.in-Some.job < n = All-head (λ one. one.0 < n) (c.in-Some.job, c.in-Some.answer)
    (into_iter_items c.next.new.self)
    (subst (All (λ one. one.0 < n)) c.in-Some.ensures.steps.0 l.invariant.within) in
    subst (λ (m : ℕ). c.in-Some.job < m) (sym l.invariant.size) head

pub loop-job-preserved : goal.loop-job-preserved
loop-job-preserved g c =
    let l = c.loop-job in
    let n = length c.args.slots.now.items in
    let rest = into_iter_items c.next.new.self in record {
      can_next = tt;
      is_finite = tt;
      size = ap length c.put.ensures ∙ (length-set _ _ _ ∙ l.invariant.size);
      within = All-rest (λ one. one.0 < n) (c.in-Some.job, c.in-Some.answer) rest
          (into_iter_items l.job-iterator) c.in-Some.ensures.steps.0 l.invariant.within;
      same = ap (λ s. placed s rest) c.put.ensures
          ∙ (ap (placed l.slots.items) (sym c.in-Some.ensures.steps.0) ∙ l.invariant.same);
    }
