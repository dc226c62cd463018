use Rattle.std.proofs.Common.{◌≢◌, [], ◌∷◌, ◌++◌, map, Some, None, sym, ap, ◌∙◌, append_assoc}
use Rattle.std.specs.Vec.Iter.{into_iter_items}
use Rattle.std.proofs.lemmas.List.{map-append}
use Rattle.std.proofs.lemmas.List.Elements.{All-rest}
use Rattle.work_queue.proofs.slots.values_of.Goals as goal

pub loop-slot-preserved : goal.loop-slot-preserved
loop-slot-preserved g c =
    let l = c.loop-slot in
    let rest = into_iter_items c.next.new.self in
    let x = c.in-Some-slot.answer in
    let more = c.in-Some.ensures.steps.0 in record {
      can_next = tt;
      is_finite = tt;
      full = All-rest (λ slot. slot ≢ None) c.in-Some.slot rest (into_iter_items l.slot-iterator) more
          l.invariant.full;
      values = ap (λ xs. map Some xs ++ rest) c.in_ok-push-in-Some-slot.ensures.items
          ∙ (ap (λ xs. xs ++ rest) (map-append Some l.values.items (x ∷ []))
          ∙ (append_assoc (map Some l.values.items) (Some x ∷ []) rest
          ∙ (ap (λ s. map Some l.values.items ++ (s ∷ rest)) (sym c.in-Some-slot.is)
          ∙ (ap (λ xs. map Some l.values.items ++ xs) (sym more) ∙ l.invariant.values))));
    }
