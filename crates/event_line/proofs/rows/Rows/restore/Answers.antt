use Rattle.std.proofs.Common.{◌≡◌, ◌≤◌, [], ◌++◌, length, drop, take, get_or, sym, ap, subst, ◌∙◌, arith}
use Rattle.std.specs.List.{All}
use Rattle.std.proofs.lemmas.List.{length-map, take_at}
use Rattle.event_line.specs.Lanes.{IsVector}
use Rattle.event_line.proofs.TableLaws.{row_is, vectors_restored}
use Rattle.event_line.proofs.rows.Rows.restore.Goals as goal
use Rattle.event_line.proofs.rows.Rows.restore.Goals.{After-copy_front}

-- the vectors are those that were copied
copied : (c : After-copy_front)
    → take c.self.inside.vectors.len (c.copy_front.new.to ++ drop (length c.copy_front.new.to)
    c.self.inside.vectors.items) ≡ c.copy_front.new.to
copied c =
    take_at c.copy_front.new.to (drop (length c.copy_front.new.to) c.self.inside.vectors.items)
    c.self.inside.vectors.len
    (c.copy_front.auto.to ∙ (ap length c.deref_mut.ensures.value ∙ sym c.self.inside.vectors.ok.0))

-- so many vectors are there
enough : (c : After-copy_front) → c.args.count ≤ length c.deref.result.now
enough c =
    let count = rw (← c.other.view_is) at c.requires.count in
    rw c.deref.ensures.value
    (omega (arith, length-map c.other.inside.vectors.items (take c.other.inside.width)))

pub invariant_of-self : goal.invariant_of-self
invariant_of-self c =
    let earlier = (goal.at.invariant_of-self c).After-copy_front in
    record {
      narrow = c.self.invariant.narrow;
      whole = subst (All IsVector) (sym (copied earlier)) (vectors_restored c.deref_mut.result.now
          c.copy_front.new.to c.deref.result.now c.args.count
          (subst (All IsVector) (sym c.deref_mut.ensures.value) c.self.invariant.whole)
          (subst (All IsVector) (sym c.deref.ensures.value) c.other.invariant.whole)
          c.copy_front.auto.to (enough earlier) c.copy_front.ensures.front
          c.copy_front.ensures.rest);
    }

pub returns-clause-rows : goal.returns-clause-rows
returns-clause-rows c =
    let width = c.self.inside.width in
    let width' = c.other.inside.width in
    let others = c.other.inside.vectors.items in
    let same = rw (← c.self.view_is, ← c.other.view_is) at c.requires.width in
    let front = rw c.deref.ensures.value at c.copy_front.ensures.front in
    rw (← c.other.view_is, copied (goal.at.returns-clause-rows c).After-copy_front) (λ i h.
    row_is width i c.copy_front.new.to
    ∙ (ap (take width) (front i h)
    ∙ (ap (λ n. take n (get_or others i [])) (sym same) ∙ sym (row_is width' i others))))

pub returns-clause-rest : goal.returns-clause-rest
returns-clause-rest c =
    let width = c.self.inside.width in
    let rest = rw c.deref_mut.ensures.value at c.copy_front.ensures.rest in
    rw (← c.self.view_is, copied (goal.at.returns-clause-rest c).After-copy_front) (λ i h.
    row_is width i c.copy_front.new.to
    ∙ (ap (take width) (rest i h) ∙ sym (row_is width i c.self.inside.vectors.items)))
