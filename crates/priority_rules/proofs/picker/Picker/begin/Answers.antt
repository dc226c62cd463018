use Rattle.std.proofs.Common.{◌∙◌}
use Rattle.std.proofs.lemmas.List.{with_items_is}
use Rattle.priority_rules.proofs.picker.Picker.begin.Goals as goal

pub returns-clause-picked : goal.returns-clause-picked
returns-clause-picked c =
    let tables = c.count_predecessors-self-inside in
    rw (
      with_items_is c.self.inside.waiting tables.new.waiting
          (tables.auto.waiting ∙ c.deref_mut.ensures.len),
      with_items_is c.self.inside.pile tables.new.pile
          (tables.auto.pile ∙ c.deref_mut-2.ensures.len),
    ) tables.ensures
