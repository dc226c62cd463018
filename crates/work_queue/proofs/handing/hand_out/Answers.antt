use Rattle.std.proofs.Common.{◌≡◌, ℕ, length, Some, Ok, sym, ap, ◌∙◌, subst}
use Rattle.std.proofs.lemmas.List.{length-map}
use Rattle.crossbeam_queue.specs.Passes.{view}
use Rattle.work_queue.specs.Rule.{weigh_below}
use Rattle.work_queue.specs.Work.{IsGiven, AreSlots}
use Rattle.work_queue.proofs.SlotLaws.{length-placed, slots_full, slots_give, answers_placed}
use Rattle.work_queue.proofs.handing.hand_out.Goals as goal

pub values_of-requires : goal.values_of-requires
values_of-requires g c =
    let gives = λ (w i : ℕ) (x : g.row.T.Denot). goal.W-post g c.args.work.now w i (Ok x) in
    let worked = c.in_ok-rest.ensures.worked in
    let before = c.in_ok-slots.ensures in
    let slots = c.in_ok-slots.slots.items in
    let rest = c.in_ok-rest.rest.items in
    let after = view c.in_ok-rest.field-0-0 in
    let pushed : (view c.work_all.new.pass).pushed ≡ length slots =
    before.pushed ∙ sym before.count in
    let are = answers_placed c.args.workers (view c.work_all.new.pass).pushed 0 gives
    (view c.work_all.new.pass).taken after.taken slots rest c.requires.workers.0 pushed
    worked.each.answers worked.each.taken before.placed in
    slots_full (IsGiven c.args.workers gives) after.taken c.place.new.slots.items c.args.count
    (λ h. ap (weigh_below h) (sym before.pushed) ∙ worked.all before.parts h)
    (ap length c.place.ensures ∙ (length-placed slots rest ∙ before.count))
    (subst (AreSlots (IsGiven c.args.workers gives) after.taken) (sym c.place.ensures) are)

pub returns-clause-count : goal.returns-clause-count
returns-clause-count g c =
    let slots = c.in_ok-slots.slots.items in
    let rest = c.in_ok-rest.rest.items in
    let values = c.in_ok-values.values in
    values.ok.0
    ∙ (sym (length-map values.items (λ y. Some y))
    ∙ (ap length c.in_ok-values.ensures
    ∙ (ap length c.place.ensures ∙ (length-placed slots rest ∙ c.in_ok-slots.ensures.count))))

pub returns-clause-answers : goal.returns-clause-answers
returns-clause-answers g c =
    let gives = λ (w i : ℕ) (x : g.row.T.Denot). goal.W-post g c.args.work.now w i (Ok x) in
    let worked = c.in_ok-rest.ensures.worked in
    let before = c.in_ok-slots.ensures in
    let slots = c.in_ok-slots.slots.items in
    let rest = c.in_ok-rest.rest.items in
    let after = view c.in_ok-rest.field-0-0 in
    let pushed : (view c.work_all.new.pass).pushed ≡ length slots =
    before.pushed ∙ sym before.count in
    let are = answers_placed c.args.workers (view c.work_all.new.pass).pushed 0 gives
    (view c.work_all.new.pass).taken after.taken slots rest c.requires.workers.0 pushed
    worked.each.answers worked.each.taken before.placed in
    slots_give (IsGiven c.args.workers gives) after.taken c.place.new.slots.items
    c.in_ok-values.values.items c.in_ok-values.ensures
    (subst (AreSlots (IsGiven c.args.workers gives) after.taken) (sym c.place.ensures) are)
