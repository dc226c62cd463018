use Rattle.std.proofs.Common.{sym, ap, ◌∙◌}
use Rattle.priority_rules.specs.Picking.{Picking}
use Rattle.priority_rules.proofs.PickingLaws.{all_picked}
use Rattle.priority_rules.proofs.picker.Picker.pick.Goals as goal

pub returns-then-self-eq0-clause-none : goal.returns-then-self-eq0-clause-none
returns-then-self-eq0-clause-none c =
    all_picked _ _ c.args.self.now c.requires.picked
    (sym (ap (λ (p : Picking). p.free) c.self.view_is) ∙ c.if-self-eq0.true)
