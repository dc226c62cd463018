use Rattle.std.proofs.Common.{◌≡◌, false, sym, ap, ◌∙◌, true≢false}
use Rattle.rc_instance.specs.Lists.{names}
use Rattle.rc_instance.specs.Project.{precedes, successors_of}
use Rattle.serial_plain.proofs.tests.is_ready.Goals as goal

pub returns-else-contains : goal.returns-else-contains
unfolding precedes
returns-else-contains c = λ _ before.
    let named : names (successors_of c.args.instance.now c.args.a) c.args.activity ≡ false =
    ap (λ xs. names xs c.args.activity) (sym c.successors.ensures.value)
    ∙ sym c.contains.ensures.value ∙ c.if-contains.false in
    absurd (true≢false (sym before ∙ named))
