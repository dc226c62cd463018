use Rattle.std.proofs.Common.{◌≡◌, ◌∙◌, ◌-◌, List, ℕ, ◌++◌, ◌∷◌, [], ap, arith}
use Rattle.rc_instance.specs.Lists.{numbers}
use Rattle.priority_rules.proofs.NumberLaws.{numbers_next}
use Rattle.priority_rules.proofs.key_list.numbers_up_to.Goals as goal

pub loop-number-preserved : goal.loop-number-preserved
loop-number-preserved c =
    let number = c.loop-number.number in
    c.in_ok-push.ensures.items
    ∙ (ap (λ (list : List ℕ). list ++ number ∷ []) c.loop-number.invariant
    ∙ numbers_next number (omega arith))

pub returns : goal.returns
returns c =
    let all : c.loop-number.number - 1 ≡ c.args.count = omega arith in
    c.loop-number.invariant ∙ ap numbers all
