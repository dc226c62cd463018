use Rattle.std.proofs.Common.{◌≡◌, ℕ, ◌||◌, List, replicate, nat_eq, sym, ap, ◌∙◌, subst}
use Rattle.std.specs.List.{list_any}
use Rattle.std.proofs.lemmas.List.{with_items_is}
use Rattle.activity_net.specs.Tables.{lists_in}
use Rattle.activity_net.specs.Follows.{has_bit, set_of, IsGathered}
use Rattle.activity_net.proofs.BitLaws.{has_bit-zeros}
use Rattle.activity_net.proofs.reach.gathered.Goals as goal

pub returns : goal.returns
returns c =
    let new = c.gather.new.set in
    let same = with_items_is c.in_ok-set.set new (c.gather.auto.set ∙ c.deref_mut.ensures.len) in
    let zeros : c.deref_mut.result.now ≡ replicate c.args.width 0 = c.deref_mut.ensures.value
    ∙ c.in_ok-set.ensures.items_if_clones_equal (λ y e. e) in
    subst (IsGathered c.args.width (lists_in c.args.sets.now) c.args.given.now) (sym same)
    (record {
      count = c.gather.auto.set ∙ (c.deref_mut.ensures.len ∙ c.in_ok-set.ensures.len);
      at = λ b. c.gather.ensures b
          ∙ ap (λ t. t || list_any (λ s. nat_eq s b || has_bit (set_of (lists_in c.args.sets.now) s)
          b) c.args.given.now)
          (ap (λ (xs : List ℕ). has_bit xs b) zeros ∙ has_bit-zeros c.args.width b);
    })
