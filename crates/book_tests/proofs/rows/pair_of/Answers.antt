use Rattle.std.proofs.Common.{sym, ap, subst, ◌∙◌}
use Rattle.book_rule.specs.declared.view.Hand.{Hand}
use Rattle.book_tests.proofs.PassesLaws.{EachOwn, last_own, others_own}
use Rattle.book_tests.proofs.rows.pair_of.Goals as goal

pub returns : goal.returns
returns c =
    let book = c.args.book.now in
    let all = subst (EachOwn book) c.in-Some.ensures.items c.requires.own in
    let others = others_own book c.pop.new.self.items c.in-Some.second all in
    let rest = subst (EachOwn book) c.in-Some-pop.ensures.items others in (
      record {
        own = last_own book c.pop-2.new.self.items c.in-Some-pop.first rest;
        empty = ap (λ (h : Hand). h.holds) (sym c.hand.ensures) ∙ c.if-hand.false;
      },
      record {
        own = last_own book c.pop.new.self.items c.in-Some.second all;
        empty = ap (λ (h : Hand). h.holds) (sym c.hand-else-hand.ensures) ∙ c.if-hand-2.false;
      },
    )
