use Rattle.std.proofs.Common.{◌≡◌, ◌-◌, length, vec_len, ◌∙◌, arith}
use Rattle.ordered_book.proofs.FreshLaws.{popped_free, popped_early}
use Rattle.ordered_book.proofs.tests.opened.Goals as goal

pub returns : goal.returns
returns c =
    let book = c.in_ok-book.book in
    let all = c.in_ok-book.passes in
    let rest = c.pop.new.self in
    let fresh = c.in_ok-book.ensures.2 in
    let second = c.in-Some.second in
    let two : length all.items ≡ 2 = fresh.all.count ∙ c.in_ok-book.ensures.1 in
    let long : vec_len all ≡ 2 = all.ok.0 ∙ two in
    let one : vec_len rest ≡ 1 = let less = c.in-Some.ensures.cases in omega arith in
    let last = c.in-Some.ensures.value second (omega (arith, long)) in
    let early = c.in-Some-pop.ensures.value second (omega (arith, one)) in (
      popped_early book all.items rest.items (vec_len all - 1) (vec_len rest - 1) second
          c.in-Some-pop.first fresh (omega (arith, long, one)) (omega (arith, two, one))
          c.in-Some.ensures.rest early,
      popped_free book all.items (vec_len all - 1) second second fresh (omega (arith, two, long))
          last,
      c.in_ok-book.ensures.0,
    )
