use Rattle.std.proofs.Common.{refl, arith}
use Rattle.book_table.proofs.BookLaws.{place-small}
use Rattle.book_rule.specs.Layout.{place}
use Rattle.book_table.proofs.sizes.place.Goals as goal

pub overflow_add-result : goal.overflow_add-result
unfolding place
overflow_add-result c =
    let small =
    place-small c.args.words 131070 c.args.row c.args.column c.requires.words c.requires.row
    c.requires.column in
    omega arith

pub returns-clause-value : goal.returns-clause-value
unfolding place
returns-clause-value c = refl

pub returns-clause-small : goal.returns-clause-small
unfolding place
returns-clause-small c =
    let small =
    place-small c.args.words 131070 c.args.row c.args.column c.requires.words c.requires.row
    c.requires.column in
    omega arith
