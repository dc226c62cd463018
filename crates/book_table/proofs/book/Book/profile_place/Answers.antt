use Rattle.std.proofs.Common.{ap, ◌∙◌, arith}
use Rattle.book_table.proofs.BookLaws.{sizes_are}
use Rattle.book_rule.proofs.WordLaws.{profile_word-inside}
use Rattle.book_rule.specs.Layout.{place}
use Rattle.book_table.proofs.book.Book.profile_place.Goals as goal

pub place-requires-clause-words : goal.place-requires-clause-words
place-requires-clause-words c =
    let sizes = sizes_are c.self.inside c.args.self.now c.self.view_is c.self.invariant in
    omega (arith, sizes.columns, sizes.narrow)

pub place-requires-clause-row : goal.place-requires-clause-row
place-requires-clause-row c =
    let sizes = sizes_are c.self.inside c.args.self.now c.self.view_is c.self.invariant in
    omega (arith, sizes.short, c.requires.period)

pub place-requires-clause-column : goal.place-requires-clause-column
place-requires-clause-column c =
    let sizes = sizes_are c.self.inside c.args.self.now c.self.view_is c.self.invariant in
    omega (arith, sizes.narrow, c.requires.index)

pub overflow_add-result-2 : goal.overflow_add-result-2
overflow_add-result-2 c =
    let sizes = sizes_are c.self.inside c.args.self.now c.self.view_is c.self.invariant in
    omega (arith, sizes.positions, sizes.few, c.place.ensures.small)

pub returns-clause-value : goal.returns-clause-value
returns-clause-value c =
    let sizes = sizes_are c.self.inside c.args.self.now c.self.view_is c.self.invariant in
    let at = c.place.ensures.value ∙ ap (λ n. place n c.args.period c.args.index) sizes.columns in
    omega (arith, sizes.positions, at)

pub returns-clause-within : goal.returns-clause-within
returns-clause-within c =
    let sizes = sizes_are c.self.inside c.args.self.now c.self.view_is c.self.invariant in
    let at = c.place.ensures.value ∙ ap (λ n. place n c.args.period c.args.index) sizes.columns in
    omega (
      arith,
      sizes.positions,
      at,
      profile_word-inside c.args.self.now.listing c.args.period c.args.index c.requires.period
          c.requires.index,
    )
