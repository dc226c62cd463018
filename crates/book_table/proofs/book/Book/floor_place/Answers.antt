use Rattle.std.proofs.Common.{ap, ◌∙◌, arith}
use Rattle.book_table.proofs.BookLaws.{sizes_are}
use Rattle.book_rule.proofs.WordLaws.{floor_word-inside}
use Rattle.book_rule.specs.Layout.{place}
use Rattle.book_rule.specs.Listed.{width}
use Rattle.book_table.proofs.BookLaws.{block-row}
use Rattle.book_table.proofs.book.Book.floor_place.Goals as goal

pub place-floors-requires-clause-words : goal.place-floors-requires-clause-words
place-floors-requires-clause-words c =
    let sizes = sizes_are c.self.inside c.args.self.now c.self.view_is c.self.invariant in
    omega (arith, sizes.columns, sizes.narrow)

pub place-floors-requires-clause-row : goal.place-floors-requires-clause-row
place-floors-requires-clause-row c =
    let sizes = sizes_are c.self.inside c.args.self.now c.self.view_is c.self.invariant in
    omega (arith, sizes.periods, sizes.short)

pub place-floors-requires-clause-column : goal.place-floors-requires-clause-column
place-floors-requires-clause-column c =
    let sizes = sizes_are c.self.inside c.args.self.now c.self.view_is c.self.invariant in
    omega arith

pub place-requires-clause-words : goal.place-requires-clause-words
place-requires-clause-words c =
    let sizes = sizes_are c.self.inside c.args.self.now c.self.view_is c.self.invariant in
    omega (arith, sizes.columns, sizes.narrow)

pub place-requires-clause-row : goal.place-requires-clause-row
place-requires-clause-row c =
    let sizes = sizes_are c.self.inside c.args.self.now c.self.view_is c.self.invariant in
    block-row c.args.self.now.listing c.args.block sizes.short c.requires.block

pub place-requires-clause-column : goal.place-requires-clause-column
place-requires-clause-column c =
    let sizes = sizes_are c.self.inside c.args.self.now c.self.view_is c.self.invariant in
    omega (arith, sizes.narrow, c.requires.index)

pub overflow_add-result-2 : goal.overflow_add-result-2
overflow_add-result-2 c =
    let sizes = sizes_are c.self.inside c.args.self.now c.self.view_is c.self.invariant in
    omega (arith, sizes.positions, sizes.few, c.place-floors.ensures.small)

pub overflow_add-result-3 : goal.overflow_add-result-3
overflow_add-result-3 c =
    let sizes = sizes_are c.self.inside c.args.self.now c.self.view_is c.self.invariant in
    omega (arith, sizes.positions, sizes.few, c.place-floors.ensures.small, c.place.ensures.small)

pub returns-clause-value : goal.returns-clause-value
returns-clause-value c =
    let sizes = sizes_are c.self.inside c.args.self.now c.self.view_is c.self.invariant in
    let cells = c.place-floors.ensures.value
    ∙ (ap (λ n. place n c.self.inside.horizon 0) sizes.columns
    ∙ ap (λ p. place (width c.args.self.now.listing) p 0) sizes.periods) in
    let at = c.place.ensures.value ∙ ap (λ n. place n c.args.block c.args.index) sizes.columns in
    omega (arith, sizes.positions, cells, at)

pub returns-clause-within : goal.returns-clause-within
returns-clause-within c =
    let sizes = sizes_are c.self.inside c.args.self.now c.self.view_is c.self.invariant in
    let cells = c.place-floors.ensures.value
    ∙ (ap (λ n. place n c.self.inside.horizon 0) sizes.columns
    ∙ ap (λ p. place (width c.args.self.now.listing) p 0) sizes.periods) in
    let at = c.place.ensures.value ∙ ap (λ n. place n c.args.block c.args.index) sizes.columns in
    omega (
      arith,
      sizes.positions,
      cells,
      at,
      floor_word-inside c.args.self.now.listing c.args.block c.args.index c.requires.block
          c.requires.index,
    )
