use Rattle.std.proofs.Common.{sym, ◌∙◌, arith}
use Rattle.book_table.proofs.BookLaws.{sizes_are}
use Rattle.book_table.proofs.BookLaws.{next_needed}
use Rattle.book_rule.proofs.ListedLaws.{lasts-small}
use Rattle.book_table.proofs.book.Book.after_word.Goals as goal

pub overflow_add-result : goal.overflow_add-result
overflow_add-result c =
    let sizes = sizes_are c.self.inside c.args.self.now c.self.view_is c.self.invariant in
    omega (arith, sizes.short, c.requires.period)

pub next_reach-requires-clause-words : goal.next_reach-requires-clause-words
next_reach-requires-clause-words c =
    let sizes = sizes_are c.self.inside c.args.self.now c.self.view_is c.self.invariant in
    let next = next_needed c.args.self.now.listing c.args.period c.args.index c.args.search
    (sym c.needs_next.ensures ∙ c.if-not-needs_next.false) in
    let index = next.1 in
    let columns = sizes.columns in
    let inside = c.requires.index in
    let narrow = sizes.narrow in
    (omega arith, omega arith)

pub next_reach-requires-clause-periods : goal.next_reach-requires-clause-periods
next_reach-requires-clause-periods c =
    let sizes = sizes_are c.self.inside c.args.self.now c.self.view_is c.self.invariant in
    let next = next_needed c.args.self.now.listing c.args.period c.args.index c.args.search
    (sym c.needs_next.ensures ∙ c.if-not-needs_next.false) in
    omega (
      arith,
      next.0,
      lasts-small c.args.self.now.listing sizes.bookable c.args.search.position c.requires.there,
    )
