use Rattle.std.proofs.Common.{arith}
use Rattle.std.proofs.lemmas.List.{get_or_read}
use Rattle.book_table.proofs.BookLaws.{sizes_are}
use Rattle.book_table.proofs.PackLaws.{need_at}
use Rattle.book_table.proofs.book.Book.demand_word.Goals as goal

pub place-requires-clause-words : goal.place-requires-clause-words
place-requires-clause-words c =
    let sizes = sizes_are c.self.inside c.args.self.now c.self.view_is c.self.invariant in
    omega (arith, sizes.columns, sizes.narrow)

pub place-requires-clause-row : goal.place-requires-clause-row
place-requires-clause-row c =
    let sizes = sizes_are c.self.inside c.args.self.now c.self.view_is c.self.invariant in
    omega (arith, sizes.few, c.requires.position)

pub place-requires-clause-column : goal.place-requires-clause-column
place-requires-clause-column c =
    let sizes = sizes_are c.self.inside c.args.self.now c.self.view_is c.self.invariant in
    omega (arith, sizes.narrow, c.requires.index)

pub index-requires : goal.index-requires
index-requires c =
    let sizes = sizes_are c.self.inside c.args.self.now c.self.view_is c.self.invariant in
    let needs = c.self.inside.needs in
    let need = need_at c.args.self.now.listing needs.items c.self.inside.words c.args.position
    c.args.index c.place.result sizes.needs sizes.columns c.place.ensures.value
    c.requires.position c.requires.index in
    omega (arith, need.0, needs.ok.0)

pub returns : goal.returns
returns c =
    let sizes = sizes_are c.self.inside c.args.self.now c.self.view_is c.self.invariant in
    let needs = c.self.inside.needs in
    let need = need_at c.args.self.now.listing needs.items c.self.inside.words c.args.position
    c.args.index c.place.result sizes.needs sizes.columns c.place.ensures.value
    c.requires.position c.requires.index in
    rw (get_or_read needs.items c.place.result c.index.result.now need.0 c.index.ensures 0)
    (need.1 c.requires.runs)
