use Rattle.std.proofs.Common.{sym, ◌∙◌}
use Rattle.book_rule.proofs.SearchLaws.{is_full-exceeds}
use Rattle.book_table.proofs.book.Book.is_full.Goals as goal

pub returns : goal.returns
returns c =
    let list = c.args.self.now.listing in
    let same =
    is_full-exceeds list c.args.position c.args.period c.args.index c.args.word
    c.demand_word.result c.capacity_word.result c.demand_word.ensures c.capacity_word.ensures in
    c.blocked.ensures.value ∙ sym same
