use Rattle.std.proofs.Common.{[], take, sym, ap, ◌∙◌, arith}
use Rattle.std.proofs.lemmas.List.{get_or_read, length-map}
use Rattle.event_line.proofs.TableLaws.{row_is, set_row, set_others}
use Rattle.event_line.proofs.rows.Rows.copy.Goals as goal

pub returns-clause-row : goal.returns-clause-row
returns-clause-row c =
    let vectors = c.self.inside.vectors.items in
    let width = c.self.inside.width in
    let row = c.index-row.result.now in
    let from = rw (← c.self.view_is) at c.requires.from in
    let to = rw (← c.self.view_is) at c.requires.to in
    let count = length-map vectors (take width) in
    let read = get_or_read vectors c.args.from row (omega arith) c.index-row.ensures [] in
    rw (← c.self.view_is) (set_row width c.args.to vectors row (omega arith)
    ∙ (ap (take width) read ∙ sym (row_is width c.args.from vectors)))

pub returns-clause-others : goal.returns-clause-others
returns-clause-others c =
    rw (← c.self.view_is) (λ x ne. set_others c.self.inside.width c.args.to x
    c.self.inside.vectors.items c.index-row.result.now ne)
