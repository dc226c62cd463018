use Rattle.std.proofs.Common.{ap, sym, ◌∙◌}
use Rattle.psplib_read.specs.Left.{Left}
use Rattle.psplib_read.proofs.CursorLaws.{line_comes}
use Rattle.psplib_read.proofs.cursor.Cursor.next_line.Goals as goal

pub returns-clause-found : goal.returns-clause-found
returns-clause-found c =
    let size = sym (ap (λ (left : Left). left.size) c.self.view_is) in
    let lines = sym (ap (λ (left : Left). left.lines) c.self.view_is)
    ∙ c.in_ok-line.ensures.first in
    line_comes c.args.self.now c.in_ok-line.line c.line.inside.text.now c.line.inside.at
    c.self.inside.size _ size lines c.line.view_is
