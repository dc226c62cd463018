use Rattle.std.proofs.Common.{◌+◌, ◌-◌, length, ap, ◌∙◌}
use Rattle.psplib_read.specs.Lines.{Line, after_colon}
use Rattle.psplib_read.proofs.CursorLaws.{value_missing, value_comes}
use Rattle.psplib_read.proofs.line.Line.first_value.Goals as goal

pub returns-in_err-start : goal.returns-in_err-start
returns-in_err-start c =
    let rest = c.after_colon-rest.ensures.rest ∙ ap after_colon c.self.view_is in
    c.from_residual.ensures ∙ value_missing c.args.self.now c.after_colon-rest.result.now rest
    c.in_err-start.ensures.none

pub returns : goal.returns
returns c =
    let rest = c.after_colon-rest.ensures.rest ∙ ap after_colon c.self.view_is in
    value_comes c.args.self.now c.after_colon-rest.result.now _ _ _ rest c.in_ok-start.ensures.first
    (ap (λ (line : Line). line.at + (length line.text - length c.after_colon-rest.result.now))
    c.self.view_is)
