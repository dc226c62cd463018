use Rattle.std.proofs.Common.{ℕ, ap, ◌∙◌}
use Rattle.rc_instance.specs.Schedule.{start_at}
use Rattle.ordered_book.proofs.KnownLaws.{known-has, known-begins}
use Rattle.ordered_book.proofs.known.known_start.Goals as goal

pub start-requires : goal.start-requires
start-requires c =
    known-has c.args.book.now.listing c.args.known.now c.requires.known c.activity.result
    c.activity.ensures.activity

pub returns : goal.returns
returns c =
    c.start.ensures
    ∙ (ap (λ (a : ℕ). start_at c.args.known.now a) c.activity.ensures.value
    ∙ known-begins c.args.book.now.listing c.args.known.now c.requires.known c.args.position
    c.requires.bookable c.requires.position)
