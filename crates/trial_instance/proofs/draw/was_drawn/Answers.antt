use Rattle.std.proofs.Common.{ℕ, ◌+◌, ◌-◌, ◌%◌, slice_index, ap}
use Rattle.trial_instance.proofs.DrawLaws.{drawn-first, drawn-second}
use Rattle.trial_instance.proofs.draw.was_drawn.Goals as goal

pub returns-then-words-row : goal.returns-then-words-row
returns-then-words-row c =
    let words = c.args.words.now in
    let later = c.args.later in
    drawn-first c.args.resources words c.args.activity later _
    (ap (λ (i : ℕ). 1 + slice_index words (i + c.args.resources + 1) % (later - 1))
    c.first_word.ensures) c.if-words-row.true

pub returns-else-words-row : goal.returns-else-words-row
returns-else-words-row c =
    let words = c.args.words.now in
    let later = c.args.later in
    drawn-second c.args.resources words c.args.activity later _ _
    (ap (λ (i : ℕ). 1 + slice_index words (i + c.args.resources + 1) % (later - 1))
    c.first_word.ensures)
    (ap (λ (i : ℕ). 1 + slice_index words (i + c.args.resources + 2) % (later - 1))
    c.first_word.ensures) c.if-words-row.false
