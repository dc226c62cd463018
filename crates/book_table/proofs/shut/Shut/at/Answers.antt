use Rattle.std.proofs.Common.{◌<◌, length, slice_index, ap, ◌∙◌, arith}
use Rattle.std.specs.Mem.Slots.{slots_items}
use Rattle.book_table.proofs.ShutLaws.{word_at}
use Rattle.book_table.proofs.shut.Shut.at.Goals as goal

pub word-requires : goal.word-requires
word-requires c =
    let long = c.self.invariant.long in
    let same = ap length c.self.view_is in
    (omega (arith, long, same, c.requires), c.self.invariant.full)

pub returns : goal.returns
returns c =
    let same = ap length c.self.view_is in
    let below : c.args.place < length (slots_items c.self.inside.closed.words) =
    omega (arith, same, c.requires) in
    word_at _ c.args.place c.word.result below c.word.ensures
    ∙ ap (λ ws. slice_index ws c.args.place) c.self.view_is
