-- How the words of a closed table are seen.
use Rattle.std.specs.Prelude.{◌≡◌, ℕ, List, length}
use Rattle.std.specs.Mem.Slots.{slots_items, slots_len, IsFull}
use Rattle.book_table.specs.declared.shut.Shut.TheInside.{Inside as InsideShut}

abbrev pub words_of : InsideShut → List ℕ
words_of shut = slots_items shut.closed.words

-- all words are there, and there is no slot
pub record IsShut (shut : InsideShut) : Type 0 where
  pub full : IsFull shut.closed.words
  pub long : slots_len shut.closed.words ≡ length (slots_items shut.closed.words)
  pub bare : slots_len shut.closed.slots ≡ 0
