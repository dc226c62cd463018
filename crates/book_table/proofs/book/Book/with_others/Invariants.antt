use Rattle.std.proofs.Common.{◌≡◌, ◌+◌, length, false}
use Rattle.book_table.specs.Passes.{fresh_pass}
use Rattle.book_table.proofs.FreshLaws.{AreOthers}
use Rattle.book_table.proofs.book.Book.with_others.Given as goal

abbrev pub invariant-loop-number : goal.invariant-loop-number
invariant-loop-number l =
    (l.first ≡ fresh_pass l.self 0 false l.number) × AreOthers l.self l.all.items
    × (length l.all.items + 1 ≡ l.number)
