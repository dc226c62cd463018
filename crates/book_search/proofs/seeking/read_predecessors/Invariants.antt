use Rattle.book_table.specs.Passes.{IsPassOf}
use Rattle.book_search.specs.Steps.{IsReading}
use Rattle.book_search.proofs.seeking.read_predecessors.Given as goal

-- the first predecessors were read
abbrev pub invariant-places : goal.invariant-places
invariant-places l = record {
  own : IsPassOf l.book l.pass;
  read : IsReading l.book.listing l.place l.fn.pass.view l.pass.view;
}
