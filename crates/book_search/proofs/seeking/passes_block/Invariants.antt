use Rattle.std.proofs.Common.{◌≡◌}
use Rattle.book_table.specs.Passes.{IsPassOf}
use Rattle.book_search.proofs.seeking.passes_block.Given as goal

-- no floor has led the search on
abbrev pub invariant-floors : goal.invariant-floors
invariant-floors l = record {
  own : IsPassOf l.book l.pass;
  same : l.pass.view ≡ l.fn.pass.view;
}
