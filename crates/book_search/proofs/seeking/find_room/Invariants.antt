use Rattle.std.proofs.Common.{◌≡◌, ◌+◌, ◌-◌, ◌*◌}
use Rattle.book_rule.specs.Listed.{lasts}
use Rattle.book_table.specs.Passes.{IsPassOf}
use Rattle.book_search.specs.Runs.{AreKept}
use Rattle.book_search.specs.Steps.{IsUnderWay, SearchesOn, place_of}
use Rattle.book_search.proofs.seeking.find_room.Given as goal

-- the search has gone on, and is under way
abbrev pub invariant-rooms : goal.invariant-rooms
invariant-rooms l = record {
  own : IsPassOf l.book l.pass;
  is : l.pass.view.search ≡ l.search;
  under : IsUnderWay l.book.listing l.search;
  on : SearchesOn l.book.listing l.fn.pass.view l.pass.view;
  lasts : lasts l.book.listing l.search.position ≡ l.duration;
  kept : AreKept l.pass.view.block l.pass.view.kept l.floors;
}

abbrev pub decreases-rooms : goal.decreases-rooms
decreases-rooms l = 5 * l.horizon + 5 - place_of l.search
