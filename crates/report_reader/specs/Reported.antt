-- What a report tells its caller: of the list, the view before, how many starts it shows, and the
-- view after.
use Rattle.std.specs.Prelude.{◌≡◌, ℕ, ◌*◌, ◌/◌, ◌≤◌, List, slice_index, slice_index_or, ◌<◌}
use Rattle.activity_net.specs.Network.{Listing}
use Rattle.book_rule.specs.declared.view.View.{View}
use Rattle.book_rule.specs.Listed.{count, begins}
use Rattle.book_rule.specs.Views.{after_turn}

-- a turn was loaded, no earlier than the one seen before, and after it only start words: the report
-- shows the starts of as many bookings as are complete at that turn
pub record Reported (list : Listing) (v : View) (shown : ℕ) (after : View) : Type 0 where
  pub view : after ≡ record (after_turn list v after.seen) { search = after.search }
  pub later : v.seen ≤ after.seen
  pub within : after.seen ≤ 2 * count list
  pub half : shown ≡ after.seen / 2

-- these are the serial starts of so many positions, and the other entries are as before
pub record AreStarts (list : Listing) (shown : ℕ) (before after : List ℕ) : Type 0 where
  pub starts : (i : ℕ) → i < shown → slice_index after i ≡ begins list i
  pub others : (i d : ℕ) → shown ≤ i → slice_index_or after i d ≡ slice_index_or before i d
