-- What an advance answers, and what it makes of its pass.
use Rattle.std.specs.Prelude.{◌≡◌, ℕ, ◌+◌, ◌-◌, ◌*◌, ◌%◌, ◌≤◌, ◌++◌, List, length, slice_index, nat_eq, if◌then◌else◌}
use Rattle.std.specs.List.{sum_by}
use Rattle.activity_net.specs.Network.{Listing}
use Rattle.book_rule.specs.declared.view.View.{View}
use Rattle.book_rule.specs.Listed.{count, begins, lasts, width}
use Rattle.ordered_book.specs.declared.stop.Advance.{Advance}
use Rattle.ordered_book.specs.declared.stop.Advance.TheVariants.{Complete, Busy}

-- the turn that the pass has seen last: that of the end, or that of another pass's position
abbrev pub IsShown : Listing → ℕ → Advance → Type 0
IsShown list seen Complete = seen ≡ 2 * count list
IsShown list seen (Busy turn) = (seen ≡ turn) × (turn % 2 ≡ 1)

-- how many profile words at most the booking of a position loads, from what the pass has offered
-- there up to its end; none where the activity takes no time
abbrev pub cost_of : Listing → List ℕ → ℕ → ℕ
cost_of list offered i =
    if nat_eq (lasts list i) 0 then 0
    else width list * (begins list i + lasts list i - slice_index offered i)

-- the view before, with all that bookings change
abbrev pub advanced : View → View → View
advanced before after = record before {
  seen = after.seen;
  looks = after.looks;
  mine = after.mine;
  released = after.released;
  loaded = after.loaded;
  resting = after.resting;
  adopted = after.adopted;
  search = after.search;
  hand = after.hand;
  block = after.block;
  kept = after.kept;
}

-- the pass has booked the positions that it has gained since
pub record HasBooked (list : Listing) (before after : View) : Type 0 where
  pub gained : List ℕ
  pub released : after.released ≡ before.released ++ gained
  pub mine : after.mine ≡ before.mine + length gained
  pub rises : before.loaded ≤ after.loaded
  pub loaded : after.loaded ≤ before.loaded + sum_by (cost_of list before.offered) gained
  pub others : after ≡ advanced before after
