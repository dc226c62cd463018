-- What a whole search by loads makes of a pass.
use Rattle.std.specs.Prelude.{◌≡◌, ℕ, ◌+◌, ◌*◌, ◌≤◌}
use Rattle.activity_net.specs.Network.{Listing}
use Rattle.book_rule.specs.declared.view.Search.{Search}
use Rattle.book_rule.specs.declared.view.View.{View}
use Rattle.book_rule.specs.Listed.{lasts, width, horizon_of}
use Rattle.book_rule.specs.Reaches.{none_reached}

-- a search that has read so many predecessors, and no word yet, from a least start by the horizon on
pub record HasOnlyRead (list : Listing) (read : ℕ) (s : Search) : Type 0 where
  pub predecessors : s.read ≡ read
  pub free : s.free ≡ none_reached
  pub within : s.least ≤ horizon_of list

-- the view before, with all that the loads of a search change
abbrev pub searched : View → View → View
searched before after = record before {
  loaded = after.loaded;
  search = after.search;
  block = after.block;
  kept = after.kept;
}

-- the same search went on, from start to later start, and nothing else has changed
pub record IsSought (before after : View) : Type 0 where
  pub only : after ≡ searched before after
  pub position : after.search.position ≡ before.search.position
  pub ahead : after.search.ahead ≡ before.search.ahead
  pub begun : after.search.begun ≡ before.search.begun
  pub later : before.search.least ≤ after.search.least

-- how many profile words a whole search has loaded: at most those from its first least start up to
-- the end of the activity at its last one, or up to the horizon; none where the activity takes no time
pub record LoadsFew (list : Listing) (before after : View) : Type 0 where
  pub rises : before.loaded ≤ after.loaded
  pub within : after.loaded + width list * before.search.least
      ≤ before.loaded + width list * (after.search.least + lasts list before.search.position)
  pub all : after.loaded + width list * before.search.least
      ≤ before.loaded + width list * horizon_of list
  pub none : lasts list before.search.position ≡ 0 → after.loaded ≡ before.loaded
