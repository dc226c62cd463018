-- A search between two of its loads.
use Rattle.std.specs.Prelude.{◌≡◌, ℕ, ◌+◌, ◌*◌, ◌<◌, ◌≤◌}
use Rattle.activity_net.specs.Network.{Listing}
use Rattle.book_rule.specs.declared.view.Search.{Search}
use Rattle.book_rule.specs.declared.view.View.{View}
use Rattle.book_rule.specs.Listed.{lasts, before_count, width, horizon_of}
use Rattle.book_rule.specs.Reaches.{none_reached}
use Rattle.book_rule.specs.Searches.{block_end}
use Rattle.book_search.specs.Sought.{HasOnlyRead, IsSought}

-- so many predecessors were read, and no profile word was loaded
pub record IsReading (list : Listing) (read : ℕ) (before after : View) : Type 0 where
  pub sought : IsSought before after
  pub loaded : after.loaded ≡ before.loaded
  pub search : HasOnlyRead list read after.search

-- a search that has read all predecessors; inside a period it has not come to the end of the activity
pub record IsUnderWay (list : Listing) (s : Search) : Type 0 where
  pub read : s.read ≡ before_count list s.position
  pub within : s.least + s.free.periods ≤ horizon_of list
  pub some : s.free.periods ≤ lasts list s.position
  pub more : 0 < s.free.words → s.free.periods < lasts list s.position
  pub inside : 0 < s.free.words → s.free.words < width list
  pub ends : 0 < s.free.words → s.least + lasts list s.position ≤ horizon_of list

-- one that needs a word more, within the horizon
pub record IsDue (list : Listing) (s : Search) : Type 0 where
  pub under : IsUnderWay list s
  pub wide : (0 < width list) × (width list ≤ 4)
  pub more : s.free.periods < lasts list s.position
  pub ends : s.least + lasts list s.position ≤ horizon_of list

-- how many profile words stand before the next one that the search needs
abbrev pub words_before : Listing → Search → ℕ
words_before list s = width list * (s.least + s.free.periods) + s.free.words

-- the same in an order that is known without the width of a period: a period has at most four words
abbrev pub place_of : Search → ℕ
place_of s = 5 * (s.least + s.free.periods) + s.free.words

-- each word that was loaded has led the search on
pub record SearchesOn (list : Listing) (before after : View) : Type 0 where
  pub sought : IsSought before after
  pub rises : before.loaded ≤ after.loaded
  pub loads : after.loaded + words_before list before.search
      ≤ before.loaded + words_before list after.search
  pub none : lasts list before.search.position ≡ 0 → after.loaded ≡ before.loaded

-- a floor has led the search past its block
pub record IsPast (list : Listing) (b : ℕ) (before after : View) : Type 0 where
  pub inside : before.search.least + before.search.free.periods < block_end list b
  pub view : after
      ≡ record before { search = record before.search { least = block_end list b; free = none_reached } }
