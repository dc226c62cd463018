-- What each pass knows of itself at every moment. Every step asks it and keeps it.
use Rattle.std.specs.Prelude.{◌≡◌, ℕ, ◌+◌, ◌*◌, ◌<◌, ◌≤◌, true, false, length}
use Rattle.activity_net.specs.Network.{Listing}
use Rattle.book_rule.specs.declared.view.View.{View}
use Rattle.book_rule.specs.Listed.{count, lasts, begins, width, horizon_of}
use Rattle.book_rule.specs.Searches.{is_chosen}

-- a pass that holds: its least start is at most the serial start of its position,
-- and exactly that once it is chosen
pub record IsHolder (list : Listing) (v : View) : Type 0 where
  pub turn : v.seen ≡ 2 * v.search.position + 1
  pub claimed : v.search.ahead ≡ false
  pub awake : v.resting ≡ false
  pub early : v.search.least ≤ begins list v.search.position
  pub exact : is_chosen list v.search ≡ true → v.search.least ≡ begins list v.search.position
  pub ends : begins list v.search.position + lasts list v.search.position ≤ horizon_of list
  pub within : v.hand.added.periods ≤ lasts list v.search.position
  pub few : v.mine < count list

-- a pass of the list that was not joined into another
pub record IsOwn (list : Listing) (v : View) : Type 0 where
  pub same : v.list ≡ list
  pub unspent : v.spent ≡ false
  pub seen : v.seen ≤ 2 * count list
  pub searched : v.search.position < count list
  pub found : v.found.position < count list
  pub offered : length v.offered ≡ count list
  pub hand : v.hand.holds ≡ true → IsHolder list v

-- the next word of the booking that the pass has in hand
pub record IsNextWord (list : Listing) (v : View) (p w : ℕ) : Type 0 where
  pub more : v.hand.added.periods < lasts list v.search.position
  pub period : p ≡ v.search.least + v.hand.added.periods
  pub index : w ≡ v.hand.added.words
  pub inside : w < width list
