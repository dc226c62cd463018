-- How far one has come: one word further, and what a booking shares of a lane by then.
use Rattle.std.proofs.Common.{◌≡◌, ℕ, ◌+◌, ◌<◌, ◌≤◌, true, arith}
use Rattle.std.proofs.lemmas.Bool.Decides.{nat_tests}
use Rattle.activity_net.specs.Network.{Listing}
use Rattle.book_rule.specs.declared.view.Reach.{Reach}
use Rattle.book_rule.specs.Listed.{lasts, begins, width, need}
use Rattle.book_rule.specs.Reaches.{none_reached, next_reach, is_whole, share}

module _ (list : Listing) where
  -- nothing is shared at first
  pub share-none : (c w l p : ℕ) → share list c none_reached w l p ≡ 0
  unfolding share
  share-none c w l p = grind (arith, nat_tests)

  -- one word more: its lanes are shared, and those of every other word stand
  pub share-here : (c w l p : ℕ) (r : Reach) → p ≡ begins list c + r.periods → w ≡ r.words
      → w < width list
      → (share list c r w l p ≡ 0)
      × (share list c (next_reach (width list) r) w l p ≡ need list c w l)
  unfolding share
  share-here c w l p r ep ew inside = (grind (arith, nat_tests), grind (arith, nat_tests))

  pub share-other : (c v w l p q : ℕ) (r : Reach) → p ≡ begins list c + r.periods → w ≡ r.words
      → w < width list
      → v < width list → ((p ≡ q) × (w ≡ v) → ⊥)
      → share list c (next_reach (width list) r) v l q ≡ share list c r v l q
  unfolding share
  share-other c v w l p q r ep ew inside there apart = grind (arith, nat_tests)

  -- it only rises, and never above the whole share
  pub share-up : (c w l p : ℕ) (r : Reach)
      → share list c r w l p ≤ share list c (next_reach (width list) r) w l p
  unfolding share
  share-up c w l p r = grind (arith, nat_tests)

  pub share-below : (c w l p : ℕ) (r : Reach) → r.periods ≤ lasts list c
      → (r.periods ≡ lasts list c → r.words ≡ 0)
      → share list c r w l p ≤ share list c (record { periods = lasts list c; words = 0 }) w l p
  unfolding share
  share-below c w l p r within last = grind (arith, nat_tests)

  -- where all words were reached it is the whole share
  pub share-whole : (c w l p : ℕ) (r : Reach) → w < width list → is_whole list c r ≡ true
      → (r.periods ≡ lasts list c → r.words ≡ 0)
      → share list c r w l p ≡ share list c (record { periods = lasts list c; words = 0 }) w l p
  unfolding share
  share-whole c w l p r inside whole last = grind (arith, nat_tests)

  -- one word further stays within the periods of the activity
  pub next_reach-within : (c : ℕ) (r : Reach) → r.periods < lasts list c
      → ((next_reach (width list) r).periods ≤ lasts list c)
      × ((next_reach (width list) r).periods ≡ lasts list c → (next_reach (width list) r).words ≡ 0)
  next_reach-within c r more = (grind (arith, nat_tests), grind (arith, nat_tests))
