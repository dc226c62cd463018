-- What a worker makes of its pass.
use Rattle.std.specs.Prelude.{◌≡◌, ℕ, ◌+◌, ◌<◌, ◌≤◌, ◌⊎◌, List, length, slice_index_or}
use Rattle.activity_net.specs.Network.{Listing}
use Rattle.book_rule.specs.declared.view.View.{View}
use Rattle.book_rule.specs.Listed.{count}
use Rattle.book_table.specs.Passes.{PassToken}

-- the pass is the one that it was, and has forgotten neither a turn nor a booking
pub record GoesOn (v w : View) : Type 0 where
  pub number : w.number ≡ v.number
  pub seen : v.seen ≤ w.seen
  pub mine : v.mine ≤ w.mine

-- besides, it has drawn no ticket
pub record DrawsNone (v w : View) : Type 0 where
  pub goes : GoesOn v w
  pub draws : w.draws ≡ v.draws

-- besides, it has drawn tickets until one was past the list, or one more than there are positions
pub record DrawsAll (list : Listing) (v w : View) : Type 0 where
  pub goes : GoesOn v w
  pub drawn : (count list ≤ w.ticket) ⊎ (w.draws ≡ v.draws + (count list + 1))

-- each worker's pass goes on
abbrev pub AllGoOn : List PassToken → List PassToken → Type 0
AllGoOn old new = (k : ℕ) (d : PassToken) → k < length old
    → GoesOn (slice_index_or old k d).view (slice_index_or new k d).view
