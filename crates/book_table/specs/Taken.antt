-- What a closing book has taken in: the seat of pass 0, and how many bookings each pass has made.
use Rattle.std.specs.Prelude.{◌≡◌, ℕ, ◌<◌, true, List, [], ◌∷◌, length, take, map, None, IsSome, IfSome}
use Rattle.atomic_table.specs.Seated.{TableId}
use Rattle.book_rule.specs.declared.view.View.{View}
use Rattle.book_rule.specs.Knowledge.{IsOwn}
use Rattle.book_table.specs.declared.closing.Taken.{Taken}
use Rattle.book_table.specs.Passes.{RunningBook, PassToken}

-- the bookings of each pass
abbrev pub counts_of : List PassToken → List ℕ
counts_of passes = map (λ pass. pass.view.mine) passes

-- pass 0, once it has taken in all of these after itself
pub record IsChief (book : RunningBook) (done : List PassToken) (table : TableId)
    (v : View) : Type 0 where
  pub same : table ≡ book.table
  pub own : IsOwn book.listing v
  pub number : v.number ≡ 0
  pub rests : v.resting ≡ true
  pub made : v.made ≡ book.passes
  pub counts : v.mine ∷ v.gathered ≡ counts_of done

-- these passes were taken in
pub record IsTaking (book : RunningBook) (done : List PassToken) (taken : Taken) : Type 0 where
  pub long : length taken.counts.items ≡ book.passes
  pub counts : take (length done) taken.counts.items ≡ counts_of done
  pub none : done ≡ [] → taken.seat ≡ None
  pub some : 0 < length done → IsSome taken.seat
  pub chief : IfSome taken.seat (λ seat. IsChief book done seat.table_id seat.me.0
      × (seat.me.1 ≡ []))
