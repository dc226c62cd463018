-- What the fields of a book and of a pass say of its list and its table.
use Rattle.std.proofs.Common.{◌≡◌, ℕ, ◌+◌, ◌*◌, ◌<◌, ◌≤◌, sym, ap, subst, ◌∙◌, arith, mul-le-mul, true}
use Rattle.std.proofs.lemmas.Bool.Decides.{nat_tests}
use Rattle.activity_net.specs.Network.{Listing}
use Rattle.book_rule.specs.declared.view.Search.{Search}
use Rattle.book_rule.specs.declared.view.View.{View}
use Rattle.book_rule.specs.Listed.{IsBookable, count, lasts, width, horizon_of}
use Rattle.book_rule.specs.Layout.{place, blocks, word_count}
use Rattle.book_rule.specs.Searches.{needs_next}
use Rattle.book_rule.specs.Knowledge.{IsOwn}
use Rattle.book_rule.proofs.ListedLaws.{count-small, width-small, horizon-small}
use Rattle.book_table.specs.declared.book.Book.TheInside.{Inside as InsideBook}
use Rattle.book_table.specs.declared.pass.Pass.TheInside.{Inside as InsidePass}
use Rattle.book_table.specs.Passes.{RunningBook, PassToken, IsPassOf}
use Rattle.book_table.specs.BookView.{AreNeeds, AreRooms, book_of, pass_of, KeepsBook}

-- the numbers of a book are those of its list, and so are its packed words
pub record AreSizes (book : InsideBook) (list : Listing) : Type 0 where
  pub bookable : IsBookable list
  pub key : book.table.shared.key ≡ list
  pub wide : book.table.shared.table_id.words ≡ word_count list
  pub positions : book.positions ≡ count list
  pub columns : book.words ≡ width list
  pub periods : book.horizon ≡ horizon_of list
  pub few : count list ≤ 1000
  pub narrow : width list ≤ 4
  pub short : horizon_of list ≤ 131070
  pub needs : AreNeeds list book.needs.items
  pub rooms : AreRooms list book.rooms.items

pub sizes_are : (fields : InsideBook) (book : RunningBook) → book_of fields ≡ book
    → KeepsBook fields → AreSizes fields book.listing
sizes_are fields book same keeps =
    subst (λ (b : RunningBook). AreSizes fields b.listing) same (record {
      bookable = keeps.bookable;
      key = keeps.keyed;
      wide = keeps.wide;
      positions = keeps.count_is;
      columns = keeps.width_is;
      periods = keeps.horizon_is;
      few = count-small fields.list.now keeps.bookable;
      narrow = width-small fields.list.now keeps.bookable;
      short = horizon-small fields.list.now keeps.bookable;
      needs = keeps.needs_are;
      rooms = keeps.rooms_are;
    })

-- a pass of the book has a seat at its table, and knows of itself what each pass knows
pub record IsSeated (book : InsideBook) (pass : InsidePass) : Type 0 where
  pub table : pass.seat.table_id ≡ book.table.shared.table_id
  pub own : IsOwn book.table.shared.key pass.seat.me.0

pub seated : (fields : InsideBook) (book : RunningBook) (inner : InsidePass) (pass : PassToken)
    → book_of fields ≡ book → pass_of inner ≡ pass → KeepsBook fields → IsPassOf book pass
    → IsSeated fields inner
seated fields book inner pass same view keeps own = record {
  table = ap (λ (p : PassToken). p.table) view ∙ own.same
      ∙ sym (ap (λ (b : RunningBook). b.table) same);
  own =
      let key : book.listing ≡ fields.table.shared.key =
      sym (ap (λ (b : RunningBook). b.listing) same) ∙ sym keeps.keyed in
      let me : pass.view ≡ inner.seat.me.0 = sym (ap (λ (p : PassToken). p.view) view) in
      subst (λ (l : Listing). IsOwn l inner.seat.me.0) key
      (subst (λ (v : View). IsOwn book.listing v) me own.own);
}

-- a place of a table of so few rows and columns is a small number
pub place-small : (n m p w : ℕ) → n ≤ 4 → p ≤ m → w ≤ 4 → place n p w ≤ m * 4 + 4
unfolding place
place-small n m p w narrow low column = omega (arith, mul-le-mul low narrow)

-- the number of a block is a small row too
pub block-row : (list : Listing) (b : ℕ) → horizon_of list ≤ 131070 → b < blocks list → b ≤ 131070
unfolding blocks
block-row list b short below = omega arith

-- the word that a search needs next is of a period in which its activity would run
pub next_needed : (list : Listing) (p w : ℕ) (s : Search) → needs_next list p w s ≡ true
    → (s.free.periods < lasts list s.position) × (w ≡ s.free.words)
next_needed list p w s is = (grind (arith, nat_tests), grind (arith, nat_tests))
