-- The passes of a book that closes: each is taken in after those before it, and at the end all are.
use Rattle.std.proofs.Common.{◌≡◌, ℕ, ◌+◌, ◌<◌, true, List, [], ◌∷◌, ◌++◌, length, take, slice_set, slice_index_or, Option, None, Some, IsSome, IfSome, refl, sym, ap, subst, ◌∙◌, arith, append_assoc, length-append, length-set, take_all}
use Rattle.std.proofs.lemmas.List.{length_push}
use Rattle.std.proofs.lemmas.List.Sums.{sum_by-cons}
use Rattle.std.specs.List.{sum}
use Rattle.atomic_table.specs.Seated.{TableId}
use Rattle.atomic_table.specs.Table.{Seen, Final}
use Rattle.activity_net.specs.Network.{Listing}
use Rattle.book_rule.specs.declared.view.View.{View}
use Rattle.book_rule.specs.Listed.{count}
use Rattle.book_rule.specs.Knowledge.{IsOwn}
use Rattle.book_rule.specs.Views.{after_join}
use Rattle.book_rule.specs.Rule.{Rule, IsComplete}
use Rattle.book_rule.proofs.SeatLaws.{completes}
use Rattle.book_table.specs.declared.closing.Taken.{Taken}
use Rattle.book_table.specs.declared.book.Book.TheInside.{Inside as InsideBook}
use Rattle.book_table.specs.BookView.{book_of, KeepsBook}
use Rattle.book_table.specs.Passes.{RunningBook, PassToken, IsPassOf, AreAtRest, all_of}
use Rattle.book_table.specs.Taken.{counts_of, IsChief, IsTaking}
use Rattle.book_table.proofs.TakenLaws.{seat_push, counts_push, chief-long}

-- what holds of a value that may be there
pub if_some : {X : Type 0} (P Q : X → Type 0) (o : Option X) → ((x : X) → P x → Q x) → IfSome o P
    → IfSome o Q
if_some P Q None gives is = tt
if_some P Q (Some x) gives is = gives x is

-- and of one that is there
pub some_is : {X : Type 0} (P : X → Type 0) (o : Option X) (x : X) → o ≡ Some x → IfSome o P → P x
some_is P o x e is = subst (λ q. IfSome q P) e is

-- the passes before one, that one, and the others with that of a watch
pub all_split : (done : List PassToken) (x : PassToken) (rest : List PassToken)
    (watch : Option PassToken) → all_of (done ++ x ∷ rest) watch ≡ done ++ x ∷ all_of rest watch
all_split done x rest None = refl
all_split done x rest (Some w) = append_assoc done (x ∷ rest) (w ∷ [])

-- one that is taken in after so many others
pub record IsNextPass (book : RunningBook) (done : List PassToken) (pass : PassToken) : Type 0 where
  pub own : IsPassOf book pass
  pub number : pass.view.number ≡ length done
  pub rests : pass.view.resting ≡ true
  pub room : length done < book.passes

pass_here : (done rest : List PassToken) (x d : PassToken)
    → slice_index_or (done ++ x ∷ rest) (length done) d ≡ x
pass_here [] rest x d = refl
pass_here (y ∷ ys) rest x d = pass_here ys rest x d

pub next_pass : (book : RunningBook) (all done rest : List PassToken) (x : PassToken)
    → AreAtRest book all → all ≡ done ++ x ∷ rest → IsNextPass book done x
next_pass book all done rest x atrest is =
    let here : slice_index_or all (length done) x ≡ x =
    ap (λ (l : List PassToken). slice_index_or l (length done) x) is ∙ pass_here done rest x x in
    let long = ap length is ∙ length-append done (x ∷ rest) in
    let below : length done < length all = omega (arith, long) in
    let number = atrest.all.number (length done) x below in
    let rests = atrest.rest (length done) x below in
    record {
      own = subst (λ (p : PassToken). IsPassOf book p) here (atrest.all.own (length done) x below);
      number = sym (ap (λ (p : PassToken). p.view.number) here) ∙ number;
      rests = sym (ap (λ (p : PassToken). p.view.resting) here) ∙ rests;
      room = omega (arith, below, atrest.all.count);
    }

-- the same in two lists: one of the passes, and then that of a watch
pub next_of : (book : RunningBook) (passes done rest : List PassToken) (watch : Option PassToken)
    (x : PassToken)
    → AreAtRest book (all_of passes watch) → done ++ x ∷ rest ≡ passes → IsNextPass book done x
next_of book passes done rest watch x atrest is =
    next_pass book (all_of passes watch) done (all_of rest watch) x atrest
    (ap (λ (l : List PassToken). all_of l watch) (sym is) ∙ all_split done x rest watch)

pub next_watch : (book : RunningBook) (passes : List PassToken) (x : PassToken)
    → AreAtRest book (all_of passes (Some x)) → IsNextPass book passes x
next_watch book passes x atrest = next_pass book (all_of passes (Some x)) passes [] x atrest refl

-- one more is taken in
pub taking_push : (book : RunningBook) (done : List PassToken) (pass : PassToken) (old new : Taken)
    → IsNextPass book done pass → IsTaking book done old
    → new.counts.items ≡ slice_set old.counts.items pass.view.number pass.view.mine
    → IsSome new.seat → (old.seat ≡ None
    → IfSome new.seat (λ seat. (seat.table_id ≡ pass.table) × (seat.me ≡ (pass.view, []))))
    → IfSome old.seat
    (λ o. IfSome new.seat (λ n. (n.table_id ≡ o.table_id)
    × (n.me ≡ (after_join o.me.0 pass.view, o.me.1)))) → IsTaking book (done ++ pass ∷ []) new
taking_push book done pass old new next is counts some first joined = record {
  long = ap length counts ∙ (length-set old.counts.items pass.view.number pass.view.mine ∙ is.long);
  counts =
      let long = is.long in
      ap (λ (c : List ℕ). take (length (done ++ pass ∷ [])) c) counts
      ∙ counts_push book done pass old.counts.items (omega (arith, long, next.room))
      next.number is.counts;
  none = λ e. absurd (omega (arith, ap length e, length_push done pass));
  some = λ more. some;
  chief = seat_push book (λ s. s.table_id) (λ s. s.me)
      done pass old.seat new.seat next.own next.number next.rests
      is.some is.chief some first joined;
}

-- the last one is that of a watch, or there is none
pub taking_watch : (book : RunningBook) (passes : List PassToken) (watch : Option PassToken)
    (x : PassToken)
    (old new : Taken) → AreAtRest book (all_of passes watch) → watch ≡ Some x
    → IsTaking book passes old
    → new.counts.items ≡ slice_set old.counts.items x.view.number x.view.mine → IsSome new.seat
    → (old.seat ≡ None
    → IfSome new.seat (λ seat. (seat.table_id ≡ x.table) × (seat.me ≡ (x.view, []))))
    → IfSome old.seat
    (λ o. IfSome new.seat (λ n. (n.table_id ≡ o.table_id)
    × (n.me ≡ (after_join o.me.0 x.view, o.me.1)))) → IsTaking book (all_of passes watch) new
taking_watch book passes watch x old new atrest is taking counts some first joined =
    let next = next_watch book passes x (subst (λ w. AreAtRest book (all_of passes w)) is atrest) in
    subst (λ w. IsTaking book (all_of passes w) new) (sym is)
    (taking_push book passes x old new next taking counts some first joined)

pub taking_alone : (book : RunningBook) (passes : List PassToken) (watch : Option PassToken)
    (taken : Taken)
    → watch ≡ None → IsTaking book passes taken → IsTaking book (all_of passes watch) taken
taking_alone book passes watch taken is taking =
    subst (λ w. IsTaking book (all_of passes w) taken) (sym is) taking

pub nothing_left : {X : Type 0} (l : List X) → length l ≡ 0 → l ≡ []
nothing_left [] h = refl
nothing_left (x ∷ xs) h = absurd (omega arith)

-- what a pass is asked that is taken in next
module _ (fields : InsideBook) (book : RunningBook) (same : book_of fields ≡ book)
    (keeps : KeepsBook fields) where
  pub key_is : fields.table.shared.key ≡ book.listing
  key_is = keeps.keyed ∙ ap (λ (b : RunningBook). b.listing) same

  pub next-table : (done : List PassToken) (pass : PassToken) → IsNextPass book done pass
      → (pass.table ≡ fields.table.shared.table_id) × (0 < fields.table.shared.table_id.words)
  next-table done pass next =
      let wide = keeps.wide in
      (next.own.same ∙ sym (ap (λ (b : RunningBook). b.table) same), omega (arith, wide))

  pub next-own : (done : List PassToken) (pass : PassToken) → IsNextPass book done pass
      → IsOwn fields.table.shared.key pass.view
  next-own done pass next = subst (λ (l : Listing). IsOwn l pass.view) (sym key_is) next.own.own

  pub next-chief : (done : List PassToken) (pass : PassToken) (taken : Taken)
      → IsNextPass book done pass → IsTaking book done taken
      → IfSome taken.seat (λ seat. (seat.table_id ≡ fields.table.shared.table_id)
      × IsOwn fields.table.shared.key seat.me.0 × (seat.me.0.number ≡ 0)
      × (pass.view.number ≡ length seat.me.0.gathered + 1))
  next-chief done pass taken next is =
      if_some _ _ taken.seat (λ seat chief. (
        chief.0.same ∙ sym (ap (λ (b : RunningBook). b.table) same),
        subst (λ (l : Listing). IsOwn l seat.me.0) (sym key_is) chief.0.own,
        chief.0.number,
        next.number ∙ sym (chief-long book done seat.table_id seat.me.0 chief.0),
      )) is.chief

-- the book when all were taken in
pub record IsShutBook (book : RunningBook) (passes : List PassToken)
    (made words : List ℕ) : Type 0 where
  pub complete : IsComplete book.listing words
  pub counts_are : made ≡ counts_of passes
  pub sum_is : sum made ≡ count book.listing

pub shut_book : {S : Type 0} (book : RunningBook) (passes : List PassToken) (taken : Taken)
    (key : Listing) (table : TableId) (id : ℕ)
    (v : View) (words : List ℕ) (slots : List S) → AreAtRest book passes
    → IsTaking book passes taken
    → IsChief book passes table v → key ≡ book.listing → Final (Seen (Rule key) id v) words slots
    → IsShutBook book passes taken.counts.items words
shut_book {S} book passes taken key table id v words slots atrest is chief same final =
    let all = atrest.all.count in
    let many = chief-long book passes table v chief in
    let made = chief.made in
    let made_is : v.made ≡ length v.gathered + 1 = omega (arith, all, many, made) in
    let whole =
    completes book.listing id v words slots chief.number chief.own.unspent chief.rests made_is
    (subst (λ (l : Listing). Final (Seen (Rule {S = S} l) id v) words slots) same final) in
    let long = is.long in
    let counts : taken.counts.items ≡ counts_of passes =
    sym (take_all (length passes) taken.counts.items (omega (arith, long, all))) ∙ is.counts in
    record {
      complete = whole.0;
      counts_are = counts;
      sum_is = ap sum (counts ∙ sym chief.counts)
          ∙ (sum_by-cons (λ (n : ℕ). n) v.mine v.gathered ∙ whole.1);
    }
