-- What is known of the views as pass 0 makes one more, or takes one in.
use Rattle.std.proofs.Common.{◌≡◌, ◌≢◌, ℕ, ◌+◌, ◌<◌, true, false, refl, sym, ◌∙◌, arith}
use Rattle.std.proofs.lemmas.List.{length-replicate}
use Rattle.std.proofs.lemmas.List.Elements.{All-nil}
use mathlib.Core.Option.{some}
use Rattle.activity_net.specs.Network.{Listing}
use Rattle.book_rule.specs.declared.view.View.{View}
use Rattle.book_rule.specs.Listed.{IsBookable, count}
use Rattle.book_rule.specs.Views.{after_split, split_off, after_join, spent_view}
use Rattle.book_rule.specs.Rule.{Stand, SeatFits, KeptFits, Knows}
use Rattle.book_rule.proofs.ListedLaws.{count-some}
use Rattle.book_rule.proofs.OpenLaws.{zero_word}

module _ (list : Listing) (d : Stand) (last made : ℕ) where
  -- what is known of a view stays known where it still fits its seat
  pub knows_at : (next more seat : ℕ) (v : View) → Knows list d last made seat v
      → (v.spent ≡ false → SeatFits list next more seat v.number v.list v.offered v.gathered)
      → Knows list d next more seat v
  knows_at next more seat v k pass = record {
    pass = pass;
    spent = k.spent;
    turn = k.turn;
    searched = k.searched;
    hand = k.hand;
    search = k.search;
    found = k.found;
    bounds = k.bounds;
    offers = k.offers;
    floors = k.floors;
    counts = k.counts;
  }

  -- a pass still fits its seat as one pass more is made
  pub fits_more : (seat : ℕ) (v : View)
      → SeatFits list last made seat v.number v.list v.offered v.gathered
      → SeatFits list last (made + 1) seat v.number v.list v.offered v.gathered
  fits_more seat v fits = record {
    same = fits.same;
    long = fits.long;
    below = (let below = fits.below in omega arith);
    later = fits.later;
  }

  -- what is known of a view stays known as one pass more is made
  pub knows_more : (seat : ℕ) (v : View) → Knows list d last made seat v
      → Knows list d last (made + 1) seat v
  knows_more seat v k = knows_at last (made + 1) seat v k
      (λ unspent. fits_more seat v (k.pass unspent))

  -- what is known of a view stays known as the next pass by number is taken in, which is another
  pub knows_later : (seat : ℕ) (v : View) → seat ≢ 0 → (v.spent ≡ false → v.number ≢ last + 1)
      → Knows list d last made seat v → Knows list d (last + 1) made seat v
  knows_later seat v apart other k = knows_at (last + 1) made seat v k (λ unspent.
      let fits = k.pass unspent in
      let low = (fits.later apart).0 in
      let ne = other unspent in
      record {
        same = fits.same;
        long = fits.long;
        below = fits.below;
        later = λ _.
            (omega arith, (fits.later apart).1);
      })

  -- pass 0 once it has made one pass more
  pub knows_split : (v : View) → v.spent ≡ false → Knows list d last made 0 v
      → Knows list d last (made + 1) 0 (after_split v)
  knows_split v unspent k =
      let more = knows_more 0 v k in
      record {
        pass = more.pass;
        spent = more.spent;
        turn = more.turn;
        searched = more.searched;
        hand = more.hand;
        search = more.search;
        found = more.found;
        bounds = more.bounds;
        offers = more.offers;
        floors = more.floors;
        counts = more.counts;
      }

  -- the new pass
  pub knows_new : (seat : ℕ) (v : View) → IsBookable list → v.list ≡ list → last < made
      → v.made ≡ made
      → Knows list d last (made + 1) seat (split_off v)
  knows_new seat v bookable same below is =
      let some = count-some list bookable in
      record {
        pass = λ unspent. record {
          same = same;
          long = rw same (length-replicate (count list) 0);
          below = omega arith;
          later = λ apart. (omega arith, refl);
        };
        spent = λ h. cc;
        turn = omega arith;
        searched = some;
        hand = λ h. cc;
        search = λ h. cc;
        found = some;
        bounds = λ early. omega arith;
        offers = record {
          each = λ i there. let none = zero_word (count v.list) i in omega arith;
          loaded = λ there. omega arith;
        };
        floors = All-nil (KeptFits list d);
        counts = refl;
      }

  -- pass 0 once it has taken in another
  pub knows_joined : (v w : View) → v.spent ≡ false → Knows list d last made 0 v
      → Knows list d (last + 1) made 0 (after_join v w)
  knows_joined v w alive k =
      let fits = k.pass alive in
      record {
        pass = λ unspent. record {
          same = fits.same;
          long = fits.long;
          below = fits.below;
          later = λ apart. absurd (apart refl);
        };
        spent = λ spent. absurd (let clash : true ≡ false = sym spent ∙ alive in cc);
        turn = k.turn;
        searched = k.searched;
        hand = k.hand;
        search = k.search;
        found = k.found;
        bounds = k.bounds;
        offers = k.offers;
        floors = k.floors;
        counts = k.counts;
      }

  -- what is left of a pass that was taken in
  pub knows_spent : (seat : ℕ) → IsBookable list → Knows list d (last + 1) made seat spent_view
  knows_spent seat bookable =
      let some = count-some list bookable in
      record {
        pass = λ h. cc;
        spent = λ h. (refl, refl, refl);
        turn = omega arith;
        searched = some;
        hand = λ h. cc;
        search = λ h. cc;
        found = some;
        bounds = λ early. omega arith;
        offers = record {
          each = λ i there. let none = zero_word 0 i in omega arith;
          loaded = λ there. omega arith;
        };
        floors = All-nil (KeptFits list d);
        counts = refl;
      }
