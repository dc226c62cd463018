-- How a step carries the rule on: the book stands further on, one view changes, all others stand.
use Rattle.std.proofs.Common.{◌≡◌, ◌≢◌, ℕ, ◌+◌, ◌*◌, ◌<◌, ◌≤◌, List, length, slice_index, slice_set, true, false, sym, refl, ap, ◌∙◌, subst, subst₂, inl, inr, arith}
use mathlib.Core.Logic.{dite}
use native.Mathlib.Decide.{ℕ_discrete}
use Rattle.std.proofs.lemmas.List.{set-get_or}
use Rattle.std.proofs.lemmas.List.Elements.{All-weaker}
use Rattle.atomic_table.proofs.Lists.{at_set, set_else}
use Rattle.book_rule.specs.declared.view.Reach.{Reach}
use Rattle.book_rule.specs.Searches.{IsSeen}
use Rattle.book_rule.proofs.ListedLaws.{least_of-up, least_of-own, begins-ends}
use Rattle.book_rule.proofs.SearchLaws.{chosen-low}
use Rattle.book_rule.proofs.ViewLaws.{one_at, set_there, part-le-sum_by, sum_by-set_at, some_after}
use mathlib.Core.Option.{some}
use lib.ListN.{get_elem?}
use Rattle.atomic_table.specs.Table.{State}
use Rattle.activity_net.specs.Network.{Listing}
use Rattle.book_rule.specs.declared.view.Search.{Search}
use Rattle.book_rule.specs.declared.view.Offer.{Offer}
use Rattle.book_rule.specs.declared.view.Kept.{Kept}
use Rattle.book_rule.specs.declared.view.View.{View}
use Rattle.std.specs.Prelude.{All}
use Rattle.book_rule.specs.Listed.{IsBookable, count, lasts, begins, width}
use Rattle.book_rule.specs.Knowledge.{IsOwn}
use Rattle.book_rule.specs.Views.{weight}
use Rattle.book_rule.specs.Rule.{Stand, turn_of, shown, Words, CanStand, HandFits, SearchFits, OffersFit, KeptFits, Knows, SomeView, Rule}

-- nothing that a pass may have seen falls
pub record GoesOn (list : Listing) (d e : Stand) : Type 0 where
  pub done : d.done ≤ e.done
  pub begun : d.done + d.busy ≤ e.done + e.busy
  pub turn : turn_of d ≤ turn_of e
  pub offers : (i : ℕ) → i < count list → d.offers i ≤ e.offers i
  pub shown : (p w l : ℕ) → w < width list → l < 4 → shown list d w l p ≤ shown list e w l p

-- the state of a book whose words and the view of one seat are written
abbrev pub written : {S : Type 0} → State S View → ℕ → List ℕ → View → State S View
written s id words w = record { words = words; homes = s.homes; views = slice_set s.views id w }

-- a book that stands where it stood
pub goes_nowhere : (list : Listing) (d : Stand) → GoesOn list d d
goes_nowhere list d = record {
  done = omega arith;
  begun = omega arith;
  turn = omega arith;
  offers = λ i there. omega arith;
  shown = λ p w l inside lane. omega arith;
}

-- the same first pass
record IsSameChief (v w : View) : Type 0 where
  number : w.number ≡ v.number
  spent : w.spent ≡ v.spent
  made : w.made ≡ v.made
  gathered : w.gathered ≡ v.gathered

-- the same pass: what no step but a split or a join changes
pub record IsSamePass (v w : View) : Type 0 where
  pub own : w.list ≡ v.list
  pub number : w.number ≡ v.number
  pub made : w.made ≡ v.made
  pub gathered : w.gathered ≡ v.gathered
  pub unspent : (v.spent ≡ false) × (w.spent ≡ false)
  pub long : length w.offered ≡ length v.offered

module _ (list : Listing) (bookable : IsBookable list) (d e : Stand) (on : GoesOn list d e) where
  -- what was so of a search, a find, offers and kept values stays so
  pub search_goes_on : (s : Search) → s.position < count list → SearchFits list d s
      → SearchFits list e s
  search_goes_on s there fits = record {
    begun = omega (arith, fits.begun, on.turn);
    backed = fits.backed;
    early = λ ahead.
        let later = least_of-up list bookable (d.done + d.busy)
        (e.done + e.busy) s.position on.begun there in
        omega (arith, fits.early (omega (arith, on.turn)), later);
  }

  pub offers_go_on : (offered : List ℕ) (adopted : Offer) → OffersFit list d offered adopted
      → OffersFit list e offered adopted
  offers_go_on offered adopted fits = record {
    each = λ i there. omega (arith, fits.each i there, on.offers i there);
    loaded = λ there. omega (arith, fits.loaded there, on.offers adopted.position there);
  }

  pub kept_go_on : (kept : List Kept) → All (KeptFits list d) kept → All (KeptFits list e) kept
  kept_go_on kept fits = All-weaker (KeptFits list d) (KeptFits list e) (λ k fit. record {
    within = fit.within;
    lanes = λ l lane. omega (arith, fit.lanes l lane, on.shown k.period k.index l fit.within lane);
  }) kept fits

  -- all that is known of a view that holds nothing stays known
  pub knows_on : (last made seat : ℕ) (v : View)
      → (v.hand.holds ≡ true → HandFits list e seat v.seen v.resting v.hand v.search)
      → Knows list d last made seat v → Knows list e last made seat v
  knows_on last made seat v hand knows = record {
    pass = knows.pass;
    spent = knows.spent;
    turn = omega (arith, knows.turn, on.turn);
    searched = knows.searched;
    hand = hand;
    search = λ ahead. search_goes_on v.search knows.searched (knows.search ahead);
    found = knows.found;
    bounds = λ ahead. knows.bounds (omega (arith, on.turn));
    offers = offers_go_on v.offered v.adopted knows.offers;
    floors = kept_go_on v.kept knows.floors;
    counts = knows.counts;
  }

-- what a holder has in hand stays so, where no step of its own changes it
pub hand_on : (list : Listing) (d e : Stand) (seat : ℕ) (v : View)
    → (e.done ≡ d.done) × (e.busy ≡ d.busy) × (e.holder ≡ d.holder) × (e.added ≡ d.added)
    × (e.stored ≡ d.stored)
    → HandFits list d seat v.seen v.resting v.hand v.search
    → HandFits list e seat v.seen v.resting v.hand v.search
hand_on list d e seat v same fits = record {
  busy = same.1 ∙ fits.busy;
  own = fits.own ∙ sym same.2;
  turn = omega (arith, fits.turn, same.0, same.1);
  awake = fits.awake;
  position = fits.position ∙ sym same.0;
  claimed = fits.claimed;
  added = fits.added ∙ sym same.3;
  stored = fits.stored ∙ sym same.4;
  early = subst (λ (c : ℕ). v.search.least ≤ begins list c) (sym same.0) fits.early;
  backed = subst (λ (c : ℕ). IsSeen list c v.search) (sym same.0) fits.backed;
  unwritten = λ open_yet. (
    same.3 ∙ (fits.unwritten open_yet).0,
    same.4 ∙ (fits.unwritten open_yet).1,
  );
}

module _ {S : Type 0} (list : Listing) (s : State S View) (rule : Rule list s) (id : ℕ) (v : View)
    (here : get_elem? s.views id ≡ some v) where
  -- the view at a seat is known
  pub known : Knows list rule.stand (length rule.chief.gathered) rule.chief.made id v
  known = rule.each id v here

  -- a pass that holds is the only one
  pub held_alone : v.hand.holds ≡ true → (j : ℕ) (u : View) → j ≢ id → get_elem? s.views j ≡ some u
      → u.hand.holds ≡ false
  held_alone holds j u apart there =
      elim u.hand.holds as (λ b. u.hand.holds ≡ b → b ≡ false) [
        | true ↦ λ e.
            let other = (rule.each j u there).hand e in
            absurd (apart (other.own ∙ sym (known.hand holds).own))
        | false ↦ λ e. refl
      ] refl

  -- what each pass knows of itself follows from the rule
  pub own_from_rule : v.spent ≡ false → IsOwn list v
  own_from_rule unspent =
      let d = rule.stand in
      let pass = known.pass unspent in
      let turn = rule.stands.turn.1 in
      record {
        same = pass.same;
        unspent = unspent;
        seen = omega (arith, known.turn, turn);
        searched = known.searched;
        found = known.found;
        offered = pass.long;
        hand = λ holds.
            let fits = known.hand holds in
            let at = fits.position in
            let early : v.search.least ≤ begins list v.search.position =
            subst (λ (c : ℕ). v.search.least ≤ begins list c) (sym at) fits.early in
            let seen : IsSeen list v.search.position v.search =
            subst (λ (c : ℕ). IsSeen list c v.search) (sym at) fits.backed in
            let there = known.searched in
            let mine = part-le-sum_by weight s.views id v here in
            record {
              turn = omega (arith, fits.turn, fits.busy, at);
              claimed = fits.claimed;
              awake = fits.awake;
              early = early;
              exact = λ chosen.
                  let low = chosen-low list rule.bookable v.search.position v.search
                  (omega (arith, there)) there seen chosen in
                  omega (arith, low, least_of-own list rule.bookable v.search.position, early);
              ends = begins-ends list rule.bookable v.search.position there;
              within = subst (λ (c : ℕ). v.hand.added.periods ≤ lasts list c) (sym at)
                  (omega (arith, ap (λ (r : Reach). r.periods) fits.added, rule.stands.profile.0));
              few = omega (arith, mine, rule.counts, at, there);
            };
      }

  -- pass 0 stays the first pass
  chief_after : (w : View) → IsSamePass v w
      → (chief : View) × (get_elem? (slice_set s.views id w) 0 ≡ some chief)
      × IsSameChief rule.chief chief
  chief_after w same = dite (ℕ_discrete 0 id)
      (λ e.
      let at = subst (λ (k : ℕ). get_elem? s.views k ≡ some rule.chief) e rule.chief_is in
      let first : rule.chief ≡ v = one_at s.views id rule.chief v at here in
      let there : get_elem? (slice_set s.views id w) 0 ≡ some w =
      subst (λ (k : ℕ). get_elem? (slice_set s.views id w) k ≡ some w) (sym e)
      (set_there s.views id v w here) in (
        w,
        there,
        record {
          number = same.number ∙ ap (λ (x : View). x.number) (sym first);
          spent = same.unspent.1 ∙ (sym same.unspent.0 ∙ ap (λ (x : View). x.spent) (sym first));
          made = same.made ∙ ap (λ (x : View). x.made) (sym first);
          gathered = same.gathered ∙ ap (λ (x : View). x.gathered) (sym first);
        },
      ))
      (λ n. (
        rule.chief,
        set_else s.views id 0 w n ∙ rule.chief_is,
        record { number = refl; spent = refl; made = refl; gathered = refl },
      ))

  -- the step of one seat, by which the book stands further on
  pub moved : (w : View) (e : Stand) (words : List ℕ) → IsSamePass v w
      → CanStand list e → Words list e words → GoesOn list rule.stand e
      → Knows list e (length rule.chief.gathered) rule.chief.made id w
      → ((j : ℕ) (u : View) → j ≢ id → get_elem? s.views j ≡ some u → u.hand.holds ≡ true
      → HandFits list e j u.seen u.resting u.hand u.search)
      → (e.busy ≡ 1 → SomeView (written s id words w) e.holder (λ u. u.hand.holds ≡ true))
      → (turn_of e < 2 * count list
      → (j : ℕ) × SomeView (written s id words w) j (λ u. u.resting ≡ false))
      → weight w + rule.stand.done ≡ weight v + e.done
      → Rule list (written s id words w)
  moved w e words same stands is on knows hands held awake counts =
      let after = slice_set s.views id w in
      let chief = chief_after w same in
      record {
        bookable = rule.bookable;
        stand = e;
        stands = stands;
        words = is;
        chief = chief.0;
        chief_is = chief.1;
        first = (chief.2.number ∙ rule.first.0, chief.2.spent ∙ rule.first.1);
        each = λ seat u there.
            subst₂ (λ (gathered : List ℕ) (made : ℕ). Knows list e (length gathered) made seat u)
            (sym chief.2.gathered) (sym chief.2.made)
            (elim (at_set s.views id seat w u there) [
              | inl at ↦
                  let last = length rule.chief.gathered in
                  let made = rule.chief.made in
                  let knew = subst (λ (k : ℕ). Knows list e last made k w) (sym at.0) knows in
                  subst (λ (x : View). Knows list e last made seat x) at.1 knew
              | inr at ↦ knows_on list rule.bookable rule.stand e on
                  (length rule.chief.gathered) rule.chief.made seat u
                  (hands seat u at.0 at.1) (rule.each seat u at.1)
            ]);
        apart = λ i j u x n first second su sx.
            elim (at_set s.views id i w u first) [
              | inl one ↦ elim (at_set s.views id j w x second) [
                | inl two ↦ absurd (n (one.0 ∙ sym two.0))
                | inr two ↦ λ e.
                    rule.apart id j v x (λ e. two.0 (sym e)) here two.1 same.unspent.0 sx
                    (sym same.number ∙ (ap (λ (y : View). y.number) one.1 ∙ e))
              ]
              | inr one ↦ elim (at_set s.views id j w x second) [
                | inl two ↦ λ e.
                    rule.apart i id u v one.0 one.1 here su same.unspent.0
                    (e ∙ (sym (ap (λ (y : View). y.number) two.1) ∙ same.number))
                | inr two ↦ rule.apart i j u x n one.1 two.1 su sx
              ]
            ];
        held = held;
        awake = awake;
        counts = omega (arith, sum_by-set_at weight s.views id v w here, rule.counts, counts);
      }

  -- the same, where the turn and the holder stand: words and what was added may change
  pub still : (w : View) (e : Stand) (words : List ℕ) → IsSamePass v w
      → (e.done ≡ rule.stand.done) × (e.busy ≡ rule.stand.busy) × (e.holder ≡ rule.stand.holder)
      → CanStand list e → Words list e words → GoesOn list rule.stand e
      → Knows list e (length rule.chief.gathered) rule.chief.made id w
      → ((j : ℕ) (u : View) → j ≢ id → get_elem? s.views j ≡ some u → u.hand.holds ≡ true
      → HandFits list e j u.seen u.resting u.hand u.search)
      → w.hand.holds ≡ v.hand.holds → w.resting ≡ v.resting → weight w ≡ weight v
      → Rule list (written s id words w)
  still w e words same turn stands is on knows hands holds rests counts =
      moved w e words same stands is on knows hands
      (λ busy.
      let h = rule.held (sym turn.1 ∙ busy) in
      subst (λ (k : ℕ). SomeView (written s id words w) k (λ u. u.hand.holds ≡ true))
      (sym turn.2)
      (some_after (λ (u : View). u.hand.holds ≡ true) s.views id rule.stand.holder v w h.0 here
      (λ was. holds ∙ was) h.1 h.2))
      (λ more.
      let h = rule.awake (omega (arith, turn.0, turn.1)) in (
        h.0,
        some_after (λ (u : View). u.resting ≡ false) s.views id h.0 v w h.1.0 here
            (λ was. rests ∙ was) h.1.1 h.1.2,
      ))
      (omega (arith, turn.0, counts))

  -- the same, where nothing changes but the view: a load
  pub quiet : (w : View) (j : ℕ) → IsSamePass v w
      → Knows list rule.stand (length rule.chief.gathered) rule.chief.made id w
      → w.hand.holds ≡ v.hand.holds → w.resting ≡ v.resting → weight w ≡ weight v
      → Rule list (written s id (slice_set s.words j (slice_index s.words j)) w)
  quiet w j same knows holds rests counts =
      let d = rule.stand in
      still w d (slice_set s.words j (slice_index s.words j)) same (refl, refl, refl) rule.stands
      (subst (Words list d) (sym (set-get_or s.words j 0)) rule.words) (goes_nowhere list d) knows
      (λ k u apart there. (rule.each k u there).hand) holds rests counts
