-- What the steps that move no turn have in common: what they leave of the rule, and what they tell.
use Rattle.std.proofs.Common.{◌≡◌, ℕ, ◌+◌, ◌*◌, ◌/◌, ◌≤◌, ◌⊎◌, inl, inr, List, length, slice_index, slice_set, Bool, true, false, refl, sym, ap, subst, ◌∙◌, arith}
use Rattle.std.proofs.lemmas.Bool.{cases_Bool}
use Rattle.std.specs.Prelude.{All}
use mathlib.Core.Option.{some}
use lib.ListN.{get_elem?}
use Rattle.atomic_table.specs.Table.{State, Me, Allows, keeps}
use Rattle.activity_net.specs.Network.{Listing}
use Rattle.book_rule.specs.declared.view.Search.{Search}
use Rattle.book_rule.specs.declared.view.Hand.{Hand}
use Rattle.book_rule.specs.declared.view.Kept.{Kept}
use Rattle.book_rule.specs.declared.view.View.{View}
use Rattle.book_rule.specs.Listed.{IsBookable, count, begins, least_of, level}
use Rattle.book_rule.specs.Reaches.{none_reached, share}
use Rattle.book_rule.specs.Searches.{IsSeen, is_chosen}
use Rattle.book_rule.specs.Knowledge.{IsOwn}
use Rattle.book_rule.specs.Told.{Tells}
use Rattle.book_rule.specs.Views.{weight}
use Rattle.book_rule.specs.Rule.{Stand, turn_of, shown, CanStand, Words, HandFits, SearchFits, KeptFits, Knows, Rule}
use Rattle.book_rule.proofs.ListedLaws.{level_more, level-up, least_of-own}
use Rattle.book_rule.proofs.ReachLaws.{share-none, share-below}
use Rattle.book_rule.proofs.MoveLaws.{GoesOn, IsSamePass, own_from_rule, still, quiet}
use Rattle.book_rule.proofs.ViewLaws.{set_there}

module _ (list : Listing) (bookable : IsBookable list) (d : Stand) (stands : CanStand list d) where
  -- what is booked by the next turn are positions of the list
  pub booked_within : d.done + d.busy ≤ count list
  booked_within = let one = stands.turn.0 in let most = stands.turn.1 in omega arith

  -- what a lane shows is at least what is booked
  pub shown_low : (g w l p : ℕ) → g ≤ d.done → level list g w l p ≤ shown list d w l p
  shown_low g w l p early = omega (arith, level-up list bookable g d.done w l p early)

  -- and at most what is booked with the position in hand
  pub shown_high : (w l p : ℕ) → shown list d w l p ≤ level list (d.done + d.busy) w l p
  shown_high w l p = elim (cases_busy d.busy stands.turn.0) [
    | inl none ↦
        let idle = (stands.hand none).0 in
        let bare : share list d.done d.added w l p ≡ 0 = rw idle (share-none list d.done w l p) in
        let up = level-up list bookable d.done (d.done + d.busy) w l p (omega arith) in
        omega arith
    | inr one ↦
        let part = share-below list d.done w l p d.added stands.profile.0 stands.profile.1 in
        let more = level_more list bookable d.done w l p
        (let most = stands.turn.1 in omega arith) in
        rw one (omega arith)
  ]
    where
      cases_busy : (n : ℕ) → n ≤ 1 → (n ≡ 0) ⊎ (n ≡ 1)
      cases_busy n low = grind arith

  -- and exactly what is booked while nothing was added
  pub shown_bare : (w l p : ℕ) → d.added ≡ none_reached
      → shown list d w l p ≡ level list d.done w l p
  shown_bare w l p idle =
      let bare : share list d.done d.added w l p ≡ 0 =
      rw idle (share-none list d.done w l p) in omega arith

  -- and never more than the whole schedule uses
  pub shown_whole : (w l p : ℕ) → shown list d w l p ≤ level list (count list) w l p
  shown_whole w l p =
      let up = level-up list bookable (d.done + d.busy) (count list) w l p booked_within in
      let high = shown_high w l p in omega arith

  -- what was booked as a search began is booked now
  pub begun_early : (s : Search) → SearchFits list d s → s.begun / 2 ≤ d.done
  begun_early s fits = let begun = fits.begun in let one = stands.turn.0 in omega arith

-- the same search, of whose position it is and when it began
pub record IsSameSearch (s r : Search) : Type 0 where
  pub position : r.position ≡ s.position
  pub ahead : r.ahead ≡ s.ahead
  pub begun : r.begun ≡ s.begun

-- a search ahead that a load moved on
pub search_after : (list : Listing) (d : Stand) (s r : Search) → IsSameSearch s r
    → IsSeen list (s.begun / 2) r
    → (turn_of d ≤ 2 * s.position → r.least ≤ least_of list (d.done + d.busy) s.position)
    → SearchFits list d s → SearchFits list d r
search_after list d s r same seen early fits = record {
  begun = rw same.begun fits.begun;
  backed = subst (λ b. IsSeen list (b / 2) r) (sym same.begun) seen;
  early = rw same.position early;
}

-- the search of a holder that a load moved on: once the start is chosen no load does
pub hand_after : (list : Listing) (bookable : IsBookable list) (d : Stand) (seat turn : ℕ)
    (resting : Bool) (hand : Hand)
    (s r : Search) → IsSameSearch s r → (is_chosen list s ≡ true → r ≡ s)
    → (d.added ≡ none_reached → d.stored ≡ false → s.least ≤ least_of list d.done s.position
    → r.least ≤ least_of list d.done s.position)
    → IsSeen list d.done r
    → HandFits list d seat turn resting hand s → HandFits list d seat turn resting hand r
hand_after list bookable d seat turn resting hand s r same chosen early seen fits =
    elim (cases_Bool (is_chosen list s)) [
      | inl is ↦ subst (HandFits list d seat turn resting hand) (sym (chosen is)) fits
      | inr not ↦
          let none = fits.unwritten not in
          let own : least_of list d.done s.position ≡ begins list d.done =
          ap (least_of list d.done) fits.position ∙ least_of-own list bookable d.done in
          let before = fits.early in
          let after = early none.0 none.1 (omega arith) in
          record {
            busy = fits.busy;
            own = fits.own;
            turn = fits.turn;
            awake = fits.awake;
            position = same.position ∙ fits.position;
            claimed = same.ahead ∙ fits.claimed;
            added = fits.added;
            stored = fits.stored;
            early = omega arith;
            backed = seen;
            unwritten = λ _. none;
          }
    ]

module _ (list : Listing) (d : Stand) (last made seat : ℕ) (v : View)
    (k : Knows list d last made seat v) where
  -- what is known of a view stays known once its search has moved on
  pub knows_search : (r : Search) → IsSameSearch v.search r
      → (v.hand.holds ≡ true → HandFits list d seat v.seen v.resting v.hand r)
      → (r.ahead ≡ true → SearchFits list d r)
      → Knows list d last made seat (record v { search = r })
  knows_search r same hand search = record {
    pass = k.pass;
    spent = k.spent;
    turn = k.turn;
    searched = rw same.position k.searched;
    hand = hand;
    search = search;
    found = k.found;
    bounds = k.bounds;
    offers = k.offers;
    floors = k.floors;
    counts = k.counts;
  }

  -- or once it keeps other values
  pub knows_kept : (loaded block : ℕ) (kept : List Kept) → All (KeptFits list d) kept
      → Knows list d last made seat (record v { loaded = loaded; block = block; kept = kept })
  knows_kept loaded block kept fits = record {
    pass = k.pass;
    spent = k.spent;
    turn = k.turn;
    searched = k.searched;
    hand = k.hand;
    search = k.search;
    found = k.found;
    bounds = k.bounds;
    offers = k.offers;
    floors = fits;
    counts = k.counts;
  }

-- what a step leaves of a pass, where it moves no turn
pub record IsLeft (list : Listing) (d : Stand) (last made seat : ℕ) (v w : View) : Type 0 where
  pub same : IsSamePass v w
  pub knows : Knows list d last made seat w
  pub holds : w.hand.holds ≡ v.hand.holds
  pub rests : w.resting ≡ v.resting
  pub counts : weight w ≡ weight v

module _ {S : Type 0} (list : Listing) (slots id : ℕ) (me : Me S View) (own : IsOwn list me.0) where
  -- what a step tells of the list, it tells of the list in the view
  pub tells : (told : Listing → View → ℕ → View → Type 0) (x : ℕ) (after : View)
      → told list me.0 x after → IsOwn list after → Tells told me x (after, me.1)
  tells told x after step mine = record {
    step = subst (λ z. told z me.0 x after) (sym own.same) step;
    own = subst (λ z. IsOwn z after) (sym own.same) mine;
    slots = refl;
  }

  -- a state that meets the rule shows what a pass knows of itself after its step
  pub own_after : (words : List ℕ) (s : State S View) (w : View) → get_elem? s.views id ≡ some me.0
      → w.spent ≡ false
      → Rule list (record { words = words; homes = s.homes; views = slice_set s.views id w })
      → IsOwn list w
  own_after words s w here unspent rule =
      own_from_rule list (record {
        words = words;
        homes = s.homes;
        views =
            slice_set s.views id w;
      }) rule id w
      (set_there s.views id me.0 w here) unspent

  -- a load is allowed where it leaves of the pass what it was, and what it tells is so
  pub loads : (told : Listing → View → ℕ → View → Type 0) (after : ℕ → View) (word : ℕ)
      → ((s : State S View) (rule : Rule list s) → get_elem? s.views id ≡ some me.0
      → IsLeft list rule.stand (length rule.chief.gathered) rule.chief.made id me.0
      (after (slice_index s.words word))
      × told list me.0 (slice_index s.words word) (after (slice_index s.words word)))
      → Allows (Rule list) slots id me word (λ n. n) (Tells told me)
  loads told after word step = λ s rule homes here small.
      let x = slice_index s.words word in
      let w = after x in
      let (left, is) = step s rule here in
      let next : Rule list (record {
        words = slice_set s.words word x;
        homes = s.homes;
        views =
            slice_set s.views id w;
      }) =
      quiet list s rule id me.0 here w word left.same left.knows left.holds left.rests
      left.counts in (
        w,
        keeps,
        tt,
        next,
        tells told x w is (own_after (slice_set s.words word x) s w here
            left.same.unspent.1 next),
      )

  -- a step that changes one word and leaves the book where it stands
  pub writes : (told : Listing → View → ℕ → View → Type 0) (after : ℕ → View) (word : ℕ)
      (f says : ℕ → ℕ)
      → ((s : State S View) (rule : Rule list s) → get_elem? s.views id ≡ some me.0
      → IsLeft list rule.stand (length rule.chief.gathered) rule.chief.made id me.0
      (after (slice_index s.words word))
      × Words list rule.stand (slice_set s.words word (f (slice_index s.words word)))
      × told list me.0 (says (slice_index s.words word)) (after (slice_index s.words word)))
      → Allows (Rule list) slots id me word f (λ n. Tells told me (says n))
  writes told after word f says step = λ s rule homes here small.
      let d = rule.stand in
      let x = slice_index s.words word in
      let w = after x in
      let words = slice_set s.words word (f x) in
      let (left, shows, is) = step s rule here in
      let on : GoesOn list d d = record {
        done = omega arith;
        begun = omega arith;
        turn = omega arith;
        offers = λ i inside. omega arith;
        shown = λ p v l column low. omega arith;
      } in
      let next : Rule list (record {
        words = words;
        homes = s.homes;
        views =
            slice_set s.views id w;
      }) =
      still list s rule id me.0 here w d words left.same (refl, refl, refl) rule.stands shows on
      left.knows
      (λ j u apart there holds. (rule.each j u there).hand holds) left.holds left.rests
      left.counts in (
        w,
        keeps,
        tt,
        next,
        tells told (says x) w is
            (own_after words s w here left.same.unspent.1 next),
      )
