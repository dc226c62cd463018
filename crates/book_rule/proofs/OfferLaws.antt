-- The steps that book nothing: tickets, offers, and floors that are stored.
use Rattle.std.proofs.Common.{◌≡◌, ◌≢◌, ℕ, max, ◌+◌, ◌*◌, ◌%◌, ◌<◌, ◌≤◌, inl, inr, true, false, nat_eq, if◌then◌else◌, List, length, slice_index, slice_set, get_or-set_same, get_or-set_other, refl, sym, ap, subst, ◌∙◌, arith}
use Rattle.std.proofs.lemmas.Bool.{cond_both, cond-true, cond-false, cases_eq}
use Rattle.std.proofs.lemmas.Bool.Decides.{nat_tests}
use Rattle.std.proofs.lemmas.List.{length-set}
use Rattle.std.proofs.lemmas.List.Elements.{All-contains}
use Rattle.capacity_profile.specs.Lanes.{lane_of}
use Rattle.atomic_table.specs.Table.{Me, Allows, keeps}
use Rattle.activity_net.specs.Network.{Listing}
use Rattle.book_rule.specs.declared.view.View.{View}
use Rattle.book_rule.specs.Listed.{IsBookable, count, begins, width, horizon_of}
use Rattle.book_rule.specs.Searches.{block_end}
use Rattle.book_rule.specs.Layout.{turn_word, ticket_word, start_word, offer_word, profile_word, floor_word, blocks}
use Rattle.book_rule.specs.Views.{after_ticket, after_offer, after_raise}
use Rattle.book_rule.specs.Knowledge.{IsOwn}
use Rattle.book_rule.specs.Told.{Tells, Drew, OfferLoaded, Raised, FloorStored, IsKeptFloor}
use Rattle.book_rule.specs.Rule.{Stand, turn_of, shown, start_value, FloorWords, Words, CanStand, KeptFits, Knows, Rule}
use Rattle.book_rule.proofs.WordLaws.{profile_word-inside, starts-other, offers-other, profile-other, floors-other, offers-at, floors-at}
use Rattle.book_rule.proofs.MoveLaws.{GoesOn, knows_on, hand_on, known, still}
use Rattle.book_rule.proofs.StepLaws.{tells, own_after, loads, writes}

-- the offers once the start x was offered for position i
abbrev raised : (ℕ → ℕ) → ℕ → ℕ → ℕ → ℕ
raised offers i x k = if nat_eq k i then max (offers k) x else offers k

-- no offer is above what neither the old nor the new one is above
raised-most : (offers : ℕ → ℕ) (i x k most : ℕ) → offers k ≤ most → (k ≡ i → x ≤ most)
    → raised offers i x k ≤ most
raised-most offers i x k most low there =
    cond_both (nat_eq k i) (max (offers k) x) (offers k) (λ r. r ≤ most)
    (λ is. let new : x ≤ most = there (grind (arith, nat_tests)) in omega arith) (λ not. low)

-- no offer falls
raised-from : (offers : ℕ → ℕ) (i x k : ℕ) → offers k ≤ raised offers i x k
raised-from offers i x k =
    cond_both (nat_eq k i) (max (offers k) x) (offers k) (λ r. offers k ≤ r) (λ is. omega arith)
    (λ not. omega arith)

-- the offer of position i is the greater one
raised-at : (offers : ℕ → ℕ) (i x k : ℕ) → k ≡ i → raised offers i x k ≡ max (offers k) x
raised-at offers i x k at =
    let is : nat_eq k i ≡ true = grind (arith, nat_tests) in cond-true (nat_eq k i)
    (max (offers k) x) (offers k) is

-- and every other offer stays
raised-other : (offers : ℕ → ℕ) (i x k : ℕ) → k ≢ i → raised offers i x k ≡ offers k
raised-other offers i x k apart =
    let not : nat_eq k i ≡ false = grind (arith, nat_tests) in cond-false (nat_eq k i)
    (max (offers k) x) (offers k) not

-- a change of a word that shows no turn, start, offer or level, where the floors still fit
words_set : (list : Listing) (d : Stand) (words : List ℕ) (j x : ℕ) → Words list d words
    → j ≢ turn_word
    → ((i : ℕ) → i < count list → j ≢ start_word i)
    → ((i : ℕ) → i < count list → j ≢ offer_word list i)
    → ((p w : ℕ) → p < horizon_of list → w < width list → j ≢ profile_word list p w)
    → FloorWords list (shown list d) (slice_set words j x) → Words list d (slice_set words j x)
words_set list d words j x was turn starts offers profile floors = record {
  wide = length-set words j x ∙ was.wide;
  turn = get_or-set_other words j turn_word x 0 (λ e. turn (sym e)) ∙ was.turn;
  starts = starts-other list words j x (start_value list d) was.starts starts;
  profile = profile-other list words j x (shown list d) was.profile profile;
  offers = offers-other list words j x d.offers was.offers offers;
  floors = floors;
}

module _ (list : Listing) (bookable : IsBookable list) (d : Stand) (stands : CanStand list d)
    (i x : ℕ) (there : i < count list) where
  -- where the book stands once a start is offered
  abbrev offered_stand : Stand
  offered_stand = record d { offers = raised d.offers i x }

  -- an offer that is no later than the serial start while its position is not begun
  offered_stands : (turn_of d ≤ 2 * i → x ≤ begins list i) → x < 4294967296
      → CanStand list offered_stand
  offered_stands low small = record {
    turn = stands.turn;
    hand = stands.hand;
    starts = stands.starts;
    profile = stands.profile;
    bounds = λ k inside early. raised-most d.offers i x k (begins list k)
        (stands.bounds k inside early)
        (λ e. let turn : turn_of d ≤ 2 * i = omega arith in rw e (low turn));
    offers = λ k inside.
        let was = stands.offers k inside in
        omega (arith, raised-most d.offers i x k 4294967295 (omega arith) (λ e. omega arith));
  }

  -- nothing that a pass may have seen falls
  offered_on : GoesOn list d offered_stand
  offered_on = record {
    done = omega arith;
    begun = omega arith;
    turn = omega arith;
    offers = λ k inside. raised-from d.offers i x k;
    shown = λ p w l column low. same_or_less (shown list d w l p);
  }
    where
      same_or_less : (n : ℕ) → n ≤ n
      same_or_less n = omega arith

  -- the words with that offer
  offered_words : (words : List ℕ) → Words list d words
      → Words list offered_stand (slice_set words (offer_word list i)
      (max (slice_index words (offer_word list i)) x))
  offered_words words was =
      let j = offer_word list i in
      let now = max (slice_index words j) x in
      record {
        wide = length-set words j now ∙ was.wide;
        turn = get_or-set_other words j turn_word now 0 (λ e. omega arith) ∙ was.turn;
        starts = starts-other list words j now (start_value list d) was.starts
            (λ k inside e. omega arith);
        profile = profile-other list words j now (shown list d) was.profile
            (λ p w row column e. omega arith);
        offers = offers-at list words j now i d.offers (raised d.offers i x) was.offers was.wide
            there refl
            (raised-at d.offers i x i refl ∙ ap (λ n. max n x) (sym (was.offers i there)))
            (λ k apart. raised-other d.offers i x k apart);
        floors = floors-other list words j now (shown list d) was.floors
            (λ b w block column e. omega arith);
      }

  -- what is known of the pass that offered it
  knows_offered : (last made seat : ℕ) (v : View) → v.spent ≡ false → Knows list d last made seat v
      → Knows list offered_stand last made seat (after_raise v i x)
  knows_offered last made seat v unspent was =
      let k = knows_on list bookable d offered_stand offered_on last made seat v
      (λ holds. hand_on list d offered_stand seat v (refl, refl, refl, refl, refl)
      (was.hand holds)) was in
      let long = (k.pass unspent).long in
      let now = max (slice_index v.offered i) x in
      record {
        pass = λ _. let p = k.pass unspent in record {
          same = p.same;
          long = length-set v.offered i now ∙ p.long;
          below = p.below;
          later = p.later;
        };
        spent = k.spent;
        turn = k.turn;
        searched = k.searched;
        hand = k.hand;
        search = k.search;
        found = k.found;
        bounds = k.bounds;
        offers = record {
          each = λ m inside. elim (cases_eq m i) [
            | inl at ↦
                let before = k.offers.each m inside in
                let here = raised-at d.offers i x m at in
                let old : slice_index v.offered m ≤ d.offers m = was.offers.each m inside in
                let new : slice_index (slice_set v.offered i now) m ≡ now =
                rw at (get_or-set_same v.offered i now 0 (omega arith)) in
                let same : slice_index v.offered m ≡ slice_index v.offered i =
                ap (slice_index v.offered) at in
                omega arith
            | inr apart ↦
                let before = k.offers.each m inside in
                let new = get_or-set_other v.offered i m now 0 apart in
                omega arith
          ];
          loaded = k.offers.loaded;
        };
        floors = k.floors;
        counts = k.counts;
      }

module _ {S : Type 0} (list : Listing) (slots id : ℕ) (me : Me S View) (own : IsOwn list me.0) where
  -- a ticket is drawn
  pub draws : Allows (Rule list) slots id me ticket_word (λ n. (n + 1) % 18446744073709551616)
      (Tells Drew me)
  draws =
      writes list slots id me own Drew (λ x. after_ticket me.0 x) ticket_word
      (λ n. (n + 1) % 18446744073709551616) (λ n. n)
      (λ s rule here.
      let x = slice_index s.words ticket_word in
      let k = known list s rule id me.0 here in (
        record {
          same = record {
            own = refl;
            number = refl;
            made = refl;
            gathered = refl;
            unspent = (own.unspent, own.unspent);
            long = refl;
          };
          knows = record {
            pass = k.pass;
            spent = k.spent;
            turn = k.turn;
            searched = k.searched;
            hand = k.hand;
            search = k.search;
            found = k.found;
            bounds = k.bounds;
            offers = k.offers;
            floors = k.floors;
            counts = k.counts;
          };
          holds = refl;
          rests = refl;
          counts = refl;
        },
        words_set list rule.stand s.words ticket_word ((x + 1) % 18446744073709551616) rule.words
            (λ e. omega arith)
            (λ i inside e. omega arith) (λ i inside e. omega arith)
            (λ p w row column e. omega arith)
            (floors-other list s.words ticket_word ((x + 1) % 18446744073709551616)
            (shown list rule.stand) rule.words.floors
            (λ b w block column e. omega arith)),
        refl,
      ))

  -- the offer for position i is loaded
  offer_at : (i : ℕ) → i < count list
      → Allows (Rule list) slots id me (offer_word list i) (λ n. n) (Tells (OfferLoaded i) me)
  offer_at i there =
      loads list slots id me own (OfferLoaded i) (λ x. after_offer me.0 i x) (offer_word list i)
      (λ s rule here.
      let d = rule.stand in
      let x = slice_index s.words (offer_word list i) in
      let is : x ≡ d.offers i = rule.words.offers i there in
      let small = rule.stands.offers i there in
      let k = known list s rule id me.0 here in
      let mine = k.offers.each i there in (
        record {
          same = record {
            own = refl;
            number = refl;
            made = refl;
            gathered = refl;
            unspent = (own.unspent, own.unspent);
            long = refl;
          };
          knows = record {
            pass = k.pass;
            spent = k.spent;
            turn = k.turn;
            searched = k.searched;
            hand = k.hand;
            search = k.search;
            found = k.found;
            bounds = k.bounds;
            offers = record { each = k.offers.each; loaded = λ inside. omega arith };
            floors = k.floors;
            counts = k.counts;
          };
          holds = refl;
          rests = refl;
          counts = refl;
        },
        record { view = refl; offered = omega arith; small = omega arith },
      ))

  -- the start that was found last is offered
  raise_at : (i x : ℕ) → i ≡ me.0.found.position → x ≡ me.0.found.start → x < 4294967296
      → Allows (Rule list) slots id me (offer_word list i) (λ n. max n x) (Tells (Raised i x) me)
  raise_at i x found is small = λ s rule homes here fits.
      let d = rule.stand in
      let v = me.0 in
      let k = known list s rule id v here in
      let there : i < count list = rw found k.found in
      let low : turn_of d ≤ 2 * i → x ≤ begins list i = rw (found, is) k.bounds in
      let e = offered_stand list rule.bookable d rule.stands i x there in
      let on = offered_on list rule.bookable d rule.stands i x there in
      let n = slice_index s.words (offer_word list i) in
      let words = slice_set s.words (offer_word list i) (max n x) in
      let w = after_raise v i x in
      let next : Rule list (record {
        words = words;
        homes = s.homes;
        views =
            slice_set s.views id w;
      }) =
      still list s rule id v here w e words
      (record {
        own = refl;
        number = refl;
        made = refl;
        gathered = refl;
        unspent = (own.unspent, own.unspent);
        long = length-set v.offered i (max (slice_index v.offered i) x);
      })
      (refl, refl, refl)
      (offered_stands list rule.bookable d rule.stands i x there low small)
      (offered_words list rule.bookable d rule.stands i x there s.words rule.words) on
      (knows_offered list rule.bookable d rule.stands i x there (length rule.chief.gathered)
      rule.chief.made id v own.unspent k)
      (λ j u apart at holds. hand_on list d e j u (refl, refl, refl, refl, refl)
      ((rule.each j u at).hand holds))
      refl refl refl in (
        w,
        keeps,
        tt,
        next,
        tells list slots id me own (Raised i x) n w refl
            (own_after list slots id me own words s w here own.unspent next),
      )

  -- a floor is stored
  floor_at : (b w floor : ℕ) → b < blocks list → w < width list → IsKeptFloor list me.0 b w floor
      → Allows (Rule list) slots id me (floor_word list b w) (λ _. floor)
      (λ _. Tells FloorStored me floor)
  floor_at b w floor inside there kept =
      writes list slots id me own FloorStored (λ x. me.0) (floor_word list b w) (λ _. floor)
      (λ _. floor) (λ s rule here.
      let d = rule.stand in
      let j = floor_word list b w in
      let k = known list s rule id me.0 here in
      let below : (p l : ℕ) → 32 * b ≤ p → p < block_end list b → l < 4 → lane_of floor l ≤ shown
      list d w l p =
      λ p l from before low.
      let (value, among, period, index, lanes) = kept p from before in
      let fits = All-contains (KeptFits list d) me.0.kept value k.floors among in
      let here = fits.lanes l low in
      let mine = lanes l low in
      let same : shown list d value.index l value.period ≡ shown list d w l p =
      ap (λ q. shown list d q l value.period) index ∙ ap (λ q. shown list d w l q) period in
      omega arith in (
        record {
          same = record {
            own = refl;
            number = refl;
            made = refl;
            gathered = refl;
            unspent = (own.unspent, own.unspent);
            long = refl;
          };
          knows = k;
          holds = refl;
          rests = refl;
          counts = refl;
        },
        words_set list d s.words j floor rule.words (λ e. omega arith)
            (λ i inside e. omega arith) (λ i inside e. omega arith)
            (λ p v row column e. let before = profile_word-inside list p v row column in omega
            arith)
            (floors-at list s.words j floor b w (shown list d) rule.words.floors rule.words.wide
            inside there refl below),
        refl,
      ))

  -- the offer for position i is loaded
  pub loads_offer : (i i' word : ℕ) → i ≡ i' → i < count list → word ≡ offer_word list i
      → Allows (Rule list) slots id me word (λ n. n) (Tells (OfferLoaded i') me)
  loads_offer i i' word ei there at =
      subst (λ k. Allows (Rule list) slots id me word (λ n. n) (Tells (OfferLoaded k) me)) ei
      (subst (λ j. Allows (Rule list) slots id me j (λ n. n) (Tells (OfferLoaded i) me)) (sym at)
      (offer_at i there))

  -- the start that was found last is offered
  pub raises_offer : (i i' start word : ℕ) → i ≡ i' → i ≡ me.0.found.position
      → start ≡ me.0.found.start
      → start < 4294967296 → word ≡ offer_word list i
      → Allows (Rule list) slots id me word (λ n. max n start) (Tells (Raised i' start) me)
  raises_offer i i' start word ei found is small at =
      subst (λ k. Allows (Rule list) slots id me word (λ n. max n start)
      (Tells (Raised k start) me)) ei
      (subst (λ j. Allows (Rule list) slots id me j (λ n. max n start) (Tells (Raised i start) me))
      (sym at)
      (raise_at i start found is small))

  -- a floor is stored that is below a kept value of each word of its block
  pub stores_floor : (b w floor word : ℕ) → b < blocks list → w < width list
      → IsKeptFloor list me.0 b w floor → word ≡ floor_word list b w
      → Allows (Rule list) slots id me word (λ _. floor) (λ _. Tells FloorStored me floor)
  stores_floor b w floor word inside there kept at =
      subst (λ j. Allows (Rule list) slots id me j (λ _. floor) (λ _. Tells FloorStored me floor))
      (sym at)
      (floor_at b w floor inside there kept)
