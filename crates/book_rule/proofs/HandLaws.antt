-- The steps of a pass that holds: it adds its demand, stores its start, and releases its position.
use Rattle.std.proofs.Common.{◌≡◌, ℕ, ◌+◌, ◌*◌, ◌%◌, ◌<◌, ◌≤◌, ◌≢◌, List, [], ◌∷◌, true, false, true≢false, length, slice_index, slice_set, sym, refl, ap, ◌∙◌, subst, subst₂, arith, length-set, length-append, get_or-set_same, get_or-set_other}
use lib.ListN.{get_elem?}
use mathlib.Core.Option.{some}
use Rattle.std.proofs.lemmas.Bool.Decides.{nat_tests}
use Rattle.capacity_profile.specs.Lanes.{lane_of}
use Rattle.capacity_profile.proofs.LaneLaws.{lanes_add}
use Rattle.atomic_table.specs.Table.{State, Me, Allows, keeps}
use Rattle.activity_net.specs.Network.{Listing}
use Rattle.book_rule.specs.declared.view.Reach.{Reach}
use Rattle.book_rule.specs.declared.view.Hand.{Hand}
use Rattle.book_rule.specs.declared.view.View.{View}
use Rattle.book_rule.specs.Listed.{IsBookable, count, lasts, begins, width, horizon_of, need, level}
use Rattle.book_rule.specs.Reaches.{none_reached, next_reach, is_whole}
use Rattle.book_rule.specs.Searches.{is_chosen}
use Rattle.book_rule.specs.Layout.{turn_word, start_word, profile_word}
use Rattle.book_rule.specs.Views.{after_add, after_store, after_release}
use Rattle.book_rule.specs.Knowledge.{IsOwn, IsNextWord}
use Rattle.book_rule.specs.Told.{Tells, Added, Stored, Released}
use Rattle.book_rule.specs.Rule.{Stand, turn_of, shown, start_value, Words, CanStand, HandFits, Rule}
use Rattle.book_rule.proofs.ListedLaws.{count-small, begins-ends, room-small, level_more, level-within}
use Rattle.book_rule.proofs.WordLaws.{profile_word-inside, starts-other, offers-other, profile-other, floors-other, starts-at, profile-at, starts-same, profile-same, floors-up}
use Rattle.book_rule.proofs.ReachLaws.{share-none, share-here, share-other, share-up, share-below, share-whole, next_reach-within}
use Rattle.book_rule.proofs.ViewLaws.{set_there}
use Rattle.book_rule.proofs.MoveLaws.{GoesOn, search_goes_on, offers_go_on, kept_go_on, held_alone, known, written, moved, still}
use Rattle.book_rule.proofs.StepLaws.{tells, own_after}

-- where a period has a word, all words are reached once all periods are
whole-periods : (list : Listing) (c w : ℕ) (r : Reach) → w < width list → is_whole list c r ≡ true
    → r.periods ≡ lasts list c
whole-periods list c w r inside whole = grind (arith, nat_tests)

-- one word more of the position in hand is added
abbrev added_to : Listing → Stand → Stand
added_to list d = record d { added = next_reach (width list) d.added }

-- the next word of the position in hand, and an amount whose lanes are its demand
record IsNextAdd (list : Listing) (d : Stand) (words : List ℕ) (p w word amount : ℕ) : Type 0 where
  more : d.added.periods < lasts list d.done
  row : p ≡ begins list d.done + d.added.periods
  column : w ≡ d.added.words
  inside : w < width list
  below : d.done < count list
  at : word ≡ profile_word list p w
  lanes : (l : ℕ) → l < 4 → lane_of amount l ≡ need list d.done w l
  few : amount < 18446744073709551616
  small : slice_index words word < 18446744073709551616

-- what the word is before and after the amount is added
module _ (list : Listing) (bookable : IsBookable list) (d : Stand) (stands : CanStand list d)
    (words : List ℕ) (is : Words list d words) (p w word amount : ℕ)
    (next : IsNextAdd list d words p w word amount) where
  add-period : p < horizon_of list
  add-period = omega (arith, next.row, next.more, begins-ends list bookable d.done next.below)

  add-old : (l : ℕ) → l < 4 → lane_of (slice_index words word) l ≡ level list d.done w l p
  add-old l lane =
      let old = is.profile p w l add-period next.inside lane in
      let here = share-here list d.done w l p d.added next.row next.column next.inside in
      ap (λ (n : ℕ). lane_of (slice_index words n) l) next.at ∙ omega arith

  -- no lane overflows
  add-room : (l : ℕ) → l < 4 → lane_of (slice_index words word) l + lane_of amount l ≤ 65535
  add-room l lane =
      let further = next_reach-within list d.done d.added next.more in
      let here = (share-here list d.done w l p d.added next.row next.column next.inside).1 in
      let part = share-below list d.done w l p
      (next_reach (width list) d.added) further.0 further.1 in
      let all = level_more list bookable d.done w l p next.below in
      omega (
        arith,
        add-old l lane,
        next.lanes l lane,
        here,
        part,
        all,
        level-within list bookable (d.done + 1) w l p,
        room-small list bookable w l p,
      )

  add-sums : (l : ℕ) → l < 4
      → lane_of ((slice_index words word + amount) % 18446744073709551616) l
      ≡ shown list (added_to list d) w l p
  add-sums l lane =
      let sums = lanes_add (slice_index words word) amount next.small next.few add-room in
      let fits = sums.0 in
      let same : (slice_index words word + amount) % 18446744073709551616
      ≡ slice_index words word + amount = omega arith in
      let here = (share-here list d.done w l p d.added next.row next.column next.inside).1 in
      ap (λ (n : ℕ). lane_of n l) same
      ∙ omega (arith, sums.1 l lane, add-old l lane, next.lanes l lane, here)

  added-words : Words list (added_to list d)
      (slice_set words word ((slice_index words word + amount) % 18446744073709551616))
  added-words =
      let x = (slice_index words word + amount) % 18446744073709551616 in
      let e = added_to list d in
      let within = profile_word-inside list p w add-period next.inside in
      let floors = floors-other list words word x (shown list d) is.floors
      (λ b v blocks column e. omega arith) in
      record {
        wide = length-set words word x ∙ is.wide;
        turn = get_or-set_other words word 0 x 0 (λ e. omega arith) ∙ is.turn;
        starts = starts-other list words word x (start_value list d) is.starts
            (λ i there e. omega arith);
        profile = profile-at list words word x p w (shown list d)
            (shown list e) is.profile is.wide add-period next.inside next.at add-sums
            (λ q v l there lane apart.
            ap (λ (n : ℕ). level list d.done v l q + n)
            (share-other list d.done v w l p q d.added
            next.row next.column next.inside there apart));
        offers = offers-other list words word x d.offers is.offers (λ i there e. omega arith);
        floors = floors-up list (slice_set words word x) (shown list d) (shown list e) floors
            (λ q v l there lane. omega (arith, share-up list d.done v l q d.added));
      }

  added-stands : d.busy ≡ 1 → CanStand list (added_to list d)
  added-stands busy = record {
    turn = stands.turn;
    hand = λ none. absurd (omega arith);
    starts = λ stored.
        let whole = whole-periods list d.done w d.added next.inside (stands.starts stored) in
        absurd (omega (arith, whole, next.more));
    profile = next_reach-within list d.done d.added next.more;
    bounds = stands.bounds;
    offers = stands.offers;
  }

-- the book goes on by a word more
added-on : (list : Listing) (d : Stand) → GoesOn list d (added_to list d)
added-on list d = record {
  done = omega arith;
  begun = omega arith;
  turn = omega arith;
  offers = λ i there. omega arith;
  shown = λ p w l inside lane. omega (arith, share-up list d.done w l p d.added);
}

-- the start of the position in hand is stored
abbrev stored_in : Stand → Stand
stored_in d = record d { stored = true }

stored-words : (list : Listing) (d : Stand) (words : List ℕ) (word value : ℕ) → Words list d words
    → d.done < count list
    → word ≡ start_word d.done → value ≡ begins list d.done + 1
    → Words list (stored_in d) (slice_set words word value)
stored-words list d words word value is below at gives =
    record {
      wide = length-set words word value ∙ is.wide;
      turn = get_or-set_other words word 0 value 0 (λ e. omega arith) ∙ is.turn;
      starts = starts-at list words word value d.done (start_value list d)
          (start_value list (stored_in d)) is.starts is.wide below at
          (grind (arith, nat_tests)) (λ k apart. grind (arith, nat_tests));
      profile = profile-other list words word value (shown list d) is.profile
          (λ p w row column e. omega arith);
      offers = offers-other list words word value d.offers is.offers (λ i there e. omega arith);
      floors = floors-other list words word value (shown list d) is.floors
          (λ b w row column e. omega arith);
    }

stored-on : (list : Listing) (d : Stand) → GoesOn list d (stored_in d)
stored-on list d = record {
  done = omega arith;
  begun = omega arith;
  turn = omega arith;
  offers = λ i there. omega arith;
  shown = λ p w l inside lane. omega arith;
}

-- the position in hand is booked, and none is in hand
abbrev booked_in : Stand → Stand
booked_in d = record {
  done = d.done + 1;
  busy = 0;
  holder = 0;
  added = none_reached;
  stored = false;
  offers = d.offers;
}

module _ (list : Listing) (bookable : IsBookable list) (d : Stand) (stands : CanStand list d)
    (busy : d.busy ≡ 1) (stored : d.stored ≡ true) where
  release-below : d.done < count list
  release-below = let turn = stands.turn.1 in omega arith

  -- no lane changes
  shown-booked : (w l p : ℕ) → w < width list → shown list (booked_in d) w l p ≡ shown list d w l p
  shown-booked w l p inside =
      let more = level_more list bookable d.done w l p release-below in
      let none = share-none list (d.done + 1) w l p in
      let whole = share-whole list d.done w l p d.added inside
      (stands.starts stored) stands.profile.1 in
      omega arith

  booked-words : (words : List ℕ) → Words list d words
      → Words list (booked_in d) (slice_set words 0 (2 * d.done + 2))
  booked-words words is =
      let x = 2 * d.done + 2 in
      let e = booked_in d in
      let some : 0 < length words = let wide = is.wide in omega arith in
      let after = slice_set words 0 x in
      record {
        wide = length-set words 0 x ∙ is.wide;
        turn = get_or-set_same words 0 x 0 some ∙ omega arith;
        starts = starts-same list after (start_value list d) (start_value list e)
            (starts-other list words 0 x (start_value list d) is.starts (λ i there e. omega arith))
            (λ i there. grind (arith, nat_tests));
        profile = profile-same list after (shown list d) (shown list e)
            (profile-other list words 0 x (shown list d) is.profile
            (λ p w row column e. omega arith))
            (λ p w l inside lane. shown-booked w l p inside);
        offers = offers-other list words 0 x d.offers is.offers (λ i there e. omega arith);
        floors = floors-up list after (shown list d) (shown list e)
            (floors-other list words 0 x (shown list d) is.floors (λ b w row column e. omega arith))
            (λ p w l inside lane. omega (arith, shown-booked w l p inside));
      }

  booked-stands : CanStand list (booked_in d)
  booked-stands = record {
    turn = (omega arith, omega (arith, release-below));
    hand = λ none. (refl, refl);
    starts = λ none. absurd (true≢false (sym none));
    profile = (omega arith, λ none. refl);
    bounds = λ i there early. stands.bounds i there (omega arith);
    offers = stands.offers;
  }

  booked-on : GoesOn list d (booked_in d)
  booked-on = record {
    done = omega arith;
    begun = omega arith;
    turn = omega arith;
    offers = λ i there. omega arith;
    shown = λ p w l inside lane. omega (arith, shown-booked w l p inside);
  }

module _ {S : Type 0} (list : Listing) (s : State S View) (rule : Rule list s) (id : ℕ) (v : View)
    (here : get_elem? s.views id ≡ some v) (unspent : v.spent ≡ false)
    (holds : v.hand.holds ≡ true) where
  -- no other pass holds
  none_else : (e : Stand) (j : ℕ) (u : View) → j ≢ id → get_elem? s.views j ≡ some u
      → u.hand.holds ≡ true
      → HandFits list e j u.seen u.resting u.hand u.search
  none_else e j u apart there held =
      absurd (true≢false (sym held ∙ held_alone list s rule id v here holds j u apart there))

  -- a pass that holds has another hand, while the turn stands
  handled : (e : Stand) (words : List ℕ) (hand : Hand) → hand.holds ≡ true
      → (e.done ≡ rule.stand.done) × (e.busy ≡ rule.stand.busy) × (e.holder ≡ rule.stand.holder)
      → CanStand list e → Words list e words → GoesOn list rule.stand e
      → HandFits list e id v.seen v.resting hand v.search
      → Rule list (written s id words (record v { hand = hand }))
  handled e words hand full same stands is on fits =
      let knows = rule.each id v here in
      still list s rule id v here (record v { hand = hand }) e words
      (record {
        own = refl;
        number = refl;
        made = refl;
        gathered = refl;
        unspent = (unspent, unspent);
        long = refl;
      })
      same stands is on
      (record {
        pass = knows.pass;
        spent = λ gone. absurd (true≢false (sym gone ∙ unspent));
        turn = omega (arith, knows.turn, on.turn);
        searched = knows.searched;
        hand = λ _. fits;
        search = λ ahead. search_goes_on list rule.bookable rule.stand e on v.search knows.searched
            (knows.search ahead);
        found = knows.found;
        bounds = λ early. knows.bounds (omega (arith, on.turn));
        offers = offers_go_on list rule.bookable rule.stand e on v.offered v.adopted knows.offers;
        floors = kept_go_on list rule.bookable rule.stand e on v.kept knows.floors;
        counts = knows.counts;
      })
      (none_else e) (full ∙ sym holds) refl refl

  -- a pass that holds has released its position
  turn_released : v.hand.stored ≡ true
      → Rule list (written s id (slice_set s.words 0 (2 * rule.stand.done + 2)) (after_release v))
  turn_released stored =
      let d = rule.stand in
      let e = booked_in d in
      let w = after_release v in
      let knows = rule.each id v here in
      let fits = knows.hand holds in
      let busy = fits.busy in
      let is_stored : d.stored ≡ true = sym fits.stored ∙ stored in
      let on = booked-on list rule.bookable d rule.stands busy is_stored in
      let turn = fits.turn in
      moved list s rule id v here w e (slice_set s.words 0 (2 * d.done + 2))
      (record {
        own = refl;
        number = refl;
        made = refl;
        gathered = refl;
        unspent = (unspent, unspent);
        long = refl;
      })
      (booked-stands list rule.bookable d rule.stands busy is_stored)
      (booked-words list rule.bookable d rule.stands busy is_stored s.words rule.words)
      on
      (record {
        pass = knows.pass;
        spent = λ gone. absurd (true≢false (sym gone ∙ unspent));
        turn = omega arith;
        searched = knows.searched;
        hand = λ full. absurd (true≢false (sym full));
        search = λ ahead. search_goes_on list rule.bookable d e on v.search knows.searched
            (knows.search ahead);
        found = knows.found;
        bounds = λ early. knows.bounds (omega (arith, on.turn));
        offers = offers_go_on list rule.bookable d e on v.offered v.adopted knows.offers;
        floors = kept_go_on list rule.bookable d e on v.kept knows.floors;
        counts = omega (arith, length-append v.released (v.search.position ∷ []), knows.counts);
      })
      (none_else e)
      (λ one. absurd (omega arith))
      (λ open_yet. (id, (w, set_there s.views id v w here, refl)))
      (omega arith)

module _ {S : Type 0} (list : Listing) (slots id : ℕ) (me : Me S View) (own : IsOwn list me.0)
    (full : me.0.hand.holds ≡ true) where
  -- a pass whose start is chosen adds the demand of its activity to the next word
  pub adds : (p w word amount : ℕ) → is_chosen list me.0.search ≡ true
      → IsNextWord list me.0 p w → word ≡ profile_word list p w
      → ((l : ℕ) → l < 4 → lane_of amount l ≡ need list me.0.search.position w l)
      → amount < 18446744073709551616
      → Allows (Rule list) slots id me word (λ n. (n + amount) % 18446744073709551616)
      (Tells Added me)
  adds p w word amount chosen next at lanes few = λ s rule homes here small.
      let v = me.0 in
      let d = rule.stand in
      let e = added_to list d in
      let w' = after_add list v in
      let fits = (known list s rule id v here).hand full in
      let holder = own.hand full in
      let i : v.search.position ≡ d.done = fits.position in
      let searched = own.searched in
      let old : Reach = v.hand.added in
      let more : d.added.periods < lasts list d.done =
      subst₂ (λ (r : Reach) (c : ℕ). r.periods < lasts list c) fits.added i next.more in
      let from : begins list v.search.position ≡ begins list d.done = ap (begins list) i in
      let reached : v.hand.added.periods ≡ d.added.periods =
      ap (λ (r : Reach). r.periods) fits.added in
      let row : p ≡ begins list d.done + d.added.periods =
      omega (arith, next.period, holder.exact chosen, from, reached) in
      let column : w ≡ d.added.words = next.index ∙ ap (λ (r : Reach). r.words) fits.added in
      let below : d.done < count list = omega arith in
      let demands : (l : ℕ) → l < 4 → lane_of amount l ≡ need list d.done w l =
      λ l lane. lanes l lane ∙ ap (λ (c : ℕ). need list c w l) i in
      let sum = (slice_index s.words word + amount) % 18446744073709551616 in
      let words = slice_set s.words word sum in
      let this : IsNextAdd list d s.words p w word amount = record {
        more = more;
        row = row;
        column = column;
        inside = next.inside;
        below = below;
        at = at;
        lanes = demands;
        few = few;
        small = small;
      } in
      let is =
      added-words list rule.bookable d rule.stands s.words rule.words p w word amount this in
      let stands = added-stands list rule.bookable d rule.stands s.words rule.words p w word amount
      this fits.busy in
      let hand : HandFits list e id v.seen v.resting w'.hand v.search = record {
        busy = fits.busy;
        own = fits.own;
        turn = fits.turn;
        awake = fits.awake;
        position = fits.position;
        claimed = fits.claimed;
        added = ap (next_reach (width list)) fits.added;
        stored = fits.stored;
        early = fits.early;
        backed = fits.backed;
        unwritten = λ open_yet. absurd (true≢false (sym chosen ∙ open_yet));
      } in
      let rule' = handled list s rule id v here own.unspent full e words w'.hand full
      (refl, refl, refl) stands is
      (added-on list d) hand in (
        w',
        keeps,
        tt,
        rule',
        tells list slots id me own Added (slice_index s.words word) w' refl
            (own_after list slots id me own words s w' here own.unspent rule'),
      )

  -- one that has added to all words of its booking stores the start plus 1
  pub stores : (word value : ℕ) → is_chosen list me.0.search ≡ true
      → is_whole list me.0.search.position me.0.hand.added ≡ true
      → word ≡ start_word me.0.search.position → value ≡ me.0.search.least + 1
      → Allows (Rule list) slots id me word (λ _. value) (λ _. Tells Stored me value)
  stores word value chosen whole at gives = λ s rule homes here small.
      let v = me.0 in
      let d = rule.stand in
      let e = stored_in d in
      let w = after_store v in
      let fits = (known list s rule id v here).hand full in
      let holder = own.hand full in
      let i : v.search.position ≡ d.done = fits.position in
      let searched = own.searched in
      let below : d.done < count list = omega arith in
      let from : begins list v.search.position ≡ begins list d.done = ap (begins list) i in
      let words = slice_set s.words word value in
      let is = stored-words list d s.words word value rule.words below (at ∙ ap start_word i)
      (omega (arith, gives, holder.exact chosen, from)) in
      let all : is_whole list d.done d.added ≡ true =
      subst₂ (λ (c : ℕ) (r : Reach). is_whole list c r ≡ true) i fits.added whole in
      let stands : CanStand list e = record {
        turn = rule.stands.turn;
        hand = λ none. absurd (let busy = fits.busy in omega arith);
        starts = λ _. all;
        profile = rule.stands.profile;
        bounds = rule.stands.bounds;
        offers = rule.stands.offers;
      } in
      let hand : HandFits list e id v.seen v.resting w.hand v.search = record {
        busy = fits.busy;
        own = fits.own;
        turn = fits.turn;
        awake = fits.awake;
        position = fits.position;
        claimed = fits.claimed;
        added = fits.added;
        stored = refl;
        early = fits.early;
        backed = fits.backed;
        unwritten = λ open_yet. absurd (true≢false (sym chosen ∙ open_yet));
      } in
      let rule' = handled list s rule id v here own.unspent full e words w.hand full
      (refl, refl, refl) stands is
      (stored-on list d) hand in (
        w,
        keeps,
        tt,
        rule',
        tells list slots id me own Stored value w refl
            (own_after list slots id me own words s w here own.unspent rule'),
      )

  -- one that has stored its start releases its position
  pub releases : me.0.hand.stored ≡ true
      → Allows (Rule list) slots id me turn_word (λ n. (n + 1) % 18446744073709551616)
      (Tells Released me)
  releases stored = λ s rule homes here small.
      let v = me.0 in
      let d = rule.stand in
      let w = after_release v in
      let t = slice_index s.words turn_word in
      let now : t ≡ turn_of d = rule.words.turn in
      let fits = (known list s rule id v here).hand full in
      let busy = fits.busy in
      let turn = fits.turn in
      let within = rule.stands.turn.1 in
      let few = count-small list rule.bookable in
      let value : 2 * d.done + 2 ≡ (t + 1) % 18446744073709551616 = omega arith in
      let rule' = subst (λ (x : ℕ). Rule list (written s id (slice_set s.words 0 x) w))
      value (turn_released list s rule id v here own.unspent full stored) in
      let told : Released list v t w = record { view = refl; turn = omega arith } in (
        w,
        keeps,
        tt,
        rule',
        tells list slots id me own Released t w told
            (own_after list slots id me own (slice_set s.words 0 ((t + 1) % 18446744073709551616))
            s w here own.unspent rule'),
      )
