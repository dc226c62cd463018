-- The steps on the turn that take no position and release none: loads, and a claim.
use Rattle.std.proofs.Common.{◌≡◌, ℕ, List, Bool, ◌+◌, ◌*◌, ◌/◌, ◌%◌, ◌<◌, ◌≤◌, ◌==◌, ◌||◌, true, false, true≢false, nat_eq, if◌then◌else◌, length, slice_index, slice_set, sym, refl, ap, ◌∙◌, subst, arith, eq-eqb, ne_eqb, length-set, get_or-set_same}
use prog.Atomic.{either}
use lib.ListN.{get_elem?}
use mathlib.Core.Option.{some}
use mathlib.Core.Logic.{dite}
use native.Mathlib.Decide.{ℕ_discrete}
use Rattle.std.proofs.lemmas.Bool.Decides.{nat_tests}
use Rattle.std.proofs.lemmas.List.{set-get_or}
use Rattle.atomic_table.specs.Table.{State, Me, Allows, keeps}
use Rattle.activity_net.specs.Network.{Listing}
use Rattle.book_rule.specs.declared.view.Search.{Search}
use Rattle.book_rule.specs.declared.view.Found.{Found}
use Rattle.book_rule.specs.declared.view.View.{View}
use Rattle.book_rule.specs.Listed.{count, begins, least_of}
use Rattle.book_rule.specs.Searches.{IsSeen, new_search, known_search, is_chosen}
use Rattle.book_rule.specs.Layout.{turn_word}
use Rattle.book_rule.specs.Views.{lets_rest, after_turn, after_begin, after_end, after_claim_with, adopted_for, adopted_search}
use Rattle.book_rule.specs.Knowledge.{IsOwn}
use Rattle.book_rule.specs.Told.{Tells, Looked, Begun, Ended, ClaimedWith, Claimed, ClaimedKnown, IsEarlyAhead, IsLaterTurn}
use Rattle.book_rule.specs.Rule.{Stand, turn_of, shown, start_value, Words, CanStand, SearchFits, Knows, Rule}
use Rattle.book_rule.proofs.ListedLaws.{begins-ends, least_of-early}
use Rattle.book_rule.proofs.WordLaws.{starts-other, offers-other, profile-other, floors-other}
use Rattle.book_rule.proofs.SearchLaws.{chosen-low, known_search-seen}
use Rattle.book_rule.proofs.ViewLaws.{set_there, some_after}
use Rattle.book_rule.proofs.MoveLaws.{GoesOn, goes_nowhere, offers_go_on, kept_go_on, known, written, moved}
use Rattle.book_rule.proofs.StepLaws.{tells, own_after}

-- a new search has seen nothing yet
pub new_search-seen : (list : Listing) (g i : ℕ) (ahead : Bool) (turn from : ℕ)
    → IsSeen list g (new_search i ahead turn from)
new_search-seen list g i ahead turn from = record {
  after = λ k j none. absurd (omega arith);
  periods = λ p w l late early. absurd (omega arith);
  words = λ p w l at none. absurd (omega arith);
}

-- the words where the turn stands at an even number, and pass `seat` takes its position
abbrev taken : Stand → ℕ → Stand
taken d seat = record d { busy = 1; holder = seat }

taken-words : (list : Listing) (d : Stand) (seat : ℕ) (words : List ℕ) → Words list d words
    → Words list (taken d seat) (slice_set words 0 (2 * d.done + 1))
taken-words list d seat words is =
    let x = 2 * d.done + 1 in
    let some : 0 < length words = let wide = is.wide in omega arith in
    record {
      wide = length-set words 0 x ∙ is.wide;
      turn = get_or-set_same words 0 x 0 some;
      starts = starts-other list words 0 x (start_value list d) is.starts
          (λ i there e. omega arith);
      profile = profile-other list words 0 x (shown list d) is.profile
          (λ p w row column e. omega arith);
      offers = offers-other list words 0 x d.offers is.offers (λ i there e. omega arith);
      floors = floors-other list words 0 x (shown list d) is.floors
          (λ b w row column e. omega arith);
    }

-- the start that a claim begins at is no later than the start of its position
adopted-early : (list : Listing) (d : Stand) (last made seat : ℕ) (v : View) → CanStand list d
    → d.busy ≡ 0 → d.done < count list
    → Knows list d last made seat v → adopted_for v d.done ≤ begins list d.done
adopted-early list d last made seat v stands idle more knows =
    elim (nat_eq v.adopted.position d.done)
    as (λ b. nat_eq v.adopted.position d.done ≡ b
    → (if b then v.adopted.start else 0) ≤ begins list d.done) [
      | true ↦ λ e.
          let at : v.adopted.position ≡ d.done = grind (arith, nat_tests) in
          let offered = knows.offers.loaded (omega arith) in
          let bound = stands.bounds d.done more (omega arith) in
          omega (arith, offered, ap d.offers at, bound)
      | false ↦ λ e. omega arith
    ] refl

module _ {S : Type 0} (list : Listing) (s : State S View) (rule : Rule list s) (id : ℕ) (v : View)
    (here : get_elem? s.views id ≡ some v) (t : ℕ) (now : t ≡ turn_of rule.stand) where
  -- a loaded turn is no earlier than the one seen before
  later_turn : IsLaterTurn list v t
  later_turn =
      let later = (rule.each id v here).turn in
      let within = rule.stands.turn.1 in
      record { later = omega arith; within = omega arith }

  -- a search ahead of it is early
  search_early : IsEarlyAhead list v.search t
  search_early = λ ahead before.
      let d = rule.stand in
      let busy = rule.stands.turn.0 in
      let knows = rule.each id v here in
      let i = v.search.position in
      let booked_then : (t + 1) / 2 ≡ d.done + d.busy = omega arith in
      let least = (knows.search ahead).early (omega arith) in
      let start : v.search.least ≤ begins list i =
      omega (
        arith,
        least,
        least_of-early list rule.bookable (d.done + d.busy) i
            (omega arith) knows.searched,
      ) in
      record {
        least = subst (λ (c : ℕ). v.search.least ≤ least_of list c i) (sym booked_then) least;
        start = start;
        ends = omega (arith, start, begins-ends list rule.bookable i knows.searched);
      }

  -- while some position is not booked, some pass does not rest after one has seen the turn
  awake_after : (w : View) → v.hand.holds ≡ false → w.resting ≡ (v.resting || lets_rest list t)
      → t < 2 * count list
      → (j : ℕ) × ((u : View) × (get_elem? (slice_set s.views id w) j ≡ some u)
      × (u.resting ≡ false))
  awake_after w free rests more =
      let d = rule.stand in
      let busy = rule.stands.turn.0 in
      dite (ℕ_discrete d.busy 1)
      (λ one.
      let h = rule.held one in
      let awake = ((rule.each d.holder h.0 h.1).hand h.2).awake in
      let r = some_after (λ (u : View). (u.hand.holds ≡ true)
      × (u.resting ≡ false)) s.views id d.holder v w h.0 here
      (λ was. absurd (true≢false (sym was.0 ∙ free))) h.1 (h.2, awake) in
      (d.holder, (r.0, r.1, r.2.1)))
      (λ none.
      let idle : d.busy ≡ 0 = omega arith in
      let goes_on : lets_rest list t ≡ false = grind (arith, nat_tests) in
      let h = rule.awake (omega arith) in
      let r = some_after (λ (u : View). u.resting ≡ false) s.views id h.0 v w h.1.0 here
      (λ was. rests ∙ (ap (λ b. b || lets_rest list t) was ∙ goes_on)) h.1.1 h.1.2 in
      (h.0, r))

  -- a pass that holds nothing has loaded the turn, and may have another search and another find
  turn_loaded : (q : Search) (f : Found) → v.hand.holds ≡ false → v.spent ≡ false
      → q.position < count list → (q.ahead ≡ true → SearchFits list rule.stand q)
      → f.position < count list → (t ≤ 2 * f.position → f.start ≤ begins list f.position)
      → Rule list (written s id (slice_set s.words 0 (slice_index s.words 0))
      (record (after_turn list v t) { search = q; found = f }))
  turn_loaded q f free unspent inside ahead there bounds =
      let d = rule.stand in
      let w : View = record (after_turn list v t) { search = q; found = f } in
      let knows = rule.each id v here in
      moved list s rule id v here w d (slice_set s.words 0 (slice_index s.words 0))
      (record {
        own = refl;
        number = refl;
        made = refl;
        gathered = refl;
        unspent = (unspent, unspent);
        long = refl;
      })
      rule.stands
      (subst (Words list d) (sym (set-get_or s.words 0 0)) rule.words)
      (goes_nowhere list d)
      (record {
        pass = knows.pass;
        spent = λ gone. absurd (true≢false (sym gone ∙ unspent));
        turn = omega arith;
        searched = inside;
        hand = λ holds. absurd (true≢false (sym holds ∙ free));
        search = ahead;
        found = there;
        bounds = λ early. bounds (omega arith);
        offers = knows.offers;
        floors = knows.floors;
        counts = knows.counts;
      })
      (λ j u apart at. (rule.each j u at).hand)
      (λ busy.
      let h = rule.held busy in
      some_after (λ (u : View). u.hand.holds ≡ true) s.views id d.holder v w h.0 here
      (λ was. absurd (true≢false (sym was ∙ free))) h.1 h.2)
      (λ more. awake_after w free refl (omega arith))
      (omega arith)

  -- the adopted start is no later than that of the position that is due
  adopted_first : t % 2 ≡ 0 → t < 2 * count list → adopted_for v (t / 2) ≤ begins list (t / 2)
  adopted_first even more =
      let d = rule.stand in
      let busy = rule.stands.turn.0 in
      let idle : d.busy ≡ 0 = omega arith in
      let half : d.done ≡ t / 2 = omega arith in
      subst (λ (c : ℕ). adopted_for v c ≤ begins list c) half
      (adopted-early list d (length rule.chief.gathered) rule.chief.made id v rule.stands idle
      (omega arith) (rule.each id v here))

  -- a pass that holds nothing has claimed the turn, with this search of its position
  turn_claimed : (q : Search) → v.hand.holds ≡ false → v.spent ≡ false → t % 2 ≡ 0
      → t < 2 * count list → q.position ≡ t / 2 → q.ahead ≡ false → q.least ≤ begins list (t / 2)
      → IsSeen list (t / 2) q
      → Rule list (written s id (slice_set s.words 0 (t + 1)) (after_claim_with q v t))
  turn_claimed q free unspent even more position claimed early seen =
      let d = rule.stand in
      let e = taken d id in
      let w = after_claim_with q v t in
      let knows = rule.each id v here in
      let busy = rule.stands.turn.0 in
      let idle : d.busy ≡ 0 = omega arith in
      let bare = rule.stands.hand idle in
      let half : d.done ≡ t / 2 = omega arith in
      let on : GoesOn list d e = record {
        done = omega arith;
        begun = omega arith;
        turn = omega arith;
        offers = λ i there. omega arith;
        shown = λ p w l inside lane. omega arith;
      } in
      let there = set_there s.views id v w here in
      let word : 2 * d.done + 1 ≡ t + 1 = omega arith in
      moved list s rule id v here w e (slice_set s.words 0 (t + 1))
      (record {
        own = refl;
        number = refl;
        made = refl;
        gathered = refl;
        unspent = (unspent, unspent);
        long = refl;
      })
      (record {
        turn = (omega arith, omega arith);
        hand = λ none. absurd (omega arith);
        starts = rule.stands.starts;
        profile = rule.stands.profile;
        bounds = λ i inside early. rule.stands.bounds i inside (omega arith);
        offers = rule.stands.offers;
      })
      (subst (λ (x : ℕ). Words list e (slice_set s.words 0 x)) word
      (taken-words list d id s.words rule.words))
      on
      (record {
        pass = knows.pass;
        spent = λ gone. absurd (true≢false (sym gone ∙ unspent));
        turn = omega arith;
        searched = omega arith;
        hand = λ holds. record {
          busy = refl;
          own = refl;
          turn = omega arith;
          awake = refl;
          position = position ∙ sym half;
          claimed = claimed;
          added = sym bare.0;
          stored = sym bare.1;
          early = subst (λ (c : ℕ). q.least ≤ begins list c) (sym half) early;
          backed = subst (λ (c : ℕ). IsSeen list c q) (sym half) seen;
          unwritten = λ open_yet. bare;
        };
        search = λ ahead. absurd (true≢false (sym ahead ∙ claimed));
        found = knows.found;
        bounds = λ early. knows.bounds (omega arith);
        offers = offers_go_on list rule.bookable d e on v.offered v.adopted knows.offers;
        floors = kept_go_on list rule.bookable d e on v.kept knows.floors;
        counts = knows.counts;
      })
      (λ j u apart at holds. absurd (let other = ((rule.each j u at).hand holds).busy in
      omega arith))
      (λ one. (w, there, refl))
      (λ open_yet. (id, (w, there, refl)))
      (omega arith)

module _ {S : Type 0} (list : Listing) (slots id : ℕ) (me : Me S View) (own : IsOwn list me.0)
    (free : me.0.hand.holds ≡ false) where
  -- a pass that holds nothing loads the turn
  pub looks : Allows (Rule list) slots id me turn_word (λ n. n) (Tells Looked me)
  looks = λ s rule homes here small.
      let v = me.0 in
      let t = slice_index s.words turn_word in
      let now : t ≡ turn_of rule.stand = rule.words.turn in
      let knows = known list s rule id v here in
      let w = after_turn list v t in
      let next = turn_loaded list s rule id v here t now v.search v.found free own.unspent
      knows.searched knows.search knows.found (λ early. knows.bounds (omega arith)) in
      let told : Looked list v t w = record {
        view = refl;
        turn = later_turn list s rule id v here t now;
        early = search_early list s rule id v here t now;
      } in (
        w,
        keeps,
        tt,
        next,
        tells list slots id me own Looked t w told
            (own_after list slots id me own (slice_set s.words 0 t) s w here own.unspent next),
      )

  -- and begins a search of position i
  pub begins_search : (i : ℕ) → i < count list
      → Allows (Rule list) slots id me turn_word (λ n. n) (Tells (Begun i) me)
  begins_search i there = λ s rule homes here small.
      let v = me.0 in
      let t = slice_index s.words turn_word in
      let now : t ≡ turn_of rule.stand = rule.words.turn in
      let knows = known list s rule id v here in
      let w = after_begin list v i t in
      let begun : SearchFits list rule.stand (new_search i true t 0) = record {
        begun = omega arith;
        backed = new_search-seen list (t / 2) i true t 0;
        early = λ before. omega arith;
      } in
      let next = turn_loaded list s rule id v here t now
      (new_search i true t 0) v.found free own.unspent
      there (λ ahead. begun) knows.found (λ early. knows.bounds (omega arith)) in
      let told : Begun i list v t w = record {
        view = refl;
        turn =
            later_turn list s rule id v here t now;
      } in (
        w,
        keeps,
        tt,
        next,
        tells list slots id me own (Begun i) t w told
            (own_after list slots id me own (slice_set s.words 0 t) s w here own.unspent next),
      )

  -- and ends its search ahead
  pub ends_search : me.0.search.ahead ≡ true → is_chosen list me.0.search ≡ true
      → Allows (Rule list) slots id me turn_word (λ n. n) (Tells Ended me)
  ends_search ahead chosen = λ s rule homes here small.
      let v = me.0 in
      let t = slice_index s.words turn_word in
      let now : t ≡ turn_of rule.stand = rule.words.turn in
      let within = rule.stands.turn.1 in
      let knows = known list s rule id v here in
      let w = after_end list v t in
      let fits = knows.search ahead in
      let begun = fits.begun in
      let early = search_early list s rule id v here t now in
      let next = turn_loaded list s rule id v here t now w.search w.found free own.unspent
      knows.searched (λ more. absurd (true≢false (sym more))) knows.searched
      (λ before. (early ahead before).start) in
      let told : Ended list v t w = record {
        view = refl;
        turn = later_turn list s rule id v here t now;
        early = early;
        late = chosen-low list rule.bookable (v.search.begun / 2) v.search
            (omega arith) knows.searched fits.backed chosen;
      } in (
        w,
        keeps,
        tt,
        next,
        tells list slots id me own Ended t w told
            (own_after list slots id me own (slice_set s.words 0 t) s w here own.unspent next),
      )

  -- and claims the turn that it has seen, with a search of its position that is early and has
  -- seen what is so beside the bookings before it
  claims_with : (turn : ℕ) (search : Listing → View → Search) → turn ≡ me.0.seen → turn % 2 ≡ 0
      → turn < 2 * count list → (search list me.0).position ≡ turn / 2
      → (search list me.0).ahead ≡ false
      → ((s : State S View) (rule : Rule list s) → get_elem? s.views id ≡ some me.0
      → turn ≡ turn_of rule.stand
      → ((search list me.0).least ≤ begins list (turn / 2))
      × IsSeen list (turn / 2) (search list me.0))
      → Allows (Rule list) slots id me turn_word (λ n. either (n == turn) (turn + 1) n)
      (Tells (ClaimedWith search turn) me)
  claims_with turn search seen even more position claimed fits = λ s rule homes here small.
      let v = me.0 in
      let q = search list v in
      let t = slice_index s.words turn_word in
      let now : t ≡ turn_of rule.stand = rule.words.turn in
      let knows = known list s rule id v here in
      dite (ℕ_discrete t turn)
      (λ hit.
      let w = after_claim_with q v turn in
      let at : turn ≡ turn_of rule.stand = sym hit ∙ now in
      let fit = fits s rule here at in
      let won = turn_claimed list s rule id v here turn at q free own.unspent even more position
      claimed fit.0 fit.1 in
      let word : turn + 1 ≡ either (t == turn) (turn + 1) t =
      ap (λ b. either b (turn + 1) t) (sym (eq-eqb t turn hit)) in
      let next = subst (λ (x : ℕ). Rule list (written s id (slice_set s.words 0 x) w)) word won in
      let told : ClaimedWith search turn list v t w = record {
        won = λ _. refl;
        lost = λ miss. absurd (miss hit);
      } in (
        w,
        keeps,
        tt,
        next,
        tells list slots id me own (ClaimedWith search turn) t w told
            (own_after list slots id me own (slice_set s.words 0 (either (t == turn) (turn + 1) t))
            s w here own.unspent next),
      ))
      (λ miss.
      let w = after_turn list v t in
      let lost = turn_loaded list s rule id v here t now v.search v.found free own.unspent
      knows.searched knows.search knows.found (λ early. knows.bounds (omega arith)) in
      let word : t ≡ either (t == turn) (turn + 1) t =
      ap (λ b. either b (turn + 1) t) (sym (ne_eqb t turn miss)) in
      let next = subst (λ (x : ℕ). Rule list (written s id (slice_set s.words 0 x) w)) word lost in
      let later = later_turn list s rule id v here t now in
      let told : ClaimedWith search turn list v t w = record {
        won = λ hit. absurd (miss hit);
        lost = λ _. (refl, omega (arith, later.later), later.within);
      } in (
        w,
        keeps,
        tt,
        next,
        tells list slots id me own (ClaimedWith search turn) t w told
            (own_after list slots id me own (slice_set s.words 0 (either (t == turn) (turn + 1) t))
            s w here own.unspent next),
      ))

  -- that search begins at the adopted offer
  pub claims : (turn : ℕ) → turn ≡ me.0.seen → turn % 2 ≡ 0 → turn < 2 * count list
      → Allows (Rule list) slots id me turn_word (λ n. either (n == turn) (turn + 1) n)
      (Tells (Claimed turn) me)
  claims turn seen even more =
      claims_with turn (λ _ w. adopted_search w turn) seen even more refl refl (λ s rule here now. (
        adopted_first list s rule id me.0 here turn now even more,
        new_search-seen list (turn / 2) (turn / 2) false turn (adopted_for me.0 (turn / 2)),
      ))

  -- or its start is known
  pub claims_known : (turn start : ℕ) → start ≡ begins list (turn / 2) → turn ≡ me.0.seen
      → turn % 2 ≡ 0 → turn < 2 * count list
      → Allows (Rule list) slots id me turn_word (λ n. either (n == turn) (turn + 1) n)
      (Tells (ClaimedKnown turn start) me)
  claims_known turn start is seen even more =
      claims_with turn (λ l _. known_search l (turn / 2) turn start) seen even more refl refl
      (λ s rule here now. (
        omega arith,
        known_search-seen list rule.bookable (turn / 2) turn start (omega arith) is,
      ))
