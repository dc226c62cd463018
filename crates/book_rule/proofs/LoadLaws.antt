-- The loads that may move a search on: of a profile word, of a start word, and of a floor.
use Rattle.std.proofs.Common.{◌≡◌, ◌≢◌, ℕ, ◌+◌, ◌*◌, ◌/◌, ◌<◌, ◌≤◌, ◌⊎◌, inl, inr, ◌||◌, ◌&&◌, true, false, nat_eq, nat_lt, [], ◌∷◌, ◌++◌, length, slice_index, refl, sym, subst, ◌∙◌, arith}
use Rattle.std.proofs.lemmas.Bool.{cond_both, cond-true, cases_Bool}
use Rattle.std.proofs.lemmas.Bool.Decides.{nat_tests}
use Rattle.std.proofs.lemmas.List.Elements.{All-nil, All-push}
use Rattle.std.specs.Prelude.{All}
use mathlib.Core.Option.{some}
use Rattle.capacity_profile.specs.Lanes.{lane_of}
use Rattle.atomic_table.specs.Table.{Me, Allows}
use Rattle.activity_net.specs.Network.{Listing}
use Rattle.book_rule.specs.declared.view.Search.{Search}
use Rattle.book_rule.specs.declared.view.View.{View}
use Rattle.book_rule.specs.Listed.{IsBookable, count, begins, width, horizon_of, level}
use Rattle.book_rule.specs.Searches.{after_start, after_word, after_floor, block_end}
use Rattle.book_rule.specs.Layout.{start_word, profile_word, floor_word, blocks}
use Rattle.book_rule.specs.Views.{kept_in, after_profile, after_start_word, after_floor_word}
use Rattle.book_rule.specs.Knowledge.{IsOwn}
use Rattle.book_rule.specs.Told.{Tells, Loaded, StartLoaded, FloorLoaded, IsStartWord}
use Rattle.book_rule.specs.Rule.{Stand, shown, start_value, CanStand, KeptFits, Knows, Rule}
use Rattle.book_rule.proofs.MoveLaws.{known}
use Rattle.book_rule.proofs.SearchCases.{start_cases, word_cases, floor_cases}
use Rattle.book_rule.proofs.SearchLaws.{after_word-seen, after_word-early, after_start-seen, after_start-early, after_floor-seen, after_floor-early, after_word-chosen, after_start-chosen, after_floor-chosen}
use Rattle.book_rule.proofs.StepLaws.{booked_within, shown_low, shown_high, shown_bare, shown_whole, begun_early, IsSameSearch, search_after, hand_after, knows_search, knows_kept, IsLeft, loads}

-- a load moves the search of no other position
same_after_word : (list : Listing) (p w x : ℕ) (s : Search)
    → IsSameSearch s (after_word list p w x s)
same_after_word list p w x s =
    word_cases list (IsSameSearch s) p w x s
    (λ at full. record { position = refl; ahead = refl; begun = refl })
    (λ at free. record { position = refl; ahead = refl; begun = refl })
    (record { position = refl; ahead = refl; begun = refl })

-- nor does a start word
same_after_start : (list : Listing) (j x : ℕ) (s : Search) → IsSameSearch s (after_start list j x s)
same_after_start list j x s =
    start_cases list (IsSameSearch s) j x s
    (λ next. record { position = refl; ahead = refl; begun = refl })
    (record { position = refl; ahead = refl; begun = refl })

-- nor a floor
same_after_floor : (list : Listing) (b w x : ℕ) (s : Search)
    → IsSameSearch s (after_floor list b w x s)
same_after_floor list b w x s =
    floor_cases list (IsSameSearch s) b w x s
    (λ at full. record { position = refl; ahead = refl; begun = refl })
    (record { position = refl; ahead = refl; begun = refl })

-- a pass whose search has moved on is left as it was
left_search : (list : Listing) (d : Stand) (last made seat : ℕ) (v : View) (r : Search)
    → v.spent ≡ false
    → Knows list d last made seat (record v { search = r })
    → IsLeft list d last made seat v (record v { search = r })
left_search list d last made seat v r unspent knows = record {
  same = record {
    own = refl;
    number = refl;
    made = refl;
    gathered = refl;
    unspent = (unspent, unspent);
    long = refl;
  };
  knows = knows;
  holds = refl;
  rests = refl;
  counts = refl;
}

module _ (list : Listing) (bookable : IsBookable list) (d : Stand) (stands : CanStand list d)
    (last made seat : ℕ) (v : View)
    (k : Knows list d last made seat v) where
  -- what is known of a pass once a profile word moved its search on
  knows_word : (p w x : ℕ) → w < width list → ((l : ℕ) → l < 4 → lane_of x l ≡ shown list d w l p)
      → Knows list d last made seat (record v { search = after_word list p w x v.search })
  knows_word p w x inside lanes =
      let s = v.search in
      let r = after_word list p w x s in
      let same = same_after_word list p w x s in
      let there = k.searched in
      let above = λ (g : ℕ) (early : g ≤ d.done) (l : ℕ) (low : l < 4).
      let h : level list g w l p ≤ lane_of x l =
      omega (arith, lanes l low, shown_low list bookable d stands g w l p early) in h in
      knows_search list d last made seat v k r same
      (λ holds.
      let fits = k.hand holds in
      hand_after list bookable d seat v.seen v.resting v.hand s r same
      (λ chosen. after_word-chosen list bookable p w x s chosen inside)
      (λ idle unstored early. after_word-early list bookable d.done p w x s
      (let most = booked_within list bookable d stands in omega arith) there inside
      (λ l low. omega (arith, lanes l low, shown_bare list bookable d stands w l p idle)) early)
      (after_word-seen list bookable d.done p w x s there inside (above d.done (omega arith))
      fits.backed) fits)
      (λ ahead.
      let fits = k.search (sym same.ahead ∙ ahead) in
      search_after list d s r same
      (after_word-seen list bookable (s.begun / 2) p w x s there inside
      (above (s.begun / 2) (begun_early list bookable d stands s fits)) fits.backed)
      (λ early. after_word-early list bookable (d.done + d.busy) p w x s
      (booked_within list bookable d stands) there inside
      (λ l low. omega (arith, lanes l low, shown_high list bookable d stands w l p))
      (fits.early early))
      fits)

  -- a start word of a position below the turn is the start plus 1
  due_start : (i : ℕ) → i < d.done → start_value list d i ≡ begins list i + 1
  due_start i past =
      let past_all : (nat_lt i d.done || (nat_eq i d.done && d.stored)) ≡ true =
      grind (arith, nat_tests) in
      cond-true (nat_lt i d.done || (nat_eq i d.done && d.stored)) (begins list i + 1) 0 past_all

  -- one that is not 0 is of such a position, or of the one in hand whose start is stored
  some_start : (i : ℕ) → 0 < start_value list d i
      → (i < d.done + d.busy) × ((d.stored ≡ false → i < d.done) ×
      (start_value list d i ≡ begins list i + 1))
  some_start i =
      let test = nat_lt i d.done || (nat_eq i d.done && d.stored) in
      cond_both test (begins list i + 1) 0
      (λ r. 0 < r → (i < d.done + d.busy) × ((d.stored ≡ false → i < d.done) ×
      (r ≡ begins list i + 1)))
      (λ is some. (by_now is, (λ unstored. by_done unstored is, refl)))
      (λ none some. absurd (omega arith))
    where
      by_done : d.stored ≡ false → (nat_lt i d.done || (nat_eq i d.done && d.stored)) ≡ true
          → i < d.done
      by_done unstored is = grind (arith, nat_tests)

      by_now : (nat_lt i d.done || (nat_eq i d.done && d.stored)) ≡ true → i < d.done + d.busy
      by_now is = elim (cases_Bool d.stored) [
        | inl stored ↦
            let busy : d.busy ≢ 0 = λ free. (let clash : true ≡ false =
            sym stored ∙ (stands.hand free).1 in cc) in
            let low : i ≤ d.done = grind (arith, nat_tests) in
            omega arith
        | inr unstored ↦ let low = by_done unstored is in omega arith
      ]

  -- what is known of a pass once a start word moved its search on
  knows_start : (j : ℕ) → j < count list
      → Knows list d last made seat (record v
      { search = after_start list j (start_value list d j) v.search })
  knows_start j inside =
      let s = v.search in
      let x = start_value list d j in
      let r = after_start list j x s in
      let same = same_after_start list j x s in
      let there = k.searched in
      knows_search list d last made seat v k r same
      (λ holds.
      let fits = k.hand holds in
      hand_after list bookable d seat v.seen v.resting v.hand s r same
      (λ chosen. after_start-chosen list bookable j x s chosen)
      (λ idle unstored early. after_start-early list bookable d.done j x s
      (let most = booked_within list bookable d stands in omega arith) there inside
      (λ some. let known = some_start j some in (known.1.0 unstored, known.1.1)) early)
      (after_start-seen list bookable d.done j x s inside (due_start j) fits.backed) fits)
      (λ ahead.
      let fits = k.search (sym same.ahead ∙ ahead) in
      let begun = begun_early list bookable d stands s fits in
      search_after list d s r same
      (after_start-seen list bookable (s.begun / 2) j x s inside (λ low. due_start j (omega arith))
      fits.backed)
      (λ early. after_start-early list bookable (d.done + d.busy) j x s
      (booked_within list bookable d stands) there inside
      (λ some. let known = some_start j some in (known.0, known.1.1)) (fits.early early))
      fits)

  -- what is known of a pass once a floor moved its search on
  knows_floor : (b w x : ℕ) → w < width list
      → ((p l : ℕ) → 32 * b ≤ p → p < block_end list b → l < 4 → lane_of x l ≤ shown list d w l p)
      → Knows list d last made seat (record v { search = after_floor list b w x v.search })
  knows_floor b w x inside lanes =
      let s = v.search in
      let r = after_floor list b w x s in
      let same = same_after_floor list b w x s in
      let there = k.searched in
      knows_search list d last made seat v k r same
      (λ holds.
      let fits = k.hand holds in
      hand_after list bookable d seat v.seen v.resting v.hand s r same
      (λ chosen. after_floor-chosen list bookable b w x s chosen inside)
      (λ idle unstored early. after_floor-early list bookable d.done b w x s
      (let most = booked_within list bookable d stands in omega arith) there inside
      (λ p l from below low. omega (
        arith,
        lanes p l from below low,
        shown_bare list bookable d
            stands w l p idle,
      )) early)
      (after_floor-seen list bookable d.done b w x s fits.backed) fits)
      (λ ahead.
      let fits = k.search (sym same.ahead ∙ ahead) in
      search_after list d s r same
      (after_floor-seen list bookable (s.begun / 2) b w x s fits.backed)
      (λ early. after_floor-early list bookable (d.done + d.busy) b w x s
      (booked_within list bookable d stands) there inside
      (λ p l from below low. omega (
        arith,
        lanes p l from below low,
        shown_high list bookable d
            stands w l p,
      )) (fits.early early))
      fits)

  -- and it is left as it was
  left_word : (p w x : ℕ) → v.spent ≡ false → w < width list
      → ((l : ℕ) → l < 4 → lane_of x l ≡ shown list d w l p)
      → IsLeft list d last made seat v (after_profile list v p w x)
  left_word p w x unspent inside lanes =
      let r = after_word list p w x v.search in
      let kept = kept_in v (p / 32) ++ record { period = p; index = w; value = x } ∷ [] in
      let value : KeptFits list d (record { period = p; index = w; value = x }) = record {
        within = inside;
        lanes = λ l low. omega (arith, lanes l low);
      } in
      let old : All (KeptFits list d) (kept_in v (p / 32)) =
      cond_both (nat_eq v.block (p / 32)) v.kept [] (All (KeptFits list d))
      (λ same. k.floors) (λ other. All-nil (KeptFits list d)) in
      let moved = knows_word p w x inside lanes in
      record {
        same = record {
          own = refl;
          number = refl;
          made = refl;
          gathered = refl;
          unspent = (unspent, unspent);
          long = refl;
        };
        knows = knows_kept list d last made seat (record v { search = r }) moved (v.loaded + 1)
            (p / 32) kept
            (All-push (KeptFits list d) (kept_in v (p / 32))
            (record { period = p; index = w; value = x }) old value);
        holds = refl;
        rests = refl;
        counts = refl;
      }

  -- what a start word tells
  start_told : (i : ℕ) → i < count list → IsStartWord list v.seen i (start_value list d i)
  start_told i there = record {
    value = cond_both (nat_lt i d.done || (nat_eq i d.done && d.stored)) (begins list i + 1) 0
        (λ r. (r ≡ 0) ⊎ (r ≡ begins list i + 1)) (λ is. inr refl) (λ not. inl refl);
    due = λ past. due_start i (let seen = k.turn in let one = stands.turn.0 in omega arith);
  }

module _ {S : Type 0} (list : Listing) (slots id : ℕ) (me : Me S View) (own : IsOwn list me.0) where
  -- word w of period p
  profile_at : (p w : ℕ) → p < horizon_of list → w < width list
      → Allows (Rule list) slots id me (profile_word list p w) (λ n. n) (Tells (Loaded p w) me)
  profile_at p w inside there =
      loads list slots id me own (Loaded p w) (λ x. after_profile list me.0 p w x)
      (profile_word list p w) (λ s rule here.
      let d = rule.stand in
      let x = slice_index s.words (profile_word list p w) in
      let lanes = λ (l : ℕ) (low : l < 4). rule.words.profile p w l inside there low in
      let k = known list s rule id me.0 here in (
        left_word list rule.bookable d rule.stands (length rule.chief.gathered) rule.chief.made id
            me.0 k p w x own.unspent there lanes,
        record {
          view = refl;
          low = λ l low. omega (
            arith,
            lanes l low,
            shown_whole list rule.bookable d rule.stands w
                l p,
          );
        },
      ))

  -- the start word of position i
  start_at : (i : ℕ) → i < count list
      → Allows (Rule list) slots id me (start_word i) (λ n. n) (Tells (StartLoaded i) me)
  start_at i there =
      loads list slots id me own (StartLoaded i) (λ x. after_start_word list me.0 i x)
      (start_word i) (λ s rule here.
      let d = rule.stand in
      let x = slice_index s.words (start_word i) in
      let is : x ≡ start_value list d i = rule.words.starts i there in
      let last = length rule.chief.gathered in
      let made = rule.chief.made in
      let k = known list s rule id me.0 here in
      let moved : Knows list d last made id (after_start_word list me.0 i x) =
      rw is (knows_start list rule.bookable d rule.stands last made id me.0 k i there) in (
        left_search list d last made id me.0 (after_start list i x me.0.search) own.unspent moved,
        record {
          view = refl;
          start = rw is (start_told list rule.bookable d rule.stands last made
              id me.0 k i there);
        },
      ))

  -- the floor of block b at index w
  floor_at : (b w : ℕ) → b < blocks list → w < width list
      → Allows (Rule list) slots id me (floor_word list b w) (λ n. n) (Tells (FloorLoaded b w) me)
  floor_at b w inside there =
      loads list slots id me own (FloorLoaded b w) (λ x. after_floor_word list me.0 b w x)
      (floor_word list b w) (λ s rule here.
      let d = rule.stand in
      let x = slice_index s.words (floor_word list b w) in
      let last = length rule.chief.gathered in
      let made = rule.chief.made in
      let k = known list s rule id me.0 here in
      let lanes : (p l : ℕ) → 32 * b ≤ p → p < block_end list b → l < 4 → lane_of x l ≤ shown list
      d w l p =
      λ p l from below low. rule.words.floors b w p l from below there low in
      let moved = knows_floor list rule.bookable d rule.stands last made id me.0 k b w x there
      lanes in (
        left_search list d last made id me.0 (after_floor list b w x me.0.search) own.unspent moved,
        record {
          view = refl;
          low = λ p from below l low.
              omega (
                arith,
                lanes p l from below low,
                shown_whole list rule.bookable d rule.stands
                    w l p,
              );
        },
      ))

  -- word w of period p; the play names them by other terms
  pub loads_profile : (p w p' w' word : ℕ) → p ≡ p' → w ≡ w' → p < horizon_of list → w < width list
      → word ≡ profile_word list p w
      → Allows (Rule list) slots id me word (λ n. n) (Tells (Loaded p' w') me)
  loads_profile p w p' w' word ep ew inside there at =
      subst (λ q. Allows (Rule list) slots id me word (λ n. n) (Tells (Loaded q w') me)) ep
      (subst (λ v. Allows (Rule list) slots id me word (λ n. n) (Tells (Loaded p v) me)) ew
      (subst (λ j. Allows (Rule list) slots id me j (λ n. n) (Tells (Loaded p w) me)) (sym at)
      (profile_at p w inside there)))

  -- the start word of position i
  pub loads_start : (i i' word : ℕ) → i ≡ i' → i < count list → word ≡ start_word i
      → Allows (Rule list) slots id me word (λ n. n) (Tells (StartLoaded i') me)
  loads_start i i' word ei there at =
      subst (λ j. Allows (Rule list) slots id me word (λ n. n) (Tells (StartLoaded j) me)) ei
      (subst (λ j. Allows (Rule list) slots id me j (λ n. n) (Tells (StartLoaded i) me)) (sym at)
      (start_at i there))

  -- the floor of block b at index w
  pub loads_floor : (b w b' w' word : ℕ) → b ≡ b' → w ≡ w' → b < blocks list → w < width list
      → word ≡ floor_word list b w
      → Allows (Rule list) slots id me word (λ n. n) (Tells (FloorLoaded b' w') me)
  loads_floor b w b' w' word eb ew inside there at =
      subst (λ c. Allows (Rule list) slots id me word (λ n. n) (Tells (FloorLoaded c w') me)) eb
      (subst (λ v. Allows (Rule list) slots id me word (λ n. n) (Tells (FloorLoaded b v) me)) ew
      (subst (λ j. Allows (Rule list) slots id me j (λ n. n) (Tells (FloorLoaded b w) me)) (sym at)
      (floor_at b w inside there)))
