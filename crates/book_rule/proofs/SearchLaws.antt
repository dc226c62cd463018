-- One search alone: what is true of it stays true as it goes on, and it never passes a least start.
use Rattle.std.proofs.Common.{◌≡◌, ℕ, ◌+◌, ◌*◌, ◌<◌, ◌≤◌, ◌⊎◌, inl, inr, true, refl, sym, ◌∙◌, arith}
use Rattle.std.proofs.lemmas.Bool.{cases_lt}
use Rattle.std.proofs.lemmas.Bool.Decides.{nat_tests}
use Rattle.capacity_profile.specs.Lanes.{lane_of, exceeds}
use Rattle.activity_net.specs.Network.{Listing}
use Rattle.book_rule.specs.declared.view.Search.{Search}
use Rattle.book_rule.specs.Listed.{IsBookable, count, activity_at, lasts, begins, least_of, width, need, room, level}
use Rattle.book_rule.specs.Listed.{before}
use Rattle.book_rule.specs.Reaches.{none_reached, next_reach}
use Rattle.book_rule.specs.Searches.{IsSeen, known_search, is_chosen, is_full, block_end, after_start, after_word, after_floor}
use Rattle.book_rule.proofs.ListedLaws.{least_of-own, least_of-room, least_of-after, least_of-low, position-one}
use Rattle.book_rule.proofs.SearchCases.{reach_cases, chosen-read, chosen-whole, least_after, least_after-from, least_after-end, least_after-most, start_cases, word_cases, floor_cases, full_lane, room_lanes, block_full-each}

-- the tests of the code are those of the definitions
pub is_full-exceeds : (list : Listing) (i p w x demand capacity : ℕ)
    → ((l : ℕ) → l < 4 → lane_of demand l ≡ need list i w l)
    → ((l : ℕ) → l < 4 → lane_of capacity l ≡ room list w l p)
    → is_full list i p w x ≡ exceeds x demand capacity
unfolding is_full
is_full-exceeds list i p w x demand capacity needs rooms =
    let n0 = needs 0 (omega arith) in
    let n1 = needs 1 (omega arith) in
    let n2 = needs 2 (omega arith) in
    let n3 = needs 3 (omega arith) in
    let r0 = rooms 0 (omega arith) in
    let r1 = rooms 1 (omega arith) in
    let r2 = rooms 2 (omega arith) in
    let r3 = rooms 3 (omega arith) in
    rw (n0, n1, n2, n3, r0, r1, r2, r3) refl

-- a number below the next one is below or at this one
below_or_at : (n k : ℕ) → n < k + 1 → (n < k) ⊎ (n ≡ k)
below_or_at n k below = grind arith

-- a search whose start is known has chosen it
pub known_search-chosen : (list : Listing) (i turn start : ℕ)
    → is_chosen list (known_search list i turn start) ≡ true
known_search-chosen list i turn start = grind (arith, nat_tests)

module _ (list : Listing) (bookable : IsBookable list) where
  -- a search whose start is chosen has not passed the least start beside what it has seen
  pub chosen-low : (g : ℕ) (s : Search) → g ≤ count list → s.position < count list → IsSeen list g s
      → is_chosen list s ≡ true → least_of list g s.position ≤ s.least
  chosen-low g s within there seen chosen =
      let read = chosen-read list s chosen in
      least_of-low list bookable g s.position s.least within there
      (λ k j of booked same. seen.after k j (omega arith) booked (omega arith) same)
      (λ p w l from below inside lane.
      let whole = chosen-whole list s chosen (omega arith) in
      seen.periods p w l from (omega arith) inside lane)

  -- a word that is at most what is booked by e, and leaves no room in a period that the activity
  -- would run in, excludes all starts up to that period
  pub full-later : (e i from p w x : ℕ) → e ≤ count list → i < count list → w < width list
      → ((l : ℕ) → l < 4 → lane_of x l ≤ level list e w l p)
      → is_full list i p w x ≡ true → from ≤ least_of list e i → from ≤ p → p < from + lasts list i
      → p + 1 ≤ least_of list e i
  full-later e i from p w x within there inside below full early later runs =
      let (l, lane, high) = full_lane list i p w x full in
      let low = below l lane in
      elim (cases_lt p (least_of list e i)) [
        | inl before ↦ omega arith
        | inr late ↦
            let free = least_of-room list bookable e i there p w l late (omega arith) inside lane in
            absurd (omega arith)
      ]

  -- a search whose start is known has seen what is so beside the bookings before its position
  pub known_search-seen : (i turn start : ℕ) → i < count list → start ≡ begins list i
      → IsSeen list i (known_search list i turn start)
  known_search-seen i turn start there is =
      let own = least_of-own list bookable i in
      let room = least_of-room list bookable i i there in
      record {
        after = λ k j read booked inside same.
            let ended = least_of-after list bookable i i j k (omega arith) booked there read same in
            omega arith;
        periods = λ p w l from below inside lane. room p w l (omega arith) (omega arith) inside
            lane;
        words = λ p w l at none. absurd (omega arith);
      }

  -- a search that moved on to a later least start has seen no room from there on
  moved_seen : (g r : ℕ) (s : Search) → s.least ≤ r → IsSeen list g s
      → IsSeen list g (record s { least = r; free = none_reached })
  moved_seen g r s later seen = record {
    after = λ k j read booked there same. omega (arith, seen.after k j read booked there same);
    periods = λ p w l from below inside lane. omega arith;
    words = λ p w l at below inside lane. omega arith;
  }

  -- a search that has read one predecessor more, and moved to its end or later
  read_seen : (g j r : ℕ) (s : Search) → s.least ≤ r → j < count list
      → activity_at list j ≡ before list s.position s.read
      → (j < g → begins list j + lasts list j ≤ r)
      → IsSeen list g s
      → IsSeen list g (record s { read = s.read + 1; free = none_reached; least = r })
  read_seen g j r s later there of ends seen = record {
    after = λ k m read booked inside same. elim (below_or_at k s.read read) [
      | inl old ↦ omega (arith, seen.after k m old booked inside same)
      | inr now ↦
          let next : activity_at list m ≡ before list s.position s.read = rw now at same in
          let one : m ≡ j = position-one list bookable m j inside there (next ∙ sym of) in
          rw one (ends (omega arith))
    ];
    periods = λ p w l from below inside lane. omega arith;
    words = λ p w l at below inside lane. omega arith;
  }

  -- a search that found room in one word more
  free_seen : (g p w : ℕ) (s : Search) → w < width list → p ≡ s.least + s.free.periods
      → w ≡ s.free.words
      → ((l : ℕ) → l < 4 → level list g w l p + need list s.position w l ≤ room list w l p)
      → IsSeen list g s
      → IsSeen list g (record s { free = next_reach (width list) s.free })
  free_seen g p w s inside ep ew fits seen =
      let here = λ (q v l : ℕ) (eq : q ≡ p) (ev : v ≡ w) (lane : l < 4).
      let at : level list g v l q + need list s.position v l ≤ room list v l q =
      rw (eq, ev) (fits l lane) in at in
      let row = λ (q v l : ℕ) (eq : q ≡ s.least + s.free.periods) (low : v < s.free.words + 1)
      (column : v < width list) (lane : l < 4).
      let at : level list g v l q + need list s.position v l ≤ room list v l q =
      elim (below_or_at v s.free.words low) [
        | inl old ↦ seen.words q v l eq old column lane
        | inr now ↦ here q v l (eq ∙ sym ep) (now ∙ sym ew) lane
      ] in at in
      reach_cases (λ r. IsSeen list g (record s { free = r })) (width list) s.free
      (λ more. record {
        after = seen.after;
        periods = seen.periods;
        words = λ q v l eq low column lane. row q v l eq low column lane;
      })
      (λ end. record {
        after = seen.after;
        periods = λ q v l from below column lane. elim
            (below_or_at q (s.least + s.free.periods) (omega arith)) [
              | inl old ↦ seen.periods q v l from old column lane
              | inr now ↦ row q v l now (omega arith) column lane
            ];
        words = λ q v l eq low column lane. omega arith;
      })

  -- a loaded profile word: at least what was booked by g, at most what is booked by e
  pub after_word-seen : (g p w x : ℕ) (s : Search) → s.position < count list → w < width list
      → ((l : ℕ) → l < 4 → level list g w l p ≤ lane_of x l) → IsSeen list g s
      → IsSeen list g (after_word list p w x s)
  after_word-seen g p w x s there inside above seen =
      word_cases list (IsSeen list g) p w x s
      (λ at full. moved_seen g (p + 1) s (omega arith) seen)
      (λ at free. free_seen g p w s inside at.period at.index
      (λ l lane. omega (arith, above l lane, room_lanes list s.position p w x free l lane)) seen)
      seen

  -- the search stays early
  pub after_word-early : (e p w x : ℕ) (s : Search) → e ≤ count list → s.position < count list
      → w < width list
      → ((l : ℕ) → l < 4 → lane_of x l ≤ level list e w l p) → s.least ≤ least_of list e s.position
      → (after_word list p w x s).least ≤ least_of list e s.position
  after_word-early e p w x s within there inside below early =
      word_cases list (λ r. r.least ≤ least_of list e s.position) p w x s
      (λ at full. full-later e s.position s.least p w x within there inside below full early
      (omega arith) (omega arith))
      (λ at free. early) early

  -- a loaded start word: 0, or the start plus 1, and that where the position is below g
  pub after_start-seen : (g j x : ℕ) (s : Search) → j < count list
      → (j < g → x ≡ begins list j + 1) → IsSeen list g s → IsSeen list g (after_start list j x s)
  after_start-seen g j x s there due seen =
      start_cases list (IsSeen list g) j x s
      (λ next. read_seen g j (least_after s.least x (lasts list j)) s
      (least_after-from s.least x (lasts list j)) there next.same
      (λ booked. least_after-end s.least x (lasts list j) (begins list j) (due booked)) seen)
      seen

  -- where it is not 0 and no position from e on has a start word, the search stays early
  pub after_start-early : (e j x : ℕ) (s : Search) → e ≤ count list → s.position < count list
      → j < count list
      → (0 < x → (j < e) × (x ≡ begins list j + 1)) → s.least ≤ least_of list e s.position
      → (after_start list j x s).least ≤ least_of list e s.position
  after_start-early e j x s within there known value early =
      start_cases list (λ r. r.least ≤ least_of list e s.position) j x s
      (λ next. least_after-most s.least x (lasts list j) (least_of list e s.position) early
      (λ some.
      let (booked, start) = value some in
      let after = least_of-after list bookable e s.position j s.read within booked there next.more
      next.same in
      omega arith))
      early

  -- a loaded floor
  pub after_floor-seen : (g b w x : ℕ) (s : Search) → IsSeen list g s
      → IsSeen list g (after_floor list b w x s)
  after_floor-seen g b w x s seen =
      floor_cases list (IsSeen list g) b w x s
      (λ at full. moved_seen g (block_end list b) s (let below = at.below in omega arith) seen) seen

  -- a floor that is at most what is booked by e keeps the search early
  pub after_floor-early : (e b w x : ℕ) (s : Search) → e ≤ count list → s.position < count list
      → w < width list
      → ((p l : ℕ) → 32 * b ≤ p → p < block_end list b → l < 4 → lane_of x l ≤ level list e w l p)
      → s.least ≤ least_of list e s.position
      → (after_floor list b w x s).least ≤ least_of list e s.position
  after_floor-early e b w x s within there inside below early =
      let i = s.position in
      floor_cases list (λ r. r.least ≤ least_of list e i) b w x s
      (λ at full.
      let later = λ (from p : ℕ) (low : from ≤ least_of list e i) (by : from ≤ p)
      (runs : p < from + lasts list i)
      (first : 32 * b ≤ p) (last : p < block_end list b).
      full-later e i from p w x within there inside (λ l lane. below p l first last lane)
      (block_full-each list i b w x full p first last) low by runs in
      let now = later s.least (s.least + s.free.periods) early (omega arith) (omega arith) at.from
      at.below in
      elim (cases_lt (least_of list e i) (block_end list b)) [
        | inl soon ↦
            let then = later (least_of list e i) (least_of list e i) (omega arith) (omega arith)
            (omega arith) (omega arith) soon in
            absurd (omega arith)
        | inr late ↦ late
      ])
      early

  -- once the start is chosen, no load changes the search
  pub after_word-chosen : (p w x : ℕ) (s : Search) → is_chosen list s ≡ true → w < width list
      → after_word list p w x s ≡ s
  after_word-chosen p w x s chosen inside =
      let whole = chosen-whole list s chosen (omega arith) in
      word_cases list (λ r. r ≡ s) p w x s
      (λ at full. absurd (omega arith)) (λ at free. absurd (omega arith)) refl

  -- nor does a start word
  pub after_start-chosen : (j x : ℕ) (s : Search) → is_chosen list s ≡ true
      → after_start list j x s ≡ s
  after_start-chosen j x s chosen =
      let read = chosen-read list s chosen in
      start_cases list (λ r. r ≡ s) j x s (λ next. absurd (omega arith)) refl

  -- nor a floor
  pub after_floor-chosen : (b w x : ℕ) (s : Search) → is_chosen list s ≡ true → w < width list
      → after_floor list b w x s ≡ s
  after_floor-chosen b w x s chosen inside =
      let whole = chosen-whole list s chosen (omega arith) in
      floor_cases list (λ r. r ≡ s) b w x s (λ at full. absurd (omega arith)) refl
