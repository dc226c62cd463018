-- What a load makes of a search, case by case, and what the tests say that decide it.
use Rattle.std.proofs.Common.{◌≡◌, ℕ, ◌+◌, ◌*◌, ◌-◌, ◌<◌, ◌≤◌, max, Bool, true, false, nat_eq, nat_lt, ◌&&◌, ◌||◌, if◌then◌else◌, refl, arith}
use Rattle.std.proofs.lemmas.Bool.{cond_both, or_cases}
use Rattle.std.proofs.lemmas.Bool.Decides.{nat_tests}
use Rattle.std.proofs.Common.{inl, inr}
use Rattle.std.specs.Bool.{Decides}
use Rattle.capacity_profile.specs.Lanes.{lane_of}
use Rattle.capacity_profile.proofs.LaneLaws.{four_cases}
use Rattle.rc_instance.proofs.ListLaws.{list_all-range}
use Rattle.activity_net.specs.Network.{Listing}
use Rattle.book_rule.specs.declared.view.Reach.{Reach}
use Rattle.book_rule.specs.declared.view.Search.{Search}
use Rattle.book_rule.specs.Listed.{activity_at, lasts, before_count, before, width, need, room}
use Rattle.book_rule.specs.Reaches.{none_reached, next_reach}
use Rattle.book_rule.specs.Searches.{is_chosen, reads_next, after_start, needs_next, is_full_in, is_full, after_word, block_end, needs_block, is_block_full, after_floor}

-- one word further is in the same period, or at the head of the next
pub reach_cases : (P : Reach → Type 0) (n : ℕ) (r : Reach)
    → (r.words + 1 < n → P (record { periods = r.periods; words = r.words + 1 }))
    → (n ≤ r.words + 1 → P (record { periods = r.periods + 1; words = 0 }))
    → P (next_reach n r)
reach_cases P n r more last =
    cond_both (nat_lt (r.words + 1) n) (record { periods = r.periods; words = r.words + 1 })
    (record { periods = r.periods + 1; words = 0 }) P
    (λ below. more (grind (arith, nat_tests))) (λ end. last (grind (arith, nat_tests)))

-- a search whose start is chosen has read all predecessors
pub chosen-read : (list : Listing) (s : Search) → is_chosen list s ≡ true
    → s.read ≡ before_count list s.position
chosen-read list s chosen = grind (arith, nat_tests)

-- and has found room in all words of its activity
pub chosen-whole : (list : Listing) (s : Search) → is_chosen list s ≡ true → 0 < width list
    → s.free.periods ≡ lasts list s.position
chosen-whole list s chosen some = grind (arith, nat_tests)

-- what the test of a start word says
pub record IsNextStart (list : Listing) (j : ℕ) (s : Search) : Type 0 where
  pub more : s.read < before_count list s.position
  pub same : activity_at list j ≡ before list s.position s.read

-- what the test of a profile word says
pub record IsNextPlace (list : Listing) (p w : ℕ) (s : Search) : Type 0 where
  pub read : s.read ≡ before_count list s.position
  pub more : s.free.periods < lasts list s.position
  pub period : p ≡ s.least + s.free.periods
  pub index : w ≡ s.free.words

-- what the test of a floor says
pub record IsNextBlock (list : Listing) (b : ℕ) (s : Search) : Type 0 where
  pub read : s.read ≡ before_count list s.position
  pub more : s.free.periods < lasts list s.position
  pub from : 32 * b ≤ s.least + s.free.periods
  pub below : s.least + s.free.periods < block_end list b

-- the test of a start word says so
next_start : (list : Listing) (j : ℕ) (s : Search) → reads_next list j s ≡ true
    → IsNextStart list j s
next_start list j s is = record { more = grind (arith, nat_tests); same = grind (arith, nat_tests) }

-- that of a profile word too
next_place : (list : Listing) (p w : ℕ) (s : Search) → needs_next list p w s ≡ true
    → IsNextPlace list p w s
next_place list p w s is = record {
  read = grind (arith, nat_tests);
  more = grind (arith, nat_tests);
  period = grind (arith, nat_tests);
  index = grind (arith, nat_tests);
}

-- and that of a floor
next_block : (list : Listing) (b : ℕ) (s : Search) → needs_block list b s ≡ true
    → IsNextBlock list b s
next_block list b s is =
    let end = block_end list b in
    record {
      read = grind (arith, nat_tests);
      more = grind (arith, nat_tests);
      from = grind (arith, nat_tests);
      below = grind (arith, nat_tests);
    }

-- the least start once a predecessor of d periods was read whose start word is x
abbrev pub least_after : ℕ → ℕ → ℕ → ℕ
least_after from x d = if nat_eq x 0 then from else max from (x - 1 + d)

-- it is no earlier than before
pub least_after-from : (from x d : ℕ) → from ≤ least_after from x d
least_after-from from x d =
    cond_both (nat_eq x 0) from (max from (x - 1 + d)) (λ r. from ≤ r) (λ none. omega arith)
    (λ some. omega arith)

-- it is no earlier than the end of the predecessor
pub least_after-end : (from x d start : ℕ) → x ≡ start + 1 → start + d ≤ least_after from x d
least_after-end from x d start is =
    cond_both (nat_eq x 0) from (max from (x - 1 + d)) (λ r. start + d ≤ r)
    (λ none. let zero : x ≡ 0 = grind (arith, nat_tests) in omega arith) (λ some. omega arith)

-- it is no later than what neither is later than
pub least_after-most : (from x d most : ℕ) → from ≤ most → (0 < x → x - 1 + d ≤ most)
    → least_after from x d ≤ most
least_after-most from x d most low high =
    cond_both (nat_eq x 0) from (max from (x - 1 + d)) (λ r. r ≤ most) (λ none. low)
    (λ some. let there : 0 < x = grind (arith, nat_tests) in omega (arith, high there))

-- a search after a start word: one predecessor further, or unmoved
pub start_cases : (list : Listing) (P : Search → Type 0) (j x : ℕ) (s : Search)
    → (IsNextStart list j s → P (record s {
      read = s.read + 1;
      free = none_reached;
      least = least_after s.least x (lasts list j);
    }))
    → P s → P (after_start list j x s)
start_cases list P j x s read same =
    cond_both (reads_next list j s)
    (record s {
      read = s.read + 1;
      free = none_reached;
      least =
          least_after s.least x (lasts list j);
    }) s P
    (λ is. read (next_start list j s is)) (λ not. same)

-- after a profile word: past a full one, further by a free one, or unmoved
pub word_cases : (list : Listing) (P : Search → Type 0) (p w x : ℕ) (s : Search)
    → (IsNextPlace list p w s → is_full list s.position p w x ≡ true
    → P (record s { least = p + 1; free = none_reached }))
    → (IsNextPlace list p w s → is_full list s.position p w x ≡ false
    → P (record s { free = next_reach (width list) s.free }))
    → P s → P (after_word list p w x s)
word_cases list P p w x s full free same =
    let late : Search = record s { least = p + 1; free = none_reached } in
    let further : Search = record s { free = next_reach (width list) s.free } in
    let test = is_full list s.position p w x in
    cond_both (needs_next list p w s) (if test then late else further) s P
    (λ is. let at = next_place list p w s is in cond_both test late further P (full at) (free at))
    (λ not. same)

-- after a floor: past a full block, or unmoved
pub floor_cases : (list : Listing) (P : Search → Type 0) (b w x : ℕ) (s : Search)
    → (IsNextBlock list b s → is_block_full list s.position b w x ≡ true
    → P (record s { least = block_end list b; free = none_reached }))
    → P s → P (after_floor list b w x s)
floor_cases list P b w x s full same =
    cond_both (needs_block list b s && is_block_full list s.position b w x)
    (record s { least = block_end list b; free = none_reached }) s P
    (λ is. full (next_block list b s (both (needs_block list b s) _ is).0)
    (both (needs_block list b s) _ is).1) (λ not. same)
  where
    both : (c d : Bool) → (c && d) ≡ true → (c ≡ true) × (d ≡ true)
    both true d h = (refl, h)
    both false d h = (cc, cc)

-- a full word has a full lane
pub full_lane : (list : Listing) (i p w x : ℕ) → is_full list i p w x ≡ true
    → (l : ℕ) × (l < 4) × (room list w l p < lane_of x l + need list i w l)
unfolding is_full
full_lane list i p w x full =
    let test = is_full_in list i p w x in
    let above = λ (l : ℕ) (h : is_full_in list i p w x l ≡ true). above_in l h in
    elim (or_cases (test 0 || test 1 || test 2) (test 3) full) [
      | inr e ↦ (3, omega arith, above 3 e)
      | inl more ↦ elim (or_cases (test 0 || test 1) (test 2) more) [
        | inr e ↦ (2, omega arith, above 2 e)
        | inl rest ↦ elim (or_cases (test 0) (test 1) rest) [
          | inr e ↦ (1, omega arith, above 1 e)
          | inl e ↦ (0, omega arith, above 0 e)
        ]
      ]
    ]
  where
    above_in : (l : ℕ) → is_full_in list i p w x l ≡ true
        → room list w l p < lane_of x l + need list i w l
    above_in l h = grind (arith, nat_tests)

-- a word that is not full has room in each lane
pub room_lanes : (list : Listing) (i p w x : ℕ) → is_full list i p w x ≡ false
    → (l : ℕ) → l < 4 → lane_of x l + need list i w l ≤ room list w l p
unfolding is_full
room_lanes list i p w x free =
    four_cases (λ l. lane_of x l + need list i w l ≤ room list w l p)
    (grind (arith, nat_tests)) (grind (arith, nat_tests)) (grind (arith, nat_tests))
    (grind (arith, nat_tests))

-- a full block is full in each of its periods
pub block_full-each : (list : Listing) (i b w x : ℕ) → is_block_full list i b w x ≡ true
    → (p : ℕ) → 32 * b ≤ p → p < block_end list b → is_full list i p w x ≡ true
unfolding is_block_full
block_full-each list i b w x full p from below =
    let test = λ (q : ℕ). is_full list i q w x in
    let itself : (q : ℕ) → Decides (test q) (test q ≡ true) = λ q. (λ h. h, λ h. h) in
    (list_all-range test (λ q. test q ≡ true) itself (32 * b) (block_end list b - 32 * b)).0 full p
    from (omega arith)
