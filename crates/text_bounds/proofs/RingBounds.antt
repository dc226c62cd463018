-- How long a cycle is that is shown.
use Rattle.std.proofs.Common.{◌≡◌, ℕ, zero, suc, ◌+◌, ◌-◌, ◌*◌, ◌<◌, ◌≤◌, Bool, true, false, List, [], ◌∷◌, ◌++◌, length, take, drop, reverse, Option, None, Some, unwrap_or, refl, sym, ap, subst, arith, All, codes}
use Rattle.std.specs.Prelude.{if◌then◌else◌}
use Rattle.std.specs.Fmt.{decimal}
use Rattle.std.specs.List.{find, range_with_len}
use Rattle.std.specs.Option.{option_map}
use Rattle.std.proofs.lemmas.Fmt.{length-decimal-le}
use Rattle.std.proofs.lemmas.List.{length-append, length-reverse, length-take, length-drop, get_or-reverse}
use Rattle.std.proofs.lemmas.List.Concat.{flat_map-cons}
use Rattle.std.proofs.lemmas.List.Elements.{All-nil, All-cons, All-head, All-tail, All-push, All-append, All-drop, All-take, All-filter, All-weaker, All-get_or, All-from_get_or}
use Rattle.rc_instance.specs.Lists.{names, numbers}
use Rattle.rc_instance.specs.Project.{Project, activity_count, precedes}
use Rattle.activity_net.specs.Network.{predecessors_of}
use Rattle.activity_net.specs.Ring.{stuck, first_stuck, least_stuck, step_back, place_of, way_back, least, from_least, shown_ring, shown_cycle}
use Rattle.activity_net.specs.RingWords.{spaced_numbers, ring_words}
use Rattle.text_bounds.specs.Bounds.{CycleIsShort}

-- the numbers from a on are at most the last
range_within : (a n m : ℕ) → a + n ≤ m + 1 → All (λ x. x ≤ m) (range_with_len a n)
range_within a zero m below = All-nil (λ x. x ≤ m)
range_within a (suc n) m below =
    All-cons (λ x. x ≤ m) a (range_with_len (a + 1) n) (omega (arith, below))
    (range_within (a + 1) n m (omega (arith, below)))

-- what is found in numbers up to m is up to m, and so is 0
found_within : (test : ℕ → Bool) (m : ℕ) (xs : List ℕ) → All (λ x. x ≤ m) xs
    → unwrap_or (find test xs) 0 ≤ m
found_within test m [] all = omega arith
found_within test m (x ∷ xs) all =
    elim (test x) as (λ b. unwrap_or (if b then Some x else find test xs) 0 ≤ m) [
      | true ↦ All-head (λ x. x ≤ m) x xs all
      | false ↦ found_within test m xs (All-tail (λ x. x ≤ m) x xs all)
    ]

stuck_within : (project : Project) (list : List ℕ) → All (λ x. x ≤ activity_count project) list
    → first_stuck project list ≤ activity_count project
unfolding first_stuck
stuck_within project list all =
    found_within (names (stuck project)) (activity_count project) list all

numbers_within : (n : ℕ) → All (λ x. x ≤ n) (numbers n)
numbers_within n = range_within 1 n n (omega arith)

back_within : (project : Project) (b : ℕ) → step_back project b ≤ activity_count project
unfolding predecessors_of
back_within project b =
    stuck_within project (predecessors_of project b)
    (All-filter (λ a. precedes project a b) (λ x. x ≤ activity_count project)
    (numbers (activity_count project)) (numbers_within (activity_count project)))

-- the way back has few numbers, each of an activity or 0
record IsShortWay (m count : ℕ) (way : List ℕ) : Type 0 where
  within : All (λ x. x ≤ m) way
  few : length way ≤ count

way_short : (project : Project) (steps : ℕ) (passed : List ℕ) (b : ℕ)
    → All (λ x. x ≤ activity_count project) passed → b ≤ activity_count project
    → IsShortWay (activity_count project) (length passed + steps) (way_back project steps passed b)
unfolding way_back
way_short project zero passed b all here = record { within = all; few = omega arith }
way_short project (suc steps) passed b all here =
    let n = activity_count project in
    let more = way_short project steps (passed ++ b ∷ []) (step_back project b)
    (All-push (λ x. x ≤ n) passed b all here) (back_within project b) in
    let longer : length (passed ++ b ∷ []) ≡ length passed + 1 = length-append passed (b ∷ []) in
    elim (names passed b)
    as (λ t. IsShortWay n (length passed + suc steps)
    (if t then drop (place_of b passed) passed
    else way_back project steps (passed ++ b ∷ []) (step_back project b))) [
      | true ↦ record {
        within = All-drop (λ x. x ≤ n) (place_of b passed) passed all;
        few = omega (arith, length-drop (place_of b passed) passed);
      }
      | false ↦ record {
        within = more.within;
        few = omega (arith, more.few, longer);
      }
    ]

reversed_within : (m : ℕ) (xs : List ℕ) → All (λ x. x ≤ m) xs → All (λ x. x ≤ m) (reverse xs)
reversed_within m xs all =
    All-from_get_or (λ x. x ≤ m) (reverse xs) 0 (λ i h.
    let inside : i < length xs = omega (arith, h, length-reverse xs) in
    subst (λ (x : ℕ). x ≤ m) (sym (get_or-reverse xs i 0 inside))
    (All-get_or (λ x. x ≤ m) xs (length xs - 1 - i) 0 (omega (arith, inside)) all))

-- so is the ring that is shown
ring_short : (project : Project)
    → IsShortWay (activity_count project) (activity_count project + 1) (shown_ring project)
unfolding shown_ring from_least
ring_short project =
    let n = activity_count project in
    let way = way_back project (n + 1) [] (least_stuck project) in
    let short = way_short project (n + 1) [] (least_stuck project) (All-nil (λ x. x ≤ n))
    (stuck_within project (numbers n) (numbers_within n)) in
    let ring = reverse way in
    let all = reversed_within n way short.within in
    let place = place_of (least ring) ring in
    record {
      within = All-append (λ x. x ≤ n) (drop place ring) (take place ring)
          (All-drop (λ x. x ≤ n) place ring all) (All-take (λ x. x ≤ n) place ring all);
      few = omega (
        arith,
        short.few,
        length-reverse way,
        length-append (drop place ring) (take place ring),
        length-drop place ring,
        length-take place ring,
      );
    }

-- the ring that is shown is that one
shown_is : (found : Option ℕ) (one ring : List ℕ) → option_map (λ _. one) found ≡ Some ring
    → one ≡ ring
shown_is None one ring is = absurd cc
shown_is (Some a) one ring is = cc

-- numbers with a space before each
spaced_short : (xs : List ℕ) → All (λ x. x ≤ 1000) xs → length (spaced_numbers xs) ≤ 5 * length xs
spaced_short [] all = omega arith
spaced_short (x ∷ xs) all =
    let small : x ≤ 1000 = All-head (λ x. x ≤ 1000) x xs all in
    let digits = length-decimal-le 4 x (omega arith) (omega (arith, small))
    (omega (arith, small)) in
    let space : length (codes " ") ≡ 1 = refl in
    let others = spaced_short xs (All-tail (λ x. x ≤ 1000) x xs all) in
    omega (
      arith,
      digits,
      space,
      others,
      ap length (flat_map-cons (λ number. codes " " ++ decimal number) x xs),
      length-append (codes " " ++ decimal x) (spaced_numbers xs),
      length-append (codes " ") (decimal x),
    )

words_short : (ring : List ℕ) → IsShortWay 1000 1001 ring → length (ring_words ring) ≤ 5100
words_short ring short =
    let word : length (codes "cycle") ≡ 5 = refl in
    let P = λ (x : ℕ). x ≤ 1000 in
    omega (
      arith,
      short.few,
      word,
      spaced_short ring short.within,
      spaced_short (take 1 ring) (All-take P 1 ring short.within),
      length-take 1 ring,
      length-append (codes "cycle" ++ spaced_numbers ring) (spaced_numbers (take 1 ring)),
      length-append (codes "cycle") (spaced_numbers ring),
    )

pub cycle_short : CycleIsShort
unfolding shown_cycle
cycle_short project ring limits shown =
    let n = activity_count project in
    let is = shown_is (find (names (stuck project)) (numbers n)) (shown_ring project) ring shown in
    let short = subst (λ (r : List ℕ). IsShortWay n (n + 1) r) is (ring_short project) in
    words_short ring (record {
      within = All-weaker (λ x. x ≤ n) (λ x. x ≤ 1000)
          (λ x small. omega (arith, small, limits.activities)) ring short.within;
      few = omega (arith, short.few, limits.activities);
    })
