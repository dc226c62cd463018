-- What the operations on vectors say of each lane.
use Rattle.std.proofs.Common.{◌≡◌, ℕ, zero, suc, ◌+◌, ◌-◌, ◌^◌, ◌%◌, ◌<◌, ◌≤◌, true, false, cond, List, [], ◌∷◌, length, map, get_or, nat_lt, Fits, w16, refl, ◌∙◌, inl, inr, arith}
use Rattle.std.specs.Int.Bits.{bit_or}
use Rattle.std.specs.Simd.Lanes.{zip2, sel_l, fold_l, top, Each1, Each2}
use Rattle.std.proofs.lemmas.Bool.{cases_lt}
use Rattle.std.proofs.lemmas.Bool.Decides.{nat_tests}
use Rattle.std.proofs.lemmas.List.{get_or_past}
use Rattle.std.proofs.lemmas.Nat.{le_or_l, le_or_r}
use Rattle.std.proofs.lemmas.Simd.{get_or-zip2, get_or-sel_l, length-zip2, length-sel_l, tops_compared, Each1-get_or}
use Rattle.event_line.specs.declared.lanes.TheConstants.{LANES}
use Rattle.event_line.specs.Lanes.{IsVector}

-- what all lanes have in common is at least what it began with
or_from : (a : ℕ) (xs : List ℕ) → a ≤ fold_l bit_or a xs
or_from a [] = omega arith
or_from a (x ∷ xs) = omega (arith, or_from (bit_or a x) xs, le_or_l a x)

-- and at least each lane
or_above : (a : ℕ) (xs : List ℕ) (j : ℕ) → j < length xs → get_or xs j 0 ≤ fold_l bit_or a xs
or_above a [] j h = Prim.absurd (omega arith)
or_above a (x ∷ xs) zero h = omega (arith, or_from (bit_or a x) xs, le_or_r a x)
or_above a (x ∷ xs) (suc j) h = or_above (bit_or a x) xs j (omega arith)

-- it is 0 where each lane is
or_none : (xs : List ℕ) → ((j : ℕ) → j < length xs → get_or xs j 0 ≡ 0) → fold_l bit_or 0 xs ≡ 0
or_none [] none = refl
or_none (x ∷ xs) none =
    let first : x ≡ 0 = none 0 (omega arith) in
    rw first (or_none xs (λ j h. none (suc j) (omega arith)))

-- by how much demands exceed what is left, lane by lane, as a vector computes it
abbrev pub excess : List ℕ → List ℕ → List ℕ
excess demands left =
    zip2 (λ x y. (x + (2 ^ 16 - y)) % 2 ^ 16)
    (sel_l (map (top 15) (zip2 (λ x y. cond (nat_lt x y) (2 ^ 16 - 1) 0) demands left)) left demands)
    left

-- the difference of a number that is no smaller does not wrap
excess_is : (demand left : ℕ) → demand < 2 ^ 16 → left < 2 ^ 16
    → (cond (nat_lt demand left) left demand + (2 ^ 16 - left)) % 2 ^ 16 ≡ demand - left
excess_is demand left fits fits' = elim (cases_lt demand left) [
  | inl lt ↦
      let test : nat_lt demand left ≡ true = grind (arith, nat_tests) in
      rw test (omega arith)
  | inr ge ↦
      let test : nat_lt demand left ≡ false = grind (arith, nat_tests) in
      rw test (omega arith)
]

pub excess_at : (demands left : List ℕ) (j : ℕ) → length demands ≡ LANES → length left ≡ LANES
    → j < LANES → get_or demands j 0 < 2 ^ 16 → get_or left j 0 < 2 ^ 16
    → get_or (excess demands left) j 0 ≡ get_or demands j 0 - get_or left j 0
excess_at demands left j long long' h fits fits' =
    let tests = zip2 nat_lt demands left in
    let many = length-zip2 nat_lt demands left (omega arith) in
    let many' = length-sel_l tests left demands (omega arith) (omega arith) in
    let test = get_or-zip2 nat_lt demands left j 0 0 false (omega arith) (omega arith) in
    let greater = get_or-sel_l tests left demands j 0 (omega arith) (omega arith) (omega arith) in
    let lane = get_or-zip2 (λ x y. (x + (2 ^ 16 - y)) % 2 ^ 16) (sel_l tests left demands) left j 0 0 0
    (omega arith) (omega arith) in
    rw (tops_compared w16 nat_lt demands left)
    (lane ∙ rw (greater, test) (excess_is (get_or demands j 0) (get_or left j 0) fits fits'))

pub length-excess : (demands left : List ℕ) → length demands ≡ LANES → length left ≡ LANES
    → length (excess demands left) ≡ LANES
length-excess demands left long long' =
    let tests = zip2 nat_lt demands left in
    let many = length-zip2 nat_lt demands left (omega arith) in
    let many' = length-sel_l tests left demands (omega arith) (omega arith) in
    rw (tops_compared w16 nat_lt demands left)
    (length-zip2 (λ x y. (x + (2 ^ 16 - y)) % 2 ^ 16) (sel_l tests left demands) left (omega arith)
    ∙ omega arith)

-- a lane of a vector fits 16 bits
pub lane_fits : (xs : List ℕ) (j : ℕ) → Each1 (Fits w16) xs → j < length xs
    → get_or xs j 0 < 2 ^ 16
lane_fits xs j fits h = (Each1-get_or (Fits w16) xs j 0 h fits).fits

-- where no lane has an excess, what is left covers the demands
pub covered_from_none : (demands left : List ℕ) → length demands ≡ LANES → length left ≡ LANES
    → Each1 (Fits w16) demands → Each1 (Fits w16) left → fold_l bit_or 0 (excess demands left) ≡ 0
    → (j : ℕ) → j < LANES → get_or demands j 0 ≤ get_or left j 0
covered_from_none demands left long long' fits fits' none j h =
    omega (
      arith,
      or_above 0 (excess demands left) j (omega (arith, length-excess demands left long long')),
      excess_at demands left j long long' h (lane_fits demands j fits (omega arith))
          (lane_fits left j fits' (omega arith)),
    )

-- and the other way round
pub none_from_covered : (demands left : List ℕ) → length demands ≡ LANES → length left ≡ LANES
    → Each1 (Fits w16) demands → Each1 (Fits w16) left
    → ((j : ℕ) → j < LANES → get_or demands j 0 ≤ get_or left j 0)
    → fold_l bit_or 0 (excess demands left) ≡ 0
none_from_covered demands left long long' fits fits' covered =
    or_none (excess demands left)
    (λ j within.
    let h : j < LANES = omega (arith, length-excess demands left long long') in
    omega (
      arith,
      covered j h,
      excess_at demands left j long long' h (lane_fits demands j fits (omega arith))
          (lane_fits left j fits' (omega arith)),
    ))

-- what holds of each pair of lanes holds of two vectors
pub each2_from : (P : ℕ → ℕ → Type 0) (xs ys : List ℕ) → length xs ≡ length ys
    → ((j : ℕ) → j < length xs → P (get_or xs j 0) (get_or ys j 0)) → Each2 P xs ys
each2_from P [] ys long each = tt
each2_from P (x ∷ xs) [] long each = tt
each2_from P (x ∷ xs) (y ∷ ys) long each = (
  each 0 (omega arith),
  each2_from P xs ys (omega arith) (λ j h. each (suc j) (omega arith)),
)

-- a list of all lanes, each of 16 bits, is a vector
pub vector_from_lanes : (xs : List ℕ) → length xs ≡ LANES
    → ((j : ℕ) → j < LANES → get_or xs j 0 < 2 ^ 16) → IsVector xs
vector_from_lanes xs long fit = record {
  whole = long;
  fit = λ j. elim (cases_lt j (length xs)) [
    | inl inside ↦ fit j (omega arith)
    | inr past ↦ rw (get_or_past xs j 0 past) (omega arith)
  ];
}
