-- The four lanes of a word, and of a sum of two words.
use Rattle.std.proofs.Common.{◌≡◌, ◌↔◌, ℕ, min, ◌+◌, ◌*◌, ◌/◌, ◌%◌, ◌<◌, ◌≤◌, ◌⊎◌, inl, inr, Bool, true, false, ◌||◌, nat_lt, IsTrue, refl, sym, subst, ap, ◌∙◌, arith}
use Rattle.std.proofs.lemmas.Bool.{or_cases}
use Rattle.std.proofs.lemmas.Bool.Decides.{nat_tests}
use Rattle.capacity_profile.specs.Lanes.{lane_of, packed, exceeds_in, exceeds, IsBlocked, AreSums, AreLeast}

-- an index below 4 is one of four numbers
cases : (i : ℕ) → i < 4 → (i ≡ 0) ⊎ ((i ≡ 1) ⊎ ((i ≡ 2) ⊎ (i ≡ 3)))
cases i below = grind arith

pub four_cases : (P : ℕ → Type 0) → P 0 → P 1 → P 2 → P 3 → (i : ℕ) → i < 4 → P i
four_cases P p q r s i below =
    elim (cases i below) [
      | inl e ↦ subst P (sym e) p
      | inr more ↦
          elim more [
            | inl e ↦ subst P (sym e) q
            | inr rest ↦
                elim rest [ inl e ↦ subst P (sym e) r | inr e ↦ subst P (sym e) s ]
          ]
    ]

-- each lane by divisions
pub lane_of-first : (word i : ℕ) → i ≡ 0 → lane_of word i ≡ word % 65536
unfolding lane_of
lane_of-first word i e = ap (lane_of word) e

pub lane_of-second : (word i : ℕ) → i ≡ 1 → lane_of word i ≡ word / 65536 % 65536
unfolding lane_of
lane_of-second word i e = ap (lane_of word) e

pub lane_of-third : (word i : ℕ) → i ≡ 2 → lane_of word i ≡ word / 65536 / 65536 % 65536
unfolding lane_of
lane_of-third word i e = ap (lane_of word) e

pub lane_of-last : (word i : ℕ) → i ≡ 3 → lane_of word i ≡ word / 65536 / 65536 / 65536 % 65536
unfolding lane_of
lane_of-last word i e = ap (lane_of word) e

-- a lane is below 65,536
pub lane_of-lt : (word i : ℕ) → i < 4 → lane_of word i < 65536
lane_of-lt word = four_cases (λ i. lane_of word i < 65536)
    (omega (arith, lane_of-first word 0 refl)) (omega (arith, lane_of-second word 1 refl))
    (omega (arith, lane_of-third word 2 refl)) (omega (arith, lane_of-last word 3 refl))

-- a word has the lanes that it is packed of
pub lane_of-packed : (a b c d : ℕ) → a < 65536 → b < 65536 → c < 65536 → d < 65536
    → (lane_of (packed a b c d) 0 ≡ a) × (lane_of (packed a b c d) 1 ≡ b)
    × (lane_of (packed a b c d) 2 ≡ c) × (lane_of (packed a b c d) 3 ≡ d)
unfolding lane_of
lane_of-packed a b c d la lb lc ld = (omega arith, omega arith, omega arith, omega arith)

pub lane_of-pack : (a b c d word : ℕ) (lanes : ℕ → ℕ) → word ≡ packed a b c d
    → a < 65536 → b < 65536 → c < 65536 → d < 65536
    → lanes 0 ≡ a → lanes 1 ≡ b → lanes 2 ≡ c → lanes 3 ≡ d
    → (i : ℕ) → i < 4 → lane_of word i ≡ lanes i
lane_of-pack a b c d word lanes e la lb lc ld first second third last =
    let l = lane_of-packed a b c d la lb lc ld in
    four_cases (λ i. lane_of word i ≡ lanes i)
    (rw e (l.0 ∙ sym first)) (rw e (l.1 ∙ sym second))
    (rw e (l.2 ∙ sym third)) (rw e (l.3 ∙ sym last))

-- and it is packed of its lanes
pub packed-lanes : (word : ℕ) → word < 18446744073709551616
    → word ≡ packed (lane_of word 0) (lane_of word 1) (lane_of word 2) (lane_of word 3)
unfolding lane_of
packed-lanes word small = omega arith

-- where no lane overflows, the lanes of a sum are the sums of the lanes
pub lanes_add : (word amount : ℕ) → word < 18446744073709551616 → amount < 18446744073709551616
    → ((i : ℕ) → i < 4 → lane_of word i + lane_of amount i ≤ 65535)
    → (word + amount < 18446744073709551616) × AreSums word amount (word + amount)
lanes_add word amount small few room =
    let r0 = room 0 (omega arith) in
    let r1 = room 1 (omega arith) in
    let r2 = room 2 (omega arith) in
    let r3 = room 3 (omega arith) in
    let w = packed-lanes word small in
    let m = packed-lanes amount few in
    let e : word + amount ≡ packed (lane_of word 0 + lane_of amount 0)
    (lane_of word 1 + lane_of amount 1)
    (lane_of word 2 + lane_of amount 2) (lane_of word 3 + lane_of amount 3) = omega arith in
    let l = lane_of-packed (lane_of word 0 + lane_of amount 0) (lane_of word 1 + lane_of amount 1)
    (lane_of word 2 + lane_of amount 2) (lane_of word 3 + lane_of amount 3)
    (omega arith) (omega arith) (omega arith) (omega arith) in (
      omega arith,
      four_cases (λ i. lane_of (word + amount) i ≡ lane_of word i + lane_of amount i)
          (rw e l.0) (rw e l.1) (rw e l.2) (rw e l.3),
    )

-- where the computed test says so of a lane, the lane is above its capacity
is_above : (word demand capacity i : ℕ) → exceeds_in word demand capacity i ≡ true
    → lane_of capacity i < lane_of word i + lane_of demand i
is_above word demand capacity i h = grind (arith, nat_tests)

-- a word is blocked where one of its four lanes is
blocked_somewhere : (word demand capacity : ℕ) → exceeds word demand capacity ≡ true
    → IsBlocked word demand capacity
blocked_somewhere word demand capacity h =
    let at = is_above word demand capacity in
    let test = exceeds_in word demand capacity in
    elim (or_cases (test 0 || test 1 || test 2) (test 3) h) [
      | inr e ↦ (3, omega arith, at 3 e)
      | inl more ↦ elim (or_cases (test 0 || test 1) (test 2) more) [
        | inr e ↦ (2, omega arith, at 2 e)
        | inl rest ↦ elim (or_cases (test 0) (test 1) rest) [
          | inr e ↦ (1, omega arith, at 1 e)
          | inl e ↦ (0, omega arith, at 0 e)
        ]
      ]
    ]

exceeds_somewhere : (word demand capacity : ℕ) → IsBlocked word demand capacity
    → exceeds word demand capacity ≡ true
exceeds_somewhere word demand capacity (i, below, high) =
    four_cases (λ i. lane_of capacity i < lane_of word i + lane_of demand i
    → exceeds word demand capacity ≡ true)
    (λ h. grind (arith, nat_tests)) (λ h. grind (arith, nat_tests))
    (λ h. grind (arith, nat_tests)) (λ h. grind (arith, nat_tests)) i below high

pub exceeds_is : (word demand capacity : ℕ)
    → IsTrue (exceeds word demand capacity) ↔ IsBlocked word demand capacity
exceeds_is word demand capacity =
    (blocked_somewhere word demand capacity, exceeds_somewhere word demand capacity)
