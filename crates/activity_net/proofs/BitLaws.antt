-- Sets of numbers, a bit for each.
use Rattle.std.proofs.Common.{◌≡◌, ◌≢◌, ℕ, max, ◌*◌, ◌/◌, ◌%◌, ◌^◌, ◌<◌, ◌||◌, false, List, length, get_or, set, replicate, nat_eq, w64, sym, refl, ap, inl, inr, arith}
use Rattle.std.specs.Int.{bit_at}
use Rattle.std.specs.Int.RustNames.{bit_or}
use Rattle.std.proofs.lemmas.Bool.{cases_eq, cases_lt, eq-eqb, ne_eqb}
use Rattle.std.proofs.lemmas.Bool.Decides.{nat_tests}
use Rattle.std.proofs.lemmas.List.{get_or-set_same, get_or-set_other, get_or_past, get_or-replicate, length-replicate}
use Rattle.std.proofs.lemmas.Nat.Bits.{bit_at_or, bit_at_set_same, bit_at_set_other, bit_at-lt, bit_at-zero}
use Rattle.activity_net.specs.Follows.{has_bit}

-- the greater of two bits is 1 where one of them is
max_bit : (x y : ℕ) → x < 2 → y < 2 → nat_eq (max x y) 1 ≡ (nat_eq x 1 || nat_eq y 1)
max_bit x y small few = grind (arith, nat_tests)

-- one more number in a set
pub has_bit-insert : (words : List ℕ) (a n : ℕ) → a / 64 < length words
    → has_bit (set words (a / 64) (bit_or (get_or words (a / 64) 0) (1 * 2 ^ (a % 64) % 2 ^ 64))) n
    ≡ (nat_eq a n || has_bit words n)
unfolding has_bit
has_bit-insert words a n within =
    let word = bit_or (get_or words (a / 64) 0) (1 * 2 ^ (a % 64) % 2 ^ 64) in
    let small : a % 64 < 64 = omega arith in
    elim (cases_eq (n / 64) (a / 64)) as
    (λ _. nat_eq (bit_at (get_or (set words (a / 64) word) (n / 64) 0) (n % 64)) 1
    ≡ (nat_eq a n || nat_eq (bit_at (get_or words (n / 64) 0) (n % 64)) 1)) [
      | inl same ↦
          rw (same, get_or-set_same words (a / 64) word 0 within)
          (elim (cases_eq (n % 64) (a % 64)) as (λ _. nat_eq (bit_at word (n % 64)) 1
          ≡ (nat_eq a n || nat_eq (bit_at (get_or words (a / 64) 0) (n % 64)) 1)) [
            | inl here ↦
                let equal : a ≡ n = omega arith in
                rw (
                  here,
                  bit_at_set_same w64 (get_or words (a / 64) 0) (a % 64) small,
                  eq-eqb a n
                      equal,
                ) refl
            | inr there ↦
                let other : a ≢ n = λ e. there (ap (λ (k : ℕ). k % 64) (sym e)) in
                rw (
                  bit_at_set_other w64 (get_or words (a / 64) 0) (a % 64) small (n % 64) there,
                  ne_eqb a n other,
                ) refl
          ])
      | inr differ ↦
          let other : a ≢ n = λ e. differ (ap (λ (k : ℕ). k / 64) (sym e)) in
          rw (get_or-set_other words (a / 64) (n / 64) word 0 differ, ne_eqb a n other) refl
    ]

-- all numbers of two sets
pub has_bit-both : (words before others : List ℕ) (n : ℕ)
    → ((k : ℕ) → k < length before → get_or words k 0 ≡ bit_or (get_or before k 0)
    (get_or others k 0))
    → length words ≡ length before → length others ≡ length before
    → has_bit words n ≡ (has_bit before n || has_bit others n)
unfolding has_bit
has_bit-both words before others n both same long =
    elim (cases_lt (n / 64) (length before)) as
    (λ _. nat_eq (bit_at (get_or words (n / 64) 0) (n % 64)) 1
    ≡ (nat_eq (bit_at (get_or before (n / 64) 0) (n % 64)) 1 || nat_eq
    (bit_at (get_or others (n / 64) 0) (n % 64)) 1)) [
      | inl within ↦
          rw (
            both (n / 64) within,
            bit_at_or (get_or before (n / 64) 0) (get_or others (n / 64) 0)
                (n % 64),
          )
          (max_bit (bit_at (get_or before (n / 64) 0) (n % 64))
          (bit_at (get_or others (n / 64) 0) (n % 64))
          (bit_at-lt (get_or before (n / 64) 0) (n % 64))
          (bit_at-lt (get_or others (n / 64) 0) (n % 64)))
      | inr past ↦
          rw (
            get_or_past words (n / 64) 0 (omega arith),
            get_or_past before (n / 64) 0 past,
            get_or_past others (n / 64) 0 (omega arith),
            bit_at-zero (n % 64),
          ) refl
    ]

-- a set of zeros is empty
pub has_bit-zeros : (width n : ℕ) → has_bit (replicate width 0) n ≡ false
unfolding has_bit
has_bit-zeros width n =
    elim (cases_lt (n / 64) width) as
    (λ _. nat_eq (bit_at (get_or (replicate width 0) (n / 64) 0) (n % 64)) 1 ≡ false) [
      | inl within ↦ rw (get_or-replicate {A = ℕ} width (n / 64) 0 0 within, bit_at-zero (n % 64))
          refl
      | inr past ↦ rw (
        get_or_past (replicate {A = ℕ} width 0) (n / 64) 0
            (omega (arith, length-replicate {A = ℕ} width 0)),
        bit_at-zero (n % 64),
      ) refl
    ]
