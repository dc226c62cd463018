-- The numbers that wait for nothing.
use Rattle.std.proofs.Common.{◌≡◌, ◌≢◌, ℕ, ◌+◌, ◌-◌, ◌<◌, ◌≤◌, true, false, List, [], ◌∷◌, ◌++◌, length, get_or, set, nat_eq, sym, ap, ◌∙◌, inl, inr, arith, true≢false}
use Rattle.std.specs.List.{All}
use Rattle.std.specs.List.Sorted.{IsPermutation}
use Rattle.std.proofs.lemmas.Bool.{cases_eq, or_left, or_right, eq-eqb}
use Rattle.std.proofs.lemmas.Bool.Decides.{nat_tests, Decides-eqb}
use Rattle.std.proofs.lemmas.List.{get_or-set_same, get_or-set_other, get_or_default, length_push}
use Rattle.std.proofs.lemmas.List.Elements.{All-contains, All-push, All-weaker}
use Rattle.std.proofs.lemmas.List.Quantifiers.{all_pairs_push}
use Rattle.std.proofs.lemmas.List.Sorted.{All-permutation, Contains-permutation}
use Rattle.std.proofs.lemmas.Map.Keys.{IsDistinct-IsPermutation}
use Rattle.std.proofs.lemmas.Map.Made.{AllPairs-from_IsDistinct, IsDistinct-from_AllPairs}
use Rattle.rc_instance.specs.Lists.{names, IsUpTo}
use Rattle.activity_net.proofs.NameLaws.{names_push, contains_named, named_contains, not_named}
use Rattle.priority_rules.specs.Choosing.{AreFree}
use Rattle.priority_rules.proofs.DistinctLaws.{length-distinct_up_to-le}

-- a number that waits is none of them
pub free-not_named : (n : ℕ) (waiting free : List ℕ) (b : ℕ) → AreFree n waiting free
    → 0 < get_or waiting (b - 1) 0 → names free b ≡ false
free-not_named n waiting free b are waits =
    not_named free b (λ h. let idle = All-contains (λ a. get_or waiting (a - 1) 0 ≡ 0) free b
    are.idle h in
    omega arith)

-- what is not named is another number than each
named_other : (xs : List ℕ) (b : ℕ) → names xs b ≡ false → (k d : ℕ) → k < length xs
    → get_or xs k d ≢ b
named_other xs b fresh k d within same =
    true≢false (sym (named_contains xs b (k, within, get_or_default xs k b d within ∙ same))
    ∙ fresh)

-- where one of the numbers from 1 to n waits, fewer than n are free
pub length-free-lt : (n : ℕ) (waiting free : List ℕ) (b : ℕ) → AreFree n waiting free → IsUpTo n b
    → 0 < get_or waiting (b - 1) 0 → length free < n
length-free-lt n waiting free b are is waits =
    let fresh = free-not_named n waiting free b are waits in
    let once = all_pairs_push (λ x y. x ≢ y) free b are.once (named_other free b fresh) in
    let few = length-distinct_up_to-le n (free ++ b ∷ []) once
    (All-push (IsUpTo n) free b are.within is) in
    omega (arith, length_push free b)

-- at another number a write leaves what waits
kept : (waiting : List ℕ) (a b v : ℕ) → 1 ≤ a → 1 ≤ b → a ≢ b → get_or (set waiting (b - 1) v)
    (a - 1) 0 ≡ get_or waiting (a - 1) 0
kept waiting a b v a_from b_from differ = get_or-set_other waiting (b - 1) (a - 1) v 0 (omega arith)

-- the free numbers stay free where another number's count is written
idle_kept : (n : ℕ) (waiting free : List ℕ) (b v : ℕ) → All (IsUpTo n) free
    → All (λ a. get_or waiting (a - 1) 0 ≡ 0) free
    → names free b ≡ false → 1 ≤ b → All (λ a. get_or (set waiting (b - 1) v) (a - 1) 0 ≡ 0) free
idle_kept n waiting free b v within idle fresh from = λ k d below.
    kept waiting (get_or free k d) b v (within k d below).0 from
    (named_other free b fresh k d below) ∙ idle k d below

-- a number that waited and goes on waiting changes nothing
pub AreFree-waits : (n : ℕ) (waiting free : List ℕ) (b v : ℕ) → AreFree n waiting free
    → IsUpTo n b → b ≤ length waiting
    → 0 < get_or waiting (b - 1) 0 → v ≢ 0 → AreFree n (set waiting (b - 1) v) free
AreFree-waits n waiting free b v are is inside waits more = record {
  all = λ a up zero.
      elim (cases_eq a b) as (λ _. names free a ≡ true) [
        | inl same ↦
            let at : get_or (set waiting (b - 1) v) (b - 1) 0 ≡ v = get_or-set_same waiting
            (b - 1) v 0 (omega arith) in
            Prim.absurd (more (sym at ∙ (ap (λ (x : ℕ). get_or (set waiting (b - 1) v) (x - 1) 0)
            (sym same) ∙ zero)))
        | inr differ ↦ are.all a up (sym (kept waiting a b v up.0 is.0 differ) ∙ zero)
      ];
  within = are.within;
  idle = idle_kept n waiting free b v are.within are.idle
      (free-not_named n waiting free b are waits) is.0;
  once = are.once;
}

-- a number that waited and waits for nothing any more joins them
pub AreFree-push : (n : ℕ) (waiting free : List ℕ) (b v : ℕ) → AreFree n waiting free → IsUpTo n b
    → b ≤ length waiting
    → 0 < get_or waiting (b - 1) 0 → v ≡ 0 → AreFree n (set waiting (b - 1) v) (free ++ b ∷ [])
AreFree-push n waiting free b v are is inside waits none =
    let fresh = free-not_named n waiting free b are waits in
    let at : get_or (set waiting (b - 1) v) (b - 1) 0 ≡ v = get_or-set_same waiting (b - 1) v 0
    (omega arith) in
    record {
      all = λ a up zero.
          elim (cases_eq a b) as (λ _. names (free ++ b ∷ []) a ≡ true) [
            | inl same ↦ names_push free b a ∙ or_right (names free a) (nat_eq b a)
                (eq-eqb b a (sym same))
            | inr differ ↦ names_push free b a ∙ or_left (names free a) (nat_eq b a)
                (are.all a up (sym (kept waiting a b v up.0 is.0 differ) ∙ zero))
          ];
      within = All-push (IsUpTo n) free b are.within is;
      idle = All-push (λ a. get_or (set waiting (b - 1) v) (a - 1) 0 ≡ 0) free b
          (idle_kept n waiting free b v are.within are.idle fresh is.0) (at ∙ none);
      once = all_pairs_push (λ x y. x ≢ y) free b are.once (named_other free b fresh);
    }

-- the number after n is named by none of them
fresh_next : (n : ℕ) (free : List ℕ) (b : ℕ) → b ≡ n + 1 → All (IsUpTo n) free
    → names free b ≡ false
fresh_next n free b next within = not_named free b (λ h. let up = All-contains (IsUpTo n) free b
    within h in omega (arith, up.1))

-- the next number waits
pub AreFree-next_waits : (n : ℕ) (waiting free : List ℕ) (b v : ℕ) → AreFree n waiting free
    → b ≡ n + 1 → b ≤ length waiting
    → v ≢ 0 → AreFree b (set waiting (b - 1) v) free
AreFree-next_waits n waiting free b v are next inside more =
    let one : 1 ≤ b = omega arith in
    record {
      all = λ a up zero.
          elim (cases_eq a b) as (λ _. names free a ≡ true) [
            | inl same ↦
                let at : get_or (set waiting (b - 1) v) (b - 1) 0 ≡ v = get_or-set_same waiting
                (b - 1) v 0 (omega arith) in
                Prim.absurd (more (sym at
                ∙ (ap (λ (x : ℕ). get_or (set waiting (b - 1) v) (x - 1) 0) (sym same) ∙ zero)))
            | inr differ ↦ are.all a (up.0, omega (arith, up.1))
                (sym (kept waiting a b v up.0 one differ) ∙ zero)
          ];
      within = All-weaker (IsUpTo n) (IsUpTo b) (λ a up. (up.0, omega (arith, up.1))) free
          are.within;
      idle = idle_kept n waiting free b v are.within are.idle
          (fresh_next n free b next are.within) one;
      once = are.once;
    }

-- the next number waits for nothing
pub AreFree-next : (n : ℕ) (waiting free : List ℕ) (b v : ℕ) → AreFree n waiting free → b ≡ n + 1
    → b ≤ length waiting
    → v ≡ 0 → AreFree b (set waiting (b - 1) v) (free ++ b ∷ [])
AreFree-next n waiting free b v are next inside none =
    let one : 1 ≤ b = omega arith in
    let fresh = fresh_next n free b next are.within in
    let at : get_or (set waiting (b - 1) v) (b - 1) 0 ≡ v = get_or-set_same waiting (b - 1) v 0
    (omega arith) in
    record {
      all = λ a up zero.
          elim (cases_eq a b) as (λ _. names (free ++ b ∷ []) a ≡ true) [
            | inl same ↦ names_push free b a ∙ or_right (names free a) (nat_eq b a)
                (eq-eqb b a (sym same))
            | inr differ ↦ names_push free b a ∙ or_left (names free a) (nat_eq b a)
                (are.all a (up.0, omega (arith, up.1)) (sym (kept waiting a b v up.0 one differ)
                ∙ zero))
          ];
      within = All-push (IsUpTo b) free b
          (All-weaker (IsUpTo n) (IsUpTo b) (λ a up. (up.0, omega (arith, up.1))) free are.within)
          (one, omega arith);
      idle = All-push (λ a. get_or (set waiting (b - 1) v) (a - 1) 0 ≡ 0) free b
          (idle_kept n waiting free b v are.within are.idle fresh one) (at ∙ none);
      once = all_pairs_push (λ x y. x ≢ y) free b are.once (named_other free b fresh);
    }

-- tests of equal numbers
flips : (x y : ℕ) → nat_eq x y ≡ nat_eq y x
flips x y = grind (arith, nat_tests)

-- the order of the free numbers is free
pub AreFree-permutation : (n : ℕ) (waiting xs ys : List ℕ) → IsPermutation xs ys
    → AreFree n waiting xs → AreFree n waiting ys
AreFree-permutation n waiting xs ys moved are = record {
  all = λ a up zero. named_contains ys a (Contains-permutation xs ys a moved
      (contains_named xs a (are.all a up zero)));
  within = All-permutation (IsUpTo n) xs ys moved are.within;
  idle = All-permutation (λ a. get_or waiting (a - 1) 0 ≡ 0) xs ys moved are.idle;
  once = AllPairs-from_IsDistinct {eq = nat_eq} Decides-eqb ys
      (IsDistinct-IsPermutation nat_eq flips xs ys moved
      (IsDistinct-from_AllPairs {eq = nat_eq} Decides-eqb xs are.once));
}
