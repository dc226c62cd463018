-- How a number is added to a pile.
use Rattle.std.proofs.Common.{◌≡◌, ℕ, ◌+◌, ◌-◌, ◌^◌, ◌<◌, ◌≤◌, List, [], ◌∷◌, ◌++◌, length, take, set, get_or, refl, sym, ap, ◌∙◌, subst, inl, inr, arith, length-set, length-append}
use Rattle.std.specs.List.{All}
use Rattle.std.specs.List.Sorted.{IsPermutation}
use Rattle.std.proofs.lemmas.Bool.{cases_eq, cases_lt}
use Rattle.std.proofs.lemmas.List.{get_or-set_same, get_or-set_other, get_or-take, length-take-le, set-set, take_more_set, get_or-append-add}
use Rattle.std.proofs.lemmas.List.Edits.{swap_is}
use Rattle.std.proofs.lemmas.List.Sorted.{IsPermutation-refl, IsPermutation-swap, IsPermutation-trans}
use Rattle.std.proofs.Math.Seq.{take-set-lt}
use Rattle.rc_instance.specs.Lists.{IsUpTo}
use Rattle.priority_rules.specs.KeyList.{key_in}
use Rattle.priority_rules.specs.Choosing.{GoesFirst, rank_in, IsPile}

-- of two numbers that of lower rank goes first
pub goes_first : (keys : List ℕ) (a b : ℕ) → a < 2 ^ 32 → b < 2 ^ 32
    → rank_in keys a ≤ rank_in keys b → GoesFirst (key_in keys) a b
goes_first keys a b fits fits' lower = elim (cases_lt (key_in keys a) (key_in keys b)) [
  | inl below ↦ inl below
  | inr above ↦ inr (omega arith, omega arith)
]

-- two places before n are exchanged among the first n
exchanged : (xs : List ℕ) (n i j : ℕ) → i < n → j < n → n ≤ length xs
    → IsPermutation (take n xs) (take n (set (set xs i (get_or xs j 0)) j (get_or xs i 0)))
exchanged xs n i j i_below j_below within =
    let long = length-take-le n xs within in
    let xj = get_or xs j 0 in
    let xi = get_or xs i 0 in
    IsPermutation-swap (take n xs) (take n (set (set xs i xj) j xi)) i j (omega arith) (omega arith)
    (take-set-lt n (set xs i xj) j xi j_below
    ∙ (ap (λ ys. set ys j xi) (take-set-lt n xs i xj i_below)
    ∙ (ap (λ (x : ℕ). set (set (take n xs) i x) j xi) (sym (get_or-take n xs j 0 j_below))
    ∙ (ap (λ (x : ℕ). set (set (take n xs) i (get_or (take n xs) j 0)) j x)
    (sym (get_or-take n xs i 0 i_below))
    ∙ swap_is (take n xs) i j 0 (omega arith) (omega arith)))))

-- a place is sought for a number: those from it on go before the number, and have moved by one
pub record IsSought (keys before pile : List ℕ) (count number place : ℕ) : Type 0 where
  pub long : length pile ≡ length before
  pub room : count < length before
  pub within : place ≤ count
  pub lower : (i : ℕ) → i < place → get_or pile i 0 ≡ get_or before i 0
  pub upper : (i : ℕ) → place < i → i ≤ count → get_or pile i 0 ≡ get_or before (i - 1) 0
  pub first : (i : ℕ) → place < i → i ≤ count → rank_in keys (get_or pile i 0) ≤ rank_in keys number
  pub moved : IsPermutation (take count before ++ number ∷ [])
      (take (count + 1) (set pile place number))

-- at first it is the place after all
pub sought_none : (keys pile : List ℕ) (count number : ℕ) → count < length pile
    → IsSought keys pile pile count number count
sought_none keys pile count number room = record {
  long = refl;
  room = room;
  within = omega arith;
  lower = λ i h. refl;
  upper = λ i h le. Prim.absurd (omega arith);
  first = λ i h le. Prim.absurd (omega arith);
  moved = rw (take_more_set pile count number room) (IsPermutation-refl _);
}

-- a number before the place goes first: it moves there
pub sought_more : (keys before pile : List ℕ) (count number place : ℕ)
    → IsSought keys before pile count number place → 0 < place
    → rank_in keys (get_or pile (place - 1) 0) ≤ rank_in keys number
    → IsSought keys before (set pile place (get_or pile (place - 1) 0)) count number (place - 1)
sought_more keys before pile count number place so_far some lower =
    let room = so_far.room in
    let within = so_far.within in
    let long = so_far.long in
    let y = get_or pile (place - 1) 0 in
    let inside : place < length pile = omega arith in
    record {
      long = length-set pile place y ∙ long;
      room = room;
      within = omega arith;
      lower = λ i h. get_or-set_other pile place i y 0 (λ e. omega arith)
          ∙ so_far.lower i (omega arith);
      upper = λ i h le. elim (cases_eq i place) [
        | inl e ↦ rw e (get_or-set_same pile place y 0 inside ∙ so_far.lower (place - 1) (omega arith))
        | inr ne ↦ get_or-set_other pile place i y 0 ne ∙ so_far.upper i (omega arith) le
      ];
      first = λ i h le. elim (cases_eq i place) [
        | inl e ↦ rw (e, get_or-set_same pile place y 0 inside) lower
        | inr ne ↦ rw (get_or-set_other pile place i y 0 ne) (so_far.first i (omega arith) le)
      ];
      moved =
          let with = set pile place number in
          let many = length-set pile place number in
          let swapped = exchanged with (count + 1) place (place - 1) (omega arith) (omega arith)
          (omega arith) in
          let here = get_or-set_same pile place number 0 inside in
          let there = get_or-set_other pile place (place - 1) number 0 (λ e. omega arith) in
          let again = set-set pile place number y in
          IsPermutation-trans _ _ _ so_far.moved (rw (here, there, again) at swapped);
    }

-- once all before the place go after the number, it is a pile with the number there
pub pile_with : (keys before pile : List ℕ) (count number place : ℕ)
    → IsSought keys before pile count number place → IsPile keys before count
    → (0 < place → rank_in keys number ≤ rank_in keys (get_or pile (place - 1) 0))
    → IsPile keys (set pile place number) (count + 1)
pile_with keys before pile count number place sought is later =
    let room = sought.room in
    let within = sought.within in
    let long = sought.long in
    let inside : place < length pile = omega arith in
    let here = get_or-set_same pile place number 0 inside in
    record {
      falling = λ i j lt below. elim (cases_eq j place) [
        | inl e ↦
            let last = later (omega arith) in
            let other = get_or-set_other pile place i number 0 (λ f. omega arith) in
            let same = sought.lower i (omega arith) in
            let same' = sought.lower (place - 1) (omega arith) in
            rw (e, here, other, same) (elim (cases_eq i (place - 1)) [
              | inl f ↦ rw f (rw same' at last)
              | inr ne ↦ omega (arith, is.falling i (place - 1) (omega arith) (omega arith), rw same' at last)
            ])
        | inr ne ↦ elim (cases_eq i place) [
          | inl e ↦
              rw (e, here, get_or-set_other pile place j number 0 ne)
              (sought.first j (omega arith) (omega arith))
          | inr ne' ↦
              let other = get_or-set_other pile place j number 0 ne in
              let other' = get_or-set_other pile place i number 0 ne' in
              rw (other, other') (elim (cases_lt j place) [
                | inl low ↦ rw (sought.lower j low, sought.lower i (omega arith))
                    (is.falling i j lt (omega arith))
                | inr high ↦ rw (sought.upper j (omega arith) (omega arith))
                    (elim (cases_lt i place) [
                      | inl low ↦ rw (sought.lower i low) (elim (cases_eq i (j - 1)) [
                        | inl same ↦ rw same (omega arith)
                        | inr apart ↦ is.falling i (j - 1) (omega arith) (omega arith)
                      ])
                      | inr high' ↦ rw (sought.upper i (omega arith) (omega arith))
                          (is.falling (i - 1) (j - 1) (omega arith) (omega arith))
                    ])
              ])
        ]
      ];
    }

-- the numbers before the place are numbers with keys
pub sought_number : (keys before pile : List ℕ) (count number place i : ℕ)
    → IsSought keys before pile count number place
    → All (IsUpTo (length keys)) (take count before) → i < place
    → IsUpTo (length keys) (get_or pile i 0)
sought_number keys before pile count number place i sought all below =
    let within = sought.within in
    let room = sought.room in
    let long = length-take-le count before (omega arith) in
    subst (IsUpTo (length keys))
    (get_or-take count before i 0 (omega arith) ∙ sym (sought.lower i below))
    (all i 0 (omega arith))

-- a pile without its last number is a pile
pub pile_less : (keys pile : List ℕ) (count : ℕ) → IsPile keys pile count
    → IsPile keys pile (count - 1)
pile_less keys pile count is = record { falling = λ i j lt below. is.falling i j lt (omega arith) }

-- what holds of each number of two lists holds of each of the second one
pub all_behind : (P : ℕ → Type 0) (xs ys : List ℕ) → All P (xs ++ ys) → All P ys
all_behind P xs ys all = λ i d h.
    subst P (get_or-append-add xs ys i d)
    (all (length xs + i) d (omega (arith, length-append xs ys)))
