-- Where words are drawn, and lists that grow with them.
use Rattle.std.proofs.Common.{◌≡◌, ℕ, suc, ◌+◌, ◌-◌, ◌<◌, ◌≤◌, Bool, true, false, not, ◌&&◌, List, [], ◌∷◌, ◌++◌, length, map, nat_eq, ◌≢◌, ◌||◌, sym, refl, ap, ◌∙◌, arith, append-nil, append_assoc, eq-eqb, ne_eqb, if◌then◌else◌}
use Rattle.std.specs.List.{filter, flat_map, range_with_len}
use Rattle.std.proofs.Math.Nat.{mul-le-mul_right, suc-mul}
use Rattle.std.proofs.lemmas.List.{map-append}
use Rattle.std.proofs.lemmas.List.Elements.{filter-append}
use Rattle.std.proofs.lemmas.List.FromFn.{map-range_with_len_more}
use Rattle.std.proofs.lemmas.Grind.{flat_map-append}
use Rattle.std.specs.Prelude.{Vec}
use Rattle.std.specs.declared.alloc.Global.{Global}
use Rattle.trial_instance.specs.Trial.{first_word, trial_predecessor, was_drawn, or_last}

-- the words of an activity lie before those of a later one
pub row-within : (resources j later : ℕ) → 2 ≤ j → j < later
    → first_word resources j + (resources + 3) ≤ first_word resources later
row-within resources j later from below =
    let more : suc (j - 2) ≤ later - 2 = omega arith in
    omega (
      arith,
      mul-le-mul_right (resources + 3) more,
      suc-mul (j - 2) (resources + 3),
    )

-- the numbers from a on, with one more
range_more : (a n j : ℕ) → a + n ≡ j
    → range_with_len a (n + 1) ≡ range_with_len a n ++ j ∷ []
range_more a n j is =
    let same : (xs : List ℕ) → map (λ x. x) xs ≡ xs = map-same in
    sym (same (range_with_len a (n + 1))) ∙ (map-range_with_len_more (λ x. x) a n j is
    ∙ ap (λ (xs : List ℕ). xs ++ j ∷ []) (same (range_with_len a n)))
  where
    map-same : (xs : List ℕ) → map (λ x. x) xs ≡ xs
    map-same [] = refl
    map-same (x ∷ xs) = ap (λ (ys : List ℕ). x ∷ ys) (map-same xs)

-- the numbers from a on up to the next one
pub range_next : (a j : ℕ) → a ≤ j
    → range_with_len a (j + 1 - a) ≡ range_with_len a (j - a) ++ j ∷ []
range_next a j from =
    let next : j + 1 - a ≡ j - a + 1 = omega arith in
    ap (range_with_len a) next ∙ range_more a (j - a) j (omega arith)

-- a map over them
pub map-next : {X : Type 0} (f : ℕ → X) (a j : ℕ) → a ≤ j
    → map f (range_with_len a (j + 1 - a)) ≡ map f (range_with_len a (j - a)) ++ f j ∷ []
map-next f a j from =
    ap (map f) (range_next a j from) ∙ map-append f (range_with_len a (j - a)) (j ∷ [])

-- lists for each of them
pub flat_map-next : (f : ℕ → List ℕ) (a j : ℕ) → a ≤ j
    → flat_map f (range_with_len a (j + 1 - a)) ≡ flat_map f (range_with_len a (j - a)) ++ f j
flat_map-next f a j from =
    ap (flat_map f) (range_next a j from)
    ∙ (flat_map-append f (range_with_len a (j - a)) (j ∷ [])
    ∙ ap (λ (xs : List ℕ). flat_map f (range_with_len a (j - a)) ++ xs) (append-nil (f j)))

-- those of them that pass
pub filter-next : (p : ℕ → Bool) (a j : ℕ) → a ≤ j
    → filter p (range_with_len a (j + 1 - a))
    ≡ filter p (range_with_len a (j - a)) ++ (if p j then j ∷ [] else [])
filter-next p a j from =
    ap (filter p) (range_next a j from) ∙ filter-append p (range_with_len a (j - a)) (j ∷ [])

-- a duration more
pub duration-next : (f : ℕ → ℕ) (a v : ℕ) (old new : List ℕ) → 2 ≤ a → new ≡ old ++ v ∷ []
    → old ≡ 0 ∷ map f (range_with_len 2 (a - 2)) → v ≡ f a
    → new ≡ 0 ∷ map f (range_with_len 2 (a + 1 - 2))
duration-next f a v old new from pushed before is =
    pushed ∙ (ap (λ (xs : List ℕ). xs ++ v ∷ []) before
    ∙ (ap (λ (x : ℕ). (0 ∷ map f (range_with_len 2 (a - 2))) ++ x ∷ []) is
    ∙ ap (λ (xs : List ℕ). 0 ∷ xs) (sym (map-next f 2 a from))))

-- a row of demands more
pub demands-next : (f : ℕ → List ℕ) (a : ℕ) (zeros old new : List ℕ) → 2 ≤ a → new ≡ old ++ f a
    → old ≡ zeros ++ flat_map f (range_with_len 2 (a - 2))
    → new ≡ zeros ++ flat_map f (range_with_len 2 (a + 1 - 2))
demands-next f a zeros old new from pushed before =
    pushed ∙ (ap (λ (xs : List ℕ). xs ++ f a) before
    ∙ (append_assoc zeros (flat_map f (range_with_len 2 (a - 2))) (f a)
    ∙ ap (λ (xs : List ℕ). zeros ++ xs) (sym (flat_map-next f 2 a from))))

-- a demand more
pub demand-next : (f : ℕ → ℕ) (k v : ℕ) (first old new : List ℕ) → 1 ≤ k → new ≡ old ++ v ∷ []
    → old ≡ first ++ map f (range_with_len 1 (k - 1)) → v ≡ f k
    → new ≡ first ++ map f (range_with_len 1 (k + 1 - 1))
demand-next f k v first old new from pushed before is =
    pushed ∙ (ap (λ (xs : List ℕ). xs ++ v ∷ []) before
    ∙ (append_assoc first (map f (range_with_len 1 (k - 1))) (v ∷ [])
    ∙ ap (λ (xs : List ℕ). first ++ xs)
    (ap (λ (x : ℕ). map f (range_with_len 1 (k - 1)) ++ x ∷ []) is ∙ sym (map-next f 1 k from))))

-- a successor more, if it was drawn
pub drawn-next : (p : ℕ → Bool) (a : ℕ) (test : Bool) (old new : List ℕ) → 2 ≤ a
    → new ≡ old ++ (if test then a ∷ [] else []) → old ≡ filter p (range_with_len 2 (a - 2))
    → test ≡ p a → new ≡ filter p (range_with_len 2 (a + 1 - 2))
drawn-next p a test old new from pushed before is =
    pushed ∙ (ap (λ (xs : List ℕ). xs ++ (if test then a ∷ [] else [])) before
    ∙ (ap (λ (t : Bool). filter p (range_with_len 2 (a - 2)) ++ (if t then a ∷ [] else [])) is
    ∙ sym (filter-next p 2 a from)))

-- the first or the second predecessor is the activity
pub drawn-first : (resources : ℕ) (words : List ℕ) (a j x : ℕ)
    → x ≡ trial_predecessor resources words j 1 → x ≡ a
    → nat_eq x a ≡ was_drawn resources words a j
unfolding was_drawn
drawn-first resources words a j x is same =
    eq-eqb x a same
    ∙ sym (ap (λ (t : Bool). t || nat_eq (trial_predecessor resources words j 2) a)
    (eq-eqb (trial_predecessor resources words j 1) a (sym is ∙ same)))

pub drawn-second : (resources : ℕ) (words : List ℕ) (a j x y : ℕ)
    → x ≡ trial_predecessor resources words j 1 → y ≡ trial_predecessor resources words j 2 → x ≢ a
    → nat_eq y a ≡ was_drawn resources words a j
unfolding was_drawn
drawn-second resources words a j x y first second differ =
    ap (λ (n : ℕ). nat_eq n a) second
    ∙ sym (ap (λ (t : Bool). t || nat_eq (trial_predecessor resources words j 2) a)
    (ne_eqb (trial_predecessor resources words j 1) a (λ e. differ (first ∙ e))))

-- the last activity behind those that were drawn, where it is next
pub or_last-is : (n a : ℕ) (js : List ℕ)
    → js ++ (if nat_eq (length js) 0 && not (nat_eq a n) then n ∷ [] else []) ≡ or_last n a js
or_last-is n a [] =
    elim (nat_eq a n) as (λ (b : Bool). (if not b then n ∷ [] else []) ≡ (if b then [] else n ∷ [])) [
      | true ↦ refl
      | false ↦ refl
    ]
or_last-is n a (j ∷ js) =
    let some : nat_eq (length (j ∷ js)) 0 ≡ false =
    ne_eqb (length (j ∷ js)) 0 (λ e. absurd (omega arith)) in
    ap (λ (b : Bool). (j ∷ js) ++ (if b && not (nat_eq a n) then n ∷ [] else [])) some
    ∙ append-nil (j ∷ js)

-- a list of successors more
pub lists-next : (f : ℕ → List ℕ) (a : ℕ) (old new : List (Vec ℕ Global)) (v : Vec ℕ Global)
    → 1 ≤ a → new ≡ old ++ v ∷ []
    → map (λ (list : Vec ℕ Global). list.items) old ≡ map f (range_with_len 1 (a - 1))
    → v.items ≡ f a
    → map (λ (list : Vec ℕ Global). list.items) new ≡ map f (range_with_len 1 (a + 1 - 1))
lists-next f a old new v from pushed before is =
    let items : Vec ℕ Global → List ℕ = λ list. list.items in
    ap (map items) pushed ∙ (map-append items old (v ∷ [])
    ∙ (ap (λ (xs : List (List ℕ)). xs ++ v.items ∷ []) before
    ∙ (ap (λ (x : List ℕ). map f (range_with_len 1 (a - 1)) ++ x ∷ []) is
    ∙ sym (map-next f 1 a from))))
