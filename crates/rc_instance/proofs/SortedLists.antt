-- Lists of successors of which the first ones are sorted already.
use Rattle.std.proofs.Common.{◌≡◌, ℕ, suc, ◌<◌, ◌≤◌, get_or, Vec, Global, List, [], ◌∷◌, length, map, refl, arith, All}
use Rattle.std.proofs.lemmas.List.Elements.{All-cons, All-head, All-tail}
use Rattle.rc_instance.specs.Parts.{named_up_to}

-- each list before a place is sorted and without repetitions, the others are as they were
pub record AreSortedUpTo (count place : ℕ) (before after : List (Vec ℕ Global)) : Type 0 where
  pub sorted : (i : ℕ) (d : Vec ℕ Global) → i < place → (get_or after i d).items ≡ named_up_to count (get_or before i d).items
  pub rest : (i : ℕ) (d : Vec ℕ Global) → place ≤ i → get_or after i d ≡ get_or before i d

-- once all are sorted, the lists are the numbers that the former ones name
pub all_sorted : (count : ℕ) (before after : List (Vec ℕ Global)) → length after ≡ length before → AreSortedUpTo count (length after) before after
    → map (λ (v : Vec ℕ Global). v.items) after ≡ map (named_up_to count) (map (λ (v : Vec ℕ Global). v.items) before)
all_sorted count [] [] same are = refl
all_sorted count [] (y ∷ ys) same are = Prim.absurd (omega (arith, same))
all_sorted count (x ∷ xs) [] same are = Prim.absurd (omega (arith, same))
all_sorted count (x ∷ xs) (y ∷ ys) same are =
    let tail : AreSortedUpTo count (length ys) xs ys = record {
      sorted = λ i d h. are.sorted (suc i) d (omega arith);
      rest = λ i d h. are.rest (suc i) d (omega arith);
    } in
    rw (are.sorted 0 x (omega arith), all_sorted count xs ys (omega arith) tail) refl

-- the lists that vectors hold
abbrev pub lists_of : List (Vec ℕ Global) → List (List ℕ)
lists_of vectors = map (λ (v : Vec ℕ Global). v.items) vectors

-- what holds of each number of each list holds in the vectors
pub all_within : (P : ℕ → Type 0) (vectors : List (Vec ℕ Global)) → All (All P) (lists_of vectors) → All (λ (v : Vec ℕ Global). All P v.items) vectors
all_within P [] all = λ i d h. absurd (omega arith)
all_within P (v ∷ vs) all =
    All-cons (λ (v : Vec ℕ Global). All P v.items) v vs (All-head (All P) v.items (lists_of vs) all)
    (all_within P vs (All-tail (All P) v.items (lists_of vs) all))
