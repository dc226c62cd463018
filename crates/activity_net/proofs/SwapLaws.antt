-- Orders with the activities at a place and at the next one in each other's place.
use Rattle.std.proofs.Common.{◌≡◌, ◌≢◌, ℕ, ◌+◌, ◌<◌, ◌⊎◌, false, List, length, get_or, take, slice_index, sym, refl, ap, ◌∙◌, subst, inl, inr, arith, true≢false}
use Rattle.std.specs.List.{AllPairs, swap}
use Rattle.std.proofs.lemmas.Bool.{cases_eq, cases_lt}
use Rattle.std.proofs.lemmas.List.{get_or_default, get_or-take, length-take, same_lists}
use Rattle.std.proofs.lemmas.List.Edits.{swapped_from_swap, length-swap}
use Rattle.rc_instance.specs.Project.{Project, IsActivity, Precedes, precedes}
use Rattle.rc_instance.specs.Order.{IsFeasibleList}

-- the place from which place k has its activity, once places i and i + 1 are exchanged
abbrev pub IsFrom : ℕ → ℕ → ℕ → Type 0
IsFrom i k from =
    ((k ≡ i) × (from ≡ i + 1))
    ⊎ (((k ≡ i + 1) × (from ≡ i)) ⊎ ((k ≢ i) × (k ≢ i + 1) × (from ≡ k)))

-- each place has its activity from one place
pub swapped_at : (xs : List ℕ) (i k d : ℕ) → i + 1 < length xs
    → (from : ℕ) × IsFrom i k from × (get_or (swap xs i (i + 1)) k d ≡ get_or xs from d)
swapped_at xs i k d within =
    let swapped = swapped_from_swap xs (swap xs i (i + 1)) i (i + 1) d (omega arith) within refl in
    let at = λ (m : ℕ). get_or (swap xs i (i + 1)) m d in
    elim (cases_eq k i) as
    (λ _. (from : ℕ) × IsFrom i k from × (at k ≡ get_or xs from d)) [
      | inl e ↦ (i + 1, inl (e, refl), ap at e ∙ swapped.0)
      | inr ne ↦ elim (cases_eq k (i + 1)) as
          (λ _. (from : ℕ) × IsFrom i k from × (at k ≡ get_or xs from d)) [
            | inl e ↦ (i, inr (inl (e, refl)), ap at e ∙ swapped.1)
            | inr other ↦ (k, inr (inr (ne, other, refl)), swapped.2 k ne other)
          ]
    ]

-- two such places stand for each other
IsFrom-back : (i k from : ℕ) → IsFrom i k from → IsFrom i from k
IsFrom-back i k from (inl (e, f)) = inr (inl (f, e))
IsFrom-back i k from (inr (inl (e, f))) = inl (f, e)
IsFrom-back i k from (inr (inr (e, f, g))) =
    inr (inr ((λ h. omega arith), (λ h. omega arith), sym g))

-- and each place gives its activity to one place
pub swapped_to : (xs : List ℕ) (i k d : ℕ) → i + 1 < length xs
    → (to : ℕ) × IsFrom i to k × (get_or (swap xs i (i + 1)) to d ≡ get_or xs k d)
swapped_to xs i k d within =
    let there = swapped_at xs i k d within in
    let back = swapped_at xs i there.0 d within in
    let is : IsFrom i k there.0 = there.1 in
    let from : IsFrom i there.0 back.0 = back.1 in
    let same : back.0 ≡ k = omega arith in
    (there.0, IsFrom-back i k there.0 there.1, back.2 ∙ ap (λ m. get_or xs m d) same)

-- exchanged twice, an order is what it was
pub swap_back : (xs : List ℕ) (i : ℕ) → i + 1 < length xs
    → swap (swap xs i (i + 1)) i (i + 1) ≡ xs
swap_back xs i within =
    let ys = swap xs i (i + 1) in
    let long = length-swap xs i (i + 1) in
    same_lists (swap ys i (i + 1)) xs (length-swap ys i (i + 1) ∙ long)
    (λ k d _.
    let again = swapped_at ys i k d (omega arith) in
    let once = swapped_at xs i again.0 d within in
    let there : IsFrom i k again.0 = again.1 in
    let here : IsFrom i again.0 once.0 = once.1 in
    let same : once.0 ≡ k = omega arith in
    again.2 ∙ (once.2 ∙ ap (λ m. get_or xs m d) same))

-- an exchange leaves what stands before it
pub take-swap : (xs : List ℕ) (i : ℕ) → i + 1 < length xs
    → take i (swap xs i (i + 1)) ≡ take i xs
take-swap xs i within =
    let ys = swap xs i (i + 1) in
    let long = length-swap xs i (i + 1) in
    same_lists (take i ys) (take i xs) (omega (arith, length-take i ys, length-take i xs))
    (λ k d inside.
    let below : k < i = omega (arith, length-take i ys) in
    let at = swapped_at xs i k d within in
    let is : IsFrom i k at.0 = at.1 in
    let same : at.0 ≡ k = omega arith in
    get_or-take i ys k d below
    ∙ (at.2 ∙ (ap (λ m. get_or xs m d) same ∙ sym (get_or-take i xs k d below))))

-- distinct numbers are distinct at any two places
distinct_at : (xs : List ℕ) (j k d : ℕ) → AllPairs (λ a b. a ≢ b) xs → j ≢ k → j < length xs
    → k < length xs → get_or xs j d ≢ get_or xs k d
distinct_at xs j k d once differ inside within = λ same.
    elim (cases_lt j k) as (λ _. ⊥) [
      | inl below ↦ once j k d below within same
      | inr above ↦ once k j d (omega arith) inside (sym same)
    ]

-- a feasible list stays feasible where one activity is exchanged with the next one, which it does
-- not precede directly
pub IsFeasibleList-swap : (project : Project) (order : List ℕ) (i : ℕ)
    → IsFeasibleList project order → i + 1 < length order
    → precedes project (slice_index order i) (slice_index order (i + 1)) ≡ false
    → IsFeasibleList project (swap order i (i + 1))
IsFeasibleList-swap project order i list within free =
    let ys = swap order i (i + 1) in
    let long = length-swap order i (i + 1) in
    record {
      count = long ∙ list.count;
      activities = λ k d inside.
          let at = swapped_at order i k d within in
          let is : IsFrom i k at.0 = at.1 in
          subst (IsActivity project) (sym at.2) (list.activities at.0 d (omega arith));
      once = λ j k d below inside same.
          let first = swapped_at order i j d within in
          let second = swapped_at order i k d within in
          let is : IsFrom i j first.0 = first.1 in
          let of : IsFrom i k second.0 = second.1 in
          distinct_at order first.0 second.0 d list.once (λ e. omega arith) (omega arith)
          (omega arith) (sym first.2 ∙ (same ∙ second.2));
      after = λ place a inside activity before.
          let at = swapped_at order i place 0 within in
          let is : IsFrom i place at.0 = at.1 in
          let there = subst (Precedes project a) at.2 before in
          let named = list.after at.0 a (omega arith) activity there in
          let k = named.0 in
          let low : k < at.0 = omega (arith, named.1, length-take at.0 order) in
          let value : get_or order k a ≡ a = sym (get_or-take at.0 order k a low) ∙ named.2 in
          let to = swapped_to order i k a within in
          let of : IsFrom i to.0 k = to.1 in
          let apart : place ≡ i → k ≡ i → ⊥ = λ e f.
          let next : at.0 ≡ i + 1 = omega arith in
          let first : slice_index order i ≡ a =
          get_or_default order i 0 a (omega arith)
          ∙ (ap (λ m. get_or order m a) (sym f) ∙ value) in
          let by = subst (λ m. Precedes project a (slice_index order m)) next there in
          let to_next = λ (x : ℕ). precedes project x (slice_index order (i + 1)) in
          true≢false (sym by ∙ (ap to_next (sym first) ∙ free)) in
          let early : to.0 < place =
          elim (cases_eq place i) as (λ _. to.0 < place) [
            | inl e ↦ elim (cases_eq k i) as (λ _. to.0 < place)
                [ inl f ↦ absurd (apart e f) | inr ne ↦ omega arith ]
            | inr ne ↦ omega arith
          ] in (
            to.0,
            omega (arith, length-take place ys),
            get_or-take place ys to.0 a early ∙ (to.2 ∙ value),
          );
    }
