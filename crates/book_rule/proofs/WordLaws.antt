-- The words of a book: where they stand, and what a change of one word leaves of the others.
use Rattle.std.proofs.Common.{◌≡◌, ◌≢◌, ℕ, ◌+◌, ◌*◌, ◌<◌, ◌≤◌, List, length, slice_set, sym, ap, subst, ◌∙◌, inl, inr, arith, mul-le-mul_right, get_or-set_other}
use Rattle.std.proofs.lemmas.Bool.{cases_lt}
use Rattle.std.proofs.lemmas.Grind.{get_or-set_at}
use mathlib.Core.Logic.{dite}
use native.Mathlib.Decide.{ℕ_discrete}
use Rattle.capacity_profile.specs.Lanes.{lane_of}
use Rattle.activity_net.specs.Network.{Listing}
use Rattle.book_rule.specs.Listed.{count, width, horizon_of}
use Rattle.book_rule.specs.Layout.{place, cells, blocks, start_word, offer_word, profile_word, floor_word, word_count}
use Rattle.book_rule.specs.Searches.{block_end}
use Rattle.book_rule.specs.Rule.{StartWords, OfferWords, ProfileWords, FloorWords}

-- a column is within its row, and a row within its table
pub place-inside : (n m p w : ℕ) → w < n → p < m → place n p w < place n m 0
unfolding place
place-inside n m p w column row =
    let next : p + 1 ≤ m = omega arith in
    omega (arith, mul-le-mul_right n next)

-- two places of a table are apart unless they are the same
pub place-apart : (n p w q v : ℕ) → w < n → v < n → place n p w ≡ place n q v → (p ≡ q) × (w ≡ v)
unfolding place
place-apart n p w q v there other same =
    let lower = λ (a b : ℕ) (lt : a + 1 ≤ b). mul-le-mul_right n lt in
    elim (cases_lt p q) [
      | inl before ↦ absurd (let low = lower p q (omega arith) in omega arith)
      | inr later ↦ elim (cases_lt q p) [
        | inl after ↦ absurd (let low = lower q p (omega arith) in omega arith)
        | inr early ↦
            let row : p ≡ q = omega arith in
            let rows : p * n ≡ q * n = ap (λ (a : ℕ). a * n) row in
            (row, omega arith)
      ]
    ]

-- one column, and one row further
pub place-next : (n p w : ℕ) → place n p (w + 1) ≡ place n p w + 1
unfolding place
place-next n p w = omega arith

pub place-row : (n p : ℕ) → place n (p + 1) 0 ≡ place n p 0 + n
unfolding place
place-row n p = omega arith

-- a profile word stands before the floors, and a floor before the end
pub profile_word-inside : (list : Listing) (p w : ℕ) → p < horizon_of list → w < width list
    → profile_word list p w < 32 + (count list + (count list + cells list))
unfolding cells
profile_word-inside list p w row column =
    omega (arith, place-inside (width list) (horizon_of list) p w column row)

pub floor_word-inside : (list : Listing) (b w : ℕ) → b < blocks list → w < width list
    → floor_word list b w < word_count list
floor_word-inside list b w row column =
    omega (arith, place-inside (width list) (blocks list) b w column row)

-- a period of a block is below the horizon, and its block is one of the blocks
pub block-inside : (list : Listing) (b p : ℕ) → 32 * b ≤ p → p < block_end list b
    → (b < blocks list) × (p < horizon_of list)
unfolding blocks
block-inside list b p from below = (omega arith, omega arith)

module _ (list : Listing) (words : List ℕ) (j x : ℕ) where
  -- a change of another word
  pub starts-other : (value : ℕ → ℕ) → StartWords list value words
      → ((i : ℕ) → i < count list → j ≢ start_word i) → StartWords list value (slice_set words j x)
  starts-other value starts other = λ i there.
      get_or-set_other words j (start_word i) x 0 (λ e. other i there (sym e)) ∙ starts i there

  pub offers-other : (value : ℕ → ℕ) → OfferWords list value words
      → ((i : ℕ) → i < count list → j ≢ offer_word list i)
      → OfferWords list value (slice_set words j x)
  offers-other value offers other = λ i there.
      get_or-set_other words j (offer_word list i) x 0 (λ e. other i there (sym e)) ∙ offers i there

  pub profile-other : (at : ℕ → ℕ → ℕ → ℕ) → ProfileWords list at words
      → ((p w : ℕ) → p < horizon_of list → w < width list → j ≢ profile_word list p w)
      → ProfileWords list at (slice_set words j x)
  profile-other at profile other = λ p w l row column lane.
      let same = get_or-set_other words j (profile_word list p w) x 0
      (λ e. other p w row column (sym e)) in
      ap (λ (n : ℕ). lane_of n l) same ∙ profile p w l row column lane

  pub floors-other : (at : ℕ → ℕ → ℕ → ℕ) → FloorWords list at words
      → ((b w : ℕ) → b < blocks list → w < width list → j ≢ floor_word list b w)
      → FloorWords list at (slice_set words j x)
  floors-other at floors other = λ b w p l from below column lane.
      let row = (block-inside list b p from below).0 in
      let same = get_or-set_other words j (floor_word list b w) x 0
      (λ e. other b w row column (sym e)) in
      subst (λ (n : ℕ). lane_of n l ≤ at w l p) (sym same) (floors b w p l from below column lane)

  -- a change of this word
  pub starts-at : (i : ℕ) (value after : ℕ → ℕ) → StartWords list value words
      → length words ≡ word_count list
      → i < count list → j ≡ start_word i → after i ≡ x → ((k : ℕ) → k ≢ i → after k ≡ value k)
      → StartWords list after (slice_set words j x)
  starts-at i value after starts wide there at here others = λ k inside. dite (ℕ_discrete k i)
      (λ e.
      get_or-set_at words j (start_word k) x 0 (omega arith) (omega arith)
      ∙ (sym here ∙ ap after (sym e)))
      (λ n.
      get_or-set_other words j (start_word k) x 0 (λ e. n (omega arith))
      ∙ (starts k inside ∙ sym (others k n)))

  pub offers-at : (i : ℕ) (value after : ℕ → ℕ) → OfferWords list value words
      → length words ≡ word_count list
      → i < count list → j ≡ offer_word list i → after i ≡ x → ((k : ℕ) → k ≢ i → after k ≡ value k)
      → OfferWords list after (slice_set words j x)
  offers-at i value after offers wide there at here others = λ k inside. dite (ℕ_discrete k i)
      (λ e.
      get_or-set_at words j (offer_word list k) x 0 (omega arith) (omega arith)
      ∙ (sym here ∙ ap after (sym e)))
      (λ n.
      get_or-set_other words j (offer_word list k) x 0 (λ e. n (omega arith))
      ∙ (offers k inside ∙ sym (others k n)))

  pub profile-at : (p w : ℕ) (at after : ℕ → ℕ → ℕ → ℕ) → ProfileWords list at words
      → length words ≡ word_count list → p < horizon_of list → w < width list
      → j ≡ profile_word list p w
      → ((l : ℕ) → l < 4 → lane_of x l ≡ after w l p)
      → ((q v l : ℕ) → v < width list → l < 4 → ((p ≡ q) × (w ≡ v) → ⊥) → after v l q ≡ at v l q)
      → ProfileWords list after (slice_set words j x)
  profile-at p w at after profile wide row column there here others = λ q v l below inside lane.
      let within = profile_word-inside list p w row column in
      dite (ℕ_discrete (profile_word list q v) j)
      (λ e.
      let same = place-apart (width list) p w q v column inside (omega arith) in
      let value = get_or-set_at words j (profile_word list q v) x 0 e (omega arith) in
      ap (λ (n : ℕ). lane_of n l) value
      ∙ (here l lane ∙ (ap (λ (u : ℕ). after u l p) same.1 ∙ ap (λ (r : ℕ). after v l r) same.0)))
      (λ n.
      let apart : (p ≡ q) × (w ≡ v) → ⊥ = λ same.
      n (ap (λ (u : ℕ). profile_word list q u) (sym same.1)
      ∙ (ap (λ (r : ℕ). profile_word list r w) (sym same.0) ∙ sym there)) in
      let value = get_or-set_other words j (profile_word list q v) x 0 n in
      ap (λ (n : ℕ). lane_of n l) value
      ∙ (profile q v l below inside lane ∙ sym (others q v l inside lane apart)))

  pub floors-at : (b w : ℕ) (at : ℕ → ℕ → ℕ → ℕ) → FloorWords list at words
      → length words ≡ word_count list → b < blocks list → w < width list → j ≡ floor_word list b w
      → ((p l : ℕ) → 32 * b ≤ p → p < block_end list b → l < 4 → lane_of x l ≤ at w l p)
      → FloorWords list at (slice_set words j x)
  floors-at b w at floors wide row column there here = λ c v p l from below inside lane.
      let within = floor_word-inside list b w row column in
      dite (ℕ_discrete (floor_word list c v) j)
      (λ e.
      let same = place-apart (width list) b w c v column inside (omega arith) in
      let value = get_or-set_at words j (floor_word list c v) x 0 e (omega arith) in
      let block : block_end list b ≡ block_end list c = ap (block_end list) same.0 in
      let low = here p l (omega arith) (omega arith) lane in
      subst (λ (n : ℕ). lane_of n l ≤ at v l p) (sym value)
      (subst (λ (u : ℕ). lane_of x l ≤ at u l p) same.1 low))
      (λ n.
      let value = get_or-set_other words j (floor_word list c v) x 0 n in
      subst (λ (n : ℕ). lane_of n l ≤ at v l p) (sym value) (floors c v p l from below inside lane))

-- levels that are the same, or have risen
pub starts-same : (list : Listing) (words : List ℕ) (value after : ℕ → ℕ)
    → StartWords list value words
    → ((i : ℕ) → i < count list → after i ≡ value i) → StartWords list after words
starts-same list words value after starts same = λ i there. starts i there ∙ sym (same i there)

pub profile-same : (list : Listing) (words : List ℕ) (at after : ℕ → ℕ → ℕ → ℕ)
    → ProfileWords list at words
    → ((p w l : ℕ) → w < width list → l < 4 → after w l p ≡ at w l p)
    → ProfileWords list after words
profile-same list words at after profile same = λ p w l row column lane.
    profile p w l row column lane ∙ sym (same p w l column lane)

pub floors-up : (list : Listing) (words : List ℕ) (at after : ℕ → ℕ → ℕ → ℕ)
    → FloorWords list at words
    → ((p w l : ℕ) → w < width list → l < 4 → at w l p ≤ after w l p) → FloorWords list after words
floors-up list words at after floors higher = λ b w p l from below column lane.
    omega (arith, floors b w p l from below column lane, higher p w l column lane)
