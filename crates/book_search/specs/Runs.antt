-- The words of a block that a search has loaded one after another, and their least values.
use Rattle.std.specs.Prelude.{◌≡◌, ℕ, ◌*◌, ◌<◌, ◌≤◌, ◌⊎◌, List, slice_index}
use Rattle.std.specs.List.{Contains}
use Rattle.capacity_profile.specs.Lanes.{lane_of}
use Rattle.book_rule.specs.declared.view.Kept.{Kept}
use Rattle.book_search.specs.declared.floors.Floors.{Floors}

-- lane by lane, a word is at most another
abbrev pub IsBelow : ℕ → ℕ → Type 0
IsBelow low high = (l : ℕ) → l < 4 → lane_of low l ≤ lane_of high l

-- period p is among those of the block whose words at index w were loaded
abbrev pub IsRun : Floors → ℕ → ℕ → Type 0
IsRun floors w p = (32 * floors.block ≤ p) × (p < slice_index floors.next w)

-- what a pass keeps of the word at index w of period p in block b: it is nowhere below the floor
pub record IsKept (block : ℕ) (all : List Kept) (b w p floor : ℕ) : Type 0 where
  pub here : block ≡ b
  pub kept : Kept
  pub there : Contains all kept
  pub period : kept.period ≡ p
  pub index : kept.index ≡ w
  pub low : IsBelow floor kept.value

-- the pass keeps a value of each of these words, and none is below their least values
abbrev pub AreKept : ℕ → List Kept → Floors → Type 0
AreKept block all floors = (w p : ℕ) → w < 4 → IsRun floors w p
    → IsKept block all floors.block w p (slice_index floors.least w)

-- the same words, or none
abbrev pub AreOf : Floors → Floors → Type 0
AreOf before after = (w p : ℕ) → w < 4 → IsRun after w p
    → (before.block ≡ after.block) × IsRun before w p
    × (slice_index after.least w ≡ slice_index before.least w)

-- these words, and at most one more: that at index i of period q, with the value x
abbrev pub AreWith : Floors → ℕ → ℕ → ℕ → Floors → Type 0
AreWith before q i x after = (w p : ℕ) → w < 4 → IsRun after w p
    → (IsRun before w p × IsBelow (slice_index after.least w) (slice_index before.least w))
    ⊎ ((w ≡ i) × (p ≡ q) × IsBelow (slice_index after.least w) x)
