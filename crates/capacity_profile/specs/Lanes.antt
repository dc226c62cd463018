-- Words of four lanes, each a number below 65,536.
use Rattle.std.specs.Prelude.{◌≡◌, ℕ, zero, suc, min, ◌+◌, ◌*◌, ◌/◌, ◌%◌, ◌<◌, ◌≤◌, ◌||◌, Bool, nat_lt}

-- the lane at an index: lane 0 is the lowest
unfoldable pub lane_of : ℕ → ℕ → ℕ
lane_of word zero = word % 65536
lane_of word (suc i) = lane_of (word / 65536) i

-- the word with these lanes
abbrev pub packed : ℕ → ℕ → ℕ → ℕ → ℕ
packed a b c d = a + 65536 * b + 4294967296 * c + 281474976710656 * d

-- whether a lane of the word and of the demand together are above that of the capacity
abbrev pub exceeds_in : ℕ → ℕ → ℕ → ℕ → Bool
exceeds_in word demand capacity i = nat_lt (lane_of capacity i) (lane_of word i + lane_of demand i)

-- whether that is so in any of the four
abbrev pub exceeds : ℕ → ℕ → ℕ → Bool
exceeds word demand capacity =
    exceeds_in word demand capacity 0 || exceeds_in word demand capacity 1
    || exceeds_in word demand capacity 2 || exceeds_in word demand capacity 3

-- some lane is above its capacity once the demand is added
abbrev pub IsBlocked : ℕ → ℕ → ℕ → Type 0
IsBlocked word demand capacity =
    (i : ℕ) × (i < 4) × (lane_of capacity i < lane_of word i + lane_of demand i)

-- each lane is the sum of the two lanes
abbrev pub AreSums : ℕ → ℕ → ℕ → Type 0
AreSums word amount result = (i : ℕ) → i < 4 → lane_of result i ≡ lane_of word i + lane_of amount i

-- each lane is the least of the two lanes
abbrev pub AreLeast : ℕ → ℕ → ℕ → Type 0
AreLeast one other result = (i : ℕ) → i < 4
    → lane_of result i ≡ min (lane_of one i) (lane_of other i)
