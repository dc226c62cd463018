-- Counts that go up by one.
use Rattle.std.proofs.Common.{◌≡◌, ap, ℕ, zero, suc, min, ◌+◌, ◌-◌, ◌^◌, ◌<◌, ◌≤◌, arith}
use Rattle.rc_edge.specs.Faults.{one_more, counted_on}

-- one more after so many more
pub counted_on-more : (count more : ℕ) → counted_on count (more + 1) ≡ one_more (counted_on count more)
counted_on-more count more =
    let next : more + 1 ≡ suc more = omega arith in
    ap (counted_on count) next

-- after some more it is their sum, or stands at the end of its type
pub counted_on-suc : (count more : ℕ)
    → counted_on count (suc more) ≡ min (count + suc more) (2 ^ 64 - 1)
counted_on-suc count zero = omega arith
counted_on-suc count (suc more) = omega (arith, counted_on-suc count more)

-- after more it is no lower
pub counted_on-le : (count few many : ℕ) → few < many
    → counted_on count (few + 1) ≤ counted_on count many
counted_on-le count few zero below = absurd (omega arith)
counted_on-le count few (suc many) below =
    omega (arith, counted_on-more count few, counted_on-suc count few, counted_on-suc count many)
