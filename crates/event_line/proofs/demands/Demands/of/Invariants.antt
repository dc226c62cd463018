use Rattle.std.proofs.Common.{◌≡◌, ℕ, ◌^◌, ◌<◌, ◌≤◌, get_or}
use Rattle.event_line.specs.Lanes.{IsVector}
use Rattle.event_line.proofs.demands.Demands.of.Given as goal

-- the first demands are packed, and nothing else is
abbrev pub invariant-loop-j : goal.invariant-loop-j
invariant-loop-j l =
    IsVector l.vector
    × ((i : ℕ) → i < l.j → get_or l.demands i 0 < 2 ^ 16
    → get_or l.vector i 0 ≡ get_or l.demands i 0)
    × ((i : ℕ) → l.j ≤ i → get_or l.vector i 0 ≡ 0)
