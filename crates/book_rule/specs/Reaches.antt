-- How far a start has been followed: some whole periods, and some words of the next one.
use Rattle.std.specs.Prelude.{ℕ, ◌+◌, ◌&&◌, ◌||◌, Bool, nat_eq, nat_le, nat_lt, if◌then◌else◌}
use Rattle.activity_net.specs.Network.{Listing}
use Rattle.book_rule.specs.declared.view.Reach.{Reach}
use Rattle.book_rule.specs.Listed.{lasts, begins, width, need}

abbrev pub none_reached : Reach
none_reached = record { periods = 0; words = 0 }

-- one word further, where a period has so many
abbrev pub next_reach : ℕ → Reach → Reach
next_reach width r =
    if nat_lt (r.words + 1) width then record { periods = r.periods; words = r.words + 1 }
    else record { periods = r.periods + 1; words = 0 }

-- whether word w of period p is among those that were reached from a start on
abbrev pub in_reach : ℕ → Reach → ℕ → ℕ → Bool
in_reach start r p w =
    nat_le start p
    && (nat_lt p (start + r.periods) || (nat_eq p (start + r.periods) && nat_lt w r.words))

-- whether all words of the activity at position i were reached
abbrev pub is_whole : Listing → ℕ → Reach → Bool
is_whole list i r = nat_eq (width list) 0 || nat_eq r.periods (lasts list i)

-- what the activity at position c adds to a lane, where so many of its words were added
unfoldable pub share : Listing → ℕ → Reach → ℕ → ℕ → ℕ → ℕ
share list c r w l p = if in_reach (begins list c) r p w then need list c w l else 0
