-- The search of a pass: what is true of it, and what each load makes of it.
use Rattle.std.specs.Prelude.{◌≡◌, ℕ, max, min, ◌+◌, ◌-◌, ◌*◌, ◌<◌, ◌≤◌, ◌&&◌, ◌||◌, Bool, false, nat_eq, nat_le, nat_lt, if◌then◌else◌}
use Rattle.std.specs.List.{list_all, range_with_len}
use Rattle.capacity_profile.specs.Lanes.{lane_of}
use Rattle.activity_net.specs.Network.{Listing}
use Rattle.book_rule.specs.declared.view.Search.{Search}
use Rattle.book_rule.specs.Listed.{count, activity_at, lasts, begins, before_count, before, width, horizon_of, need, room, level}
use Rattle.book_rule.specs.Reaches.{none_reached, next_reach, is_whole}

-- What the search has seen is so beside the first g bookings: the predecessors it has read, where
-- they are among them, end by its least start, and the periods and words from there on have room.
pub record IsSeen (list : Listing) (g : ℕ) (s : Search) : Type 0 where
  pub after : (k j : ℕ) → k < s.read → j < g → j < count list
      → activity_at list j ≡ before list s.position k → begins list j + lasts list j ≤ s.least
  pub periods : (p w l : ℕ) → s.least ≤ p → p < s.least + s.free.periods → w < width list → l < 4
      → level list g w l p + need list s.position w l ≤ room list w l p
  pub words : (p w l : ℕ) → p ≡ s.least + s.free.periods → w < s.free.words → w < width list → l < 4
      → level list g w l p + need list s.position w l ≤ room list w l p

-- a search that has just begun, at a turn and from a least start on
abbrev pub new_search : ℕ → Bool → ℕ → ℕ → Search
new_search i ahead turn from = record {
  position = i;
  ahead = ahead;
  begun = turn;
  read = 0;
  least = from;
  free = none_reached;
}

-- the search of a position whose start is known: it needs no load
abbrev pub known_search : Listing → ℕ → ℕ → ℕ → Search
known_search list i turn start = record {
  position = i;
  ahead = false;
  begun = turn;
  read = before_count list i;
  least = start;
  free = record { periods = lasts list i; words = 0 };
}

-- whether all direct predecessors were read
abbrev pub has_read : Listing → Search → Bool
has_read list s = nat_eq s.read (before_count list s.position)

-- whether the start is chosen: all predecessors were read, and all periods from the least start on
-- have room
abbrev pub is_chosen : Listing → Search → Bool
is_chosen list s = has_read list s && is_whole list s.position s.free

-- whether position j is that of the next predecessor to read
abbrev pub reads_next : Listing → ℕ → Search → Bool
reads_next list j s =
    nat_lt s.read (before_count list s.position)
    && nat_eq (activity_at list j) (before list s.position s.read)

-- once the start word x of position j was loaded
abbrev pub after_start : Listing → ℕ → ℕ → Search → Search
after_start list j x s =
    if reads_next list j s then record s {
      read = s.read + 1;
      free = none_reached;
      least = if nat_eq x 0 then s.least else max s.least (x - 1 + lasts list j);
    } else s

-- whether word w of period p is the next one that the search needs
abbrev pub needs_next : Listing → ℕ → ℕ → Search → Bool
needs_next list p w s =
    has_read list s && (nat_lt s.free.periods (lasts list s.position)
    && (nat_eq p (s.least + s.free.periods) && nat_eq w s.free.words))

-- whether lane l of word w, with the value x in period p, leaves no room for the activity at
-- position i
abbrev pub is_full_in : Listing → ℕ → ℕ → ℕ → ℕ → ℕ → Bool
is_full_in list i p w x l = nat_lt (room list w l p) (lane_of x l + need list i w l)

-- whether one of the four lanes does
unfoldable pub is_full : Listing → ℕ → ℕ → ℕ → ℕ → Bool
is_full list i p w x =
    is_full_in list i p w x 0 || is_full_in list i p w x 1 || is_full_in list i p w x 2
    || is_full_in list i p w x 3

-- once word w of period p was loaded, with the value x
abbrev pub after_word : Listing → ℕ → ℕ → ℕ → Search → Search
after_word list p w x s =
    if needs_next list p w s then
    (if is_full list s.position p w x then record s { least = p + 1; free = none_reached }
    else record s { free = next_reach (width list) s.free })
    else s

-- the first period past a block of 32, or past all
abbrev pub block_end : Listing → ℕ → ℕ
block_end list b = min (32 * b + 32) (horizon_of list)

-- whether the next period that the search needs is in block b
abbrev pub needs_block : Listing → ℕ → Search → Bool
needs_block list b s =
    has_read list s && (nat_lt s.free.periods (lasts list s.position)
    && (nat_le (32 * b) (s.least + s.free.periods)
    && nat_lt (s.least + s.free.periods) (block_end list b)))

-- whether a word of value x at index w leaves no room in any period of block b
unfoldable pub is_block_full : Listing → ℕ → ℕ → ℕ → ℕ → Bool
is_block_full list i b w x =
    list_all (λ p. is_full list i p w x) (range_with_len (32 * b) (block_end list b - 32 * b))

-- once the floor of block b at index w was loaded, with the value x
abbrev pub after_floor : Listing → ℕ → ℕ → ℕ → Search → Search
after_floor list b w x s =
    if needs_block list b s && is_block_full list s.position b w x
    then record s { least = block_end list b; free = none_reached } else s
