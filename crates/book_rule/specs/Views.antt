-- What each kind of step makes of the view of its pass, as one function from view to view.
use Rattle.std.specs.Prelude.{ℕ, max, ◌+◌, ◌*◌, ◌/◌, ◌%◌, ◌||◌, Bool, true, false, List, [], ◌∷◌, ◌++◌, slice_index, slice_set, nat_eq, replicate, if◌then◌else◌}
use Rattle.std.specs.List.{sum}
use Rattle.activity_net.specs.Network.{Listing}
use Rattle.book_rule.specs.declared.view.Hand.{Hand}
use Rattle.book_rule.specs.declared.view.Kept.{Kept}
use Rattle.book_rule.specs.declared.view.Search.{Search}
use Rattle.book_rule.specs.declared.view.View.{View}
use Rattle.book_rule.specs.Listed.{count, width}
use Rattle.book_rule.specs.Reaches.{none_reached, next_reach}
use Rattle.book_rule.specs.Searches.{new_search, known_search, after_start, after_word, after_floor}

-- nothing in hand, and a position in hand of which nothing is written yet
abbrev pub empty_hand : Hand
empty_hand = record { holds = false; added = none_reached; stored = false }

abbrev pub full_hand : Hand
full_hand = record { holds = true; added = none_reached; stored = false }

-- a pass rests once it has seen that another has a position in hand, or that all are booked
abbrev pub lets_rest : Listing → ℕ → Bool
lets_rest list t = nat_eq (t % 2) 1 || nat_eq t (2 * count list)

-- the turn t was loaded or shown
abbrev pub after_turn : Listing → View → ℕ → View
after_turn list v t =
    record v { seen = t; looks = v.looks + 1; resting = v.resting || lets_rest list t }

-- and a search of position i begun
abbrev pub after_begin : Listing → View → ℕ → ℕ → View
after_begin list v i t = record (after_turn list v t) { search = new_search i true t 0 }

-- and the search ended
abbrev pub after_end : Listing → View → ℕ → View
after_end list v t = record (after_turn list v t) {
  found = record {
    position = v.search.position;
    start = v.search.least;
    before =
        v.search.begun;
    after = t;
  };
  search = record v.search { ahead = false };
}

-- the start that was offered for position i, where the last loaded offer is of it
abbrev pub adopted_for : View → ℕ → ℕ
adopted_for v i = if nat_eq v.adopted.position i then v.adopted.start else 0

-- the even turn t was claimed: its position is in hand, with this search of it
abbrev pub after_claim_with : Search → View → ℕ → View
after_claim_with search v t = record v {
  seen = t + 1;
  looks = v.looks + 1;
  resting = false;
  hand = full_hand;
  search = search;
}

-- a search of it that begins at the adopted offer
abbrev pub adopted_search : View → ℕ → Search
adopted_search v t = new_search (t / 2) false t (adopted_for v (t / 2))

abbrev pub after_claim : View → ℕ → View
after_claim v t = after_claim_with (adopted_search v t) v t

-- or one whose start is known
abbrev pub after_known_claim : Listing → View → ℕ → ℕ → View
after_known_claim list v t start = after_claim_with (known_search list (t / 2) t start) v t

-- the values that are kept once one of block b is loaded: those of another block are dropped
abbrev pub kept_in : View → ℕ → List Kept
kept_in v b = if nat_eq v.block b then v.kept else []

-- word w of period p was loaded, with the value x
abbrev pub after_profile : Listing → View → ℕ → ℕ → ℕ → View
after_profile list v p w x = record v {
  loaded = v.loaded + 1;
  search = after_word list p w x v.search;
  block = p / 32;
  kept = kept_in v (p / 32) ++ record { period = p; index = w; value = x } ∷ [];
}

-- the start word x of position i was loaded
abbrev pub after_start_word : Listing → View → ℕ → ℕ → View
after_start_word list v i x = record v { search = after_start list i x v.search }

-- the demand was added to the next word
abbrev pub after_add : Listing → View → View
after_add list v =
    record v { hand = record v.hand { added = next_reach (width list) v.hand.added } }

-- the start was stored
abbrev pub after_store : View → View
after_store v = record v { hand = record v.hand { stored = true } }

-- the position was released
abbrev pub after_release : View → View
after_release v = record v {
  seen = v.seen + 1;
  mine = v.mine + 1;
  released = v.released ++ v.search.position ∷ [];
  resting = false;
  hand = empty_hand;
}

-- the ticket x was drawn
abbrev pub after_ticket : View → ℕ → View
after_ticket v x = record v { draws = v.draws + 1; ticket = x }

-- the offer x for position i was loaded
abbrev pub after_offer : View → ℕ → ℕ → View
after_offer v i x = record v { adopted = record { position = i; start = x } }

-- the start x was offered for position i
abbrev pub after_raise : View → ℕ → ℕ → View
after_raise v i x = record v { offered = slice_set v.offered i (max (slice_index v.offered i) x) }

-- the floor of block b at index w was loaded, with the value x
abbrev pub after_floor_word : Listing → View → ℕ → ℕ → ℕ → View
after_floor_word list v b w x = record v { search = after_floor list b w x v.search }

-- a pass that has done nothing yet
abbrev pub new_view : Listing → ℕ → Bool → ℕ → View
new_view list number resting made = record {
  list = list;
  spent = false;
  number = number;
  seen = 0;
  looks = 0;
  mine = 0;
  released = [];
  loaded = 0;
  resting = resting;
  draws = 0;
  ticket = 0;
  offered = replicate (count list) 0;
  adopted = record { position = 0; start = 0 };
  found = record { position = 0; start = 0; before = 0; after = 0 };
  search = new_search 0 false 0 0;
  hand = empty_hand;
  block = 0;
  kept = [];
  made = made;
  gathered = [];
}

-- the first pass of a new book
abbrev pub first_view : Listing → View
first_view list = new_view list 0 false 1

-- pass 0 is cut in two: it has made one pass more, and that pass rests
abbrev pub after_split : View → View
after_split v = record v { made = v.made + 1 }

abbrev pub split_off : View → View
split_off v = new_view v.list v.made true 0

-- pass 0 takes in another one
abbrev pub after_join : View → View → View
after_join v w = record v { gathered = v.gathered ++ w.mine ∷ [] }

-- what is left of that one
abbrev pub no_list : Listing
no_list = record {
  network = record {
    project =
        record { capacities = []; durations = []; demands = []; successors = []; changes = [] };
    order = [];
  };
  order = [];
}

abbrev pub spent_view : View
spent_view = record (new_view no_list 0 true 0) { spent = true }

-- how many bookings a view counts: its own, and those of the passes that it took in
abbrev pub weight : View → ℕ
weight v = v.mine + sum v.gathered
