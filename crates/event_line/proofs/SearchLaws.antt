-- Which starts a node without room rules out.
use Rattle.std.proofs.Common.{◌≡◌, ℕ, max, ◌+◌, ◌<◌, ◌≤◌, List, length, get_or, inl, inr, arith}
use Rattle.std.proofs.lemmas.Bool.{cases_lt}
use Rattle.event_line.specs.Chain.{IsChain, AreNeighbours, StandsFor}
use Rattle.event_line.specs.Rows.{HasRoom, IsFull, HasRoomFor, HasRoomFrom}
use Rattle.event_line.proofs.RowLaws.{stands_itself}

-- a node stands for each period from its own up to that of the next one
pub stands_between : (periods : List ℕ) (i j p : ℕ) → AreNeighbours periods i j
    → get_or periods i 0 ≤ p → p < get_or periods j 0 → StandsFor periods i p
stands_between periods i j p near from before = record {
  inside = near.first;
  from = from;
  latest = λ x h le. elim (cases_lt (get_or periods i 0) (get_or periods x 0)) [
    | inl lt ↦ Prim.absurd (omega (arith, near.none x h lt))
    | inr ge ↦ ge
  ];
}

-- no activity that runs at a full node has room
pub full_stops : (periods : List ℕ) (free : List (List ℕ)) (demands : List ℕ) (i p t duration : ℕ) → IsFull periods free demands i
    → StandsFor periods i p → t ≤ p → p < t + duration
    → HasRoomFor periods free demands t duration → ⊥
full_stops periods free demands i p t duration full stands from before room =
    full.full ((room.each p from before).at i stands)

-- a start before the node after a full one, from which the activity runs at that one, has no room
pub starts_later : (periods : List ℕ) (free : List (List ℕ)) (demands : List ℕ) (i j t duration : ℕ)
    → IsFull periods free demands i → AreNeighbours periods i j
    → get_or periods i 0 < t + duration → 0 < duration
    → HasRoomFor periods free demands t duration → get_or periods j 0 ≤ t
starts_later periods free demands i j t duration full near reaches runs room =
    elim (cases_lt t (get_or periods j 0)) [
      | inl lt ↦
          let rise = near.rise in
          Prim.absurd (full_stops periods free demands i (max t (get_or periods i 0)) t duration full
          (stands_between periods i j (max t (get_or periods i 0)) near (omega arith) (omega arith))
          (omega arith) (omega arith) room)
      | inr ge ↦ ge
    ]

-- an end after a full node, before which the activity starts no later than nodes after that one
-- stand, has no room
pub ends_earlier : (periods : List ℕ) (free : List (List ℕ)) (demands : List ℕ) (i t start duration : ℕ)
    → IsFull periods free demands i
    → ((x : ℕ) → x < length periods → get_or periods x 0 ≤ start
    → get_or periods x 0 ≤ get_or periods i 0)
    → t ≤ start → 0 < duration
    → HasRoomFor periods free demands t duration → t + duration ≤ get_or periods i 0
ends_earlier periods free demands i t start duration full latest from runs room =
    elim (cases_lt (get_or periods i 0) (t + duration)) [
      | inl lt ↦
          let p = max t (get_or periods i 0) in
          let stands : StandsFor periods i p = record {
            inside = full.inside;
            from = omega arith;
            latest = λ x h le. elim (cases_lt start (get_or periods x 0)) [
              | inl after ↦ omega arith
              | inr before ↦ latest x h before
            ];
          } in
          Prim.absurd (full_stops periods free demands i p t duration full stands (omega arith)
          (omega arith) room)
      | inr ge ↦ ge
    ]

-- a search from a floor on has come to a node: no start before this one has room, and each node from
-- the first one up to there has
pub record IsSearched (periods : List ℕ) (free : List (List ℕ)) (demands : List ℕ)
    (duration from start first node : ℕ) : Type 0 where
  pub stands : StandsFor periods first start
  pub after : from ≤ start
  pub least : (t : ℕ) → from ≤ t → HasRoomFor periods free demands t duration → start ≤ t
  pub inside : node < length periods
  pub reached : get_or periods first 0 ≤ get_or periods node 0
  pub before : get_or periods node 0 < start + duration
  pub room : (i : ℕ) → i < length periods → get_or periods first 0 ≤ get_or periods i 0
      → get_or periods i 0 < get_or periods node 0 → HasRoom free demands i

-- it goes on at the node after a full one, with the start there
pub searched_full : (periods : List ℕ) (free : List (List ℕ)) (demands : List ℕ)
    (duration from start first node next : ℕ)
    → IsSearched periods free demands duration from start first node → 0 < duration
    → AreNeighbours periods node next → (HasRoom free demands node → ⊥)
    → IsSearched periods free demands duration from (get_or periods next 0) next next
searched_full periods free demands duration from start first node next so_far runs near full =
    let rise = near.rise in
    let after = so_far.after in
    let before = so_far.before in
    let low = so_far.stands.latest next near.second in
    record {
      stands = stands_itself periods next near.second;
      after = elim (cases_lt start (get_or periods next 0)) [
        | inl lt ↦ omega arith
        | inr ge ↦ Prim.absurd (omega (arith, low ge, so_far.reached))
      ];
      least = λ t at room.
          let start' = so_far.least t at room in
          starts_later periods free demands node next t duration
          (record { inside = so_far.inside; full = full }) near (omega arith) runs room;
      inside = near.second;
      reached = omega arith;
      before = omega arith;
      room = λ i h from' before'. Prim.absurd (omega arith);
    }

-- the nodes from the first one up to one with room have room
pub room_up_to : (periods : List ℕ) (free : List (List ℕ)) (demands : List ℕ)
    (duration from start first node : ℕ)
    → IsSearched periods free demands duration from start first node → IsChain periods
    → HasRoom free demands node → HasRoomFrom periods free demands first node
room_up_to periods free demands duration from start first node so_far chain room = record {
  each = λ i h low high. elim (cases_lt (get_or periods i 0) (get_or periods node 0)) [
    | inl lt ↦ so_far.room i h low lt
    | inr ge ↦
        let same : i ≡ node = chain.apart i node h so_far.inside (omega arith) in
        rw same room
  ];
}

-- it goes on at the node after one with room
pub searched_room : (periods : List ℕ) (free : List (List ℕ)) (demands : List ℕ)
    (duration from start first node next : ℕ)
    → IsSearched periods free demands duration from start first node → IsChain periods
    → AreNeighbours periods node next → HasRoom free demands node
    → get_or periods next 0 < start + duration
    → IsSearched periods free demands duration from start first next
searched_room periods free demands duration from start first node next so_far chain near room before =
    let rise = near.rise in
    let reached = so_far.reached in
    let up_to = room_up_to periods free demands duration from start first node so_far chain room in
    record {
      stands = so_far.stands;
      after = so_far.after;
      least = so_far.least;
      inside = near.second;
      reached = omega arith;
      before = before;
      room = λ i h low high. up_to.each i h low
          (elim (cases_lt (get_or periods node 0) (get_or periods i 0)) [
            | inl lt ↦ Prim.absurd (omega (arith, near.none i h lt))
            | inr ge ↦ ge
          ]);
    }
