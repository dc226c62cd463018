-- How what is free at the nodes changes as demands are taken and nodes are made.
use Rattle.std.proofs.Common.{◌≡◌, ◌≢◌, ℕ, ◌-◌, ◌<◌, ◌≤◌, List, [], ◌∷◌, ◌++◌, length, get_or, refl, sym, ap, ◌∙◌, inl, inr, arith, length-append}
use Rattle.std.proofs.lemmas.Bool.{cases_eq, cases_lt}
use Rattle.std.proofs.lemmas.Bool.Decides.{nat_tests}
use Rattle.event_line.specs.Chain.{IsChain, AreNeighbours, StandsFor, IsLonger}
use Rattle.event_line.specs.Rows.{row_at, left_at, HasRoom, IsTakenAt, HasRoomFrom, HasRoomBefore, IsTaken, share, IsRefined, IsBooked}
use Rattle.event_line.proofs.ChainLaws.{old_node, new_node}

-- taken from the row of one node, each other row is as it was
pub taken_other : (old new : List (List ℕ)) (demands : List ℕ) (node i j : ℕ)
    → IsTakenAt old new demands node → i ≢ node → left_at new i j ≡ left_at old i j
taken_other old new demands node i j taken ne = ap (λ row. get_or row j 0) (taken.others i ne)

-- no share falls into no periods
pub share_none : (demands : List ℕ) (from p j : ℕ) → share demands from p p j ≡ 0
share_none demands from p j = grind (arith, nat_tests)

pub share_empty : (demands : List ℕ) (from p j : ℕ) → share demands from from p j ≡ 0
share_empty demands from p j = elim (cases_lt p from) [
  | inl before ↦ grind (arith, nat_tests)
  | inr after ↦ grind (arith, nat_tests)
]

-- one node more takes its share, and no other node does
pub share_here : (demands : List ℕ) (from p next j : ℕ) → from ≤ p → p < next
    → share demands from next p j ≡ get_or demands j 0
share_here demands from p next j le lt = grind (arith, nat_tests)

pub share_other : (demands : List ℕ) (from p next q j : ℕ) → p ≢ q → (p < q → next ≤ q) → p < next
    → share demands from next q j ≡ share demands from p q j
share_other demands from p next q j ne none lt = elim (cases_lt p q) [
  | inl below ↦
      let le = none below in
      grind (arith, nat_tests)
  | inr above ↦ grind (arith, nat_tests)
]

-- from no period on, nothing is taken
pub taken_none : (periods : List ℕ) (free : List (List ℕ)) (demands : List ℕ) (from : ℕ)
    → IsTaken periods free free demands from from
taken_none periods free demands from = record {
  each = λ i j hi hj. omega (arith, share_empty demands from (get_or periods i 0) j);
}

-- the share of a node grows at the node before the next one alone
pub share_more : (periods demands : List ℕ) (from node next i j : ℕ) → IsChain periods
    → AreNeighbours periods node next → from ≤ get_or periods node 0 → i < length periods
    → i ≢ node
    → share demands from (get_or periods next 0) (get_or periods i 0) j
    ≡ share demands from (get_or periods node 0) (get_or periods i 0) j
share_more periods demands from node next i j chain near le h ne =
    share_other demands from (get_or periods node 0) (get_or periods next 0) (get_or periods i 0) j
    (λ e. ne (chain.apart i node h near.first (sym e))) (near.none i h) near.rise

-- taken up to a node and then at it, the demands are taken up to the next node
pub taken_more : (periods : List ℕ) (old now new : List (List ℕ)) (demands : List ℕ)
    (from node next : ℕ) → IsChain periods
    → AreNeighbours periods node next → from ≤ get_or periods node 0
    → IsTaken periods old now demands from (get_or periods node 0)
    → IsTakenAt now new demands node
    → IsTaken periods old new demands from (get_or periods next 0)
taken_more periods old now new demands from node next chain near le so_far here = record {
  each = λ i j hi hj. elim (cases_eq i node) [
    | inl e ↦
        let before = so_far.each node j near.first hj in
        rw e (omega (
          arith,
          before,
          share_none demands from (get_or periods node 0) j,
          share_here demands from (get_or periods node 0) (get_or periods next 0) j le near.rise,
          here.inside j hj,
        ))
    | inr ne ↦ omega (
      arith,
      so_far.each i j hi hj,
      share_more periods demands from node next i j chain near le hi ne,
      taken_other now new demands node i j here ne,
    )
  ];
}

-- given back up to a node and then at it, the demands are given back up to the next node
pub given_more : (periods : List ℕ) (old now new : List (List ℕ)) (demands : List ℕ)
    (from node next : ℕ) → IsChain periods
    → AreNeighbours periods node next → from ≤ get_or periods node 0
    → IsTaken periods now old demands from (get_or periods node 0)
    → IsTakenAt new now demands node
    → IsTaken periods new old demands from (get_or periods next 0)
given_more periods old now new demands from node next chain near le so_far here = record {
  each = λ i j hi hj. elim (cases_eq i node) [
    | inl e ↦
        let before = so_far.each node j near.first hj in
        rw e (omega (
          arith,
          before,
          share_none demands from (get_or periods node 0) j,
          share_here demands from (get_or periods node 0) (get_or periods next 0) j le near.rise,
          here.inside j hj,
        ))
    | inr ne ↦ omega (
      arith,
      so_far.each i j hi hj,
      share_more periods demands from node next i j chain near le hi ne,
      taken_other new now demands node i j here ne,
    )
  ];
}

-- a node that the demands are not yet taken at has the row that it had
pub row_left : (periods : List ℕ) (old now : List (List ℕ)) (demands : List ℕ) (from node j : ℕ)
    → IsTaken periods old now demands from (get_or periods node 0) → node < length periods
    → j < length demands
    → left_at now node j ≡ left_at old node j
row_left periods old now demands from node j so_far inside h =
    omega (arith, so_far.each node j inside h, share_none demands from (get_or periods node 0) j)

-- and so the room that it had
pub room_left : (periods : List ℕ) (old now : List (List ℕ)) (demands : List ℕ) (from node : ℕ)
    → IsTaken periods old now demands from (get_or periods node 0) → node < length periods
    → HasRoom old demands node → HasRoom now demands node
room_left periods old now demands from node so_far inside room = record {
  within = λ j h.
      omega (arith, room.within j h, row_left periods old now demands from node j so_far inside h);
}

-- each node stands for its own period
pub stands_itself : (periods : List ℕ) (i : ℕ) → i < length periods
    → StandsFor periods i (get_or periods i 0)
stands_itself periods i h = record {
  inside = h;
  from = omega arith;
  latest = λ x hx le. le;
}

-- no node is lost and each row stays, where nothing is done
pub refined_same : (periods : List ℕ) (free : List (List ℕ))
    → IsRefined periods free periods free
refined_same periods free = record {
  longer = record { long = omega arith; same = λ i h. refl };
  rows = record { each = λ i h. (i, stands_itself periods i h, refl) };
}

-- nodes that come after others are nodes
pub longer_trans : (first second third : List ℕ) → IsLonger first second → IsLonger second third
    → IsLonger first third
longer_trans first second third one two =
    let long = one.long in
    let more = two.long in
    record {
      long = omega arith;
      same = λ i h. two.same i (omega arith) ∙ one.same i h;
    }

-- what stood for a period that then another node stood for, stood for each period of that one
pub stands_through : (periods periods' : List ℕ) (o i p : ℕ) → IsLonger periods periods'
    → StandsFor periods o (get_or periods' i 0) → StandsFor periods' i p → StandsFor periods o p
stands_through periods periods' o i p longer one two =
    let from = one.from in
    let from' = two.from in
    record {
      inside = one.inside;
      from = omega arith;
      latest = λ x h le.
          let long = longer.long in
          let same = longer.same x h in
          one.latest x h (omega (arith, two.latest x (omega arith) (omega arith)));
    }

-- nodes that are made of nodes that were made
pub refined_trans : (periods : List ℕ) (free : List (List ℕ)) (periods' : List ℕ)
    (free' : List (List ℕ)) (periods'' : List ℕ) (free'' : List (List ℕ))
    → IsRefined periods free periods' free' → IsRefined periods' free' periods'' free''
    → IsRefined periods free periods'' free''
refined_trans periods free periods' free' periods'' free'' one two = record {
  longer = longer_trans periods periods' periods'' one.longer two.longer;
  rows = record {
    each = λ i h.
        let later = two.rows.each i h in
        let earlier = one.rows.each later.0 later.1.inside in (
          earlier.0,
          stands_through periods periods' earlier.0 later.0 (get_or periods'' i 0) one.longer
              earlier.1 later.1,
          later.2 ∙ earlier.2,
        );
  };
}

-- a node that is made with the row of the one that stood for its period
pub refined_more : (periods : List ℕ) (free free' : List (List ℕ)) (at period n : ℕ)
    → StandsFor periods at period → n ≡ length periods → row_at free' n ≡ row_at free at
    → ((x : ℕ) → x ≢ n → row_at free' x ≡ row_at free x)
    → IsRefined periods free (periods ++ period ∷ []) free'
refined_more periods free free' at period n stands en row others =
    let long = length-append periods (period ∷ []) in
    record {
      longer = record { long = omega arith; same = λ i h. old_node periods period i h };
      rows = record {
        each = λ i h. elim (cases_lt i (length periods)) [
          | inl lt ↦ (
            i,
            rw (old_node periods period i lt) (stands_itself periods i lt),
            others i (λ e. omega arith),
          )
          | inr ge ↦
              let e : i ≡ n = omega arith in (
                at,
                rw (new_node periods period i (omega arith)) stands,
                rw e row,
              )
        ];
      };
    }

-- the rows that a span had are there to be taken from once its nodes are made
pub room_of_span : (periods : List ℕ) (free : List (List ℕ)) (periods' : List ℕ)
    (free' : List (List ℕ)) (demands : List ℕ) (first last first' end' start end : ℕ)
    → IsRefined periods free periods' free' → HasRoomFrom periods free demands first last
    → StandsFor periods first start → StandsFor periods last (end - 1) → 0 < end
    → get_or periods' first' 0 ≡ start → get_or periods' end' 0 ≡ end
    → HasRoomBefore periods' free' demands first' end'
room_of_span periods free periods' free' demands first last first' end' start end refined room stands
    ends some es ee = record {
      each = λ i h from before.
          let row = refined.rows.each i h in
          let o = row.0 in
          let up = row.1.from in
          let low : get_or periods first 0 ≤ get_or periods o 0 =
          row.1.latest first stands.inside (omega (arith, stands.from)) in
          let high : get_or periods o 0 ≤ get_or periods last 0 =
          ends.latest o row.1.inside (omega arith) in
          let old = room.each o row.1.inside low high in
          record { within = λ j hj. rw row.2 (old.within j hj) };
    }

-- with the nodes made and the demands taken at them, a span is booked
pub booked_from : (periods : List ℕ) (free : List (List ℕ)) (periods' : List ℕ)
    (now new : List (List ℕ)) (demands : List ℕ) (start end : ℕ)
    → IsRefined periods free periods' now → IsTaken periods' now new demands start end
    → IsBooked periods free periods' new demands start end
booked_from periods free periods' now new demands start end refined taken = record {
  each = λ i h.
      let row = refined.rows.each i h in (
        row.0,
        row.1,
        λ j hj. taken.each i j h hj ∙ ap (λ r. get_or r j 0) row.2,
      );
}

-- what stands for a start stands for it still once a node is made at a later end
pub stands_still : (periods periods' : List ℕ) (i start node end : ℕ) → IsLonger periods periods'
    → ((x : ℕ) → x < length periods' → x ≢ node → x < length periods)
    → get_or periods' node 0 ≡ end → start < end → StandsFor periods i start
    → StandsFor periods' i start
stands_still periods periods' i start node end longer others at before stands =
    let long = longer.long in
    let inside = stands.inside in
    let same = longer.same i inside in
    record {
      inside = omega arith;
      from = omega (arith, stands.from);
      latest = λ x h le.
          let ne : x ≢ node = λ e. Prim.absurd (omega (arith, ap (λ n. get_or periods' n 0) e)) in
          let old = others x h ne in
          let same' = longer.same x old in
          omega (arith, stands.latest x old (omega arith));
    }
