-- How the links of a chain stand as nodes are made and taken away.
use Rattle.std.proofs.Common.{◌≡◌, ◌≢◌, ℕ, ◌+◌, ◌<◌, ◌≤◌, List, [], ◌∷◌, ◌++◌, length, take, set, get_or, refl, sym, ap, ◌∙◌, inl, inr, arith, length-append, length-set, length-take}
use Rattle.std.proofs.lemmas.Bool.{cases_eq, cases_lt}
use Rattle.std.proofs.lemmas.List.{get_or-set_same, get_or-set_other, get_or_append_left, get_or-take, ext_get_or}
use Rattle.std.proofs.Math.Seq.{get_or-append_seam}
use Rattle.event_line.specs.declared.chain.TheConstants.{HEAD, TAIL, FAR}
use Rattle.event_line.specs.Chain.{Nodes, IsChain, AreNeighbours, StandsFor, IsLonger}
use Rattle.event_line.specs.ChainView.{IsLinked}

-- the periods of the nodes that are there stay as another node is made
pub old_node : (periods : List ℕ) (period i : ℕ) → i < length periods
    → get_or (periods ++ period ∷ []) i 0 ≡ get_or periods i 0
old_node periods period i h = get_or_append_left periods (period ∷ []) 0 i h

-- and the new node stands at its own
pub new_node : (periods : List ℕ) (period i : ℕ) → i ≡ length periods
    → get_or (periods ++ period ∷ []) i 0 ≡ period
new_node periods period i e = rw e (get_or-append_seam periods period [] 0)

-- two nodes before the same node are one
pub same_before : (periods : List ℕ) (i j x : ℕ) → IsChain periods → AreNeighbours periods i x
    → AreNeighbours periods j x → i ≡ j
same_before periods i j x chain one other =
    chain.apart i j one.first other.first (elim (cases_lt (get_or periods i 0) (get_or periods j 0)) [
      | inl lt ↦ Prim.absurd (omega (arith, one.none j other.first lt, other.rise))
      | inr le ↦ elim (cases_lt (get_or periods j 0) (get_or periods i 0)) [
        | inl lt ↦ Prim.absurd (omega (arith, other.none i one.first lt, one.rise))
        | inr le2 ↦ omega arith
      ]
    ])

-- two nodes after the same node are one
pub same_after : (periods : List ℕ) (i j x : ℕ) → IsChain periods → AreNeighbours periods x i
    → AreNeighbours periods x j → i ≡ j
same_after periods i j x chain one other =
    chain.apart i j one.second other.second
    (omega (arith, one.none j other.second other.rise, other.none i one.second one.rise))

-- a node of the longer chain is an old one or the new one
pub either_node : (periods : List ℕ) (period i : ℕ) → i < length (periods ++ period ∷ [])
    → (i < length periods → ⊥) → i ≡ length periods
either_node periods period i h not =
    let long = length-append periods (period ∷ []) in
    elim (cases_lt i (length periods)) [ inl lt ↦ Prim.absurd (not lt) | inr le ↦ omega arith ]

-- where no node stands at a period, a node there leaves a chain
pub chain_more : (periods : List ℕ) (period : ℕ) → IsChain periods → period ≤ FAR
    → ((x : ℕ) → x < length periods → get_or periods x 0 ≢ period)
    → IsChain (periods ++ period ∷ [])
chain_more periods period chain le new =
    let long = length-append periods (period ∷ []) in
    let some = chain.some in
    record {
      some = omega arith;
      head = old_node periods period HEAD (omega arith) ∙ chain.head;
      tail = old_node periods period TAIL (omega arith) ∙ chain.tail;
      within = λ i h. elim (cases_lt i (length periods)) [
        | inl lt ↦ omega (arith, old_node periods period i lt, chain.within i lt)
        | inr ge ↦ omega (arith, new_node periods period i (omega arith))
      ];
      apart = λ i j hi hj e. elim (cases_lt i (length periods)) [
        | inl lt ↦ elim (cases_lt j (length periods)) [
          | inl lt2 ↦ chain.apart i j lt lt2
              (sym (old_node periods period i lt) ∙ (e ∙ old_node periods period j lt2))
          | inr ge ↦ Prim.absurd (new i lt (sym (old_node periods period i lt)
              ∙ (e ∙ new_node periods period j (omega arith))))
        ]
        | inr ge ↦ elim (cases_lt j (length periods)) [
          | inl lt2 ↦ Prim.absurd (new j lt2 (sym (old_node periods period j lt2)
              ∙ (sym e ∙ new_node periods period i (omega arith))))
          | inr ge2 ↦ omega arith
        ]
      ];
    }

-- neighbours stay neighbours where the new node does not stand between them
pub neighbours_more : (periods : List ℕ) (period i j : ℕ) → AreNeighbours periods i j
    → (get_or periods i 0 < period → get_or periods j 0 ≤ period)
    → AreNeighbours (periods ++ period ∷ []) i j
neighbours_more periods period i j near apart =
    let long = length-append periods (period ∷ []) in
    let first = near.first in
    let second = near.second in
    let ei = old_node periods period i near.first in
    let ej = old_node periods period j near.second in
    record {
      first = omega arith;
      second = omega arith;
      rise = omega (arith, near.rise);
      none = λ x h lt. elim (cases_lt x (length periods)) [
        | inl old ↦ omega (
          arith,
          near.none x old (omega (arith, old_node periods period x old)),
          old_node periods period x old,
        )
        | inr ge ↦
            let e = new_node periods period x (omega arith) in
            omega (arith, apart (omega arith))
      ];
    }

-- a new node between neighbours is the next one after the first
pub neighbour_first : (periods : List ℕ) (period i j : ℕ) → AreNeighbours periods i j
    → get_or periods i 0 < period → period < get_or periods j 0
    → AreNeighbours (periods ++ period ∷ []) i (length periods)
neighbour_first periods period i j near low high =
    let long = length-append periods (period ∷ []) in
    let first = near.first in
    let ei = old_node periods period i near.first in
    let en = new_node periods period (length periods) refl in
    record {
      first = omega arith;
      second = omega arith;
      rise = omega arith;
      none = λ x h lt. elim (cases_lt x (length periods)) [
        | inl old ↦ omega (
          arith,
          near.none x old (omega (arith, old_node periods period x old)),
          old_node periods period x old,
        )
        | inr ge ↦ omega (arith, new_node periods period x (omega arith))
      ];
    }

-- and the second is the next one after it
pub neighbour_second : (periods : List ℕ) (period i j : ℕ) → AreNeighbours periods i j
    → get_or periods i 0 < period → period < get_or periods j 0
    → AreNeighbours (periods ++ period ∷ []) (length periods) j
neighbour_second periods period i j near low high =
    let long = length-append periods (period ∷ []) in
    let second = near.second in
    let ej = old_node periods period j near.second in
    let en = new_node periods period (length periods) refl in
    record {
      first = omega arith;
      second = omega arith;
      rise = omega arith;
      none = λ x h lt. elim (cases_lt x (length periods)) [
        | inl old ↦ omega (
          arith,
          near.none x old (omega (arith, old_node periods period x old)),
          old_node periods period x old,
        )
        | inr ge ↦ Prim.absurd (omega (arith, new_node periods period x (omega arith)))
      ];
    }

-- no node stands at a period that another node before it stands for
pub stands_free : (periods : List ℕ) (i period x : ℕ) → StandsFor periods i period
    → get_or periods i 0 < period → x < length periods → get_or periods x 0 ≢ period
stands_free periods i period x stands later inside e =
    Prim.absurd (omega (arith, stands.latest x inside (omega arith)))

-- a node after the one that stands for a period comes after that period
pub node_later : (periods : List ℕ) (i x period : ℕ) → StandsFor periods i period
    → x < length periods → get_or periods i 0 < get_or periods x 0 → period < get_or periods x 0
node_later periods i x period stands inside rise =
    elim (cases_lt period (get_or periods x 0)) [
      | inl lt ↦ lt
      | inr le ↦ Prim.absurd (omega (arith, stands.latest x inside le))
    ]

-- a node is linked in between the node that stands for its period and the next one
pub linked_more : (periods next previous : List ℕ) (i period y n : ℕ)
    → IsLinked periods next previous → StandsFor periods i period → get_or periods i 0 < period
    → period ≤ FAR → length periods < length next → length previous ≡ length next
    → y ≡ get_or next i 0 → n ≡ length periods
    → IsLinked (periods ++ period ∷ []) (set (set next i n) n y) (set (set previous y n) n i)
linked_more periods next previous i period y n linked stands later le room pairs ey en =
    let long = length-append periods (period ∷ []) in
    let chain = linked.chain in
    let inside = stands.inside in
    let near : AreNeighbours periods i y = rw ey (linked.next i inside (omega arith)) in
    let second = near.second in
    let high = node_later periods i y period stands near.second near.rise in
    let ey2 = near.rise in
    record {
      chain = chain_more periods period chain le (λ x h. stands_free periods i period x stands later h);
      next = λ x h tail. elim (cases_eq x n) [
        | inl e ↦
            let got : get_or (set (set next i n) n y) x 0 ≡ y =
            rw e (get_or-set_same (set next i n) n y 0 (omega (arith, length-set next i n))) in
            rw (got, e, en) (neighbour_second periods period i y near later high)
        | inr ne ↦
            let old : x < length periods = omega arith in
            let one = get_or-set_other (set next i n) n x y 0 ne in
            elim (cases_eq x i) [
              | inl e ↦
                  let got : get_or (set (set next i n) n y) x 0 ≡ n =
                  one ∙ rw e (get_or-set_same next i n 0 (omega arith)) in
                  rw (got, e, en) (neighbour_first periods period i y near later high)
              | inr other ↦
                  let got : get_or (set (set next i n) n y) x 0 ≡ get_or next x 0 =
                  one ∙ get_or-set_other next i x n 0 other in
                  let near2 = linked.next x old (omega (arith, old_node periods period x old)) in
                  rw got (neighbours_more periods period x (get_or next x 0) near2 (λ lt.
                  let below = stands.latest x old (omega arith) in
                  elim (cases_lt (get_or periods x 0) (get_or periods i 0)) [
                    | inl lt2 ↦ omega (arith, near2.none i inside lt2)
                    | inr ge ↦ Prim.absurd (other (chain.apart x i old inside (omega arith)))
                  ]))
            ]
      ];
      previous = λ x h head. elim (cases_eq x n) [
        | inl e ↦
            let got : get_or (set (set previous y n) n i) x 0 ≡ i =
            rw e (get_or-set_same (set previous y n) n i 0 (omega (arith, length-set previous y n))) in
            rw (got, e, en) (neighbour_first periods period i y near later high)
        | inr ne ↦
            let old : x < length periods = omega arith in
            let one = get_or-set_other (set previous y n) n x i 0 ne in
            elim (cases_eq x y) [
              | inl e ↦
                  let got : get_or (set (set previous y n) n i) x 0 ≡ n =
                  one ∙ rw e (get_or-set_same previous y n 0 (omega arith)) in
                  rw (got, e, en) (neighbour_second periods period i y near later high)
              | inr other ↦
                  let got : get_or (set (set previous y n) n i) x 0 ≡ get_or previous x 0 =
                  one ∙ get_or-set_other previous y x n 0 other in
                  let near2 = linked.previous x old (omega (arith, old_node periods period x old)) in
                  rw got (neighbours_more periods period (get_or previous x 0) x near2 (λ lt.
                  elim (cases_lt period (get_or periods x 0)) [
                    | inl lt2 ↦
                        let from = stands.latest (get_or previous x 0) near2.first (omega arith) in
                        let up = near.none x old (omega arith) in
                        Prim.absurd (other (chain.apart x y old second
                        (omega (arith, near2.none y second (omega arith)))))
                    | inr ge ↦ ge
                  ]))
            ]
      ];
    }

-- the periods that stay as the newest node is taken away
pub kept_node : (periods : List ℕ) (n i : ℕ) → i < n
    → get_or (take n periods) i 0 ≡ get_or periods i 0
kept_node periods n i h = get_or-take n periods i 0 h

-- neighbours stay neighbours
pub neighbours_fewer : (periods : List ℕ) (n i j : ℕ) → AreNeighbours periods i j → i < n → j < n
    → n ≤ length periods → AreNeighbours (take n periods) i j
neighbours_fewer periods n i j near hi hj le =
    let long : length (take n periods) ≡ n = omega (arith, length-take n periods) in
    let ei = kept_node periods n i hi in
    let ej = kept_node periods n j hj in
    record {
      first = omega arith;
      second = omega arith;
      rise = omega (arith, near.rise);
      none = λ x h lt.
          let ex = kept_node periods n x (omega arith) in
          omega (arith, near.none x (omega arith) (omega arith));
    }

-- the neighbours of the newest node become neighbours
pub neighbours_joined : (periods : List ℕ) (n i j : ℕ) → IsChain periods
    → AreNeighbours periods i n → AreNeighbours periods n j → n + 1 ≡ length periods
    → AreNeighbours (take n periods) i j
neighbours_joined periods n i j chain before after last =
    let long : length (take n periods) ≡ n = omega (arith, length-take n periods) in
    let first = before.first in
    let second = after.second in
    let ni : i ≢ n = λ e. Prim.absurd (omega (arith, ap (λ x. get_or periods x 0) e, before.rise)) in
    let nj : j ≢ n = λ e. Prim.absurd (omega (arith, ap (λ x. get_or periods x 0) e, after.rise)) in
    let ei = kept_node periods n i (omega arith) in
    let ej = kept_node periods n j (omega arith) in
    record {
      first = omega arith;
      second = omega arith;
      rise = omega (arith, before.rise, after.rise);
      none = λ x h lt.
          let ex = kept_node periods n x (omega arith) in
          let inside : x < length periods = omega arith in
          let up = before.none x inside (omega arith) in
          elim (cases_lt (get_or periods n 0) (get_or periods x 0)) [
            | inl lt2 ↦ omega (arith, after.none x inside lt2)
            | inr ge ↦ Prim.absurd (omega (arith, chain.apart x n inside (omega arith) (omega arith)))
          ];
    }

-- the chain without its newest node is linked once the neighbours of that node know one another
pub linked_fewer : (periods next previous : List ℕ) (n y p : ℕ)
    → IsLinked periods next previous → n + 1 ≡ length periods → 2 ≤ n
    → length periods ≤ length next → length previous ≡ length next
    → y ≡ get_or next n 0 → p ≡ get_or previous n 0
    → IsLinked (take n periods) (set next p y) (set previous y p)
linked_fewer periods next previous n y p linked last some room pairs ey ep =
    let long : length (take n periods) ≡ n = omega (arith, length-take n periods) in
    let chain = linked.chain in
    let below : get_or periods n 0 < FAR = elim (cases_lt (get_or periods n 0) FAR) [
      | inl lt ↦ lt
      | inr ge ↦ Prim.absurd (omega (
        arith,
        chain.apart n TAIL (omega arith) (omega arith)
            (omega (arith, chain.tail, chain.within n (omega arith))),
      ))
    ] in
    let above : 0 < get_or periods n 0 = elim (cases_lt 0 (get_or periods n 0)) [
      | inl lt ↦ lt
      | inr ge ↦ Prim.absurd (omega (
        arith,
        chain.apart n HEAD (omega arith) (omega arith) (omega (arith, chain.head)),
      ))
    ] in
    let after : AreNeighbours periods n y = rw ey (linked.next n (omega arith) below) in
    let before : AreNeighbours periods p n = rw ep (linked.previous n (omega arith) above) in
    let joined = neighbours_joined periods n p y chain before after last in
    let first = joined.first in
    let second = joined.second in
    record {
      chain = record {
        some = omega arith;
        head = kept_node periods n HEAD (omega arith) ∙ chain.head;
        tail = kept_node periods n TAIL (omega arith) ∙ chain.tail;
        within = λ i h. omega (arith, kept_node periods n i (omega arith), chain.within i (omega arith));
        apart = λ i j hi hj e. chain.apart i j (omega arith) (omega arith)
            (sym (kept_node periods n i (omega arith)) ∙ (e ∙ kept_node periods n j (omega arith)));
      };
      next = λ x h tail. elim (cases_eq x p) [
        | inl e ↦
            let got : get_or (set next p y) x 0 ≡ y =
            rw e (get_or-set_same next p y 0 (omega arith)) in
            rw (got, e) joined
        | inr ne ↦
            let got : get_or (set next p y) x 0 ≡ get_or next x 0 =
            get_or-set_other next p x y 0 ne in
            let near = linked.next x (omega arith) (omega (arith, kept_node periods n x (omega arith))) in
            let to = near.second in
            let other : get_or next x 0 ≢ n =
            λ e. ne (same_before periods x p n chain (rw e at near) before) in
            rw got (neighbours_fewer periods n x (get_or next x 0) near (omega arith) (omega arith)
            (omega arith))
      ];
      previous = λ x h head. elim (cases_eq x y) [
        | inl e ↦
            let got : get_or (set previous y p) x 0 ≡ p =
            rw e (get_or-set_same previous y p 0 (omega arith)) in
            rw (got, e) joined
        | inr ne ↦
            let got : get_or (set previous y p) x 0 ≡ get_or previous x 0 =
            get_or-set_other previous y x p 0 ne in
            let near = linked.previous x (omega arith) (omega (arith, kept_node periods n x (omega arith))) in
            let from = near.first in
            let other : get_or previous x 0 ≢ n =
            λ e. ne (same_after periods x y n chain (rw e at near) after) in
            rw got (neighbours_fewer periods n (get_or previous x 0) x near (omega arith)
            (omega arith) (omega arith))
      ];
    }

-- links that are the same for each node link the same nodes
pub linked_same : (periods next next' previous previous' : List ℕ)
    → IsLinked periods next' previous'
    → ((i : ℕ) → i < length periods → get_or next i 0 ≡ get_or next' i 0)
    → ((i : ℕ) → i < length periods → get_or previous i 0 ≡ get_or previous' i 0)
    → IsLinked periods next previous
linked_same periods next next' previous previous' linked same same' = record {
  chain = linked.chain;
  next = λ i h below. rw (same i h) (linked.next i h below);
  previous = λ i h above. rw (same' i h) (linked.previous i h above);
}

-- a node that stands no later than another one stands before it
pub node_before : (periods : List ℕ) (i j : ℕ) → IsChain periods → i < length periods
    → j < length periods → get_or periods i 0 ≤ get_or periods j 0 → i ≢ j
    → get_or periods i 0 < get_or periods j 0
node_before periods i j chain hi hj le ne =
    elim (cases_lt (get_or periods i 0) (get_or periods j 0)) [
      | inl lt ↦ lt
      | inr ge ↦ Prim.absurd (ne (chain.apart i j hi hj (omega arith)))
    ]

-- nodes that are as many as those they begin with are these
pub nodes_same : (one other : Nodes) → IsLonger other.periods one.periods
    → length one.periods ≤ length other.periods → one ≡ record one { periods = other.periods }
nodes_same one other longer few =
    let long = longer.long in
    ap (λ (periods : List ℕ). record one { periods = periods })
    (ext_get_or 0 one.periods other.periods (omega arith) (λ i h. longer.same i (omega arith)))
