-- What a table of rows shows of the vectors that it is made of.
use Rattle.std.proofs.Common.{◌≡◌, ◌≢◌, ℕ, ◌+◌, ◌^◌, ◌<◌, ◌≤◌, List, [], length, map, take, set, get_or, ap, ◌∙◌, sym, subst, inl, inr, arith}
use Rattle.std.proofs.lemmas.Bool.{cases_lt}
use Rattle.std.specs.List.{All}
use Rattle.std.proofs.lemmas.List.{get_or-take, get_or-set_same, get_or-set_other, length-take-le}
use Rattle.std.proofs.lemmas.List.Elements.{All-from_get_or}
use Rattle.std.proofs.Math.ListN.{get_or-map}
use Rattle.std.proofs.Math.Seq.{take-nil}
use Rattle.event_line.specs.declared.lanes.TheConstants.{LANES}
use Rattle.event_line.specs.Lanes.{IsVector}
use Rattle.event_line.specs.Rows.{row_at, left_at, HasRoom, IsTakenAt}

-- the row of a node is the front of its vector
pub row_is : (width i : ℕ) (vectors : List (List ℕ))
    → row_at (map (take width) vectors) i ≡ take width (get_or vectors i [])
row_is width i vectors =
    subst (λ (d : List ℕ). get_or (map (take width) vectors) i d ≡ take width (get_or vectors i []))
    (take-nil width) (get_or-map (take width) vectors i [])

-- each number of it is a lane
pub lane_is : (width i j : ℕ) (vectors : List (List ℕ)) → j < width
    → left_at (map (take width) vectors) i j ≡ get_or (get_or vectors i []) j 0
lane_is width i j vectors h =
    ap (λ row. get_or row j 0) (row_is width i vectors)
    ∙ get_or-take width (get_or vectors i []) j 0 h

-- how many numbers the front of a vector has
front_count : (count width : ℕ) (vector : List ℕ) → count ≤ LANES → length vector ≡ LANES
    → length (take count vector) ≡ width → count ≡ width
front_count count width vector narrow whole same =
    omega (arith, length-take-le count vector (omega arith))

-- a row has room where its vector covers that of the demands
pub room_from_lanes : (vectors : List (List ℕ)) (width count node : ℕ) (vector demands : List ℕ)
    → get_or vectors node [] ≡ vector → length demands ≡ LANES → count ≤ LANES
    → length (take count demands) ≡ width
    → ((j : ℕ) → j < LANES → get_or demands j 0 ≤ get_or vector j 0)
    → HasRoom (map (take width) vectors) (take count demands) node
room_from_lanes vectors width count node vector demands at whole narrow same covered = record {
  within = λ j h.
      let e = front_count count width demands narrow whole same in
      let demand = get_or-take count demands j 0 (omega arith) in
      let left = lane_is width node j vectors (omega arith) in
      let lane = ap (λ (v : List ℕ). get_or v j 0) at in
      let here = covered j (omega arith) in
      omega arith;
}

-- and it covers that one where the row has room, since nothing is demanded past the resources
pub lanes_from_room : (vectors : List (List ℕ)) (width count node : ℕ) (vector demands : List ℕ)
    → get_or vectors node [] ≡ vector → length demands ≡ LANES → count ≤ LANES
    → length (take count demands) ≡ width
    → ((j : ℕ) → count ≤ j → get_or demands j 0 ≡ 0)
    → HasRoom (map (take width) vectors) (take count demands) node
    → (j : ℕ) → j < LANES → get_or demands j 0 ≤ get_or vector j 0
lanes_from_room vectors width count node vector demands at whole narrow same rest room j h =
    elim (cases_lt j count) [
      | inl below ↦
          let e = front_count count width demands narrow whole same in
          let demand = get_or-take count demands j 0 below in
          let left = lane_is width node j vectors (omega arith) in
          let lane = ap (λ (v : List ℕ). get_or v j 0) at in
          let here = room.within j (omega arith) in
          omega arith
      | inr past ↦ omega (arith, rest j past)
    ]

-- where one vector changes by the demands, they are taken from its row
pub taken_lanes : (old new : List (List ℕ)) (width count node : ℕ) (vector vector' demands : List ℕ)
    → get_or old node [] ≡ vector → get_or new node [] ≡ vector'
    → ((x : ℕ) → x ≢ node → get_or new x [] ≡ get_or old x [])
    → length demands ≡ LANES → count ≤ LANES → length (take count demands) ≡ width
    → ((j : ℕ) → j < LANES → get_or vector' j 0 + get_or demands j 0 ≡ get_or vector j 0)
    → IsTakenAt (map (take width) old) (map (take width) new) (take count demands) node
taken_lanes old new width count node vector vector' demands at at' others whole narrow same less =
    record {
      inside = λ j h.
          let e = front_count count width demands narrow whole same in
          let demand = get_or-take count demands j 0 (omega arith) in
          let before = lane_is width node j old (omega arith) in
          let after = lane_is width node j new (omega arith) in
          let lane = ap (λ (v : List ℕ). get_or v j 0) at in
          let lane' = ap (λ (v : List ℕ). get_or v j 0) at' in
          let here = less j (omega arith) in
          omega arith;
      others = λ x ne. row_is width x new
          ∙ (ap (take width) (others x ne) ∙ sym (row_is width x old));
    }

-- demands that can be given back to a row can be given back to its vector
pub lanes_from_fits : (vectors : List (List ℕ)) (width count node : ℕ) (vector demands : List ℕ)
    → get_or vectors node [] ≡ vector → length demands ≡ LANES → count ≤ LANES
    → length (take count demands) ≡ width
    → ((j : ℕ) → count ≤ j → get_or demands j 0 ≡ 0)
    → ((j : ℕ) → get_or vector j 0 < 2 ^ 16)
    → ((j : ℕ) → j < length (take count demands)
    → left_at (map (take width) vectors) node j + get_or (take count demands) j 0 < 2 ^ 16)
    → (j : ℕ) → j < LANES → get_or vector j 0 + get_or demands j 0 < 2 ^ 16
lanes_from_fits vectors width count node vector demands at whole narrow same rest fit fits j h =
    elim (cases_lt j count) [
      | inl below ↦
          let e = front_count count width demands narrow whole same in
          let demand = get_or-take count demands j 0 below in
          let left = lane_is width node j vectors (omega arith) in
          let lane = ap (λ (v : List ℕ). get_or v j 0) at in
          let here = fits j (omega arith) in
          omega arith
      | inr past ↦ omega (arith, rest j past, fit j)
    ]

-- a vector that is written is the row of its node
pub set_row : (width node : ℕ) (vectors : List (List ℕ)) (vector : List ℕ)
    → node < length vectors
    → row_at (map (take width) (set vectors node vector)) node ≡ take width vector
set_row width node vectors vector within =
    row_is width node (set vectors node vector)
    ∙ ap (take width) (get_or-set_same vectors node vector [] within)

-- and each other row stays
pub set_others : (width node x : ℕ) (vectors : List (List ℕ)) (vector : List ℕ) → x ≢ node
    → row_at (map (take width) (set vectors node vector)) x ≡ row_at (map (take width) vectors) x
set_others width node x vectors vector ne =
    row_is width x (set vectors node vector)
    ∙ (ap (take width) (get_or-set_other vectors node x vector [] ne)
    ∙ sym (row_is width x vectors))

-- vectors whose first ones are those of others are vectors
pub vectors_restored : (old new from : List (List ℕ)) (count : ℕ)
    → All IsVector old → All IsVector from → length new ≡ length old → count ≤ length from
    → ((i : ℕ) → i < count → get_or new i [] ≡ get_or from i [])
    → ((i : ℕ) → count ≤ i → get_or new i [] ≡ get_or old i [])
    → All IsVector new
vectors_restored old new from count are are' long within front rest =
    All-from_get_or IsVector new []
    (λ i h. elim (cases_lt i count) [
      | inl inside ↦ subst IsVector (sym (front i inside)) (are' i [] (omega arith))
      | inr past ↦ subst IsVector (sym (rest i past)) (are i [] (omega arith))
    ])
