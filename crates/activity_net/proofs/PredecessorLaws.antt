-- The direct predecessors of an activity as a list.
use Rattle.std.proofs.Common.{◌≡◌, ℕ, ◌-◌, ◌≤◌, List, [], ◌∷◌, ◌++◌, ◌+◌, ◌<◌, replicate, length, get_or, map, filter, if◌then◌else◌, sym, ap, ◌∙◌, subst, arith, Vec, Global}
use Rattle.std.proofs.lemmas.List.{map-id, ext_get_or, get_or-replicate, length-replicate, get_or-map, length-map}
use Rattle.std.proofs.lemmas.List.FromFn.{map-range_with_len_more, length-map-range_with_len, get_or-map-range_with_len}
use Rattle.std.proofs.lemmas.List.Elements.{filter-append}
use Rattle.std.specs.List.{range_with_len}
use Rattle.rc_instance.specs.Lists.{numbers, IsRising}
use Rattle.rc_instance.specs.Project.{Project, activity_count, precedes, successors_of, IsActivity}
use Rattle.rc_instance.proofs.SetLaws.{numbers_that}
use Rattle.activity_net.specs.Network.{predecessors_of, predecessor_table}
use Rattle.activity_net.specs.Tables.{lists_in, IsListedUnder}

-- they are activities, in rising order
pub predecessors_are : (project : Project) (b : ℕ) → IsRising (activity_count project)
    (predecessors_of project b)
unfolding predecessors_of
predecessors_are project b = numbers_that (activity_count project) (λ a. precedes project a b)

-- the list at a place of a table by number
pub table_at : {X : Type 0} (f : ℕ → List ℕ) (view : X → List ℕ) (table : List X) (n a : ℕ) (d : X)
    → map view table ≡ map f (numbers n) → 1 ≤ a → a ≤ n → view (get_or table (a - 1) d) ≡ f a
table_at f view table n a d same from upto =
    let long : length table ≡ n = sym (length-map table view) ∙ ap length same
    ∙ length-map-range_with_len f 1 n in
    sym (get_or-map view table (a - 1) d (f a) (omega arith))
    ∙ (ap (λ lists. get_or lists (a - 1) (f a)) same
    ∙ get_or-map-range_with_len f 1 n (a - 1) a (f a) (omega arith) (omega arith))

-- the direct predecessors of b among the numbers from 1 to m
abbrev pub predecessors_up_to : Project → ℕ → ℕ → List ℕ
predecessors_up_to project m b = filter (λ a. precedes project a b) (numbers m)

-- none are among no numbers
pub predecessors-none : (project : Project) → replicate (activity_count project) []
    ≡ map (predecessors_up_to project 0) (numbers (activity_count project))
predecessors-none project =
    let n = activity_count project in
    let long = length-map-range_with_len (predecessors_up_to project 0) 1 n in
    ext_get_or [] (replicate n []) (map (predecessors_up_to project 0) (numbers n))
    (length-replicate n [] ∙ sym long)
    (λ i within.
    let below : i < n = omega (arith, length-replicate {A = List ℕ} n []) in
    get_or-replicate n i [] [] below ∙ sym (get_or-map-range_with_len (predecessors_up_to project 0)
    1 n i (i + 1) [] below (omega arith)))

-- the numbers from 1 to m + 1
pub numbers-more : (m : ℕ) → numbers (m + 1) ≡ numbers m ++ (m + 1) ∷ []
numbers-more m =
    let same : (n : ℕ) → map (λ (x : ℕ). x) (range_with_len 1 n)
    ≡ range_with_len 1 n = λ n. map-id (range_with_len 1 n) in
    sym (same (m + 1)) ∙ (map-range_with_len_more (λ (x : ℕ). x) 1 m (m + 1) (omega arith)
    ∙ ap (λ xs. xs ++ (m + 1) ∷ []) (same m))

-- one more activity, listed under its successors
pub predecessors-more : (project : Project) (m : ℕ) (before after : List (List ℕ))
    → length after ≡ activity_count project
    → before ≡ map (predecessors_up_to project m) (numbers (activity_count project))
    → IsListedUnder (m + 1) (successors_of project (m + 1)) before after
    → after ≡ map (predecessors_up_to project (m + 1)) (numbers (activity_count project))
unfolding precedes
predecessors-more project m before after long was listed =
    let n = activity_count project in
    let up = predecessors_up_to project in
    let short : length before ≡ n = ap length was ∙ length-map-range_with_len (up m) 1 n in
    ext_get_or [] after (map (up (m + 1)) (numbers n))
    (long ∙ sym (length-map-range_with_len (up (m + 1)) 1 n))
    (λ i within.
    let below : i < n = omega (arith, long) in
    let one : i + 1 - 1 ≡ i = omega arith in
    let was_at : get_or before i [] ≡ up m (i + 1) =
    ap (λ lists. get_or lists i []) was ∙ get_or-map-range_with_len (up m) 1 n i (i + 1) [] below
    (omega arith) in
    let now_at = rw one at (listed.at (i + 1) (omega arith) (omega arith)) in
    let more : up (m + 1) (i + 1) ≡ up m (i + 1) ++ (if precedes project (m + 1) (i + 1) then
    (m + 1) ∷ [] else []) =
    ap (filter (λ a. precedes project a (i + 1))) (numbers-more m)
    ∙ filter-append (λ a. precedes project a (i + 1)) (numbers m) ((m + 1) ∷ []) in
    let at = get_or-map-range_with_len (up (m + 1)) 1 n i (i + 1) [] below (omega arith) in
    now_at ∙ (ap (λ xs. xs ++ (if precedes project (m + 1) (i + 1) then (m + 1) ∷ [] else []))
    was_at ∙ (sym more ∙ sym at)))

-- the same with the number of the next activity
pub predecessors-next : (project : Project) (a : ℕ) (before after : List (List ℕ))
    (successors : List ℕ) → 1 ≤ a
    → length after ≡ activity_count project → successors ≡ successors_of project a
    → before ≡ map (predecessors_up_to project (a - 1)) (numbers (activity_count project))
    → IsListedUnder a successors before after
    → after ≡ map (predecessors_up_to project (a + 1 - 1)) (numbers (activity_count project))
predecessors-next project a before after successors from long same was listed =
    let next : a - 1 + 1 ≡ a = omega arith in
    let this : a - 1 + 1 ≡ a + 1 - 1 = omega arith in
    let under = subst (λ (list : List ℕ). IsListedUnder a list before after) same listed in
    subst (λ (m : ℕ). after ≡ map (predecessors_up_to project m) (numbers (activity_count project)))
    this
    (predecessors-more project (a - 1) before after long was
    (subst (λ (b : ℕ). IsListedUnder b (successors_of project b) before after) (sym next) under))

-- once all activities are listed, the table is there
pub predecessors-all : (project : Project) (m : ℕ) (lists : List (List ℕ))
    → m ≡ activity_count project
    → lists ≡ map (predecessors_up_to project m) (numbers (activity_count project))
    → lists ≡ predecessor_table project
unfolding predecessors_of
predecessors-all project m lists all same =
    subst (λ (k : ℕ). lists ≡ map (predecessors_up_to project k) (numbers (activity_count project)))
    all same

-- the list that is read at the place of an activity
pub list_read : (project : Project) (table : List (Vec ℕ Global)) (a : ℕ) (list : List ℕ)
    (v : Vec ℕ Global) → lists_in table ≡ predecessor_table project
    → IsActivity project a → list ≡ v.items → v ≡ get_or table (a - 1) v
    → list ≡ predecessors_of project a
list_read project table a list v same activity is at =
    is ∙ (ap (λ (w : Vec ℕ Global). w.items) at
    ∙ table_at (predecessors_of project) (λ (w : Vec ℕ Global). w.items) table
    (activity_count project) a v same activity.0 activity.1)
