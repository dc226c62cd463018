-- The capacity bound as it is computed: by change, by activity and by resource.
use Rattle.std.proofs.Common.{◌≡◌, ℕ, ◌+◌, ◌-◌, ◌<◌, ◌≤◌, ◌&&◌, max, true, false, if◌then◌else◌, List, [], ◌∷◌, map, get_or, take, nat_eq, nat_lt, Some, refl, ap, ◌∙◌, inl, inr, arith}
use Rattle.std.specs.List.{filter, sum_by, slice_get}
use Rattle.std.specs.Bool.{Decides}
use Rattle.std.specs.Int.{div_ceil}
use Rattle.std.proofs.lemmas.Bool.{cond-true, cond_both, cases_eq}
use Rattle.std.proofs.lemmas.Bool.Decides.{Decides-like, Decides-and, Decides-ltb}
use Rattle.std.proofs.lemmas.List.{map-append}
use Rattle.std.proofs.lemmas.List.Elements.{filter_more}
use Rattle.std.proofs.lemmas.List.FromFn.{map-range_with_len_more, sum_by-map-range_with_len_more}
use Rattle.std.proofs.lemmas.List.Sums.{sum-map}
use Rattle.std.proofs.lemmas.Option.{get_or_from_slice_get, slice_get_within}
use Rattle.rc_instance.specs.declared.change.Change.{Change}
use Rattle.rc_instance.specs.Lists.{greatest, numbers}
use Rattle.rc_instance.specs.Project.{Project, duration}
use Rattle.rc_instance.proofs.ListLaws.{greatest-append, greatest_push}
use Rattle.time_windows.specs.CapacityBound.{top_capacity, work, is_enough, bound_by, IsEnough}
use Rattle.time_windows.proofs.BoundLaws.{is_enough_decides}

-- the greatest of a capacity and those of the changes of resource k
abbrev pub top_among : ℕ → ℕ → List Change → ℕ
top_among k first changes =
    max first (greatest (map (λ (change : Change). change.capacity)
    (filter (λ change. nat_eq change.resource k) changes)))

-- one more change: it counts if it is of resource k
pub top_among-more : (k first : ℕ) (changes : List Change) (i : ℕ) (change : Change)
    → slice_get changes i ≡ Some change
    → top_among k first (take (i + 1) changes)
    ≡ max (top_among k first (take i changes))
    (if nat_eq change.resource k then change.capacity else 0)
top_among-more k first changes i change at =
    let capacity_of = λ (c : Change). c.capacity in
    let of_k = λ (c : Change). nat_eq c.resource k in
    let shown = λ (c : Change). if of_k c then c ∷ [] else [] in
    let before = filter of_k (take i changes) in
    let next = get_or changes i change in
    let same = get_or_from_slice_get changes i change change at in
    let kept = filter_more of_k changes i change (slice_get_within changes i change at) in
    let split = ap (λ xs. greatest (map capacity_of xs)) kept in
    let parts = map-append capacity_of before (shown next) in
    let two = greatest-append (map capacity_of before) (map capacity_of (shown next)) in
    let one : greatest (map capacity_of (shown next))
    ≡ (if nat_eq change.resource k then change.capacity else 0) =
    rw same (elim (nat_eq change.resource k)
    as (λ b. greatest (map capacity_of (if b then change ∷ [] else []))
    ≡ (if b then change.capacity else 0)) [ true ↦ omega arith | false ↦ refl ]) in
    omega (arith, ap greatest parts)

-- the greatest value over one more number
pub greatest-numbers-more : (f : ℕ → ℕ) (a : ℕ) → 1 ≤ a
    → greatest (map f (numbers (a + 1 - 1)))
    ≡ max (greatest (map f (numbers (a - 1)))) (f a)
greatest-numbers-more f a from =
    let e : a + 1 - 1 ≡ a - 1 + 1 = omega arith in
    ap (λ (n : ℕ). greatest (map f (numbers n))) e
    ∙ (ap greatest (map-range_with_len_more f 1 (a - 1) a (omega arith))
    ∙ greatest_push (map f (numbers (a - 1))) (f a))

-- a sum over one more number
pub sum_by-numbers-more : (f : ℕ → ℕ) (a : ℕ) → 1 ≤ a
    → sum_by f (numbers (a + 1 - 1)) ≡ sum_by f (numbers (a - 1)) + f a
sum_by-numbers-more f a from =
    let e : a + 1 - 1 ≡ a - 1 + 1 = omega arith in
    omega (
      arith,
      ap (λ (n : ℕ). sum_by f (numbers n)) e,
      sum-map f (numbers (a - 1 + 1)),
      sum-map f (numbers (a - 1)),
      sum_by-map-range_with_len_more (λ (x : ℕ). x) f 1 (a - 1) a (omega arith),
    )

-- the test tells whether there is enough of a resource
enough_decides : (project : Project) (k : ℕ)
    → Decides (is_enough project k) (IsEnough project k (top_capacity project k))
enough_decides project k =
    Decides-like (is_enough project k)
    (λ each a activity runs. elim (each a activity.0 (omega arith)) [
      | inl none ↦ Prim.absurd (omega arith)
      | inr few ↦ few
    ])
    (λ enough a from below. elim (cases_eq (duration project a) 0) [
      | inl none ↦ inl none
      | inr some ↦ inr (enough a (omega arith, omega arith) (omega arith))
    ])
    (is_enough_decides project k)

-- a resource of which there is some, and enough, gives its work over its top capacity
pub bound_by-some : (project : Project) (k : ℕ) → 0 < top_capacity project k
    → IsEnough project k (top_capacity project k)
    → bound_by project k ≡ div_ceil (work project k) (top_capacity project k)
unfolding bound_by
bound_by-some project k some enough =
    let top = top_capacity project k in
    cond-true (nat_lt 0 top && is_enough project k) (div_ceil (work project k) top) 0
    ((Decides-and (nat_lt 0 top) (is_enough project k) (Decides-ltb 0 top)
    (enough_decides project k)).1 (some, enough))

-- another one gives none
pub bound_by-none : (project : Project) (k : ℕ)
    → (0 < top_capacity project k → IsEnough project k (top_capacity project k) → ⊥)
    → bound_by project k ≡ 0
unfolding bound_by
bound_by-none project k not_both =
    let top = top_capacity project k in
    cond_both (nat_lt 0 top && is_enough project k) (div_ceil (work project k) top) 0 (λ x. x ≡ 0)
    (λ e. let both = (Decides-and (nat_lt 0 top) (is_enough project k) (Decides-ltb 0 top)
    (enough_decides project k)).0 e in
    Prim.absurd (not_both both.0 both.1))
    (λ _. refl)
