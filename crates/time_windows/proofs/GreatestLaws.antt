-- Greatest values over lists, and what lists of predecessors and successors contain.
use Rattle.std.proofs.Common.{◌≡◌, ℕ, zero, suc, ◌<◌, ◌≤◌, Bool, true, false, if◌then◌else◌, List, [], ◌∷◌, length, get_or, map, refl, ap, ◌∙◌, inl, inr, ◌⊎◌, arith}
use Rattle.std.specs.List.{Contains, filter}
use Rattle.std.proofs.lemmas.Bool.{cases_lt}
use Rattle.std.proofs.lemmas.List.{get_or-map, length-map}
use Rattle.std.proofs.lemmas.List.Elements.{All-contains, filter_passes}
use Rattle.rc_instance.specs.Lists.{greatest, numbers}
use Rattle.rc_instance.specs.Project.{Project, IsActivity, activity_count, precedes, Precedes, successors_of}
use Rattle.rc_instance.proofs.ListLaws.{Contains-le-greatest, names_decides}
use Rattle.rc_instance.proofs.OrderLaws.{Contains-numbers}
use Rattle.rc_instance.proofs.SetLaws.{numbers_that}
use Rattle.activity_net.specs.Network.{predecessors_of}

-- what a list contains, the list of its values does
pub Contains-map : {X : Type 0} (f : X → ℕ) (xs : List X) (x : X) → Contains xs x
    → Contains (map f xs) (f x)
Contains-map f xs x h =
    (h.0, omega (arith, length-map xs f, h.1), get_or-map f xs h.0 x (f x) h.1 ∙ ap f h.2)

-- each value is at most the greatest
pub greatest-map-ge : {X : Type 0} (f : X → ℕ) (xs : List X) (x : X) → Contains xs x
    → f x ≤ greatest (map f xs)
greatest-map-ge f xs x h = Contains-le-greatest (map f xs) (f x) (Contains-map f xs x h)

-- what a list contains, it contains with one more element before it
pub Contains-cons : {X : Type 0} (y : X) (xs : List X) (x : X) → Contains xs x
    → Contains (y ∷ xs) x
Contains-cons y xs x h = (suc h.0, omega (arith, h.1), h.2)

-- the greatest value is 0, or that of an element
pub greatest-map-attained : {X : Type 0} (f : X → ℕ) (xs : List X)
    → (greatest (map f xs) ≡ 0) ⊎ ((x : X) × Contains xs x × (greatest (map f xs) ≡ f x))
greatest-map-attained f [] = inl refl
greatest-map-attained f (x ∷ xs) =
    elim (cases_lt (f x) (greatest (map f xs))) [
      | inl below ↦ elim (greatest-map-attained f xs) [
        | inl none ↦ inl (omega arith)
        | inr some ↦ inr (some.0, Contains-cons x xs some.0 some.1, omega (arith, some.2))
      ]
      | inr above ↦ inr (x, (0, omega arith, refl), omega arith)
    ]

-- an element of a list that passes a test is among those that pass it
kept_at : (test : ℕ → Bool) (xs : List ℕ) (place x : ℕ) → place < length xs
    → get_or xs place x ≡ x → test x ≡ true → Contains (filter test xs) x
kept_at test [] place x within at passes = Prim.absurd (omega arith)
kept_at test (y ∷ ys) zero x within at passes =
    let e : test y ≡ true = ap test at ∙ passes in
    rw e (0, omega arith, at)
kept_at test (y ∷ ys) (suc place) x within at passes =
    let rest = kept_at test ys place x (omega arith) at passes in
    elim (test y) as (λ b. Contains (if b then y ∷ filter test ys else filter test ys) x) [
      | true ↦ Contains-cons y (filter test ys) x rest
      | false ↦ rest
    ]

pub Contains-filter : (test : ℕ → Bool) (xs : List ℕ) (x : ℕ) → Contains xs x → test x ≡ true
    → Contains (filter test xs) x
Contains-filter test xs x h passes = kept_at test xs h.0 x h.1 h.2 passes

-- a direct predecessor is in the list of predecessors
pub Contains-predecessors : (project : Project) (a b : ℕ) → IsActivity project a
    → Precedes project a b → Contains (predecessors_of project b) a
unfolding predecessors_of
Contains-predecessors project a b activity before =
    Contains-filter (λ p. precedes project p b) (numbers (activity_count project)) a
    (Contains-numbers (activity_count project) a activity.0 activity.1) before

-- and each of that list is an activity that precedes directly
pub predecessor_is : (project : Project) (a b : ℕ) → Contains (predecessors_of project b) a
    → IsActivity project a × Precedes project a b
unfolding predecessors_of
predecessor_is project a b h =
    let p = λ (q : ℕ). precedes project q b in
    let all = numbers (activity_count project) in (
      All-contains (IsActivity project) (filter p all) a
          (numbers_that (activity_count project) p).within h,
      All-contains (λ q. p q ≡ true) (filter p all) a (filter_passes p all) h,
    )

-- a direct successor is in the list of successors
pub Contains-successors : (project : Project) (a b : ℕ) → Precedes project a b
    → Contains (successors_of project a) b
unfolding precedes
Contains-successors project a b before = (names_decides (successors_of project a) b).0 before

pub successor_precedes : (project : Project) (a b : ℕ) → Contains (successors_of project a) b
    → Precedes project a b
unfolding precedes
successor_precedes project a b h = (names_decides (successors_of project a) b).1 h
