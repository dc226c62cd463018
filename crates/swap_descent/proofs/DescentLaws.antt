-- What rounds of the descent come to.
use Rattle.std.proofs.Common.{◌≡◌, ℕ, zero, suc, ◌+◌, ◌≤◌, Bool, true, false, None, Some, List, length, slice_index, sym, refl, ap, ap₂, ◌∙◌, inl, inr, arith, true≢false}
use Rattle.std.specs.Option.{is_some}
use Rattle.std.proofs.lemmas.Bool.{cases_Bool, ltb-true}
use Rattle.rc_instance.specs.Order.{IsFeasibleList}
use Rattle.rc_instance.specs.Project.{Project, precedes}
use Rattle.rc_instance.specs.Schedule.{serial_schedule}
use Rattle.activity_net.specs.Network.{Network, Listing}
use Rattle.event_line.specs.Timeline.{Timeline}
use Rattle.activity_net.proofs.SwapLaws.{IsFeasibleList-swap}
use Rattle.swap_descent.specs.Descent.{serial_makespan, improves, first_swap, swapped, with_swap, descent}
use Rattle.swap_descent.specs.Placed.{IsPlaced}
use Rattle.swap_descent.proofs.PlacedLaws.{placed_all}
use Rattle.swap_descent.proofs.BoundLaws.{improves-not, improves-is}
use Rattle.swap_descent.proofs.ChoiceLaws.{first_swap-is, none_from}

-- an exchange that improves is not of a direct predecessor
improves-free : (project : Project) (order : List ℕ) (i : ℕ) → improves project order i ≡ true
    → precedes project (slice_index order i) (slice_index order (i + 1)) ≡ false
improves-free project order i improving =
    let before = precedes project (slice_index order i) (slice_index order (i + 1)) in
    elim (cases_Bool before) as (λ _. before ≡ false) [
      | inl e ↦ absurd (true≢false (sym improving ∙ improves-not project order i e))
      | inr e ↦ e
    ]

-- a round leaves a feasible list feasible
pub with_swap-feasible : (project : Project) (order : List ℕ) → IsFeasibleList project order
    → IsFeasibleList project (with_swap order (first_swap project order))
with_swap-feasible project order list =
    let found = first_swap project order in
    elim found as (λ o. found ≡ o → IsFeasibleList project (with_swap order o)) [
      | None ↦ λ _. list
      | Some i ↦ λ e.
          let is = first_swap-is project order i e in
          IsFeasibleList-swap project order i list is.0 (improves-free project order i is.1)
    ] refl

-- and makes no serial schedule longer
with_swap-le : (project : Project) (order : List ℕ)
    → serial_makespan project (with_swap order (first_swap project order))
    ≤ serial_makespan project order
with_swap-le project order =
    let found = first_swap project order in
    elim found as
    (λ o. found ≡ o → serial_makespan project (with_swap order o) ≤ serial_makespan project order) [
      | None ↦ λ _. omega arith
      | Some i ↦ λ e.
          let is = first_swap-is project order i e in
          let free = improves-free project order i is.1 in
          let falls = ltb-true (serial_makespan project (swapped order i))
          (serial_makespan project order) (sym (improves-is project order i free) ∙ is.1) in
          omega arith
    ] refl

-- so do more rounds
pub descent-feasible : (project : Project) (rounds : ℕ) (order : List ℕ)
    → IsFeasibleList project order → IsFeasibleList project (descent project rounds order)
unfolding descent
descent-feasible project zero order list = list
descent-feasible project (suc rounds) order list =
    descent-feasible project rounds (with_swap order (first_swap project order))
    (with_swap-feasible project order list)

pub descent-le : (project : Project) (rounds : ℕ) (order : List ℕ)
    → serial_makespan project (descent project rounds order) ≤ serial_makespan project order
unfolding descent
descent-le project zero order = omega arith
descent-le project (suc rounds) order =
    let next = with_swap order (first_swap project order) in
    let rest = descent-le project rounds next in
    let here = with_swap-le project order in
    omega arith

-- where no exchange improves, the order stays
pub descent-still : (project : Project) (rounds : ℕ) (order : List ℕ)
    → first_swap project order ≡ None → descent project rounds order ≡ order
unfolding descent
descent-still project zero order none = refl
descent-still project (suc rounds) order none =
    ap (λ o. descent project rounds (with_swap order o)) none
    ∙ descent-still project rounds order none

-- one round and the rest
pub descent-more : (project : Project) (rounds rest : ℕ) (order : List ℕ) → rounds ≡ suc rest
    → descent project rounds order
    ≡ descent project rest (with_swap order (first_swap project order))
unfolding descent
descent-more project rounds rest order e = ap (λ n. descent project n order) e

-- a round and what is left of the descent come to the same
pub repeat_more : (old new : Listing) (rounds rest : ℕ) → rounds ≡ suc rest
    → new ≡ record old {
      order = with_swap old.order (first_swap old.network.project old.order);
    }
    → (new.network ≡ old.network)
    × (descent new.network.project rest new.order ≡ descent old.network.project rounds old.order)
repeat_more old new rounds rest e is = (
  ap (λ (l : Listing). l.network) is,
  ap (λ (l : Listing). descent l.network.project rest l.order) is
      ∙ sym (descent-more old.network.project rounds rest old.order e),
)

-- where a round finds none, what is left comes to the list
pub repeat_still : (old new : Listing) (told : Bool) (rounds : ℕ) → told ≡ false
    → told ≡ is_some (first_swap old.network.project old.order)
    → new ≡ record old {
      order = with_swap old.order (first_swap old.network.project old.order);
    }
    → (new.network ≡ old.network)
    × (new.order ≡ descent old.network.project rounds old.order)
repeat_still old new told rounds failed tells is =
    let none = none_from (first_swap old.network.project old.order) (sym tells ∙ failed) in (
      ap (λ (l : Listing). l.network) is,
      ap (λ (l : Listing). l.order) is
          ∙ (ap (with_swap old.order) none
          ∙ sym (descent-still old.network.project rounds old.order none)),
    )

-- where no rounds are left, it is the list
pub repeat_end : (list : Listing) (rounds : ℕ) → rounds ≡ 0
    → list.order ≡ descent list.network.project rounds list.order
unfolding descent
repeat_end list rounds none =
    sym (ap (λ n. descent list.network.project n list.order) none)

-- the list that the descent ends with, and its schedule
pub repeated : (old new : Listing) (rounds : ℕ) (order : List ℕ) (line : Timeline) (starts : List ℕ)
    → new.network ≡ old.network → new.order ≡ descent old.network.project rounds order
    → IsPlaced new (length new.order) line starts
    → (new ≡ record old { order = descent old.network.project rounds order })
    × (starts ≡ serial_schedule old.network.project (descent old.network.project rounds order))
repeated old new rounds order line starts network is placed = (
  ap₂ (λ (n : Network) (o : List ℕ). let l : Listing = record { network = n; order = o } in l)
      network is,
  placed_all new line starts placed
      ∙ ap₂ (λ (n : Network) (o : List ℕ). serial_schedule n.project o) network is,
)
