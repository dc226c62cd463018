-- A trial: neighbours of a list change places, and perhaps change back.
use Rattle.std.proofs.Common.{◌≡◌, ℕ, ◌+◌, ◌<◌, Bool, true, false, not, List, length, slice_index, nat_lt, if◌then◌else◌, sym, refl, ap, ap₂, ◌∙◌, subst, arith}
use Rattle.std.proofs.lemmas.Bool.{not-true, not-false}
use Rattle.std.proofs.lemmas.List.Edits.{swapped_from_swap}
use Rattle.rc_instance.specs.Project.{precedes}
use Rattle.activity_net.specs.Network.{Listing}
use Rattle.activity_net.proofs.SwapLaws.{IsFeasibleList-swap, swap_back, take-swap}
use Rattle.event_line.specs.Timeline.{Timeline}
use Rattle.swap_descent.specs.Descent.{swapped, serial_makespan, improves}
use Rattle.swap_descent.specs.Placed.{IsPlaced, IsBelow}
use Rattle.swap_descent.proofs.PlacedLaws.{placed_with}
use Rattle.swap_descent.proofs.BoundLaws.{IsBelow-same, improves-is, not_back}

-- whether the activity at place i of a list directly precedes the next one
abbrev pub goes_before : Listing → ℕ → Bool
goes_before list i =
    precedes list.network.project (slice_index list.order i) (slice_index list.order (i + 1))

-- an exchange that was made is not of a direct predecessor
pub made : (list new : Listing) (i : ℕ) (told : Bool) → told ≡ true → told ≡ not (goes_before list i)
    → new ≡ record list { order = if told then swapped list.order i else list.order }
    → (goes_before list i ≡ false) × (new ≡ record list { order = swapped list.order i })
made list new i told held is change = (
  not-true (goes_before list i) (sym is ∙ held),
  change ∙ ap (λ (b : Bool). record list { order = if b then swapped list.order i else list.order })
      held,
)

-- one that was refused is, and the list stands
pub refused : (list new : Listing) (i : ℕ) (told : Bool) → told ≡ false
    → told ≡ not (goes_before list i)
    → new ≡ record list { order = if told then swapped list.order i else list.order }
    → (goes_before list i ≡ true) × (new ≡ list)
refused list new i told failed is change = (
  not-false (goes_before list i) (sym is ∙ failed),
  change ∙ ap (λ (b : Bool). record list { order = if b then swapped list.order i else list.order })
      failed,
)

-- the places before it are booked as they were
pub tried_placed : (list new : Listing) (i : ℕ) (line : Timeline) (starts : List ℕ)
    → i + 1 < length list.order → goes_before list i ≡ false
    → new ≡ record list { order = swapped list.order i } → IsPlaced list i line starts
    → IsPlaced new i line starts
tried_placed list new i line starts within free is placed =
    subst (λ (l : Listing). IsPlaced l i line starts) (sym is)
    (placed_with list (swapped list.order i) i line starts
    (IsFeasibleList-swap list.network.project list.order i placed.feasible within free)
    (take-swap list.order i within) placed)

-- and show what they did
pub tried_below : (list new : Listing) (i limit : ℕ) → i + 1 < length list.order
    → new ≡ record list { order = swapped list.order i }
    → IsBelow list.network.project list.order i limit
    → IsBelow new.network.project new.order i limit
tried_below list new i limit within is below =
    subst (λ (l : Listing). IsBelow l.network.project l.order i limit) (sym is)
    (IsBelow-same list.network.project list.order (swapped list.order i) i limit
    (take-swap list.order i within) below)

-- whether the makespan falls below that of the list tells whether the exchange improves
pub tried_told : (list new : Listing) (i limit : ℕ) (told : Bool) → goes_before list i ≡ false
    → new ≡ record list { order = swapped list.order i }
    → limit ≡ serial_makespan list.network.project list.order
    → told ≡ nat_lt (serial_makespan new.network.project new.order) limit
    → told ≡ improves list.network.project list.order i
tried_told list new i limit told free is most tells =
    tells
    ∙ (ap₂ (λ (a b : ℕ). nat_lt a b)
    (ap (λ (l : Listing). serial_makespan l.network.project l.order) is) most
    ∙ sym (improves-is list.network.project list.order i free))

-- exchanged once more, the list is what it was, and so are its bookings
pub tried_back : (list new back : Listing) (i : ℕ) (told : Bool) (line : Timeline) (starts : List ℕ)
    (before : Timeline) (old : List ℕ) → i + 1 < length list.order
    → new ≡ record list { order = swapped list.order i } → IsPlaced list i before old
    → told ≡ not (goes_before new i)
    → back ≡ record new { order = if told then swapped new.order i else new.order }
    → IsPlaced new i line starts → (back ≡ list) × IsPlaced list i line starts
tried_back list new back i told line starts before old within is was tells change placed =
    let project = list.network.project in
    let order = list.order in
    let other = swapped order i in
    let moved = swapped_from_swap order other i (i + 1) 0 (omega arith) within refl in
    let free : not (precedes project (slice_index other i) (slice_index other (i + 1))) ≡ true =
    ap₂ (λ (a b : ℕ). not (precedes project a b)) moved.0 moved.1
    ∙ ap not (not_back project order i was.feasible within) in
    let held : told ≡ true =
    tells ∙ (ap (λ (l : Listing). not (goes_before l i)) is ∙ free) in
    let same : back ≡ list =
    change
    ∙ (ap (λ (b : Bool). record new { order = if b then swapped new.order i else new.order }) held
    ∙ (ap (λ (l : Listing). record l { order = swapped l.order i }) is
    ∙ ap (λ (o : List ℕ). record list { order = o }) (swap_back order i within))) in
    let there : IsPlaced (record list { order = other }) i line starts =
    subst (λ (l : Listing). IsPlaced l i line starts) is placed in (
      same,
      placed_with (record list { order = other }) order i line starts was.feasible
          (sym (take-swap order i within)) there,
    )
