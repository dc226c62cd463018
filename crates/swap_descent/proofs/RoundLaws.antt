-- What a round of the descent knows at a position.
use Rattle.std.proofs.Common.{◌≡◌, ℕ, ◌+◌, ◌<◌, ◌≤◌, Bool, true, false, None, Some, List, [], length, nat_lt, if◌then◌else◌, sym, ap, ◌∙◌, subst, inl, inr, arith, below_more}
use Rattle.std.specs.Option.{is_some}
use Rattle.std.proofs.lemmas.Bool.{cases_eq, cases_lt}
use Rattle.rc_instance.specs.Schedule.{makespan}
use Rattle.activity_net.specs.Network.{Network, Listing}
use Rattle.event_line.specs.Timeline.{Timeline}
use Rattle.swap_descent.specs.Descent.{serial_makespan, improves, first_swap, swapped, with_swap}
use Rattle.swap_descent.specs.Placed.{IsPlaced, IsBelow, bound_at}
use Rattle.swap_descent.proofs.PlacedLaws.{placed_none, placed_all}
use Rattle.swap_descent.proofs.BoundLaws.{IsBelow-none, IsBelow-more, improves-late}
use Rattle.swap_descent.proofs.ChoiceLaws.{first_swap-some, first_swap-none}

-- the first places are booked, they do not show that the makespan is reached, and no exchange at them
-- improves the list
pub record IsAt (net : Network) (list : Listing) (n place most : ℕ) (line : Timeline) (starts : List ℕ)
    : Type 0 where
  pub network : net ≡ list.network
  pub count : n ≡ length list.order
  pub placed : IsPlaced list place line starts
  pub below : IsBelow list.network.project list.order place most
  pub limit : most ≡ serial_makespan list.network.project list.order
  pub none : (i : ℕ) → i < place → improves list.network.project list.order i ≡ false

-- the makespan that the starts of the whole list show
pub limit_is : (list : Listing) (line : Timeline) (starts : List ℕ)
    → IsPlaced list (length list.order) line starts
    → makespan list.network.project starts ≡ serial_makespan list.network.project list.order
limit_is list line starts placed =
    ap (makespan list.network.project) (placed_all list line starts placed)

-- a round begins on a cleared line
pub at_first : (net : Network) (list : Listing) (n most : ℕ) (line cleared : Timeline)
    (starts : List ℕ) → net ≡ list.network → n ≡ length list.order
    → IsPlaced list (length list.order) line starts
    → most ≡ serial_makespan list.network.project list.order
    → cleared ≡ record line { bookings = [] } → IsAt net list n 0 most cleared starts
at_first net list n most line cleared starts network count placed limit is = record {
  network = network;
  count = count;
  placed = placed_none list (length list.order) line cleared starts placed is;
  below = IsBelow-none list.network.project list.order most;
  limit = limit;
  none = λ i below. absurd (omega arith);
}

-- after a trial that improves nothing, the list is what it was
pub at_tried : (net : Network) (list same : Listing) (n place most : ℕ) (line next : Timeline)
    (starts after : List ℕ) → IsAt net list n place most line starts → same ≡ list
    → IsPlaced same place next after → IsAt net same n place most next after
at_tried net list same n place most line next starts after at is placed = record {
  network = at.network ∙ ap (λ (l : Listing). l.network) (sym is);
  count = at.count ∙ ap (λ (l : Listing). length l.order) (sym is);
  placed = placed;
  below = subst (λ (l : Listing). IsBelow l.network.project l.order place most) (sym is) at.below;
  limit = at.limit
      ∙ ap (λ (l : Listing). serial_makespan l.network.project l.order) (sym is);
  none = subst (λ (l : Listing). (i : ℕ) → i < place
      → improves l.network.project l.order i ≡ false) (sym is) at.none;
}

-- one place more
pub at_more : (net : Network) (list : Listing) (n place most : ℕ) (line next : Timeline)
    (starts after : List ℕ) → IsAt net list n place most line starts
    → improves list.network.project list.order place ≡ false
    → nat_lt (bound_at list.network.project list.order place) most ≡ true
    → IsPlaced list (place + 1) next after → IsAt net list n (place + 1) most next after
at_more net list n place most line next starts after at failed here placed = record {
  network = at.network;
  count = at.count;
  placed = placed;
  below = IsBelow-more list.network.project list.order place most at.below here;
  limit = at.limit;
  none = below_more (λ i. improves list.network.project list.order i ≡ false) place at.none failed;
}

-- the exchange at this place is the first that improves
pub at_found : (net : Network) (list : Listing) (n place most : ℕ) (line : Timeline)
    (starts : List ℕ) → IsAt net list n place most line starts → place + 1 < length list.order
    → improves list.network.project list.order place ≡ true
    → first_swap list.network.project list.order ≡ Some place
at_found net list n place most line starts at within passes =
    first_swap-some list.network.project list.order place within passes at.none

-- at the last place no exchange is left
pub at_end : (net : Network) (list : Listing) (n place most : ℕ) (line : Timeline)
    (starts : List ℕ) → IsAt net list n place most line starts → n ≤ place + 1
    → first_swap list.network.project list.order ≡ None
at_end net list n place most line starts at all =
    let count = at.count in
    first_swap-none list.network.project list.order (λ i within. at.none i (omega arith))

-- nor is one once this place shows that the makespan is reached
pub at_late : (net : Network) (list : Listing) (n place most : ℕ) (line : Timeline)
    (starts : List ℕ) → IsAt net list n place most line starts
    → improves list.network.project list.order place ≡ false
    → nat_lt (bound_at list.network.project list.order place) most ≡ false
    → first_swap list.network.project list.order ≡ None
at_late net list n place most line starts at failed here =
    let project = list.network.project in
    let order = list.order in
    let late = subst (λ m. nat_lt (bound_at project order place) m ≡ false) at.limit here in
    first_swap-none project order
    (λ i within. elim (cases_lt i place) as (λ _. improves project order i ≡ false) [
      | inl before ↦ at.none i before
      | inr above ↦ elim (cases_eq i place) as (λ _. improves project order i ≡ false) [
        | inl same ↦ subst (λ j. improves project order j ≡ false) (sym same) failed
        | inr other ↦ improves-late project order i place at.placed.fits at.placed.limits
            at.placed.feasible (omega arith) within late
      ]
    ])

-- what a round that finds none tells
pub round_none : (old same : Listing) → same ≡ old
    → first_swap same.network.project same.order ≡ None
    → (is_some (first_swap old.network.project old.order) ≡ false)
    × (same ≡ record old {
      order = with_swap old.order (first_swap old.network.project old.order);
    })
round_none old same is none =
    let found : first_swap old.network.project old.order ≡ None =
    subst (λ (l : Listing). first_swap l.network.project l.order ≡ None) is none in (
      ap is_some found,
      is ∙ sym (ap (λ o. record old { order = with_swap old.order o }) found),
    )

-- what a round that finds one tells
pub round_some : (old same new : Listing) (i : ℕ) → same ≡ old
    → first_swap same.network.project same.order ≡ Some i
    → new ≡ record same { order = swapped same.order i }
    → (is_some (first_swap old.network.project old.order) ≡ true)
    × (new ≡ record old {
      order = with_swap old.order (first_swap old.network.project old.order);
    })
round_some old same new i is some made =
    let found : first_swap old.network.project old.order ≡ Some i =
    subst (λ (l : Listing). first_swap l.network.project l.order ≡ Some i) is some in (
      ap is_some found,
      made ∙ (ap (λ (l : Listing). record l { order = swapped l.order i }) is
          ∙ sym (ap (λ o. record old { order = with_swap old.order o }) found)),
    )

-- after a trial that was given up, all is as it was
pub at_after : (net : Network) (list new : Listing) (n place most : ℕ) (line next : Timeline)
    (starts after : List ℕ) (told : Bool) → IsAt net list n place most line starts → told ≡ false
    → told ≡ improves list.network.project list.order place
    → new ≡ (if told then record list { order = swapped list.order place } else list)
    → IsPlaced new (if told then length new.order else place) next after
    → (new ≡ list) × (improves new.network.project new.order place ≡ false)
    × IsAt net new n place most next after
at_after net list new n place most line next starts after told at failed tells change booked =
    let same : new ≡ list =
    change
    ∙ ap (λ (b : Bool). if b then record list { order = swapped list.order place } else list) failed in
    let placed = subst (λ (b : Bool). IsPlaced new (if b then length new.order else place) next after)
    failed booked in (
      same,
      subst (λ (l : Listing). improves l.network.project l.order place ≡ false) (sym same)
          (sym tells ∙ failed),
      at_tried net list new n place most line next starts after at same placed,
    )
