-- Between the nodes nothing changes: what a node shows holds in each period that it stands for.
use Rattle.std.proofs.Common.{◌≡◌, ℕ, ◌<◌, ◌≤◌, ◌&&◌, List, [], ◌∷◌, length, get_or, nat_eq, nat_le, if◌then◌else◌, refl, inl, inr, arith}
use Rattle.std.specs.List.{All, fold}
use Rattle.std.proofs.lemmas.Bool.{cases_lt}
use Rattle.std.proofs.lemmas.Bool.Decides.{nat_tests}
use Rattle.std.proofs.lemmas.List.Elements.{All-head, All-tail, All-weaker}
use Rattle.std.proofs.lemmas.List.Sums.{sum_by-cons}
use Rattle.rc_instance.specs.declared.change.Change.{Change}
use Rattle.rc_instance.specs.Project.{Project, capacity, capacity_at, duration}
use Rattle.rc_instance.specs.Usage.{Booking, finish, use_of, usage}
use Rattle.event_line.specs.Chain.{StandsFor}
use Rattle.event_line.specs.Shown.{HasNode, HasChanges}

-- nothing is at a period after the first one and up to the second one
abbrev pub IsNotBetween : ℕ → ℕ → ℕ → Type 0
IsNotBetween low p at = at ≤ p → at ≤ low

-- a booking that neither starts nor ends in between uses the same in both periods
use_steady : (project : Project) (k low p : ℕ) (booking : Booking) → low ≤ p
    → (0 < duration project booking.activity
    → IsNotBetween low p booking.start × IsNotBetween low p (finish project booking))
    → use_of project k p booking ≡ use_of project k low booking
use_steady project k low p booking le steady =
    elim (cases_lt 0 (duration project booking.activity)) [
      | inl runs ↦
          let start = (steady runs).0 in
          let end = (steady runs).1 in
          grind (arith, nat_tests)
      | inr idle ↦ grind (arith, nat_tests)
    ]

-- so do all bookings
pub usage_steady : (project : Project) (bookings : List Booking) (k low p : ℕ) → low ≤ p
    → All (λ (b : Booking). 0 < duration project b.activity
    → IsNotBetween low p b.start × IsNotBetween low p (finish project b)) bookings
    → usage project bookings k p ≡ usage project bookings k low
usage_steady project [] k low p le all = refl
usage_steady project (booking ∷ bookings) k low p le all =
    let P : Booking → Type 0 = λ (b : Booking). 0 < duration project b.activity
    → IsNotBetween low p b.start × IsNotBetween low p (finish project b) in
    omega (
      arith,
      sum_by-cons (use_of project k p) booking bookings,
      sum_by-cons (use_of project k low) booking bookings,
      use_steady project k low p booking le (All-head P booking bookings all),
      usage_steady project bookings k low p le (All-tail P booking bookings all),
    )

-- a capacity that does not change in between is the same in both periods
fold_steady : (k low p : ℕ) (changes : List Change) (now : ℕ) → low ≤ p
    → All (λ (c : Change). IsNotBetween low p c.period) changes
    → fold (λ now change. if nat_eq change.resource k && nat_le change.period p then change.capacity
    else now) now changes
    ≡ fold (λ now change. if nat_eq change.resource k && nat_le change.period low then change.capacity
    else now) now changes
fold_steady k low p [] now le all = refl
fold_steady k low p (change ∷ changes) now le all =
    let P : Change → Type 0 = λ (c : Change). IsNotBetween low p c.period in
    let here : IsNotBetween low p change.period = All-head P change changes all in
    let same : nat_le change.period p ≡ nat_le change.period low = elim (cases_lt p change.period) [
      | inl after ↦ grind (arith, nat_tests)
      | inr before ↦
          let low' = here before in
          grind (arith, nat_tests)
    ] in
    rw same (fold_steady k low p changes _ le (All-tail P change changes all))

pub capacity_steady : (project : Project) (k low p : ℕ) → low ≤ p
    → All (λ (c : Change). IsNotBetween low p c.period) project.changes
    → capacity_at project k p ≡ capacity_at project k low
unfolding capacity_at
capacity_steady project k low p le all =
    fold_steady k low p project.changes (capacity project k) le all

-- no node stands between a period and the node that stands for it
pub node_steady : (periods : List ℕ) (i p at : ℕ) → StandsFor periods i p
    → HasNode periods (length periods) at → IsNotBetween (get_or periods i 0) p at
node_steady periods i p at stands node = λ le.
    omega (arith, node.2, stands.latest node.0 node.1 (omega (arith, node.2)))

-- the nodes stand at all changes, and at the starts and the finishes of all bookings that take time
pub record IsMarked (project : Project) (marked : List Booking) (periods : List ℕ) : Type 0 where
  pub changes : HasChanges project periods (length periods)
  pub bookings : All (λ (b : Booking). 0 < duration project b.activity
      → HasNode periods (length periods) b.start × HasNode periods (length periods) (finish project b))
      marked

-- then usage and capacity in a period are those at the node that stands for it
pub marked_usage : (project : Project) (marked : List Booking) (periods : List ℕ) (k i p : ℕ)
    → IsMarked project marked periods → StandsFor periods i p
    → usage project marked k p ≡ usage project marked k (get_or periods i 0)
marked_usage project marked periods k i p is stands =
    usage_steady project marked k (get_or periods i 0) p stands.from
    (All-weaker (λ (b : Booking). 0 < duration project b.activity
    → HasNode periods (length periods) b.start × HasNode periods (length periods) (finish project b))
    (λ (b : Booking). 0 < duration project b.activity
    → IsNotBetween (get_or periods i 0) p b.start
    × IsNotBetween (get_or periods i 0) p (finish project b))
    (λ b h runs. (
      node_steady periods i p b.start stands (h runs).0,
      node_steady periods i p (finish project b) stands (h runs).1,
    ))
    marked is.bookings)

pub marked_capacity : (project : Project) (marked : List Booking) (periods : List ℕ) (k i p : ℕ)
    → IsMarked project marked periods → StandsFor periods i p
    → capacity_at project k p ≡ capacity_at project k (get_or periods i 0)
marked_capacity project marked periods k i p is stands =
    capacity_steady project k (get_or periods i 0) p stands.from
    (All-weaker (λ (c : Change). HasNode periods (length periods) c.period)
    (λ (c : Change). IsNotBetween (get_or periods i 0) p c.period)
    (λ c h. node_steady periods i p c.period stands h) project.changes is.changes)
