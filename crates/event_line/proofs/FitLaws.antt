-- Where the nodes have room, and where an activity fits.
use Rattle.std.proofs.Common.{◌≡◌, ℕ, zero, suc, max, ◌+◌, ◌-◌, ◌<◌, ◌≤◌, List, length, get_or, nat_le, ap, subst, inl, inr, arith}
use Rattle.std.proofs.lemmas.Bool.{cases_lt, cases_eq}
use Rattle.rc_instance.specs.Project.{Project, IsResource, AreDemands, resource_count, demand, duration, capacity_at}
use Rattle.rc_instance.specs.Calendar.{IsWithinLimits}
use Rattle.rc_instance.specs.declared.limits.TheConstants.{MAX_CAPACITY}
use Rattle.rc_instance.specs.Usage.{Booking, Fits, usage, rest_time}
use Rattle.rc_instance.proofs.LimitLaws.{capacity_by-le}
use Rattle.rc_instance.proofs.UsageLaws.{usage-ended}
use Rattle.rc_instance.proofs.CapacityLaws.{capacity_at-last}
use Rattle.event_line.specs.declared.chain.TheConstants.{HEAD}
use Rattle.event_line.specs.Chain.{IsChain, StandsFor}
use Rattle.event_line.specs.Rows.{left_at, HasRoom, HasRoomIn, HasRoomFor, HasRoomFrom}
use Rattle.event_line.specs.Shown.{ShowsFree, PacksDemands}
use Rattle.event_line.specs.Timeline.{FitsAtRest}
use Rattle.event_line.proofs.SteadyLaws.{IsMarked, marked_usage, marked_capacity}

-- activity a exceeds no capacity in period p
pub record FitsIn (project : Project) (bookings : List Booking) (a p : ℕ) : Type 0 where
  pub within : (k : ℕ) → IsResource project k
      → usage project bookings k p + demand project a k ≤ capacity_at project k p

-- no capacity is above the limit
pub capacity_at-le : (project : Project) (k p : ℕ) → IsWithinLimits project → IsResource project k
    → capacity_at project k p ≤ MAX_CAPACITY
unfolding capacity_at
capacity_at-le project k p limits is =
    capacity_by-le project k (λ change. nat_le change.period p) limits is

-- what is packed for an activity that fits somewhere is what it demands: it fits a row
pub demands_from_fits : (project : Project) (bookings : List Booking) (demands : List ℕ) (a t : ℕ)
    → IsWithinLimits project → 0 < duration project a → Fits project bookings a t
    → PacksDemands project a demands → AreDemands project a demands
demands_from_fits project bookings demands a t limits runs fits packs = record {
  count = packs.count;
  each = λ j h.
      let resource : IsResource project (j + 1) = (omega arith, omega arith) in
      let fit = fits.within (j + 1) t resource (omega arith) (omega arith) in
      let most = capacity_at-le project (j + 1) t limits resource in
      packs.each j h (omega arith);
}

-- what is shown of a resource by the node that stands for a period is what is left in the period
pub left_in : (project : Project) (bookings : List Booking) (periods : List ℕ) (free : List (List ℕ))
    (i p j : ℕ)
    → IsMarked project bookings periods → ShowsFree project bookings periods free
    → StandsFor periods i p → j < resource_count project
    → left_at free i j + usage project bookings (j + 1) p
    ≡ capacity_at project (j + 1) p
left_in project bookings periods free i p j marked shows stands h =
    omega (
      arith,
      shows.left i j stands.inside h,
      marked_usage project bookings periods (j + 1) i p marked stands,
      marked_capacity project bookings periods (j + 1) i p marked stands,
    )

-- where a node has room, the activity fits in each period that it stands for
pub fits_from_room : (project : Project) (bookings : List Booking) (periods : List ℕ)
    (free : List (List ℕ)) (demands : List ℕ)
    (a i p : ℕ)
    → IsMarked project bookings periods → ShowsFree project bookings periods free
    → AreDemands project a demands → StandsFor periods i p → HasRoom free demands i
    → FitsIn project bookings a p
fits_from_room project bookings periods free demands a i p marked shows are stands room = record {
  within = λ k resource.
      let same : k - 1 + 1 ≡ k = omega arith in
      let j : k - 1 < resource_count project = omega arith in
      let fits = room.within (k - 1) (omega (arith, are.count)) in
      subst (λ n. usage project bookings n p + demand project a n ≤ capacity_at project n p) same
      (omega (
        arith,
        left_in project bookings periods free i p (k - 1) marked shows stands j,
        are.each (k - 1) j,
        fits,
      ));
}

-- and where it fits, the node that stands for the period has room
pub room_from_fits : (project : Project) (bookings : List Booking) (periods : List ℕ)
    (free : List (List ℕ)) (demands : List ℕ)
    (a p : ℕ)
    → IsMarked project bookings periods → ShowsFree project bookings periods free
    → AreDemands project a demands → FitsIn project bookings a p
    → HasRoomIn periods free demands p
room_from_fits project bookings periods free demands a p marked shows are fits = record {
  at = λ i stands. record {
    within = λ j h.
        let below : j < resource_count project = omega (arith, are.count) in
        let left = left_in project bookings periods free i p j marked shows stands below in
        let fit = fits.within (j + 1) (omega arith, omega arith) in
        omega (arith, are.each j below);
  };
}

-- a start that fits has room
pub room_for_fits : (project : Project) (bookings : List Booking) (periods : List ℕ)
    (free : List (List ℕ)) (demands : List ℕ)
    (a t : ℕ)
    → IsMarked project bookings periods → ShowsFree project bookings periods free
    → AreDemands project a demands → Fits project bookings a t
    → HasRoomFor periods free demands t (duration project a)
room_for_fits project bookings periods free demands a t marked shows are fits = record {
  each = λ p from before.
      room_from_fits project bookings periods free demands a p marked shows are
      (record { within = λ k resource. fits.within k p resource from before });
}

-- of the first n nodes there is a latest one up to a period, if there is one at all
stands_below : (periods : List ℕ) (p n : ℕ) → get_or periods HEAD 0 ≤ p
    → (i : ℕ) × (i < max 2 n) × (get_or periods i 0 ≤ p)
    × ((x : ℕ) → x < n → get_or periods x 0 ≤ p → get_or periods x 0 ≤ get_or periods i 0)
stands_below periods p zero head =
    (HEAD, omega arith, head, λ x h. Prim.absurd (omega arith))
stands_below periods p (suc n) head =
    let so_far = stands_below periods p n head in
    let i = so_far.0 in
    let inside = so_far.1 in
    elim (cases_lt p (get_or periods n 0)) [
      | inl after ↦ (
        i,
        omega arith,
        so_far.2,
        λ x h le. elim (cases_eq x n) [
          | inl e ↦ Prim.absurd (omega (arith, ap (λ k. get_or periods k 0) e))
          | inr ne ↦ so_far.3 x (omega arith) le
        ],
      )
      | inr before ↦ elim (cases_lt (get_or periods i 0) (get_or periods n 0)) [
        | inl rise ↦ (
          n,
          omega arith,
          before,
          λ x h le. elim (cases_eq x n) [
            | inl e ↦ omega (arith, ap (λ k. get_or periods k 0) e)
            | inr ne ↦ omega (arith, so_far.3 x (omega arith) le)
          ],
        )
        | inr fall ↦ (
          i,
          omega arith,
          so_far.2,
          λ x h le. elim (cases_eq x n) [
            | inl e ↦ omega (arith, ap (λ k. get_or periods k 0) e)
            | inr ne ↦ so_far.3 x (omega arith) le
          ],
        )
      ]
    ]

-- in a chain a node stands for each period
pub stands_some : (periods : List ℕ) (p : ℕ) → IsChain periods → (i : ℕ) × StandsFor periods i p
stands_some periods p chain =
    let found = stands_below periods p (length periods) (omega (arith, chain.head)) in
    let some = chain.some in
    let inside = found.1 in
    (found.0, record { inside = omega arith; from = found.2; latest = found.3 })

-- where each node of a span has room, the activity fits at its start
pub fits_from_span : (project : Project) (bookings : List Booking) (periods : List ℕ)
    (free : List (List ℕ)) (demands : List ℕ)
    (a start first last : ℕ)
    → IsMarked project bookings periods → ShowsFree project bookings periods free
    → AreDemands project a demands → IsChain periods
    → StandsFor periods first start → StandsFor periods last (start + duration project a - 1)
    → HasRoomFrom periods free demands first last → Fits project bookings a start
fits_from_span project bookings periods free demands a start first last marked shows are chain low
    high room = record {
      within = λ k p resource from before.
          let node = stands_some periods p chain in
          let i = node.0 in
          let stands = node.1 in
          let up = stands.from in
          let down = low.from in
          let here = room.each i stands.inside (stands.latest first low.inside (omega arith))
          (high.latest i stands.inside (omega arith)) in
          (fits_from_room project bookings periods free demands a i p marked shows are stands here).within
          k resource;
    }

-- once nothing changes any more and nothing runs, each start fits
pub fits_at_rest : (project : Project) (bookings : List Booking) (a t : ℕ) → FitsAtRest project a
    → rest_time project bookings ≤ t → Fits project bookings a t
fits_at_rest project bookings a t fits rest = record {
  within = λ k p resource from before.
      omega (
        arith,
        fits.within k resource (omega arith),
        usage-ended project bookings k p (omega arith),
        capacity_at-last project k p (omega arith),
      );
}

-- so is what is packed for one that fits at rest
pub demands_at_rest : (project : Project) (bookings : List Booking) (demands : List ℕ) (a : ℕ)
    → IsWithinLimits project → 0 < duration project a → FitsAtRest project a
    → PacksDemands project a demands → AreDemands project a demands
demands_at_rest project bookings demands a limits runs fits packs =
    demands_from_fits project bookings demands a (rest_time project bookings) limits runs
    (fits_at_rest project bookings a (rest_time project bookings) fits (omega arith)) packs
