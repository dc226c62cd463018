-- How usage, finishes and least starts change with the bookings.
use Rattle.std.proofs.Common.{◌≡◌, ℕ, ◌+◌, ◌≤◌, max, Bool, true, false, List, [], ◌∷◌, ◌++◌, map, if◌then◌else◌, refl, ◌∙◌, arith}
use Rattle.std.specs.List.{All, filter}
use Rattle.std.proofs.lemmas.Bool.{cond_both, cond-true}
use Rattle.std.proofs.lemmas.Bool.Decides.{nat_tests}
use Rattle.std.proofs.lemmas.List.{map-append}
use Rattle.std.proofs.lemmas.List.Elements.{All-cons, All-weaker, All-nil, All-map, filter-append}
use Rattle.std.proofs.lemmas.List.Sums.{sum_by_push, sum_by-append, sum_by-cons}
use Rattle.rc_instance.specs.Project.{Project, IsActivity, precedes, Precedes}
use Rattle.rc_instance.specs.Misfit.{HasNoMisfit}
use Rattle.rc_instance.specs.Usage.{Booking, Fits, IsLeastFrom, IsLastBy, finish, use_of, usage, last_finish, ready_time, rest_time}
use Rattle.rc_instance.proofs.ListLaws.{greatest-append, greatest-le}
use Rattle.rc_instance.proofs.CapacityLaws.{capacity_at-last}

-- usage with one more booking
pub usage_push : (project : Project) (bookings : List Booking) (booking : Booking) (k p : ℕ)
    → usage project (bookings ++ booking ∷ []) k p
    ≡ usage project bookings k p + use_of project k p booking
usage_push project bookings booking k p = sum_by_push (use_of project k p) bookings booking

-- usage is never less beside more bookings
pub usage-le-append : (project : Project) (bookings more : List Booking) (k p : ℕ)
    → usage project bookings k p ≤ usage project (bookings ++ more) k p
usage-le-append project bookings more k p =
    omega (arith, sum_by-append (use_of project k p) bookings more)

-- from its finish on a booking uses nothing
pub use_of-ended : (project : Project) (k p : ℕ) (booking : Booking) → finish project booking ≤ p
    → use_of project k p booking ≡ 0
use_of-ended project k p booking h = grind (arith, nat_tests)

-- nothing is used from the last finish on
pub usage-ended : (project : Project) (bookings : List Booking) (k p : ℕ)
    → last_finish project bookings ≤ p
    → usage project bookings k p ≡ 0
usage-ended project [] k p h = refl
usage-ended project (booking ∷ bookings) k p h =
    omega (
      arith,
      sum_by-cons (use_of project k p) booking bookings,
      use_of-ended project k p booking (omega arith),
      usage-ended project bookings k p (omega arith),
    )

-- the last finish of two lists of bookings
pub last_finish-append : (project : Project) (xs ys : List Booking)
    → last_finish project (xs ++ ys) ≡ max (last_finish project xs) (last_finish project ys)
last_finish-append project xs ys =
    rw map-append (greatest-append (map (finish project) xs) (map (finish project) ys))

-- the last finish with one more booking
pub last_finish_push : (project : Project) (bookings : List Booking) (booking : Booking)
    → last_finish project (bookings ++ booking ∷ [])
    ≡ max (last_finish project bookings) (finish project booking)
last_finish_push project bookings booking =
    omega (arith, last_finish-append project bookings (booking ∷ []))

-- each booking finishes by the last finish
pub finish-le-last_finish : (project : Project) (bookings : List Booking)
    → All (λ booking. finish project booking ≤ last_finish project bookings) bookings
finish-le-last_finish project [] = All-nil _
finish-le-last_finish project (booking ∷ bookings) =
    All-cons (λ b. finish project b ≤ last_finish project (booking ∷ bookings)) booking bookings
    (omega arith)
    (All-weaker (λ b. finish project b ≤ last_finish project bookings)
    (λ b. finish project b ≤ last_finish project (booking ∷ bookings))
    (λ b h. omega arith) bookings (finish-le-last_finish project bookings))

-- the last finish is at most what each finish is at most
pub last_finish-le : (project : Project) (bookings : List Booking) (m : ℕ)
    → All (λ b. finish project b ≤ m) bookings
    → last_finish project bookings ≤ m
last_finish-le project bookings m all =
    greatest-le (map (finish project) bookings) m
    (All-map (λ x. x ≤ m) (finish project) bookings all)

-- an activity that fits beside more bookings fits beside fewer
pub Fits-fewer : (project : Project) (bookings more : List Booking) (a t : ℕ)
    → Fits project (bookings ++ more) a t
    → Fits project bookings a t
Fits-fewer project bookings more a t fits = record {
  within = λ k p resource from below.
      omega (arith, fits.within k p resource from below, usage-le-append project bookings more k p);
}

-- without a misfit an activity fits once nothing changes any more and nothing runs
pub Fits-at_rest : (project : Project) (bookings : List Booking) (a t : ℕ) → HasNoMisfit project
    → IsActivity project a → rest_time project bookings ≤ t → Fits project bookings a t
Fits-at_rest project bookings a t none activity rest = record {
  within = λ k p resource from below.
      omega (
        arith,
        none.fits a k activity resource (omega arith),
        usage-ended project bookings k p (omega arith),
        capacity_at-last project k p (omega arith),
      );
}

-- the ready time beside two lists of bookings
pub ready_time-append : (project : Project) (xs ys : List Booking) (a : ℕ)
    → ready_time project (xs ++ ys) a ≡ max (ready_time project xs a) (ready_time project ys a)
ready_time-append project xs ys a =
    let p : Booking → Bool = λ booking. precedes project booking.activity a in
    rw (filter-append p xs ys) (last_finish-append project (filter p xs) (filter p ys))

-- the ready time beside one booking: its finish, where its activity precedes directly
pub ready_time-one : (project : Project) (booking : Booking) (a : ℕ)
    → ready_time project (booking ∷ []) a
    ≡ (if precedes project booking.activity a then finish project booking else 0)
ready_time-one project booking a =
    elim (precedes project booking.activity a)
    as (λ v. last_finish project (if v then booking ∷ [] else [])
    ≡ (if v then finish project booking else 0)) [
      | true ↦ omega arith
      | false ↦ refl
    ]

-- the ready time with one more booking
pub ready_time_push : (project : Project) (bookings : List Booking) (booking : Booking) (a : ℕ)
    → ready_time project (bookings ++ booking ∷ []) a
    ≡ max (ready_time project bookings a)
    (if precedes project booking.activity a then finish project booking else 0)
ready_time_push project bookings booking a =
    omega (
      arith,
      ready_time-append project bookings (booking ∷ []) a,
      ready_time-one project booking a,
    )

-- the ready time is never earlier beside more bookings
pub ready_time-le-append : (project : Project) (bookings more : List Booking) (a : ℕ)
    → ready_time project bookings a ≤ ready_time project (bookings ++ more) a
ready_time-le-append project bookings more a =
    omega (arith, ready_time-append project bookings more a)

-- the ready time is at most the last finish
pub ready_time-le-last_finish : (project : Project) (bookings : List Booking) (a : ℕ)
    → ready_time project bookings a ≤ last_finish project bookings
ready_time-le-last_finish project [] a = omega arith
ready_time-le-last_finish project (booking ∷ bookings) a =
    let h = ready_time-le-last_finish project bookings a in
    let e = ready_time-append project (booking ∷ []) bookings a in
    let one = cond_both (precedes project booking.activity a) (finish project booking) 0
    (λ x. x ≤ finish project booking) (λ _. omega arith) (λ _. omega arith) in
    omega (arith, ready_time-one project booking a)

-- each booked direct predecessor has ended by the ready time
pub finish-le-ready_time : (project : Project) (bookings : List Booking) (a : ℕ)
    → All (λ b. Precedes project b.activity a → finish project b ≤ ready_time project bookings a)
    bookings
finish-le-ready_time project [] a = All-nil _
finish-le-ready_time project (booking ∷ bookings) a =
    let P : Booking → Type 0 =
    λ b. Precedes project b.activity a
    → finish project b ≤ ready_time project (booking ∷ bookings) a in
    let e = ready_time-append project (booking ∷ []) bookings a in
    All-cons P booking bookings
    (λ before. omega (
      arith,
      ready_time-one project booking a
          ∙ cond-true _ (finish project booking) 0 before,
    ))
    (All-weaker (λ b. Precedes project b.activity a
    → finish project b ≤ ready_time project bookings a) P
    (λ b h before. omega (arith, h before)) bookings (finish-le-ready_time project bookings a))

-- there is one least start from a floor on
pub IsLeastFrom-unique : (project : Project) (bookings : List Booking) (a floor t u : ℕ)
    → IsLeastFrom project bookings a floor t → IsLeastFrom project bookings a floor u → t ≡ u
IsLeastFrom-unique project bookings a floor t u one other =
    omega (arith, one.least u other.after other.fits, other.least t one.after one.fits)

-- the least start is never earlier beside more bookings and from a later floor on
pub IsLeastFrom-later : (project : Project) (bookings more : List Booking) (a floor later t u : ℕ)
    → floor ≤ later
    → IsLeastFrom project bookings a floor t → IsLeastFrom project (bookings ++ more) a later u
    → t ≤ u
IsLeastFrom-later project bookings more a floor later t u le one other =
    one.least u (omega arith) (Fits-fewer project bookings more a u other.fits)

-- there is one latest start by an end
pub IsLastBy-unique : (project : Project) (bookings : List Booking) (a end t u : ℕ)
    → IsLastBy project bookings a end t → IsLastBy project bookings a end u → t ≡ u
IsLastBy-unique project bookings a end t u one other =
    omega (arith, one.last u other.ends other.fits, other.last t one.ends one.fits)
