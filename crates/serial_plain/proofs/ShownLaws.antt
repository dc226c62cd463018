-- Bookings of the serial scheme that a schedule shows, and what it says of ready times.
use Rattle.std.proofs.Common.{◌≡◌, ◌≢◌, ℕ, Bool, ◌-◌, ◌<◌, ◌≤◌, List, [], ◌∷◌, ◌++◌, length, get_or, take, set, map, sym, ap, ◌∙◌, subst, arith, slice_index}
use Rattle.std.specs.List.{All, Contains, filter}
use Rattle.std.proofs.lemmas.List.{get_or-map, length-map, get_or-take, length-take-le}
use Rattle.std.proofs.lemmas.List.Elements.{All-push, All-map, All-filter, All-from_get_or, filter_passes}
use Rattle.rc_instance.specs.Project.{Project, IsActivity, Precedes, precedes}
use Rattle.rc_instance.specs.Usage.{Booking, ready_time}
use Rattle.rc_instance.specs.Serial.{serial_bookings}
use Rattle.rc_instance.specs.Order.{IsFeasibleList}
use Rattle.rc_instance.specs.Schedule.{start_at}
use Rattle.rc_instance.proofs.ListLaws.{greatest-le, Contains-le-greatest}
use Rattle.rc_instance.proofs.UsageLaws.{finish-le-ready_time, last_finish-le}
use Rattle.rc_instance.proofs.ScheduleLaws.{start_at-set_same, start_at-set_other}
use Rattle.rc_instance.proofs.SerialLaws.{length-serial, get_or-serial}
use Rattle.activity_net.specs.Network.{predecessors_of}
use Rattle.activity_net.proofs.NameLaws.{contains_named, named_at}
use Rattle.activity_net.proofs.RemovalLaws.{named_predecessor, predecessor_named}
use Rattle.serial_plain.specs.Shown.{ShowsStarts, finish_at, last_finish_of}

-- the activities of bookings
abbrev pub activities_of : List Booking → List ℕ
activities_of bookings = map (λ (b : Booking). b.activity) bookings

-- where the direct predecessors of an activity are booked, each has ended by its ready time
pub finish_at-le-ready_time : (project : Project) (bookings : List Booking) (starts : List ℕ) (a : ℕ)
    → ((p : ℕ) → IsActivity project p → Precedes project p a
    → Contains (activities_of bookings) p)
    → ShowsStarts bookings starts
    → All (λ p. finish_at project starts p ≤ ready_time project bookings a)
    (predecessors_of project a)
finish_at-le-ready_time project bookings starts a booked shown =
    let before = predecessors_of project a in
    All-from_get_or (λ p. finish_at project starts p ≤ ready_time project bookings a) before 0
    (λ i within.
    let d : Booking = record { activity = 0; start = 0 } in
    let p = get_or before i 0 in
    let is = predecessor_named project p a (named_at before i within) in
    let at = booked p is.0 is.1 in
    let inside : at.0 < length bookings =
    omega (arith, length-map bookings (λ (b : Booking). b.activity), at.1) in
    let same : (get_or bookings at.0 d).activity ≡ p =
    sym (get_or-map (λ (b : Booking). b.activity) bookings at.0 d p inside) ∙ at.2 in
    let ended = finish-le-ready_time project bookings a at.0 d inside
    (subst (λ q. Precedes project q a) (sym same) is.1) in
    let start = shown at.0 d inside in
    subst (λ q. finish_at project starts q ≤ ready_time project bookings a) same (omega arith))

-- and its ready time is the greatest of these finishes
pub ready_time-shown : (project : Project) (bookings : List Booking) (starts : List ℕ) (a : ℕ)
    → All (λ b. IsActivity project b.activity) bookings
    → ((p : ℕ) → IsActivity project p → Precedes project p a
    → Contains (activities_of bookings) p)
    → ShowsStarts bookings starts
    → last_finish_of project starts (predecessors_of project a) ≡ ready_time project bookings a
ready_time-shown project bookings starts a activities booked shown =
    let before = predecessors_of project a in
    let test : Booking → Bool = λ b. precedes project b.activity a in
    let ready = ready_time project bookings a in
    let latest = last_finish_of project starts before in
    let down : latest ≤ ready =
    greatest-le (map (finish_at project starts) before) ready
    (All-map (λ x. x ≤ ready) (finish_at project starts) before
    (finish_at-le-ready_time project bookings starts a booked shown)) in
    let passes = filter_passes test bookings in
    let are = All-filter test (λ b. IsActivity project b.activity) bookings activities in
    let starts_are = All-filter test (λ b. start_at starts b.activity ≡ b.start) bookings shown in
    let up : ready ≤ latest =
    last_finish-le project (filter test bookings) latest
    (λ i d within.
    let p = (get_or (filter test bookings) i d).activity in
    let named = contains_named before p
    (named_predecessor project p a (are i d within) ∙ passes i d within) in
    let mapped : Contains (map (finish_at project starts) before) (finish_at project starts p) = (
      named.0,
      omega (arith, length-map before (finish_at project starts), named.1),
      get_or-map (finish_at project starts) before named.0 p (finish_at project starts p) named.1
          ∙ ap (finish_at project starts) named.2,
    ) in
    omega (
      arith,
      starts_are i d within,
      Contains-le-greatest (map (finish_at project starts) before) (finish_at project starts p)
          mapped,
    )) in
    omega arith

-- one more booking is shown once its start is written
pub ShowsStarts-push : (bookings : List Booking) (starts : List ℕ) (a t : ℕ)
    → All (λ b. (1 ≤ b.activity) × (b.activity ≢ a)) bookings
    → 1 ≤ a → a ≤ length starts → ShowsStarts bookings starts
    → ShowsStarts (bookings ++ record { activity = a; start = t } ∷ []) (set starts (a - 1) t)
ShowsStarts-push bookings starts a t others from upto shown =
    All-push (λ b. start_at (set starts (a - 1) t) b.activity ≡ b.start) bookings
    (record { activity = a; start = t })
    (λ i d within.
    let other = others i d within in
    start_at-set_other starts a (get_or bookings i d).activity t from other.0 (λ e. other.1 (sym e))
    ∙ shown i d within)
    (start_at-set_same starts a t from upto)

-- what is booked of the first c places of an order is the activities there
pub booked_activity : (project : Project) (order : List ℕ) (c i : ℕ) (d : Booking)
    → c ≤ length order → i < c
    → (get_or (serial_bookings project (take c order)) i d).activity ≡ slice_index order i
booked_activity project order c i d within below =
    let long = length-take-le c order within in
    ap (λ (b : Booking). b.activity) (get_or-serial project (take c order) i d (omega arith))
    ∙ get_or-take c order i 0 below

-- it is of activities, and not of the one at the next place
pub booked_others : (project : Project) (order : List ℕ) (c : ℕ) → IsFeasibleList project order
    → c < length order
    → All (λ b. IsActivity project b.activity × (b.activity ≢ slice_index order c))
    (serial_bookings project (take c order))
booked_others project order c list within = λ i d inside.
    let long = length-serial project (take c order) ∙ length-take-le c order (omega arith) in
    let below : i < c = omega arith in
    let same = booked_activity project order c i d (omega arith) below in
    rw same (
      list.activities i 0 (omega arith),
      λ e. list.once i c 0 below within e,
    )
