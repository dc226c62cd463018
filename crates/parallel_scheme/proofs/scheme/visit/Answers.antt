use Rattle.std.proofs.Common.{◌≡◌, ◌≤◌, ◌-◌, ◌++◌, ◌∷◌, [], ℕ, max, length, take, sym, subst, refl, ap, ◌∙◌, arith, rules}
use Rattle.rc_instance.specs.Project.{Project}
use Rattle.rc_instance.specs.Usage.{Booking, IsLeastFrom, rest_time}
use Rattle.event_line.specs.Timeline.{Timeline}
use Rattle.parallel_scheme.specs.Passing.{IsVisited}
use Rattle.parallel_scheme.proofs.ReachLaws.{reached_within}
use Rattle.parallel_scheme.proofs.ToldLaws.{IsFloor, can_start_now, floor_is, horizon-le, predecessors_end, take_undone, told_fits_later, told_now, unbooked, visited_floor, visited_later, visited_none, visited_now}
use Rattle.parallel_scheme.proofs.scheme.visit.Goals as goal
use Rattle.parallel_scheme.proofs.scheme.visit.Goals.{In-Some, After-place-start, After-undo}

pub floor_of-requires-clause-ended : goal.floor_of-requires-clause-ended
floor_of-requires-clause-ended c =
    predecessors_end c.args.net.now.project c.args.time c.args.activity c.args.line.now.bookings
    c.args.progress.now c.requires.limits c.requires.reached c.requires.told

pub returns-in_default-clause-visited : goal.returns-in_default-clause-visited
returns-in_default-clause-visited c =
    visited_none c.args.net.now.project c.args.time c.args.activity c.args.line.now.bookings
    c.args.progress.now c.requires.time c.requires.told (sym c.floor_of.ensures ∙ c.in_default.is)

-- what the floor tells
floored : (c : In-Some) → IsFloor c.args.net.now.project c.args.activity c.args.line.now.bookings
    c.args.progress.now c.in-Some.floor
floored c =
    floor_is c.args.net.now.project c.args.time c.args.activity c.in-Some.floor
    c.args.line.now.bookings c.args.progress.now c.requires.reached c.requires.told
    c.requires.activity (sym c.floor_of.ensures ∙ c.in-Some.is)

pub returns-then-time-floor-clause-visited : goal.returns-then-time-floor-clause-visited
returns-then-time-floor-clause-visited c =
    visited_floor c.args.net.now.project c.args.time c.args.activity c.in-Some.floor
    c.args.line.now.bookings c.args.progress.now c.requires.reached c.requires.told
    (floored (goal.at.returns-then-time-floor-clause-visited c).In-Some) c.if-time-floor.true

pub place-start-requires : goal.place-start-requires
place-start-requires c = record {
  activity = search rules;
  unbooked = unbooked c.args.line.now.bookings c.args.activity
      (floored (goal.at.place-start-requires c).In-Some).eligible.unlisted;
  fits = search rules;
  from = omega (arith, c.requires.time, horizon-le c.args.net.now.project c.requires.limits);
  ended = rw c.requires.project (omega (
    arith,
    reached_within c.args.net.now.project c.args.line.now.bookings c.args.time c.requires.reached,
    horizon-le c.args.net.now.project c.requires.limits,
  ));
}

-- the start that the line gives, of the project of the net
placed : (c : After-place-start) → IsLeastFrom c.args.net.now.project c.args.line.now.bookings
    c.args.activity c.args.time c.place-start.result
placed c =
    subst (λ (p : Project). IsLeastFrom p c.args.line.now.bookings c.args.activity c.args.time
    c.place-start.result) c.requires.project c.place-start.ensures.least

placed_within : (c : After-place-start) → c.place-start.result
    ≤ max c.args.time (rest_time c.args.net.now.project c.args.line.now.bookings)
placed_within c =
    subst (λ (p : Project). c.place-start.result
    ≤ max c.args.time (rest_time p c.args.line.now.bookings)) c.requires.project
    c.place-start.ensures.within

-- once it is taken back the bookings are as before
undone : (c : After-undo) → c.undo.new.self.bookings ≡ c.args.line.now.bookings
undone c =
    let next : Booking = record { activity = c.args.activity; start = c.place-start.result } in
    ap (λ (t : Timeline). t.bookings) c.undo.ensures
    ∙ (ap (λ (t : Timeline). take (length t.bookings - 1) t.bookings) c.place-start.ensures.booked
    ∙ take_undone c.args.line.now.bookings next)

pub returns-then-time-start-clause-visited : goal.returns-then-time-start-clause-visited
returns-then-time-start-clause-visited c =
    let at = (goal.at.returns-then-time-start-clause-visited c).After-place-start in
    subst (λ bs. IsVisited c.args.net.now.project c.args.time c.args.activity
    c.args.line.now.bookings bs c.place-start.result)
    (sym (undone (goal.at.returns-then-time-start-clause-visited c).After-undo))
    (visited_later c.args.net.now.project c.args.time c.args.activity c.place-start.result
    c.args.line.now.bookings c.requires.time c.requires.reached (placed at) (placed_within at)
    c.if-time-start.true)

pub returns-then-time-start-clause-told : goal.returns-then-time-start-clause-told
returns-then-time-start-clause-told c =
    let at = (goal.at.returns-then-time-start-clause-told c).After-place-start in
    rw (undone (goal.at.returns-then-time-start-clause-told c).After-undo)
    (told_fits_later c.args.net.now.project c.args.time c.args.activity c.place-start.result
    c.args.line.now.bookings c.args.progress.now _ c.requires.time c.requires.reached
    c.requires.told c.requires.activity (placed at) (placed_within at) refl refl refl refl)

-- the booking that is made
booked_now : (c : After-place-start) → c.place-start.result ≡ c.args.time
    → c.place-start.new.self.bookings
    ≡ c.args.line.now.bookings ++ record { activity = c.args.activity; start = c.args.time } ∷ []
booked_now c same =
    ap (λ (t : Timeline). t.bookings) c.place-start.ensures.booked
    ∙ ap (λ (u : ℕ). let b : Booking = record { activity = c.args.activity; start = u } in
    c.args.line.now.bookings ++ b ∷ []) same

pub returns-clause-visited : goal.returns-clause-visited
returns-clause-visited c =
    let at = (goal.at.returns-clause-visited c).After-place-start in
    let now = can_start_now c.args.net.now.project c.args.time c.args.activity c.in-Some.floor
    c.place-start.result c.args.line.now.bookings c.args.progress.now
    (floored (goal.at.returns-clause-visited c).In-Some) c.if-time-floor.false (placed at)
    c.if-time-start.false in
    rw (booked_now at now.0)
    (visited_now c.args.net.now.project c.args.time c.args.activity c.args.line.now.bookings
    c.args.progress.now c.requires.time c.requires.told now.1)

pub returns-clause-told : goal.returns-clause-told
returns-clause-told c =
    let at = (goal.at.returns-clause-told c).After-place-start in
    let now = can_start_now c.args.net.now.project c.args.time c.args.activity c.in-Some.floor
    c.place-start.result c.args.line.now.bookings c.args.progress.now
    (floored (goal.at.returns-clause-told c).In-Some) c.if-time-floor.false (placed at)
    c.if-time-start.false in
    rw (booked_now at now.0)
    (told_now c.args.net.now.project c.args.time c.args.activity c.args.line.now.bookings
    c.args.progress.now _ c.requires.reached c.requires.told now.1 refl refl c.set.ensures refl)
