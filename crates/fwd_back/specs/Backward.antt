-- The backward pass of forward-backward improvement (after Li and Willis 1992): the activities
-- move, those that end last first, each to its latest start before its direct successors.
use Rattle.std.specs.Prelude.{ℕ, zero, suc, min, ◌+◌, ◌&&◌, Bool, not, List, [], ◌∷◌, ◌++◌, map, nat_le}
use Rattle.std.specs.List.{filter, fold, list_all}
use Rattle.rc_instance.specs.Lists.{names, numbers, last_below}
use Rattle.rc_instance.specs.Project.{Project, activity_count, successors_of}
use Rattle.rc_instance.specs.Usage.{Booking, last_by}
use Rattle.rc_instance.specs.Schedule.{makespan, start_of}
use Rattle.serial_plain.specs.Shown.{finish_at}

-- the activities of bookings
abbrev pub activities_of : List Booking → List ℕ
activities_of bookings = map (λ (booking : Booking). booking.activity) bookings

-- whether an activity may move next: it has not moved, and all its direct successors have
unfoldable pub may_move : Project → List ℕ → ℕ → Bool
may_move project moved a = not (names moved a) && list_all (names moved) (successors_of project a)

-- the activities that may move next, in rising order
unfoldable pub movable : Project → List ℕ → List ℕ
movable project moved = filter (may_move project moved) (numbers (activity_count project))

-- whether an activity ends no earlier in a schedule than each of some activities
abbrev pub ends_last : Project → List ℕ → List ℕ → ℕ → Bool
ends_last project starts others a =
    list_all (λ b. nat_le (finish_at project starts b) (finish_at project starts a)) others

-- of the activities that may move next, the one that ends last, and of equal ones that of greatest
-- number
unfoldable pub next_moved : Project → List ℕ → List ℕ → ℕ
next_moved project starts moved =
    let all = movable project moved in
    last_below (λ a. names all a && ends_last project starts all a) (activity_count project + 1)

-- the period by which an activity has to end: the least of an end and the starts of its direct
-- successors
abbrev pub due : Project → ℕ → List Booking → ℕ → ℕ
due project end bookings a =
    fold (λ by b. min by (start_of bookings b)) end (successors_of project a)

-- the bookings with one more: the next activity, at its latest start by the period by which it has
-- to end
abbrev pub with_moved : Project → List ℕ → List Booking → List Booking
with_moved project starts moved =
    let a = next_moved project starts (activities_of moved) in
    let by = due project (makespan project starts) moved a in
    moved ++ record { activity = a; start = last_by project moved a by } ∷ []

-- what the first so many steps of the backward pass book
unfoldable pub back_bookings : Project → List ℕ → ℕ → List Booking
back_bookings project starts zero = []
back_bookings project starts (suc steps) =
    with_moved project starts (back_bookings project starts steps)

-- the start that the backward pass gives to each activity
unfoldable pub backward : Project → List ℕ → List ℕ
backward project starts =
    map (start_of (back_bookings project starts (activity_count project)))
    (numbers (activity_count project))
