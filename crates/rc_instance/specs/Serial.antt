-- The serial schedule generation scheme (Kolisch 1996), as a fold over the order.
use Rattle.std.specs.Prelude.{ℕ, List, [], ◌∷◌, ◌++◌, take, slice_index}
use Rattle.std.specs.List.{fold}
use Rattle.rc_instance.specs.Project.{Project}
use Rattle.rc_instance.specs.Usage.{Booking, least_start}

-- the bookings with one more: the activity at its least start beside them
abbrev pub with_next : Project → List Booking → ℕ → List Booking
with_next project bookings a = bookings ++ record { activity = a; start = least_start project bookings a } ∷ []

-- what the scheme books: each activity of the order in turn, at its least start
unfoldable pub serial_bookings : Project → List ℕ → List Booking
serial_bookings project order = fold (with_next project) [] order

-- the start that the scheme gives to the activity at place i of the order
abbrev pub serial_start : Project → List ℕ → ℕ → ℕ
serial_start project order i = least_start project (serial_bookings project (take i order)) (slice_index order i)
