-- The journal of a line: what each booking did to the nodes.
use Rattle.std.specs.Prelude.{◌≡◌, ℕ, ◌+◌, ◌<◌, ◌≤◌, List, [], ◌∷◌, length, map, slice_index}
use Rattle.rc_instance.specs.Project.{Project, IsActivity, duration}
use Rattle.rc_instance.specs.Usage.{Booking}
use Rattle.event_line.specs.declared.entry.Entry.{Entry}

-- the booking that an entry tells
abbrev pub booking_of : Entry → Booking
booking_of entry = record { activity = entry.activity; start = entry.start }

-- the bookings that a journal tells
abbrev pub bookings_in : List Entry → List Booking
bookings_in entries = map booking_of entries

-- among the first nodes, as many as there were with the booking, stand its first one and its end: at
-- its start and its finish, or at one node where it takes no time
pub record IsEntry (project : Project) (periods : List ℕ) (entry : Entry) : Type 0 where
  pub activity : IsActivity project entry.activity
  pub first : entry.first < entry.nodes
  pub end : entry.end < entry.nodes
  pub start : 0 < duration project entry.activity → slice_index periods entry.first ≡ entry.start
  pub finish : 0 < duration project entry.activity
      → slice_index periods entry.end ≡ entry.start + duration project entry.activity
  pub idle : duration project entry.activity ≡ 0 → entry.first ≡ entry.end

-- the entry of an activity that takes so many periods from a start on, made with all nodes there
pub record IsMade (periods : List ℕ) (activity start duration : ℕ) (entry : Entry) : Type 0 where
  pub activity_is : entry.activity ≡ activity
  pub start_is : entry.start ≡ start
  pub nodes : entry.nodes ≡ length periods
  pub first : entry.first < length periods
  pub end : entry.end < length periods
  pub begins : slice_index periods entry.first ≡ start
  pub ends : slice_index periods entry.end ≡ start + duration

-- how many nodes there are with the last entry, or before the first one
abbrev pub nodes_with : ℕ → List Entry → ℕ
nodes_with before [] = before
nodes_with before (entry ∷ entries) = nodes_with entry.nodes entries

-- each entry made at most two nodes, and none was taken away since
abbrev pub IsJournal : Project → List ℕ → ℕ → List Entry → Type 0
IsJournal project periods before [] = Unit {0}
IsJournal project periods before (entry ∷ entries) =
    (before ≤ entry.nodes) × (entry.nodes ≤ before + 2) × IsEntry project periods entry
    × IsJournal project periods entry.nodes entries
