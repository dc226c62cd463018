-- What the tools of a worker show while it schedules a sample.
use Rattle.std.specs.Prelude.{◌≡◌, ℕ, ◌<◌, List, length, take, slice_index}
use Rattle.rc_instance.specs.Project.{Project}
use Rattle.rc_instance.specs.Serial.{serial_bookings, serial_start}
use Rattle.priority_rules.specs.KeyList.{key_list, key_in}
use Rattle.priority_rules.specs.Picking.{HasPicked}
use Rattle.serial_plain.specs.Shown.{ShowsStarts}
use Rattle.key_sampling.specs.declared.tools.Tools.{Tools}
use Rattle.key_sampling.specs.declared.tools.Placed.{Placed}

-- the list of the keys
abbrev pub list_in : Tools → List ℕ
list_in tools = key_list tools.net.now.project (key_in tools.keys.items)

-- how many places of it are picked
abbrev pub places_in : Tools → ℕ
places_in tools = tools.picker.picked

-- the picked places of the list are booked: the line and the schedule show what the scheme books of them
pub record IsPlaced (tools : Tools) : Type 0 where
  pub picked : HasPicked tools.net.now.project tools.keys.items tools.picker
  pub booked : tools.line.bookings
      ≡ serial_bookings tools.net.now.project (take (places_in tools) (list_in tools))
  pub shown : ShowsStarts tools.line.bookings tools.schedule

-- the net and the keys are what they were
pub record HaveSameKeys (old new : Tools) : Type 0 where
  pub net : new.net.now ≡ old.net.now
  pub keys : new.keys.items ≡ old.keys.items

-- what was placed is the activity at a place of a list, at the start that the scheme gives it
pub record IsNextPlaced (project : Project) (list : List ℕ) (place : ℕ) (placed : Placed) : Type 0 where
  pub within : place < length list
  pub activity : placed.activity ≡ slice_index list place
  pub start : placed.start ≡ serial_start project list place
