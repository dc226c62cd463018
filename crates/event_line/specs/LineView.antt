-- How the fields of a `Line` are seen as a timeline, and what they keep.
use Rattle.std.specs.Prelude.{◌≡◌, ◌≢◌, ℕ, ◌+◌, ◌*◌, ◌≤◌, List, [], length, AllPairs, vec_capacity}
use Rattle.rc_instance.specs.Project.{Project, activity_count, resource_count}
use Rattle.rc_instance.specs.Calendar.{IsWithinLimits}
use Rattle.event_line.specs.Chain.{IsLonger}
use Rattle.event_line.specs.declared.line.Line.TheInside.{Inside}
use Rattle.event_line.specs.declared.entry.Entry.{Entry}
use Rattle.event_line.specs.Journal.{bookings_in, nodes_with, IsJournal}
use Rattle.event_line.specs.Shown.{ShowsFree, ShowsDemands, HasChanges}
use Rattle.event_line.specs.Timeline.{Timeline}

-- the instance, and the bookings that the journal tells
abbrev pub timeline_of : Inside → Timeline
timeline_of inside = record {
  project = inside.instance.now;
  bookings = bookings_in inside.entries.items;
}

-- the nodes show the project and what the journal tells; the first ones, as many as a line without
-- bookings has, stand at the changes
pub record IsShown (project : Project) (base : ℕ) (periods : List ℕ) (rows : List (List ℕ))
    (entries : List Entry) : Type 0 where
  pub changes : HasChanges project periods base
  pub free : ShowsFree project (bookings_in entries) periods rows
  pub journal : IsJournal project periods base entries
  pub nodes : length periods ≡ nodes_with base entries
  pub once : AllPairs (λ (a b : Entry). a.activity ≢ b.activity) entries

-- what the fields of every line keep
pub record KeepsNodes (inside : Inside) : Type 0 where
  pub limits : IsWithinLimits inside.instance.now
  pub width : inside.axis.free.width ≡ resource_count inside.instance.now
  pub base_width : inside.base.free.width ≡ resource_count inside.instance.now
  pub room : length inside.base.chain.periods + 2 * activity_count inside.instance.now
      ≤ inside.axis.chain.room
  pub base_room : inside.base.chain.room ≤ inside.axis.chain.room
  pub reserved : activity_count inside.instance.now ≤ vec_capacity inside.entries
  pub hints : length inside.ends.items ≡ activity_count inside.instance.now
  pub demands_count : length inside.demands.items ≡ activity_count inside.instance.now
  pub demands : ShowsDemands inside.instance.now inside.demands.items
  pub longer : IsLonger inside.base.chain.periods inside.axis.chain.periods
  pub base : IsShown inside.instance.now (length inside.base.chain.periods)
      inside.base.chain.periods inside.base.free.rows []
  pub shown : IsShown inside.instance.now (length inside.base.chain.periods)
      inside.axis.chain.periods inside.axis.free.rows inside.entries.items
