-- What the fields of a line keep says of the demands that it has packed, of the room for a booking
-- more, and of the line with it.
use Rattle.std.proofs.Common.{◌≡◌, ◌≢◌, ℕ, ◌+◌, ◌-◌, ◌<◌, ◌≤◌, List, [], ◌∷◌, ◌++◌, Vec, vec_capacity, length, get_or, sym, ◌∙◌, subst, arith, refl}
use Rattle.std.specs.declared.alloc.Global.{Global}
use Rattle.std.proofs.lemmas.List.{get_or_read}
use Rattle.rc_instance.specs.Project.{IsActivity, AreDemands, duration}
use Rattle.rc_instance.specs.Usage.{Fits}
use Rattle.event_line.specs.declared.axis.Axis.{Axis}
use Rattle.event_line.specs.declared.entry.Entry.{Entry}
use Rattle.event_line.specs.declared.line.Line.TheInside.{Inside}
use Rattle.event_line.specs.Chain.{IsLonger}
use Rattle.event_line.specs.Rows.{IsBooked}
use Rattle.event_line.specs.Shown.{PacksDemands}
use Rattle.event_line.specs.Journal.{booking_of, bookings_in, IsMade}
use Rattle.event_line.specs.Timeline.{Timeline, IsUnbooked, FitsAtRest, with_booking}
use Rattle.event_line.specs.LineView.{KeepsNodes, timeline_of}
use Rattle.event_line.proofs.FitLaws.{demands_from_fits, demands_at_rest}
use Rattle.event_line.proofs.JournalLaws.{entries_fewer, bookings_push}
use Rattle.event_line.proofs.RowLaws.{longer_trans}
use Rattle.event_line.proofs.PlaceLaws.{nodes_left, shown_placed}

-- what is read for an activity is what is packed for it
pub kept_packs : (inside : Inside) (a : ℕ) (demands : List ℕ) → KeepsNodes inside
    → IsActivity inside.instance.now a → demands ≡ get_or inside.demands.items (a - 1) demands
    → PacksDemands inside.instance.now a demands
kept_packs inside a demands keeps activity read =
    let within : a - 1 < length inside.demands.items = omega (arith, keeps.demands_count) in
    subst (PacksDemands inside.instance.now a)
    (sym (get_or_read inside.demands.items (a - 1) demands within read []))
    (keeps.demands.each a activity)

-- it is what the activity demands, where this fits at rest
pub kept_at_rest : (inside : Inside) (a time : ℕ) (demands : List ℕ) → KeepsNodes inside
    → IsActivity inside.instance.now a → FitsAtRest inside.instance.now a
    → time ≡ duration inside.instance.now a → time ≢ 0
    → demands ≡ get_or inside.demands.items (a - 1) demands
    → AreDemands inside.instance.now a demands
kept_at_rest inside a time demands keeps activity fits same some read =
    demands_at_rest inside.instance.now (bookings_in inside.entries.items) demands a keeps.limits
    (omega arith) fits (kept_packs inside a demands keeps activity read)

-- or somewhere beside the bookings
pub kept_from_fits : (inside : Inside) (a time t : ℕ) (demands : List ℕ) → KeepsNodes inside
    → IsActivity inside.instance.now a
    → Fits inside.instance.now (bookings_in inside.entries.items) a t
    → time ≡ duration inside.instance.now a → time ≢ 0
    → demands ≡ get_or inside.demands.items (a - 1) demands
    → AreDemands inside.instance.now a demands
kept_from_fits inside a time t demands keeps activity fits same some read =
    demands_from_fits inside.instance.now (bookings_in inside.entries.items) demands a t keeps.limits
    (omega arith) fits (kept_packs inside a demands keeps activity read)

-- there is room for the entry of one that is not booked
pub kept_entry : (inside : Inside) (a : ℕ) → KeepsNodes inside
    → IsActivity inside.instance.now a → IsUnbooked (bookings_in inside.entries.items) a
    → length inside.entries.items < vec_capacity inside.entries
kept_entry inside a keeps activity unbooked =
    let few = entries_fewer inside.instance.now inside.axis.chain.periods
    (length inside.base.chain.periods) inside.entries.items a keeps.shown.journal keeps.shown.once
    activity unbooked in
    let reserved = keeps.reserved in
    omega arith

-- and for its nodes
pub kept_nodes : (inside : Inside) (a : ℕ) → KeepsNodes inside
    → IsActivity inside.instance.now a → IsUnbooked (bookings_in inside.entries.items) a
    → length inside.axis.chain.periods + 2 ≤ inside.axis.chain.room
kept_nodes inside a keeps activity unbooked =
    nodes_left inside.instance.now (length inside.base.chain.periods) inside.axis.chain.room
    inside.axis.chain.periods inside.axis.free.rows inside.entries.items a keeps.shown activity
    unbooked keeps.room

-- a line keeps what it keeps when an activity is booked on its axis
pub kept_booked : (inside : Inside) (axis : Axis) (entries : Vec Entry Global) (ends : Vec ℕ Global)
    (a time start : ℕ) (entry : Entry) (demands : List ℕ)
    → KeepsNodes inside → AreDemands inside.instance.now a demands
    → IsActivity inside.instance.now a → IsUnbooked (bookings_in inside.entries.items) a
    → time ≡ duration inside.instance.now a → time ≢ 0
    → IsLonger inside.axis.chain.periods axis.chain.periods
    → length axis.chain.periods ≤ length inside.axis.chain.periods + 2
    → IsBooked inside.axis.chain.periods inside.axis.free.rows axis.chain.periods axis.free.rows
    demands start (start + time)
    → IsMade axis.chain.periods a start time entry
    → axis.chain.room ≡ inside.axis.chain.room → axis.free.width ≡ inside.axis.free.width
    → entries.items ≡ inside.entries.items ++ entry ∷ []
    → vec_capacity entries ≡ vec_capacity inside.entries
    → length ends.items ≡ length inside.ends.items
    → KeepsNodes
    (record inside { axis = axis; entries = entries; ends = ends })
kept_booked inside axis entries ends a time start entry demands keeps are activity unbooked
    d some longer few booked made room width push capacity hints =
    let project = inside.instance.now in
    let runs : 0 < duration project a = omega arith in
    let shown = shown_placed project (length inside.base.chain.periods) inside.axis.chain.periods
    inside.axis.free.rows axis.chain.periods axis.free.rows demands inside.entries.items a start
    entry keeps.shown are activity unbooked runs longer few (rw d at booked) (rw d at made) in
    record {
      limits = keeps.limits;
      width = width ∙ keeps.width;
      base_width = keeps.base_width;
      room = rw room keeps.room;
      base_room = rw room keeps.base_room;
      reserved = rw capacity keeps.reserved;
      hints = hints ∙ keeps.hints;
      demands_count = keeps.demands_count;
      demands = keeps.demands;
      longer = longer_trans inside.base.chain.periods inside.axis.chain.periods axis.chain.periods
          keeps.longer longer;
      base = keeps.base;
      shown = rw push shown;
    }

-- and it is then seen with this booking more
pub kept_view : (inside : Inside) (seen : Timeline) (entries : List Entry) (entry : Entry)
    (periods : List ℕ) (a start time : ℕ)
    → timeline_of inside ≡ seen → entries ≡ inside.entries.items ++ entry ∷ []
    → IsMade periods a start time entry
    → (let line : Timeline = record { project = inside.instance.now; bookings = bookings_in entries } in
    line) ≡ with_booking seen a start
kept_view inside seen entries entry periods a start time is push made =
    rw (← is, push, bookings_push inside.entries.items entry, made.activity_is, made.start_is) refl
