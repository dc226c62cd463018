-- A calendar: a stream of numbers, whatever the line ends.
--
-- First how many changes there are, then for each its resource, its period and its capacity: from
-- that period on
-- the resource has that capacity. Each change comes after the one before: of a greater resource, or
-- of the same
-- in a later period. Nothing follows. The fault is the first that comes, at its token.
use Rattle.std.specs.Prelude.{ℕ, ◌-◌, Bool, true, not, ◌||◌, ◌&&◌, ◌==◌, nat_lt, List, [], length, slice_get, Option, None, Some, Result, Ok, ◌+◌}
use Rattle.rc_instance.specs.declared.change.Change.{Change}
use Rattle.rc_instance.specs.declared.limits.TheConstants.{MAX_CHANGES, MAX_CHANGE_PERIOD}
use Rattle.rc_instance.specs.declared.parts.InstanceFault.TheVariants.{CapacityTooLarge}
use Rattle.rc_edge.specs.declared.text_fault.TextFault.{TextFault}
use Rattle.rc_edge.specs.declared.text_fault.TextKind.{TextKind}
use Rattle.rc_edge.specs.declared.text_fault.TextKind.TheVariants.{NotANumber, NumberTooLarge, Trailing, Ended, Instance, TooManyChanges, ResourceOutOfRange, PeriodOutOfRange, NotRising, Memory}
use Rattle.rc_edge.specs.Grammar.{◌>>=◌, refuse_if, more}
use Rattle.rc_edge.specs.Source.{capacity_due}
use Rattle.patterson_read.specs.Left.{Left, whole, number_due, nothing}

-- how many changes there are
unfoldable pub count_due : Left → Result (ℕ × Left) TextFault
count_due left = do
  number ← number_due left
  many ← refuse_if (nat_lt MAX_CHANGES number.0.value) TooManyChanges number.0.at
  Ok (number.0.value, number.1)

-- the resource of a change, of so many in all
unfoldable pub resource_due : ℕ → Left → Result (ℕ × Left) TextFault
resource_due resources left = do
  number ← number_due left
  wild ← refuse_if (number.0.value == 0 || nat_lt resources number.0.value) ResourceOutOfRange
      number.0.at
  Ok (number.0.value, number.1)

-- the last of the changes found
abbrev pub last_of : List Change → Option Change
last_of found = slice_get found (length found - 1)

-- whether a change of a resource in a period comes after the one before, if there is one
abbrev pub rises : Option Change → ℕ → ℕ → Bool
rises None resource period = true
rises (Some before) resource period =
    nat_lt before.resource resource || (before.resource == resource && nat_lt before.period period)

-- the period of a change of a resource, after the change before it
unfoldable pub period_due : Option Change → ℕ → Left → Result (ℕ × Left) TextFault
period_due before resource left = do
  number ← number_due left
  wild ← refuse_if (number.0.value == 0 || nat_lt MAX_CHANGE_PERIOD number.0.value) PeriodOutOfRange
      number.0.at
  falls ← refuse_if (not (rises before resource number.0.value)) NotRising number.0.at
  Ok (number.0.value, number.1)

-- a change, after the change before it
unfoldable pub change_due : ℕ → Option Change → Left → Result (Change × Left) TextFault
change_due resources before left = do
  resource ← resource_due resources left
  period ← period_due before resource.0 resource.1
  capacity ← capacity_due number_due resource.0 period.1
  Ok (record { resource = resource.0; period = period.0; capacity = capacity.0 }, capacity.1)

-- the next change, after those found
abbrev pub next_change : ℕ → List Change → Left → Result (Change × Left) TextFault
next_change resources found = change_due resources (last_of found)

unfoldable pub changes_due : ℕ → Left → Result (List Change) TextFault
changes_due resources left = do
  count ← count_due left
  changes ← more (next_change resources) count.0 [] count.1
  end ← nothing changes.1
  Ok changes.0

-- the changes of the bytes of a calendar for so many resources, or the first fault
abbrev pub read_calendar : ℕ → List ℕ → Result (List Change) TextFault
read_calendar resources bytes = changes_due resources (whole bytes)

-- the kinds of the faults of calendars, and want of memory
abbrev pub IsCalendarKind : TextKind → Type 0
IsCalendarKind NotANumber = Unit {0}
IsCalendarKind NumberTooLarge = Unit {0}
IsCalendarKind Trailing = Unit {0}
IsCalendarKind Ended = Unit {0}
IsCalendarKind TooManyChanges = Unit {0}
IsCalendarKind ResourceOutOfRange = Unit {0}
IsCalendarKind PeriodOutOfRange = Unit {0}
IsCalendarKind NotRising = Unit {0}
IsCalendarKind (Instance (CapacityTooLarge _ _)) = Unit {0}
IsCalendarKind Memory = Unit {0}
IsCalendarKind kind = ⊥
