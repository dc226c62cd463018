-- What the nodes of a chain show of a project and its bookings.
use Rattle.std.proofs.Common.{◌≡◌, ℕ, ◌≤◌, List, length, Some, ◌∙◌, subst, arith}
use Rattle.std.specs.List.{slice_get}
use Rattle.std.proofs.lemmas.Option.{get_or_from_slice_get, slice_get_within}
use Rattle.rc_instance.specs.declared.change.Change.{Change}
use Rattle.rc_instance.specs.declared.limits.TheConstants.{MAX_CHANGE_PERIOD}
use Rattle.rc_instance.specs.Calendar.{IsCalendar}
use Rattle.event_line.specs.Chain.{IsLonger}
use Rattle.event_line.specs.Shown.{HasNode}

-- a node stays where it is as others come after it
pub node_longer : (periods periods' : List ℕ) (p : ℕ) → IsLonger periods periods'
    → HasNode periods (length periods) p → HasNode periods' (length periods') p
node_longer periods periods' p longer node =
    let long = longer.long in
    let inside = node.1 in
    (node.0, omega arith, longer.same node.0 inside ∙ node.2)

-- a change of a calendar comes by the last period in which one may
pub change_period : (resources i : ℕ) (changes : List Change) (change : Change)
    → IsCalendar resources changes → slice_get changes i ≡ Some change
    → change.period ≤ MAX_CHANGE_PERIOD
change_period resources i changes change calendar at =
    let within = slice_get_within changes i change at in
    let e = get_or_from_slice_get changes i change change at in
    let h = (calendar.within i change within).period.1 in
    subst (λ (c : Change). c.period ≤ MAX_CHANGE_PERIOD) e h
