-- A complete book: its start words give the serial schedule, and its levels what that schedule
-- uses.
use Rattle.std.proofs.Common.{◌≡◌, ℕ, ◌+◌, ◌-◌, ◌*◌, ◌/◌, ◌%◌, ◌<◌, List, length, slice_index, true, nat_lt, sym, ap, ◌∙◌, arith, ext_get_or, take_all}
use Rattle.std.proofs.lemmas.Bool.Decides.{nat_tests}
use Rattle.rc_instance.specs.Project.{IsResource, resource_count}
use Rattle.rc_instance.specs.Order.{IsFeasibleList}
use Rattle.rc_instance.specs.Usage.{usage}
use Rattle.rc_instance.specs.Serial.{serial_bookings}
use Rattle.rc_instance.specs.Schedule.{start_at, bookings_of, serial_schedule}
use Rattle.rc_instance.proofs.FeasibleLaws.{length-serial_schedule, start_at-place, usage-serial_schedule}
use Rattle.activity_net.specs.Network.{Listing}
use Rattle.book_rule.specs.Rule.{IsComplete}
use Rattle.book_rule.proofs.ListedLaws.{begins-ends, horizon-small}
use Rattle.book_rule.specs.Listed.{IsBookable, count, activity_at, project_of, booked, begins, level}
use Rattle.book_table.proofs.FillLaws.{IsFilled, filled_at}

-- what the start word of a position holds
pub start_read : (list : Listing) (words : List ℕ) (i x : ℕ) → IsBookable list
    → IsComplete list words → i < count list → x ≡ slice_index words (32 + i)
    → (x ≡ begins list i + 1) × (begins list i < 131071)
start_read list words i x bookable complete below is =
    let ends = begins-ends list bookable i below in
    let short = horizon-small list bookable in
    (is ∙ complete.starts i below, omega (arith, ends, short))

-- starts that are those of each position are the serial schedule
pub starts_are : (list : Listing) (starts : List ℕ) → IsFeasibleList (project_of list) list.order
    → IsFilled list (begins list) (count list) starts
    → starts ≡ serial_schedule (project_of list) list.order
unfolding begins start_at
starts_are list starts feasible all =
    let schedule = serial_schedule (project_of list) list.order in
    let same : length starts ≡ length schedule =
    all.long ∙ (feasible.count ∙ sym (length-serial_schedule (project_of list) list.order)) in
    ext_get_or 0 starts schedule same (λ k below.
    let found =
    filled_at list feasible (begins list) starts k all (omega (arith, below, all.long)) in
    let here : activity_at list found.0 - 1 ≡ k = omega (arith, found.2) in
    found.3 ∙ (sym
    (start_at-place (project_of list)
    list.order found.0 feasible.activities feasible.once found.1)
    ∙ ap (λ j. slice_index schedule j) here))

-- the level of a resource in the complete book is what the schedule uses of it
pub level-usage : (list : Listing) (w l k p : ℕ) → IsFeasibleList (project_of list) list.order
    → IsResource (project_of list) k → (k - 1) / 4 ≡ w → (k - 1) % 4 ≡ l
    → level list (count list) w l p ≡ usage (project_of list)
    (bookings_of (serial_schedule (project_of list) list.order)) k p
unfolding level
level-usage list w l k p feasible is at lane =
    let project = project_of list in
    let place : 4 * w + l ≡ k - 1 = omega (arith, at, lane) in
    let back : k - 1 + 1 ≡ k = omega arith in
    let below : nat_lt (k - 1) (resource_count project) ≡ true = grind (arith, nat_tests) in
    let all : booked list (count list) ≡ serial_bookings project list.order =
    ap (serial_bookings project) (take_all (count list) list.order (omega arith)) in
    rw (place, below, back) (ap (λ b. usage project b k p) all
    ∙ sym (usage-serial_schedule project list.order k p feasible))
