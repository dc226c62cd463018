-- What of a list is booked on a line.
use Rattle.std.proofs.Common.{◌≡◌, ℕ, ◌+◌, ◌-◌, ◌<◌, ◌≤◌, List, [], length, take, set, sym, ap, ◌∙◌, subst, arith}
use Rattle.std.proofs.lemmas.List.{take-take, take_all, length-take-le, length-set}
use Rattle.std.proofs.lemmas.List.Elements.{All-nil, All-take}
use Rattle.rc_instance.specs.Calendar.{IsWithinLimits}
use Rattle.rc_instance.specs.Misfit.{HasNoMisfit}
use Rattle.rc_instance.specs.Order.{IsFeasibleList}
use Rattle.rc_instance.specs.Usage.{Booking}
use Rattle.rc_instance.specs.Serial.{serial_bookings}
use Rattle.rc_instance.specs.Schedule.{IsFeasible, start_at, serial_schedule}
use Rattle.rc_instance.proofs.SerialLaws.{length-serial}
use Rattle.activity_net.specs.Network.{Listing}
use Rattle.event_line.specs.Timeline.{Timeline}
use Rattle.serial_plain.specs.Shown.{ShowsStarts}
use Rattle.serial_plain.proofs.StepLaws.{take-serial_bookings, all_shown}
use Rattle.swap_descent.specs.Placed.{IsPlaced}

-- as many bookings as places
pub placed_count : (list : Listing) (place : ℕ) (line : Timeline) (starts : List ℕ)
    → place ≤ length list.order → IsPlaced list place line starts
    → length line.bookings ≡ place
placed_count list place line starts within placed =
    ap length placed.booked
    ∙ (length-serial list.network.project (take place list.order)
    ∙ length-take-le place list.order within)

-- after a step of the scheme one place more is booked
pub placed_more : (list : Listing) (place : ℕ) (line next : Timeline) (starts after : List ℕ)
    (i t : ℕ) → IsPlaced list place line starts
    → next ≡ record line {
      bookings = serial_bookings list.network.project (take (place + 1) list.order);
    }
    → after ≡ set starts i t → ShowsStarts next.bookings after
    → IsPlaced list (place + 1) next after
placed_more list place line next starts after i t placed is written shown = record {
  fits = placed.fits;
  limits = placed.limits;
  feasible = placed.feasible;
  project = ap (λ (l : Timeline). l.project) is ∙ placed.project;
  booked = ap (λ (l : Timeline). l.bookings) is;
  count = ap length written ∙ (length-set starts i t ∙ placed.count);
  shown = shown;
}

-- with its newest bookings taken away, fewer places are booked
pub placed_less : (list : Listing) (from place : ℕ) (line less : Timeline) (starts : List ℕ)
    → from ≤ place → place ≤ length list.order → IsPlaced list place line starts
    → less.project ≡ line.project → less.bookings ≡ take from line.bookings
    → IsPlaced list from less starts
placed_less list from place line less starts le within placed same left =
    let project = list.network.project in
    let first = take place list.order in
    let long = length-take-le place list.order within in
    record {
      fits = placed.fits;
      limits = placed.limits;
      feasible = placed.feasible;
      project = same ∙ placed.project;
      booked = left ∙ (ap (take from) placed.booked
          ∙ (take-serial_bookings project first from (omega arith)
          ∙ ap (serial_bookings project) (take-take from place list.order le)));
      count = placed.count;
      shown = subst (λ bookings. ShowsStarts bookings starts) (sym left)
          (All-take (λ b. start_at starts b.activity ≡ b.start) from line.bookings placed.shown);
    }

-- on a cleared line none is booked
pub placed_none : (list : Listing) (place : ℕ) (line none : Timeline) (starts : List ℕ)
    → IsPlaced list place line starts → none ≡ record line { bookings = [] }
    → IsPlaced list 0 none starts
unfolding serial_bookings
placed_none list place line none starts placed is = record {
  fits = placed.fits;
  limits = placed.limits;
  feasible = placed.feasible;
  project = ap (λ (l : Timeline). l.project) is ∙ placed.project;
  booked = ap (λ (l : Timeline). l.bookings) is;
  count = placed.count;
  shown = subst (λ bookings. ShowsStarts bookings starts)
      (sym (ap (λ (l : Timeline). l.bookings) is)) (All-nil _);
}

-- another feasible order of the same first places has the same bookings
pub placed_with : (list : Listing) (order : List ℕ) (place : ℕ) (line : Timeline) (starts : List ℕ)
    → IsFeasibleList list.network.project order → take place order ≡ take place list.order
    → IsPlaced list place line starts → IsPlaced (record list { order = order }) place line starts
placed_with list order place line starts feasible same placed = record {
  fits = placed.fits;
  limits = placed.limits;
  feasible = feasible;
  project = placed.project;
  booked = placed.booked ∙ ap (serial_bookings list.network.project) (sym same);
  count = placed.count;
  shown = placed.shown;
}

-- past the end there are no more places
pub placed_whole : (list : Listing) (place : ℕ) (line : Timeline) (starts : List ℕ)
    → length list.order ≤ place → IsPlaced list place line starts
    → IsPlaced list (length list.order) line starts
placed_whole list place line starts all placed = record {
  fits = placed.fits;
  limits = placed.limits;
  feasible = placed.feasible;
  project = placed.project;
  booked = placed.booked ∙ ap (serial_bookings list.network.project)
      (take_all place list.order all
      ∙ sym (take_all (length list.order) list.order (omega arith)));
  count = placed.count;
  shown = placed.shown;
}

-- where all places are booked, the starts are the serial schedule
pub placed_all : (list : Listing) (line : Timeline) (starts : List ℕ)
    → IsPlaced list (length list.order) line starts
    → starts ≡ serial_schedule list.network.project list.order
placed_all list line starts placed =
    all_shown list.network.project list.order (length list.order) starts placed.feasible
    (omega arith) placed.count
    (subst (λ bookings. ShowsStarts bookings starts) placed.booked placed.shown)

-- after the whole scheme all places are booked
pub placed_serial : (list : Listing) (line : Timeline) (starts : List ℕ)
    → HasNoMisfit list.network.project → IsWithinLimits list.network.project
    → IsFeasibleList list.network.project list.order
    → line.project ≡ list.network.project
    → line.bookings ≡ serial_bookings list.network.project list.order
    → ShowsStarts line.bookings starts → IsFeasible list.network.project starts
    → IsPlaced list (length list.order) line starts
placed_serial list line starts fits limits feasible project booked shown schedule = record {
  fits = fits;
  limits = limits;
  feasible = feasible;
  project = project;
  booked = booked ∙ ap (serial_bookings list.network.project)
      (sym (take_all (length list.order) list.order (omega arith)));
  count = schedule.count;
  shown = shown;
}

-- bookings that were taken away one after another: the oldest are left
pub undone : (all now next : List Booking) → now ≡ take (length now) all → 0 < length now
    → next ≡ take (length now - 1) now
    → (next ≡ take (length next) all) × (length next + 1 ≡ length now)
undone all now next same some is =
    let n = length now in
    let shorter : length next ≡ n - 1 =
    ap length is ∙ length-take-le (n - 1) now (omega arith) in
    let left : next ≡ take (n - 1) all =
    is ∙ (ap (take (n - 1)) same ∙ take-take (n - 1) n all (omega arith)) in
    (left ∙ ap (λ (m : ℕ). take m all) (sym shorter), omega arith)
