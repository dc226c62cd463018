-- What a schedule keeps where another calendar gives the same capacities.
use Rattle.std.proofs.Common.{◌≡◌, ℕ, ◌+◌, ◌≤◌, List, [], ◌∷◌, ◌++◌, map, Some, Ok, All, refl, sym, ap, subst, ◌∙◌}
use Rattle.std.specs.List.{fold}
use Rattle.std.proofs.lemmas.List.Elements.{All-head, All-tail}
use Rattle.rc_instance.specs.declared.change.Change.{Change}
use Rattle.rc_instance.specs.Lists.{numbers}
use Rattle.rc_instance.specs.Project.{Project, IsActivity, activity_count, resource_count, duration, demand, precedes, successors_of}
use Rattle.rc_instance.specs.Misfit.{HasNoMisfit}
use Rattle.rc_instance.specs.Usage.{Booking, Fits, usage, least_start}
use Rattle.rc_instance.specs.Serial.{with_next, serial_bookings}
use Rattle.rc_instance.specs.Schedule.{start_of, serial_schedule}
use Rattle.rc_instance.proofs.StartLaws.{least_start-is, least_start-exact}
use Rattle.patterson_read.specs.Calendar.{read_calendar}
use Rattle.rc_instance.specs.Results.{◌>>=◌}
use Rattle.rcpsp_run.specs.Steps.Text.{in_text}
use Rattle.rcpsp_run.specs.Steps.Calendar.{last_text, on_changes, on_calendar}
use Rattle.rcpsp_run.specs.CalendarLaws.{GiveTheSame}

-- a calendar without changes leaves a project without any as it is
pub on_calendar-empty : (project : Project) (name : List ℕ) (texts : List (List ℕ))
    → project.changes ≡ []
    → read_calendar (resource_count project) (last_text texts) ≡ Ok []
    → on_calendar (Some name) texts project ≡ Ok project
unfolding on_calendar
on_calendar-empty project name texts without empty =
    ap (λ changes. in_text name changes >>= (λ changes. Ok (on_changes project changes))) empty
    ∙ ap (λ changes. Ok (on_changes project changes)) (sym without)

-- an activity fits where it fits by the same capacities
fits-same : (project : Project) (changes others : List Change) (bookings : List Booking)
    (a t : ℕ) → GiveTheSame project changes others
    → Fits (on_changes project changes) bookings a t → Fits (on_changes project others) bookings a t
unfolding duration demand
fits-same project changes others bookings a t same fits = record {
  within = λ k p resource from to.
      subst (λ c. usage (on_changes project others) bookings k p + demand (on_changes project others) a k ≤ c)
      (same k p resource) (fits.within k p resource from to);
}

-- the least start after the direct predecessors is the same
least_start-same : (project : Project) (changes others : List Change) (bookings : List Booking)
    (a : ℕ) → GiveTheSame project changes others → HasNoMisfit (on_changes project changes)
    → IsActivity project a
    → least_start (on_changes project others) bookings a
    ≡ least_start (on_changes project changes) bookings a
unfolding duration precedes successors_of
least_start-same project changes others bookings a same none activity =
    let least = least_start-is (on_changes project changes) bookings a none activity in
    let back : GiveTheSame project others changes = λ k p resource. sym (same k p resource) in
    least_start-exact (on_changes project others) bookings a _ (record {
      after = least.after;
      fits = fits-same project changes others bookings a _ same least.fits;
      least = λ u from fits. least.least u from (fits-same project others changes bookings a u back fits);
    })

-- the scheme books the same
bookings-same : (project : Project) (changes others : List Change) (bookings : List Booking)
    (order : List ℕ) → GiveTheSame project changes others
    → HasNoMisfit (on_changes project changes) → All (IsActivity project) order
    → fold (with_next (on_changes project changes)) bookings order
    ≡ fold (with_next (on_changes project others)) bookings order
bookings-same project changes others bookings [] same none activities = refl
bookings-same project changes others bookings (a ∷ order) same none activities =
    let first = least_start-same project changes others bookings a same none
    (All-head (IsActivity project) a order activities) in
    bookings-same project changes others (with_next (on_changes project changes) bookings a) order
    same none (All-tail (IsActivity project) a order activities)
    ∙ ap (λ start. fold (with_next (on_changes project others))
    (bookings ++ record { activity = a; start = start } ∷ []) order) (sym first)

-- and so the serial schedule is the same
pub serial_schedule-same : (project : Project) (changes others : List Change) (order : List ℕ)
    → GiveTheSame project changes others → HasNoMisfit (on_changes project changes)
    → All (IsActivity project) order
    → serial_schedule (on_changes project changes) order
    ≡ serial_schedule (on_changes project others) order
unfolding serial_schedule serial_bookings
serial_schedule-same project changes others order same none activities =
    ap (λ bookings. map (start_of bookings) (numbers (activity_count project)))
    (bookings-same project changes others [] order same none activities)
