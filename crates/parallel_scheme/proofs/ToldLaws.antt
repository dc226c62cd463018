-- What the tables tell of the activities.
use Rattle.std.proofs.Common.{◌≡◌, ℕ, ◌-◌, ◌<◌, ◌≤◌, max, ◌||◌, Bool, true, false, not, None, Some, List, [], ◌∷◌, ◌++◌, length, get_or, set, take, sym, refl, ap, ◌∙◌, subst, inl, inr, arith, true≢false, slice_index, if◌then◌else◌}
use Rattle.std.specs.List.{All, Contains, list_all}
use Rattle.std.proofs.lemmas.Bool.{cases_eq, cases_lt}
use Rattle.std.proofs.lemmas.List.{get_or-map, get_or-set_same, get_or-set_other, length-map, length_push, length-set, map_push, take_at}
use Rattle.std.proofs.lemmas.List.Elements.{All-contains, All-from_get_or, All-get_or, All-map, All-set, Contains-push}
use Rattle.rc_instance.specs.declared.limits.TheConstants.{MAX_HORIZON}
use Rattle.rc_instance.specs.Project.{Project, IsActivity, Precedes, activity_count, horizon}
use Rattle.rc_instance.specs.Calendar.{IsWithinLimits}
use Rattle.rc_instance.specs.Usage.{Booking, Fits, IsLeastFrom, ready_time, rest_time}
use Rattle.rc_instance.proofs.LimitLaws.{last_change-le}
use Rattle.rc_instance.specs.Schedule.{start_at}
use Rattle.rc_instance.proofs.UsageLaws.{Fits-fewer, finish-le-last_finish, ready_time-le-last_finish}
use Rattle.activity_net.specs.Laws.{IsEligible}
use Rattle.activity_net.specs.Network.{predecessors_of}
use Rattle.activity_net.specs.Tables.{Shows}
use Rattle.activity_net.proofs.NameLaws.{contains_named, named_at, named_contains, not_named}
use Rattle.activity_net.proofs.RemovalLaws.{named_predecessor, predecessor_named}
use Rattle.activity_net.proofs.TableLaws.{Shows-push}
use Rattle.event_line.specs.Timeline.{IsUnbooked}
use Rattle.serial_plain.specs.Shown.{ShowsStarts, finish_at, last_finish_of}
use Rattle.serial_plain.proofs.ShownLaws.{ready_time-shown, ShowsStarts-push}
use Rattle.parallel_scheme.specs.declared.progress.Progress.{Progress}
use Rattle.parallel_scheme.specs.Parallel.{CanStart, activities_of}
use Rattle.parallel_scheme.specs.Passing.{IsReached, IsTold, IsVisited, WaitsUntil, floor_in, is_marked}
use Rattle.parallel_scheme.proofs.StartLaws.{all_named_decides}
use Rattle.parallel_scheme.proofs.ReachLaws.{reached_within}
use Rattle.parallel_scheme.proofs.NonDelayLaws.{activities_are}

-- the horizon of an instance within the limits is at most the greatest one
pub horizon-le : (project : Project) → IsWithinLimits project → horizon project ≤ MAX_HORIZON
horizon-le project limits =
    let durations = limits.durations in omega (arith, last_change-le project limits)

-- what is told of a period holds of each later one
pub told_later : (project : Project) (t u : ℕ) (bookings : List Booking) (progress : Progress)
    → t ≤ u → IsTold project t bookings progress → IsTold project u bookings progress
told_later project t u bookings progress le told = record {
  end = told.end;
  marks = told.marks;
  count = told.count;
  starts = told.starts;
  floors = told.floors;
  within = told.within;
  misses = λ a v activity from below. told.misses a v activity (omega arith) below;
}

-- each marked activity ends by the horizon
marked_ends : (project : Project) (t a : ℕ) (bookings : List Booking) (progress : Progress)
    → IsReached project bookings t → IsTold project t bookings progress → IsActivity project a
    → is_marked progress.booked.items a ≡ true
    → finish_at project progress.starts a ≤ horizon project
marked_ends project t a bookings progress reached told activity marked =
    let booked = activities_of bookings in
    let within = reached_within project bookings t reached in
    All-contains (λ x. finish_at project progress.starts x ≤ horizon project) booked a
    (All-map (λ x. finish_at project progress.starts x ≤ horizon project)
    (λ (b : Booking). b.activity) bookings
    (λ i d inside.
    let start : start_at progress.starts (get_or bookings i d).activity
    ≡ (get_or bookings i d).start = told.starts i d inside in
    let ends = finish-le-last_finish project bookings i d inside in
    omega (arith, start, ends, within)))
    (contains_named booked a (sym (told.marks.at a activity.0 activity.1) ∙ marked))

-- so does each marked direct predecessor, within the greatest horizon
pub predecessors_end : (project : Project) (t a : ℕ) (bookings : List Booking)
    (progress : Progress) → IsWithinLimits project
    → IsReached project bookings t → IsTold project t bookings progress
    → All (λ p. is_marked progress.booked.items p ≡ true
    → finish_at project progress.starts p ≤ MAX_HORIZON) (predecessors_of project a)
predecessors_end project t a bookings progress limits reached told =
    let before = predecessors_of project a in
    All-from_get_or (λ p. is_marked progress.booked.items p ≡ true
    → finish_at project progress.starts p ≤ MAX_HORIZON) before 0
    (λ i within marked.
    let p = get_or before i 0 in
    let is = predecessor_named project p a (named_at before i within) in
    omega (
      arith,
      marked_ends project t p bookings progress reached told is.0 marked,
      horizon-le project limits,
    ))

-- the cases of a floor, over plain tests
floor_open : (marked all : Bool) (x floor : ℕ)
    → (if marked || not all then None else Some x) ≡ Some floor
    → (marked ≡ false) × (all ≡ true) × (x ≡ floor)
floor_open true all x floor e = Prim.absurd (cc)
floor_open false false x floor e = Prim.absurd (cc)
floor_open false true x floor e = (refl, refl, cc)

floor_shut : (marked all : Bool) (x : ℕ) → marked ≡ false → all ≡ true
    → (if marked || not all then None else Some x) ≡ None → ⊥
floor_shut true all x e f none = Prim.absurd (true≢false e)
floor_shut false false x e f none = Prim.absurd (true≢false (sym f))
floor_shut false true x e f none = Prim.absurd (cc)

-- a booked activity has no floor, nor one that waits for a direct predecessor that is not booked
pub floor_in-booked : (project : Project) (progress : Progress) (a : ℕ)
    → is_marked progress.booked.items a ≡ true → None ≡ floor_in project progress a
unfolding floor_in
floor_in-booked project progress a marked = rw marked refl

pub floor_in-waits : (project : Project) (progress : Progress) (a : ℕ)
    → is_marked progress.booked.items a ≡ false
    → list_all (is_marked progress.booked.items) (predecessors_of project a) ≡ false
    → None ≡ floor_in project progress a
unfolding floor_in
floor_in-waits project progress a fresh waits = rw (fresh, waits) refl

pub floor_in-some : (project : Project) (progress : Progress) (a floor : ℕ)
    → is_marked progress.booked.items a ≡ false
    → list_all (is_marked progress.booked.items) (predecessors_of project a) ≡ true
    → floor ≡ max (last_finish_of project progress.starts (predecessors_of project a))
    (slice_index progress.floors.items (a - 1))
    → Some floor ≡ floor_in project progress a
unfolding floor_in
floor_in-some project progress a floor fresh all is = rw (fresh, all) (ap Some is)

-- an activity without a floor can not start at all
pub no_floor_waits : (project : Project) (t a next : ℕ) (bookings : List Booking)
    (progress : Progress) → IsTold project t bookings progress
    → floor_in project progress a ≡ None → WaitsUntil project bookings next a
unfolding floor_in
no_floor_waits project t a next bookings progress told none = λ u below can.
    let booked = activities_of bookings in
    let marks = progress.booked.items in
    let before = predecessors_of project a in
    let activity = can.eligible.activity in
    floor_shut (is_marked marks a) (list_all (is_marked marks) before) _
    (told.marks.at a activity.0 activity.1 ∙ not_named booked a can.eligible.unlisted)
    ((all_named_decides (is_marked marks) before).1 (λ p named.
    let is = predecessor_named project p a named in
    told.marks.at p is.0.0 is.0.1 ∙ named_contains booked p (can.eligible.ready p is.0 is.1)))
    none

-- what a floor tells: the activity is eligible, and the floor is its ready time, or what is known
-- beside it
pub record IsFloor (project : Project) (a : ℕ) (bookings : List Booking) (progress : Progress)
    (floor : ℕ) : Type 0 where
  pub eligible : IsEligible project (activities_of bookings) a
  pub is : floor ≡ max (ready_time project bookings a) (slice_index progress.floors.items (a - 1))

pub floor_is : (project : Project) (t a floor : ℕ) (bookings : List Booking) (progress : Progress)
    → IsReached project bookings t → IsTold project t bookings progress → IsActivity project a
    → floor_in project progress a ≡ Some floor → IsFloor project a bookings progress floor
unfolding floor_in
floor_is project t a floor bookings progress reached told activity some =
    let booked = activities_of bookings in
    let marks = progress.booked.items in
    let before = predecessors_of project a in
    let known = slice_index progress.floors.items (a - 1) in
    let parts = floor_open (is_marked marks a) (list_all (is_marked marks) before)
    (max (last_finish_of project progress.starts before) known) floor some in
    let ready : (p : ℕ) → IsActivity project p → Precedes project p a → Contains booked p =
    λ p is precedes. contains_named booked p (sym (told.marks.at p is.0 is.1)
    ∙ (all_named_decides (is_marked marks) before).0 parts.1 p
    (named_predecessor project p a is ∙ precedes)) in
    let shown = ready_time-shown project bookings progress.starts a
    (activities_are project bookings t reached) ready told.starts in
    record {
      eligible = record {
        activity = activity;
        unlisted = λ h. true≢false (sym (named_contains booked a h)
            ∙ (sym (told.marks.at a activity.0 activity.1) ∙ parts.0));
        ready = ready;
      };
      is = sym parts.2 ∙ ap (λ r. max r known) shown;
    }

-- a floor is within the horizon
floor_within : (project : Project) (t a floor : ℕ) (bookings : List Booking) (progress : Progress)
    → IsReached project bookings t → IsTold project t bookings progress
    → IsFloor project a bookings progress floor → floor ≤ horizon project
floor_within project t a floor bookings progress reached told is =
    let activity = is.eligible.activity in
    omega (
      arith,
      is.is,
      ready_time-le-last_finish project bookings a,
      reached_within project bookings t reached,
      All-get_or (λ f. f ≤ horizon project) progress.floors.items (a - 1) 0
          (omega (arith, told.floors)) told.within,
    )

-- an activity waits for its floor
pub visited_floor : (project : Project) (t a floor : ℕ) (bookings : List Booking)
    (progress : Progress)
    → IsReached project bookings t → IsTold project t bookings progress
    → IsFloor project a bookings progress floor → t < floor
    → IsVisited project t a bookings bookings floor
visited_floor project t a floor bookings progress reached told is early = record {
  rises = early;
  within = omega (arith, floor_within project t a floor bookings progress reached told is);
  waits = λ u below can.
      elim (cases_lt u t) as (λ _. ⊥) [
        | inl before ↦ reached.settled u a before can
        | inr late ↦ told.misses a u can.eligible.activity late
            (omega (arith, is.is, can.ready)) can.fits
      ];
  booked = inl refl;
}

-- one without a floor waits to the end
pub visited_none : (project : Project) (t a : ℕ) (bookings : List Booking) (progress : Progress)
    → t ≤ horizon project → IsTold project t bookings progress
    → floor_in project progress a ≡ None → IsVisited project t a bookings bookings progress.end
visited_none project t a bookings progress time told none = record {
  rises = omega (arith, told.end);
  within = omega (arith, told.end);
  waits = no_floor_waits project t a progress.end bookings progress told none;
  booked = inl refl;
}

-- one that fits only later waits until then
pub visited_later : (project : Project) (t a start : ℕ) (bookings : List Booking)
    → t ≤ horizon project → IsReached project bookings t → IsLeastFrom project bookings a t start
    → start ≤ max t (rest_time project bookings) → t < start
    → IsVisited project t a bookings bookings start
visited_later project t a start bookings time reached least upto late = record {
  rises = late;
  within = omega (arith, upto, reached_within project bookings t reached);
  waits = λ u below can.
      elim (cases_lt u t) as (λ _. ⊥) [
        | inl before ↦ reached.settled u a before can
        | inr from ↦ omega (arith, least.least u from can.fits)
      ];
  booked = inl refl;
}

-- and the tables tell so
pub told_fits_later : (project : Project) (t a start : ℕ) (bookings : List Booking)
    (progress after : Progress) → t ≤ horizon project → IsReached project bookings t
    → IsTold project t bookings progress → IsActivity project a
    → IsLeastFrom project bookings a t start → start ≤ max t (rest_time project bookings)
    → after.end ≡ progress.end → after.booked.items ≡ progress.booked.items
    → after.starts ≡ progress.starts
    → after.floors.items ≡ set progress.floors.items (a - 1) start
    → IsTold project t bookings after
told_fits_later project t a start bookings progress after time reached told activity least upto
    same_end same_marks same_starts floors =
    let before = progress.floors.items in
    record {
      end = same_end ∙ told.end;
      marks = subst (λ ms. Shows (activity_count project) ms (activities_of bookings))
          (sym same_marks) told.marks;
      count = ap length same_starts ∙ told.count;
      starts = subst (ShowsStarts bookings) (sym same_starts) told.starts;
      floors = ap length floors ∙ (length-set before (a - 1) start ∙ told.floors);
      within = subst (All (λ f. f ≤ horizon project)) (sym floors)
          (All-set (λ f. f ≤ horizon project) before (a - 1) start
          (omega (arith, upto, reached_within project bookings t reached)) told.within);
      misses = λ b u other from below fits.
          let at = ap (λ (xs : List ℕ). get_or xs (b - 1) 0) floors in
          elim (cases_eq b a) as (λ _. ⊥) [
            | inl same ↦
                let here = get_or-set_same before (a - 1) start 0 (omega (arith, told.floors)) in
                let there = ap (λ (c : ℕ). get_or (set before (a - 1) start) (c - 1) 0) same in
                omega (
                  arith,
                  at,
                  here,
                  there,
                  least.least u from (subst (λ c. Fits project bookings c u) same fits),
                )
            | inr differ ↦
                let there = get_or-set_other before (a - 1) (b - 1) start 0 (omega arith) in
                told.misses b u other from (omega (arith, at, there)) fits
          ];
    }

-- no booking is of an activity that is not listed
pub unbooked : (bookings : List Booking) (a : ℕ) → (Contains (activities_of bookings) a → ⊥)
    → IsUnbooked bookings a
unbooked bookings a unlisted = λ i d within same.
    unlisted (
      i,
      omega (arith, length-map bookings (λ (b : Booking). b.activity)),
      get_or-map (λ (b : Booking). b.activity) bookings i d a within ∙ same,
    )

-- one whose least start from its floor on is the present period can start
pub can_start_now : (project : Project) (t a floor start : ℕ) (bookings : List Booking)
    (progress : Progress) → IsFloor project a bookings progress floor → floor ≤ t
    → IsLeastFrom project bookings a t start → start ≤ t
    → (start ≡ t) × CanStart project bookings t a
can_start_now project t a floor start bookings progress is ready least now =
    let same : start ≡ t = omega (arith, least.after) in (
      same,
      record {
        eligible = is.eligible;
        ready = omega (arith, is.is);
        fits = subst (Fits project bookings a) same least.fits;
      },
    )

-- it is booked, and does not start again
pub visited_now : (project : Project) (t a : ℕ) (bookings : List Booking) (progress : Progress)
    → t ≤ horizon project → IsTold project t bookings progress → CanStart project bookings t a
    → IsVisited project t a bookings (bookings ++ record { activity = a; start = t } ∷ [])
    progress.end
visited_now project t a bookings progress time told can =
    let next : Booking = record { activity = a; start = t } in
    record {
      rises = omega (arith, told.end);
      within = omega (arith, told.end);
      waits = λ u below again. again.eligible.unlisted
          (subst (λ xs. Contains xs a)
          (sym (map_push (λ (b : Booking). b.activity) bookings next))
          (Contains-push (activities_of bookings) a));
      booked = inr (refl, can);
    }

-- and the tables tell so
pub told_now : (project : Project) (t a : ℕ) (bookings : List Booking) (progress after : Progress)
    → IsReached project bookings t → IsTold project t bookings progress
    → CanStart project bookings t a
    → after.end ≡ progress.end → after.booked.items ≡ set progress.booked.items (a - 1) true
    → after.starts ≡ set progress.starts (a - 1) t → after.floors.items ≡ progress.floors.items
    → IsTold project t (bookings ++ record { activity = a; start = t } ∷ []) after
told_now project t a bookings progress after reached told can same_end marks starts same_floors =
    let next : Booking = record { activity = a; start = t } in
    let activity = can.eligible.activity in
    let others = unbooked bookings a can.eligible.unlisted in
    let are = activities_are project bookings t reached in
    let more = map_push (λ (b : Booking). b.activity) bookings next in
    record {
      end = same_end ∙ told.end;
      marks = subst (λ ms. Shows (activity_count project) ms (activities_of (bookings ++ next ∷ [])))
          (sym marks)
          (subst (Shows (activity_count project) (set progress.booked.items (a - 1) true)) (sym more)
          (Shows-push (activity_count project) progress.booked.items (activities_of bookings) a
          activity.0 activity.1 told.marks));
      count = ap length starts ∙ (length-set progress.starts (a - 1) t ∙ told.count);
      starts = subst (ShowsStarts (bookings ++ next ∷ [])) (sym starts)
          (ShowsStarts-push bookings progress.starts a t
          (λ i d within. ((are i d within).0, others i d within)) activity.0
          (omega (arith, told.count)) told.starts);
      floors = ap length same_floors ∙ told.floors;
      within = subst (All (λ f. f ≤ horizon project)) (sym same_floors) told.within;
      misses = λ b u other from below fits.
          let at = ap (λ (xs : List ℕ). get_or xs (b - 1) 0) same_floors in
          told.misses b u other from (omega (arith, at))
          (Fits-fewer project bookings (next ∷ []) b u fits);
    }

-- once the newest booking is taken back the others are left
pub take_undone : (bookings : List Booking) (booking : Booking)
    → take (length (bookings ++ booking ∷ []) - 1) (bookings ++ booking ∷ []) ≡ bookings
take_undone bookings booking =
    take_at bookings (booking ∷ []) (length (bookings ++ booking ∷ []) - 1)
    (omega (arith, length_push bookings booking))
