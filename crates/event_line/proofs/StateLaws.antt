-- How what the nodes show changes as bookings are made and taken away.
use Rattle.std.proofs.Common.{◌≡◌, ℕ, ◌+◌, ◌<◌, ◌≤◌, List, [], ◌∷◌, ◌++◌, length, take, get_or, refl, sym, ap, ◌∙◌, inl, inr, arith, length-take}
use Rattle.std.proofs.lemmas.Bool.{cases_lt}
use Rattle.std.proofs.lemmas.Bool.Decides.{nat_tests}
use Rattle.std.proofs.lemmas.List.Elements.{All-weaker, All-map}
use Rattle.rc_instance.specs.declared.change.Change.{Change}
use Rattle.rc_instance.specs.Project.{Project, AreDemands, resource_count, demand, duration, capacity_at}
use Rattle.rc_instance.specs.Calendar.{IsWithinLimits}
use Rattle.rc_instance.specs.Usage.{Booking, finish, last_finish, use_of}
use Rattle.rc_instance.proofs.UsageLaws.{usage_push, usage-ended, last_finish_push}
use Rattle.event_line.specs.declared.entry.Entry.{Entry}
use Rattle.event_line.specs.Chain.{IsLonger}
use Rattle.event_line.specs.Rows.{row_at, left_at, share, IsTaken, IsBooked, CanTakeBack}
use Rattle.event_line.specs.Shown.{HasNode, HasChanges, ShowsCapacities, ShowsFree, PacksDemands, RunsWith}
use Rattle.event_line.specs.Journal.{booking_of, bookings_in, nodes_with, IsEntry}
use Rattle.event_line.specs.Timeline.{IsUnbooked}
use Rattle.event_line.specs.LineView.{IsShown}
use Rattle.event_line.proofs.ChainLaws.{kept_node}
use Rattle.event_line.proofs.RowLaws.{share_empty, share_here}
use Rattle.event_line.proofs.SteadyLaws.{IsMarked}
use Rattle.event_line.proofs.FitLaws.{left_in, capacity_at-le}
use Rattle.event_line.proofs.JournalLaws.{journal_rises, journal_all, journal_push, journal_front, journal_newest, journal_same, nodes_with_push, bookings_push, once_push, once_front}

-- more nodes are nodes of a chain with more nodes
node_more : (periods : List ℕ) (n m p : ℕ) → n ≤ m → HasNode periods n p → HasNode periods m p
node_more periods n m p le node =
    let inside = node.1 in
    (node.0, omega arith, node.2)

-- what is shown stands at nodes
pub shown_marked : (project : Project) (base : ℕ) (periods : List ℕ) (rows : List (List ℕ))
    (entries : List Entry)
    → IsShown project base periods rows entries
    → IsMarked project (bookings_in entries) periods
shown_marked project base periods rows entries shown =
    let n = length periods in
    let rises = journal_rises project periods base entries shown.journal in
    let nodes = shown.nodes in
    let P : Booking → Type 0 = λ (b : Booking). 0 < duration project b.activity
    → HasNode periods n b.start × HasNode periods n (finish project b) in
    record {
      changes = All-weaker (λ (c : Change). HasNode periods base c.period)
          (λ (c : Change). HasNode periods n c.period)
          (λ c h. node_more periods base n c.period (omega arith) h) project.changes shown.changes;
      bookings = All-map P booking_of entries (All-weaker
          (λ e. IsEntry project periods e × (e.nodes ≤ nodes_with base entries))
          (λ (e : Entry). P (booking_of e))
          (λ e h runs.
          let first = h.0.first in
          let end = h.0.end in
          let within = h.1 in
          ((e.first, omega arith, h.0.start runs), (e.end, omega arith, h.0.finish runs)))
          entries (journal_all project periods base entries shown.journal));
    }

-- the share of a resource is what the booking uses of it
share_use : (project : Project) (demands : List ℕ) (booking : Booking) (start end p j : ℕ)
    → get_or demands j 0 ≡ demand project booking.activity (j + 1)
    → booking.start ≡ start → finish project booking ≡ end
    → share demands start end p j ≡ use_of project (j + 1) p booking
share_use project demands booking start end p j same es ee = rw (sym es, sym ee, same) refl

-- with a booking made, the rows have what it leaves
free_booked : (project : Project) (bookings : List Booking) (booking : Booking)
    (periods : List ℕ) (rows : List (List ℕ)) (periods' : List ℕ)
    (rows' : List (List ℕ)) (demands : List ℕ) (start end : ℕ)
    → IsMarked project bookings periods → ShowsFree project bookings periods rows
    → AreDemands project booking.activity demands
    → IsBooked periods rows periods' rows' demands start end
    → booking.start ≡ start → finish project booking ≡ end
    → ShowsFree project (bookings ++ booking ∷ []) periods' rows'
free_booked project bookings booking periods rows periods' rows' demands start end marked shows are
    booked es ee = record {
      left = λ i j h hj.
          let row = booked.each i h in
          let o = row.0 in
          let p = get_or periods' i 0 in
          let taken = row.2 j (omega (arith, are.count)) in
          omega (
            arith,
            taken,
            left_in project bookings periods rows o p j marked shows row.1 hj,
            share_use project demands booking start end p j (are.each j hj) es ee,
            usage_push project bookings booking (j + 1) p,
          );
    }

-- with the newest booking taken away, the rows have what it used
free_undone : (project : Project) (bookings : List Booking) (booking : Booking)
    (periods : List ℕ) (rows rows' : List (List ℕ)) (demands : List ℕ) (start end : ℕ)
    → ShowsFree project (bookings ++ booking ∷ []) periods rows
    → length demands ≡ resource_count project
    → IsTaken periods rows' rows demands start end
    → ((p j : ℕ) → j < resource_count project
    → share demands start end p j ≡ use_of project (j + 1) p booking)
    → ShowsFree project bookings periods rows'
free_undone project bookings booking periods rows rows' demands start end shows count taken same =
    record {
      left = λ i j h hj.
          let p = get_or periods i 0 in
          let given = taken.each i j h (omega (arith, count)) in
          omega (
            arith,
            given,
            shows.left i j h hj,
            same p j hj,
            usage_push project bookings booking (j + 1) p,
          );
    }

-- an activity that takes no time uses nothing
use_idle : (project : Project) (booking : Booking) (k p : ℕ)
    → duration project booking.activity ≡ 0 → use_of project k p booking ≡ 0
use_idle project booking k p e = grind (arith, nat_tests)

-- nor does it change what the rows have
free_idle : (project : Project) (bookings : List Booking) (booking : Booking)
    (periods : List ℕ) (rows : List (List ℕ))
    → duration project booking.activity ≡ 0 → ShowsFree project bookings periods rows
    → ShowsFree project (bookings ++ booking ∷ []) periods rows
free_idle project bookings booking periods rows idle shows = record {
  left = λ i j h hj.
      let p = get_or periods i 0 in
      omega (
        arith,
        shows.left i j h hj,
        usage_push project bookings booking (j + 1) p,
        use_idle project booking (j + 1) p idle,
      );
}

-- changes stay where they are as nodes come after theirs
changes_same : (project : Project) (periods periods' : List ℕ) (n : ℕ)
    → ((i : ℕ) → i < n → get_or periods' i 0 ≡ get_or periods i 0)
    → HasChanges project periods n → HasChanges project periods' n
changes_same project periods periods' n same changes =
    All-weaker (λ (c : Change). HasNode periods n c.period)
    (λ (c : Change). HasNode periods' n c.period)
    (λ c h. (h.0, h.1, same h.0 h.1 ∙ h.2)) project.changes changes

-- a booking that is made is shown
pub shown_booked : (project : Project) (base : ℕ) (periods : List ℕ) (rows : List (List ℕ)) (periods' : List ℕ)
    (rows' : List (List ℕ)) (demands : List ℕ)
    (entries : List Entry) (entry : Entry) (start end : ℕ)
    → IsShown project base periods rows entries → AreDemands project entry.activity demands
    → IsBooked periods rows periods' rows' demands start end → IsLonger periods periods'
    → length periods' ≤ length periods + 2 → entry.nodes ≡ length periods'
    → entry.start ≡ start → entry.start + duration project entry.activity ≡ end
    → IsEntry project periods' entry → IsUnbooked (bookings_in entries) entry.activity
    → IsShown project base periods' rows' (entries ++ entry ∷ [])
shown_booked project base periods rows periods' rows' demands entries entry start end shown are
    booked longer few en es ee here unbooked =
    let rises = journal_rises project periods base entries shown.journal in
    let nodes = shown.nodes in
    let long = longer.long in
    let marked = shown_marked project base periods rows entries shown in
    record {
      changes = changes_same project periods periods' base (λ i h. longer.same i (omega arith))
          shown.changes;
      free = rw (bookings_push entries entry) (free_booked project (bookings_in entries)
          (booking_of entry) periods rows periods' rows' demands start end marked shown.free are booked
          es ee);
      journal = journal_push project periods' base entries entry
          (journal_same project periods periods' base entries (λ i h. longer.same i (omega arith))
          shown.journal) (omega arith) (omega arith) here;
      nodes = sym en ∙ sym (nodes_with_push base entries entry);
      once = once_push entries entry shown.once unbooked;
    }

-- so is one that takes no time, with nothing done
pub shown_idle : (project : Project) (base : ℕ) (periods : List ℕ) (rows : List (List ℕ))
    (entries : List Entry)
    (entry : Entry)
    → IsShown project base periods rows entries → duration project entry.activity ≡ 0
    → entry.nodes ≡ length periods → IsEntry project periods entry
    → IsUnbooked (bookings_in entries) entry.activity
    → IsShown project base periods rows (entries ++ entry ∷ [])
shown_idle project base periods rows entries entry shown idle en here unbooked =
    let nodes = shown.nodes in
    record {
      changes = shown.changes;
      free = rw (bookings_push entries entry) (free_idle project (bookings_in entries)
          (booking_of entry) periods rows idle shown.free);
      journal = journal_push project periods base entries entry shown.journal (omega arith)
          (omega arith) here;
      nodes = sym en ∙ sym (nodes_with_push base entries entry);
      once = once_push entries entry shown.once unbooked;
    }

-- what the newest entry tells
pub record IsNewest (project : Project) (base : ℕ) (periods : List ℕ) (entries : List Entry)
    (entry : Entry) : Type 0 where
  pub is : IsEntry project periods entry
  pub first : entry.first < length periods
  pub end : entry.end < length periods
  pub more : base ≤ nodes_with base entries
  pub fewer : nodes_with base entries ≤ length periods

pub newest_entry : (project : Project) (base : ℕ) (periods : List ℕ) (rows : List (List ℕ))
    (entries : List Entry)
    (entry : Entry)
    → IsShown project base periods rows (entries ++ entry ∷ [])
    → IsNewest project base periods entries entry
newest_entry project base periods rows entries entry shown =
    let newest = journal_newest project periods base entries entry shown.journal in
    let push = nodes_with_push base entries entry in
    let nodes = shown.nodes in
    let first = newest.0.first in
    let end = newest.0.end in
    let fewer = newest.1 in
    record {
      is = newest.0;
      first = omega arith;
      end = omega arith;
      more = journal_rises project periods base entries
          (journal_front project periods base entries entry shown.journal);
      fewer = omega arith;
    }

-- an entry's first node comes no later than its end
pub entry_rise : (project : Project) (periods : List ℕ) (entry : Entry)
    → IsEntry project periods entry → get_or periods entry.first 0 ≤ get_or periods entry.end 0
entry_rise project periods entry is =
    elim (cases_lt 0 (duration project entry.activity)) [
      | inl runs ↦ omega (arith, is.start runs, is.finish runs)
      | inr idle ↦ omega (arith, ap (λ i. get_or periods i 0) (is.idle (omega arith)))
    ]

-- what an entry's nodes share is what its booking uses
pub entry_share : (project : Project) (periods demands : List ℕ) (entry : Entry) (p j : ℕ)
    → IsEntry project periods entry → RunsWith project entry.activity demands
    → j < resource_count project
    → share demands (get_or periods entry.first 0) (get_or periods entry.end 0) p j
    ≡ use_of project (j + 1) p (booking_of entry)
entry_share project periods demands entry p j is are h =
    elim (cases_lt 0 (duration project entry.activity)) [
      | inl runs ↦
          share_use project demands (booking_of entry) _ _ p j (are.each j h runs) (sym (is.start runs))
          (sym (is.finish runs))
      | inr idle ↦
          let none : duration project entry.activity ≡ 0 = omega arith in
          let same = is.idle none in
          let nothing = use_idle project (booking_of entry) (j + 1) p none in
          rw (same, nothing) (share_empty demands (get_or periods entry.end 0) p j)
    ]

-- a booking uses what its activity demands while it runs
use_runs : (project : Project) (booking : Booking) (k p : ℕ)
    → booking.start ≤ p → p < finish project booking
    → use_of project k p booking ≡ demand project booking.activity k
use_runs project booking k p from before = grind (arith, nat_tests)

-- what is packed for the newest booking is what it uses: it fits a row, since it was booked
pub newest_runs : (project : Project) (base : ℕ) (periods : List ℕ) (rows : List (List ℕ))
    (demands : List ℕ) (entries : List Entry) (entry : Entry)
    → IsWithinLimits project → IsShown project base periods rows (entries ++ entry ∷ [])
    → PacksDemands project entry.activity demands → RunsWith project entry.activity demands
newest_runs project base periods rows demands entries entry limits shown packs = record {
  count = packs.count;
  each = λ j h runs.
      let newest = newest_entry project base periods rows entries entry shown in
      let p = get_or periods entry.first 0 in
      let start = newest.is.start runs in
      let left = rw (bookings_push entries entry) at (shown.free.left entry.first j newest.first h) in
      let most = capacity_at-le project (j + 1) p limits (omega arith, omega arith) in
      let used = usage_push project (bookings_in entries) (booking_of entry) (j + 1) p in
      let here = use_runs project (booking_of entry) (j + 1) p (omega arith) (omega arith) in
      packs.each j h (omega arith);
}

-- the demands of the newest booking can be given back
pub can_take_back : (project : Project) (base : ℕ) (periods : List ℕ) (rows : List (List ℕ)) (demands : List ℕ)
    (entries : List Entry) (entry : Entry)
    → IsWithinLimits project → IsShown project base periods rows (entries ++ entry ∷ [])
    → RunsWith project entry.activity demands
    → CanTakeBack periods rows demands entry.first entry.end
can_take_back project base periods rows demands entries entry limits shown are = record {
  each = λ i j h hj from before.
      let below : j < resource_count project = omega (arith, are.count) in
      let p = get_or periods i 0 in
      let newest = (journal_newest project periods base entries entry shown.journal).0 in
      let left = rw (bookings_push entries entry) at (shown.free.left i j h below) in
      let most = capacity_at-le project (j + 1) p limits (omega arith, omega arith) in
      let used = usage_push project (bookings_in entries) (booking_of entry) (j + 1) p in
      let here = entry_share project periods demands entry p j newest are below in
      let share = share_here demands (get_or periods entry.first 0) p
      (get_or periods entry.end 0) j from before in
      omega arith;
}

-- with the newest booking taken away, the older ones are shown
pub shown_undone : (project : Project) (base : ℕ) (periods : List ℕ) (rows rows' : List (List ℕ)) (demands : List ℕ)
    (entries : List Entry) (entry : Entry) (n : ℕ)
    → IsShown project base periods rows (entries ++ entry ∷ [])
    → RunsWith project entry.activity demands
    → IsTaken periods rows' rows demands (get_or periods entry.first 0) (get_or periods entry.end 0)
    → n ≡ nodes_with base entries → IsShown project base (take n periods) rows' entries
shown_undone project base periods rows rows' demands entries entry n shown are taken en =
    let front = journal_front project periods base entries entry shown.journal in
    let newest = journal_newest project periods base entries entry shown.journal in
    let rises = journal_rises project periods base entries front in
    let fewer = newest.1 in
    let push = nodes_with_push base entries entry in
    let nodes = shown.nodes in
    let long : length (take n periods) ≡ n = omega (arith, length-take n periods) in
    let undone = free_undone project (bookings_in entries) (booking_of entry) periods rows rows'
    demands (get_or periods entry.first 0) (get_or periods entry.end 0)
    (rw (bookings_push entries entry) at shown.free) are.count taken
    (λ p j h. entry_share project periods demands entry p j newest.0 are h) in
    record {
      changes = changes_same project periods (take n periods) base
          (λ i h. kept_node periods n i (omega arith)) shown.changes;
      free = record {
        left = λ i j h hj. rw (kept_node periods n i (omega arith)) (undone.left i j (omega arith) hj);
      };
      journal = journal_same project periods (take n periods) base entries
          (λ i h. kept_node periods n i (omega arith)) front;
      nodes = long ∙ en;
      once = once_front entries entry shown.once;
    }

-- rows that are the same show the same
pub shown_same : (project : Project) (base : ℕ) (periods : List ℕ) (rows rows' : List (List ℕ))
    (entries : List Entry)
    → IsShown project base periods rows entries
    → ((i : ℕ) → i < length periods → row_at rows' i ≡ row_at rows i)
    → IsShown project base periods rows' entries
shown_same project base periods rows rows' entries shown same = record {
  changes = shown.changes;
  free = record { left = λ i j h hj. rw (same i h) (shown.free.left i j h hj) };
  journal = shown.journal;
  nodes = shown.nodes;
  once = shown.once;
}

-- without bookings the rows have the capacities
pub shown_empty : (project : Project) (periods : List ℕ) (rows : List (List ℕ))
    → HasChanges project periods (length periods) → ShowsCapacities project periods rows
    → IsShown project (length periods) periods rows []
shown_empty project periods rows changes shows = record {
  changes = changes;
  free = record { left = λ i j h hj. omega (arith, shows.each i j h hj) };
  journal = tt;
  nodes = refl;
  once = λ i j d below within. Prim.absurd (omega arith);
}

-- the nodes of another chain stay as others are taken away
pub longer_fewer : (first periods : List ℕ) (n : ℕ) → IsLonger first periods
    → length first ≤ n → n ≤ length periods → IsLonger first (take n periods)
longer_fewer first periods n longer few within = record {
  long = omega (arith, length-take n periods);
  same = λ i h. kept_node periods n i (omega arith) ∙ longer.same i h;
}
