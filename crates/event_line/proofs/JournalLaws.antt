-- What the journal of a line tells of its nodes.
use Rattle.std.proofs.Common.{◌≡◌, ◌≢◌, ℕ, zero, suc, ◌+◌, ◌*◌, ◌<◌, ◌≤◌, List, [], ◌∷◌, ◌++◌, length, map, get_or, refl, sym, ◌∙◌, subst, subst₂, arith, length-append}
use Rattle.std.specs.List.{All, AllPairs, Contains, sum_by}
use Rattle.std.proofs.lemmas.List.{map-append, length-map, get_or-map, get_or_append_left}
use Rattle.std.proofs.lemmas.List.Elements.{All-nil, All-cons, All-push, All-weaker, All-map}
use Rattle.std.proofs.lemmas.List.Quantifiers.{all_pairs_push}
use Rattle.std.proofs.lemmas.List.Sums.{sum_by-cons}
use Rattle.rc_instance.specs.Lists.{numbers}
use Rattle.rc_instance.specs.Project.{Project, IsActivity, activity_count}
use Rattle.rc_instance.specs.Usage.{Booking}
use Rattle.rc_instance.proofs.ListLaws.{length-numbers}
use Rattle.rc_instance.proofs.OrderLaws.{sum_by-distinct, Contains-numbers}
use Rattle.event_line.specs.declared.entry.Entry.{Entry}
use Rattle.event_line.specs.Journal.{booking_of, bookings_in, nodes_with, IsEntry, IsJournal}
use Rattle.event_line.specs.Timeline.{IsUnbooked}

-- a sum of ones is the length
ones : (xs : List ℕ) → sum_by (λ _. 1) xs ≡ length xs
ones [] = refl
ones (x ∷ xs) = omega (arith, sum_by-cons (λ (_ : ℕ). 1) x xs, ones xs)

-- how many nodes there are with the last entry
pub nodes_with-last : (before : ℕ) (entries : List Entry) (n : ℕ) (d : Entry)
    → length entries ≡ suc n → nodes_with before entries ≡ (get_or entries n d).nodes
nodes_with-last before [] n d e = Prim.absurd (omega arith)
nodes_with-last before (x ∷ []) zero d e = refl
nodes_with-last before (x ∷ []) (suc n) d e = Prim.absurd (omega arith)
nodes_with-last before (x ∷ y ∷ entries) zero d e = Prim.absurd (omega arith)
nodes_with-last before (x ∷ y ∷ entries) (suc n) d e =
    nodes_with-last x.nodes (y ∷ entries) n d (omega arith)

-- no entry takes nodes away
pub journal_rises : (project : Project) (periods : List ℕ) (before : ℕ) (entries : List Entry)
    → IsJournal project periods before entries → before ≤ nodes_with before entries
journal_rises project periods before [] is = omega arith
journal_rises project periods before (entry ∷ entries) is =
    omega (arith, is.0, journal_rises project periods entry.nodes entries is.3)

-- and each makes at most two
pub journal_few : (project : Project) (periods : List ℕ) (before : ℕ) (entries : List Entry)
    → IsJournal project periods before entries
    → nodes_with before entries ≤ before + 2 * length entries
journal_few project periods before [] is = omega arith
journal_few project periods before (entry ∷ entries) is =
    omega (arith, is.1, journal_few project periods entry.nodes entries is.3)

-- each entry tells of nodes that are there
pub journal_all : (project : Project) (periods : List ℕ) (before : ℕ) (entries : List Entry)
    → IsJournal project periods before entries
    → All (λ e. IsEntry project periods e × (e.nodes ≤ nodes_with before entries)) entries
journal_all project periods before [] is = All-nil _
journal_all project periods before (entry ∷ entries) is =
    let rises = journal_rises project periods entry.nodes entries is.3 in
    All-cons (λ e. IsEntry project periods e × (e.nodes ≤ nodes_with entry.nodes entries)) entry
    entries (is.2, rises) (journal_all project periods entry.nodes entries is.3)

-- how many nodes there are with one more entry
pub nodes_with_push : (before : ℕ) (entries : List Entry) (entry : Entry)
    → nodes_with before (entries ++ entry ∷ []) ≡ entry.nodes
nodes_with_push before [] entry = refl
nodes_with_push before (first ∷ entries) entry = nodes_with_push first.nodes entries entry

-- a journal with one more entry
pub journal_push : (project : Project) (periods : List ℕ) (before : ℕ) (entries : List Entry)
    (entry : Entry)
    → IsJournal project periods before entries → nodes_with before entries ≤ entry.nodes
    → entry.nodes ≤ nodes_with before entries + 2 → IsEntry project periods entry
    → IsJournal project periods before (entries ++ entry ∷ [])
journal_push project periods before [] entry is le few here = (le, few, here, tt)
journal_push project periods before (first ∷ entries) entry is le few here = (
  is.0,
  is.1,
  is.2,
  journal_push project periods first.nodes entries entry is.3 le few here,
)

-- and without its newest one
pub journal_front : (project : Project) (periods : List ℕ) (before : ℕ) (entries : List Entry)
    (entry : Entry)
    → IsJournal project periods before (entries ++ entry ∷ [])
    → IsJournal project periods before entries
journal_front project periods before [] entry is = tt
journal_front project periods before (first ∷ entries) entry is = (
  is.0,
  is.1,
  is.2,
  journal_front project periods first.nodes entries entry is.3,
)

-- what the newest entry tells
pub journal_newest : (project : Project) (periods : List ℕ) (before : ℕ) (entries : List Entry)
    (entry : Entry)
    → IsJournal project periods before (entries ++ entry ∷ [])
    → IsEntry project periods entry × (nodes_with before entries ≤ entry.nodes)
journal_newest project periods before [] entry is = (is.2, is.0)
journal_newest project periods before (first ∷ entries) entry is =
    journal_newest project periods first.nodes entries entry is.3

-- an entry tells the same of nodes that stand where they did
entry_same : (project : Project) (periods periods' : List ℕ) (entry : Entry)
    → ((i : ℕ) → i < entry.nodes → get_or periods' i 0 ≡ get_or periods i 0)
    → IsEntry project periods entry → IsEntry project periods' entry
entry_same project periods periods' entry same is = record {
  activity = is.activity;
  first = is.first;
  end = is.end;
  start = λ runs. same entry.first is.first ∙ is.start runs;
  finish = λ runs. same entry.end is.end ∙ is.finish runs;
  idle = is.idle;
}

-- and so does a journal
pub journal_same : (project : Project) (periods periods' : List ℕ) (before : ℕ)
    (entries : List Entry)
    → ((i : ℕ) → i < nodes_with before entries → get_or periods' i 0 ≡ get_or periods i 0)
    → IsJournal project periods before entries → IsJournal project periods' before entries
journal_same project periods periods' before [] same is = tt
journal_same project periods periods' before (entry ∷ entries) same is =
    let rises = journal_rises project periods entry.nodes entries is.3 in (
      is.0,
      is.1,
      entry_same project periods periods' entry (λ i h. same i (omega arith)) is.2,
      journal_same project periods periods' entry.nodes entries same is.3,
    )

-- the bookings with one more entry
pub bookings_push : (entries : List Entry) (entry : Entry)
    → bookings_in (entries ++ entry ∷ []) ≡ bookings_in entries ++ booking_of entry ∷ []
bookings_push entries entry = map-append booking_of entries (entry ∷ [])

-- an activity that is not booked is that of no entry
pub unbooked_entries : (entries : List Entry) (a k : ℕ) (d : Entry)
    → IsUnbooked (bookings_in entries) a → k < length entries → (get_or entries k d).activity ≢ a
unbooked_entries entries a k d unbooked h =
    let long = length-map entries booking_of in
    let same = get_or-map booking_of entries k d (booking_of d) h in
    let other = unbooked k (booking_of d) (omega arith) in
    subst (λ (b : Booking). b.activity ≢ a) same other

-- entries of distinct activities with one more
pub once_push : (entries : List Entry) (entry : Entry)
    → AllPairs (λ (a b : Entry). a.activity ≢ b.activity) entries
    → IsUnbooked (bookings_in entries) entry.activity
    → AllPairs (λ (a b : Entry). a.activity ≢ b.activity) (entries ++ entry ∷ [])
once_push entries entry once unbooked =
    all_pairs_push (λ (a b : Entry). a.activity ≢ b.activity) entries entry once
    (λ k d h. unbooked_entries entries entry.activity k d unbooked h)

-- and without the newest one
pub once_front : (entries : List Entry) (entry : Entry)
    → AllPairs (λ (a b : Entry). a.activity ≢ b.activity) (entries ++ entry ∷ [])
    → AllPairs (λ (a b : Entry). a.activity ≢ b.activity) entries
once_front entries entry once = λ i j d below within.
    let long = length-append entries (entry ∷ []) in
    let pair = once i j d below (omega arith) in
    let first = get_or_append_left entries (entry ∷ []) d i (omega arith) in
    let second = get_or_append_left entries (entry ∷ []) d j within in
    subst₂ (λ (a b : Entry). a.activity ≢ b.activity) first second pair

-- distinct activities are at most as many as there are
distinct_few : (project : Project) (activities : List ℕ) → AllPairs (λ a b. a ≢ b) activities
    → All (IsActivity project) activities → length activities ≤ activity_count project
distinct_few project activities distinct all =
    let n = activity_count project in
    omega (
      arith,
      sum_by-distinct (λ _. 1) activities (numbers n) distinct (All-weaker (IsActivity project)
          (Contains (numbers n)) (λ a h. Contains-numbers n a h.0 h.1) activities all),
      ones activities,
      ones (numbers n),
      length-numbers n,
    )

-- the activities of the entries
abbrev pub activities_in : List Entry → List ℕ
activities_in entries = map (λ (e : Entry). e.activity) entries

-- they are distinct
distinct_entries : (entries : List Entry)
    → AllPairs (λ (a b : Entry). a.activity ≢ b.activity) entries
    → AllPairs (λ a b. a ≢ b) (activities_in entries)
distinct_entries entries once = λ i j d below within.
    let long = length-map entries (λ (e : Entry). e.activity) in
    let e : Entry = record { activity = d; start = 0; first = 0; end = 0; nodes = 0 } in
    subst₂ (λ a b. a ≢ b)
    (sym (get_or-map (λ (e : Entry). e.activity) entries i e d (omega arith)))
    (sym (get_or-map (λ (e : Entry). e.activity) entries j e d (omega arith)))
    (once i j e below (omega arith))

-- and activities of the project
all_activities : (project : Project) (periods : List ℕ) (before : ℕ) (entries : List Entry)
    → IsJournal project periods before entries
    → All (IsActivity project) (activities_in entries)
all_activities project periods before entries is =
    All-map (IsActivity project) (λ (e : Entry). e.activity) entries
    (All-weaker (λ e. IsEntry project periods e × (e.nodes ≤ nodes_with before entries))
    (λ (e : Entry). IsActivity project e.activity) (λ e h. h.0.activity) entries
    (journal_all project periods before entries is))

-- so there are at most as many entries as activities
pub entries_few : (project : Project) (periods : List ℕ) (before : ℕ) (entries : List Entry)
    → IsJournal project periods before entries
    → AllPairs (λ (a b : Entry). a.activity ≢ b.activity) entries
    → length entries ≤ activity_count project
entries_few project periods before entries is once =
    omega (
      arith,
      distinct_few project (activities_in entries) (distinct_entries entries once)
          (all_activities project periods before entries is),
      length-map entries (λ (e : Entry). e.activity),
    )

-- and fewer as long as one of these is not booked
pub entries_fewer : (project : Project) (periods : List ℕ) (before : ℕ) (entries : List Entry)
    (a : ℕ)
    → IsJournal project periods before entries
    → AllPairs (λ (a b : Entry). a.activity ≢ b.activity) entries → IsActivity project a
    → IsUnbooked (bookings_in entries) a → length entries < activity_count project
entries_fewer project periods before entries a is once activity unbooked =
    let activities = activities_in entries in
    let count = length-map entries (λ (e : Entry). e.activity) in
    let distinct = all_pairs_push (λ a b. a ≢ b) activities a (distinct_entries entries once)
    (λ k d h.
    let e : Entry = record { activity = d; start = 0; first = 0; end = 0; nodes = 0 } in
    subst (λ x. x ≢ a) (sym (get_or-map (λ (e : Entry). e.activity) entries k e d (omega arith)))
    (unbooked_entries entries a k e unbooked (omega arith))) in
    let all = All-push (IsActivity project) activities a
    (all_activities project periods before entries is) activity in
    omega (
      arith,
      distinct_few project (activities ++ a ∷ []) distinct all,
      count,
      length-append activities (a ∷ []),
    )
