-- When an activity can start beside bookings.
use Rattle.std.proofs.Common.{◌≡◌, ℕ, ◌<◌, ◌≤◌, Bool, true, not, ◌&&◌, List, [], ◌∷◌, ◌++◌, get_or, sym, ◌∙◌, subst, inl, inr, arith, nat_le, leb-true, le-leb}
use Rattle.std.specs.Bool.{Decides}
use Rattle.std.specs.List.{Contains, list_all}
use Rattle.std.proofs.lemmas.Bool.{cases_lt, cond-true}
use Rattle.std.proofs.lemmas.Bool.Decides.{Decides-like, Decides-and, Decides-not}
use Rattle.std.proofs.lemmas.List.{map_push}
use Rattle.std.proofs.lemmas.List.Elements.{All-contains, Contains-get_or, Contains-append_left, Contains-push_cases}
use Rattle.std.proofs.lemmas.List.Sums.{list_all-from_AllPass, AllPass-from_list_all}
use Rattle.rc_instance.specs.Lists.{names}
use Rattle.rc_instance.specs.Project.{Project, IsActivity, Precedes, precedes}
use Rattle.rc_instance.specs.Usage.{Booking, finish, ready_time, fits, least_start}
use Rattle.rc_instance.proofs.ListLaws.{names_decides}
use Rattle.rc_instance.proofs.UsageLaws.{Fits-fewer, ready_time-le-append, ready_time_push}
use Rattle.rc_instance.proofs.StartLaws.{fits_decides, least_start-exact}
use Rattle.activity_net.specs.Network.{predecessors_of}
use Rattle.activity_net.proofs.NameLaws.{contains_named, named_contains}
use Rattle.activity_net.proofs.RemovalLaws.{named_predecessor, predecessor_named}
use Rattle.parallel_scheme.specs.Parallel.{CanStart, can_start, activities_of}

-- a test of each of some numbers tells whether each that they name passes
pub all_named_decides : (test : ℕ → Bool) (xs : List ℕ)
    → Decides (list_all test xs) ((x : ℕ) → names xs x ≡ true → test x ≡ true)
all_named_decides test xs = (
  λ h x named. All-contains (λ y. test y ≡ true) xs x (AllPass-from_list_all test xs h)
      (contains_named xs x named),
  λ h. list_all-from_AllPass test xs
      (λ k d within. h (get_or xs k d) (named_contains xs _ (Contains-get_or xs k d within))),
)

le_decides : (m n : ℕ) → Decides (nat_le m n) (m ≤ n)
le_decides m n = (leb-true m n, le-leb m n)

-- `can_start` tells whether an activity can start
pub can_start_decides : (project : Project) (bookings : List Booking) (t a : ℕ)
    → IsActivity project a
    → Decides (can_start project bookings t a) (CanStart project bookings t a)
unfolding can_start
can_start_decides project bookings t a activity =
    let booked = activities_of bookings in
    let before = predecessors_of project a in
    let ready = nat_le (ready_time project bookings a) t in
    let room = fits project bookings a t in
    let waits = list_all (names booked) before in
    Decides-like (not (names booked a) && (waits && (ready && room)))
    (λ h. record {
      eligible = record {
        activity = activity;
        unlisted = h.0;
        ready = λ p is precedes. contains_named booked p
            (h.1.0 p (named_predecessor project p a is ∙ precedes));
      };
      ready = h.1.1.0;
      fits = h.1.1.1;
    })
    (λ h. (
      h.eligible.unlisted,
      (
        λ p named. named_contains booked p
            (h.eligible.ready p (predecessor_named project p a named).0
            (predecessor_named project p a named).1),
        (h.ready, h.fits),
      ),
    ))
    (Decides-and (not (names booked a)) (waits && (ready && room))
    (Decides-not (names booked a) (names_decides booked a))
    (Decides-and waits (ready && room) (all_named_decides (names booked) before)
    (Decides-and ready room (le_decides (ready_time project bookings a) t)
    (fits_decides project bookings a t))))

-- where an activity can start, and could not before, it is the least start
pub start_least : (project : Project) (bookings : List Booking) (t a : ℕ)
    → ((u : ℕ) → u < t → CanStart project bookings u a → ⊥) → CanStart project bookings t a
    → least_start project bookings a ≡ t
start_least project bookings t a waits can =
    least_start-exact project bookings a t (record {
      after = can.ready;
      fits = can.fits;
      least = λ u from fits.
          elim (cases_lt u t) as (λ _. t ≤ u) [
            | inl early ↦ Prim.absurd
                (waits u early (record { eligible = can.eligible; ready = from; fits = fits }))
            | inr late ↦ late
          ];
    })

-- where an activity can start beside one more booking, not of a direct predecessor, it can without
pub can_start_without : (project : Project) (bookings : List Booking) (booking : Booking) (u b : ℕ)
    → (Precedes project booking.activity b → ⊥)
    → CanStart project (bookings ++ booking ∷ []) u b → CanStart project bookings u b
can_start_without project bookings booking u b other can =
    let more = map_push (λ (x : Booking). x.activity) bookings booking in
    record {
      eligible = record {
        activity = can.eligible.activity;
        unlisted = λ h. can.eligible.unlisted
            (rw more (Contains-append_left (activities_of bookings) (booking.activity ∷ []) b h));
        ready = λ p is before.
            elim (Contains-push_cases (activities_of bookings) booking.activity p
            (rw more at (can.eligible.ready p is before)))
            as (λ _. Contains (activities_of bookings) p) [
              | inl earlier ↦ earlier
              | inr same ↦ Prim.absurd
                  (other (subst (λ q. Precedes project q b) (sym same) before))
            ];
      };
      ready = omega (arith, can.ready, ready_time-le-append project bookings (booking ∷ []) b);
      fits = Fits-fewer project bookings (booking ∷ []) b u can.fits;
    }

-- so it can before the start of any one more booking
pub can_start_earlier : (project : Project) (bookings : List Booking) (booking : Booking) (u b : ℕ)
    → u < booking.start
    → CanStart project (bookings ++ booking ∷ []) u b → CanStart project bookings u b
can_start_earlier project bookings booking u b early can =
    can_start_without project bookings booking u b
    (λ before.
    let e = ready_time_push project bookings booking b in
    let f = cond-true (precedes project booking.activity b) (finish project booking) 0 before in
    let ready = can.ready in
    omega (arith, e, f, ready))
    can
