-- Schedules as lists of starts: one start written, one more start, the makespan so far.
use Rattle.std.proofs.Common.{◌≡◌, ◌≢◌, ℕ, zero, suc, ◌+◌, ◌-◌, ◌<◌, ◌≤◌, max, List, [], ◌∷◌, ◌++◌, length, get_or, take, drop, set, sym, refl, ap, ◌∙◌, subst, arith, add-zero, get_or-set_same, get_or-set_other, length-take-le, slice_index, drop-cons, eq-eqb, ne_eqb}
use Rattle.std.specs.List.{All, AllPairs}
use Rattle.std.proofs.lemmas.Bool.{cond-true, cond-false}
use Rattle.std.proofs.lemmas.List.{take_more}
use Rattle.std.proofs.lemmas.List.Elements.{All-get_or, All-cons, All-nil}
use Rattle.rc_instance.specs.Project.{Project, duration}
use Rattle.rc_instance.specs.Usage.{Booking, finish, last_finish, usage, use_of}
use Rattle.rc_instance.specs.Schedule.{start_at, bookings_from, bookings_of, makespan, start_of}
use Rattle.rc_instance.proofs.UsageLaws.{usage_push, finish-le-last_finish}

-- the start that was written for an activity
pub start_at-set_same : (starts : List ℕ) (a t : ℕ) → 1 ≤ a → a ≤ length starts
    → start_at (set starts (a - 1) t) a ≡ t
unfolding start_at
start_at-set_same starts a t from upto = get_or-set_same starts (a - 1) t 0 (omega arith)

-- the starts of other activities stay
pub start_at-set_other : (starts : List ℕ) (a b t : ℕ) → 1 ≤ a → 1 ≤ b → a ≢ b
    → start_at (set starts (a - 1) t) b ≡ start_at starts b
unfolding start_at
start_at-set_other starts a b t from other ne =
    get_or-set_other starts (a - 1) (b - 1) t 0 (omega arith)

-- there are as many bookings as starts
pub length-bookings_from : (starts : List ℕ) (a : ℕ)
    → length (bookings_from a starts) ≡ length starts
length-bookings_from [] a = refl
length-bookings_from (start ∷ starts) a = ap suc (length-bookings_from starts (a + 1))

-- the booking at place i
pub get_or-bookings_from : (starts : List ℕ) (a i : ℕ) (d : Booking) → i < length starts
    → get_or (bookings_from a starts) i d ≡ record { activity = a + i; start = get_or starts i 0 }
get_or-bookings_from [] a i d within = Prim.absurd (omega arith)
get_or-bookings_from (start ∷ starts) a zero d within =
    ap (λ (n : ℕ). let b : Booking = record { activity = n; start = start } in b) (sym (add-zero a))
get_or-bookings_from (start ∷ starts) a (suc i) d within =
    get_or-bookings_from starts (a + 1) i d (omega arith)
    ∙ ap (λ (n : ℕ). let b : Booking = record { activity = n; start = get_or starts i 0 } in b)
    (omega arith)

-- one more start books the next activity
pub bookings_from_push : (starts : List ℕ) (a t : ℕ)
    → bookings_from a (starts ++ t ∷ [])
    ≡ bookings_from a starts ++ record { activity = a + length starts; start = t } ∷ []
bookings_from_push [] a t =
    ap (λ (n : ℕ). let bs : List Booking = record { activity = n; start = t } ∷ [] in bs)
    (sym (add-zero a))
bookings_from_push (start ∷ starts) a t =
    ap (λ bs. record { activity = a; start = start } ∷ bs)
    (bookings_from_push starts (a + 1) t
    ∙ ap (λ (n : ℕ). bookings_from (a + 1) starts ++ record { activity = n; start = t } ∷ [])
    (omega arith))

-- the bookings of the first i + 1 starts
pub bookings_of_more : (starts : List ℕ) (i : ℕ) → i < length starts
    → bookings_of (take (i + 1) starts)
    ≡ bookings_of (take i starts) ++ record { activity = i + 1; start = slice_index starts i } ∷ []
bookings_of_more starts i within =
    ap bookings_of (take_more starts i 0 within)
    ∙ (bookings_from_push (take i starts) 1 (slice_index starts i)
    ∙ ap (λ (n : ℕ). bookings_of (take i starts) ++ record {
      activity = n;
      start =
          slice_index starts i;
    } ∷ [])
    (omega (arith, length-take-le i starts (omega arith))))

-- the usage of the first i + 1 starts
pub usage_more : (project : Project) (starts : List ℕ) (i k p : ℕ) → i < length starts
    → usage project (bookings_of (take (i + 1) starts)) k p
    ≡ usage project (bookings_of (take i starts)) k p
    + use_of project k p (record { activity = i + 1; start = slice_index starts i })
usage_more project starts i k p within =
    ap (λ bs. usage project bs k p) (bookings_of_more starts i within)
    ∙ usage_push project (bookings_of (take i starts)) _ k p

-- each activity with a start ends by the makespan
pub finish-le-makespan : (project : Project) (starts : List ℕ) (a : ℕ) → 1 ≤ a → a ≤ length starts
    → start_at starts a + duration project a ≤ makespan project starts
unfolding start_at
finish-le-makespan project starts a from upto =
    let d : Booking = record { activity = 0; start = 0 } in
    let i = a - 1 in
    let within : i < length (bookings_of starts) = omega (arith, length-bookings_from starts 1) in
    let h = All-get_or (λ b. finish project b ≤ last_finish project (bookings_of starts))
    (bookings_of starts) i d within (finish-le-last_finish project (bookings_of starts)) in
    let e = get_or-bookings_from starts 1 i d (omega arith) in
    let same : 1 + i ≡ a = omega arith in
    subst (λ n. get_or starts i 0 + duration project n ≤ makespan project starts) same (rw e at h)

-- the start of an activity that is booked first, and of one that is not
pub start_of-same : (booking : Booking) (bookings : List Booking)
    → start_of (booking ∷ bookings) booking.activity ≡ booking.start
start_of-same booking bookings =
    cond-true _ booking.start (start_of bookings booking.activity)
    (eq-eqb booking.activity booking.activity refl)

pub start_of-other : (booking : Booking) (bookings : List Booking) (a : ℕ) → booking.activity ≢ a
    → start_of (booking ∷ bookings) a ≡ start_of bookings a
start_of-other booking bookings a ne =
    cond-false _ booking.start (start_of bookings a) (ne_eqb booking.activity a ne)

-- among bookings of distinct activities, each activity has the start of its booking
pub start_of-booked : (bookings : List Booking) → AllPairs (λ a b. a.activity ≢ b.activity) bookings
    → All (λ b. start_of bookings b.activity ≡ b.start) bookings
start_of-booked [] once = All-nil _
start_of-booked (booking ∷ bookings) once =
    let rest = start_of-booked bookings
    (λ i j d below within. once (suc i) (suc j) d (omega arith) (omega arith)) in
    All-cons (λ b. start_of (booking ∷ bookings) b.activity ≡ b.start) booking bookings
    (start_of-same booking bookings)
    (λ k d within.
    start_of-other booking bookings (get_or bookings k d).activity
    (once 0 (suc k) d (omega arith) (omega arith))
    ∙ rest k d within)

-- the start of the activity at place i, of those from a on
start_of-bookings_from : (starts : List ℕ) (a i : ℕ) → i < length starts
    → start_of (bookings_from a starts) (a + i) ≡ get_or starts i 0
start_of-bookings_from [] a i within = Prim.absurd (omega arith)
start_of-bookings_from (start ∷ starts) a zero within =
    let b : Booking = record { activity = a; start = start } in
    ap (start_of (bookings_from a (start ∷ starts))) (add-zero a)
    ∙ start_of-same b (bookings_from (a + 1) starts)
start_of-bookings_from (start ∷ starts) a (suc i) within =
    let b : Booking = record { activity = a; start = start } in
    start_of-other b (bookings_from (a + 1) starts) (a + suc i) (omega arith)
    ∙ (ap (start_of (bookings_from (a + 1) starts)) (omega arith)
    ∙ start_of-bookings_from starts (a + 1) i (omega arith))

-- the start of an activity in the bookings of a schedule
pub start_of-bookings_of : (starts : List ℕ) (a : ℕ) → 1 ≤ a → a ≤ length starts
    → start_of (bookings_of starts) a ≡ start_at starts a
unfolding start_at
start_of-bookings_of starts a from upto =
    let same : a ≡ 1 + (a - 1) = omega arith in
    ap (start_of (bookings_of starts)) same ∙ start_of-bookings_from starts 1 (a - 1) (omega arith)

-- the bookings from an activity on are its own, and those from the next on
pub bookings_first : (starts : List ℕ) (a : ℕ) → 1 ≤ a → a ≤ length starts
    → bookings_from a (drop (a - 1) starts)
    ≡ record { activity = a; start = start_at starts a } ∷ bookings_from (a + 1) (drop (a + 1 - 1) starts)
unfolding start_at
bookings_first starts a low high =
    let inside : a - 1 < length starts = omega arith in
    let next : suc (a - 1) ≡ a + 1 - 1 = omega arith in
    let own : Booking = record { activity = a; start = get_or starts (a - 1) 0 } in
    ap (bookings_from a) (drop-cons starts (a - 1) 0 inside)
    ∙ ap (λ i. own ∷ bookings_from (a + 1) (drop i starts)) next

-- the greatest finish from an activity on is that of the activity, or one from the next on
pub last_finish_first : (project : Project) (starts : List ℕ) (a : ℕ) → 1 ≤ a → a ≤ length starts
    → last_finish project (bookings_from a (drop (a - 1) starts))
    ≡ max (start_at starts a + duration project a) (last_finish project (bookings_from (a + 1) (drop a starts)))
last_finish_first project starts a low high =
    let back : a + 1 - 1 ≡ a = omega arith in
    let later = λ (i : ℕ). last_finish project (bookings_from (a + 1) (drop i starts)) in
    ap (last_finish project) (bookings_first starts a low high)
    ∙ ap (λ (i : ℕ). max (start_at starts a + duration project a) (later i)) back
