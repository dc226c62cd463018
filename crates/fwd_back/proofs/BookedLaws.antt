-- What holds of bookings, of the numbers of a list, and of schedules as lists of starts.
use Rattle.std.proofs.Common.{◌≡◌, ◌≢◌, ℕ, suc, ◌+◌, ◌-◌, ◌<◌, ◌≤◌, ◌⊎◌, Bool, true, false, List, [], ◌∷◌, ◌++◌, length, get_or, map, set, nat_eq, sym, refl, ap, ◌∙◌, subst, subst₂, inl, inr, arith, true≢false, eq-eqb, ne_eqb}
use Rattle.std.specs.List.{All, AllPairs, Contains}
use Rattle.std.proofs.lemmas.Bool.{cases_Bool, cases_eq, cases_lt, cond-true, or_parts}
use Rattle.std.proofs.lemmas.List.{ext_get_or, get_or_default}
use Rattle.std.proofs.lemmas.List.Elements.{All-cons, All-head, All-nil, All-push, All-tail}
use Rattle.std.proofs.lemmas.List.FromFn.{length-map-range_with_len, get_or-map-range_with_len}
use Rattle.std.proofs.lemmas.List.Quantifiers.{all_pairs_push}
use Rattle.rc_instance.specs.Lists.{names, numbers}
use Rattle.rc_instance.specs.Usage.{Booking}
use Rattle.rc_instance.specs.Schedule.{start_at, start_of}
use Rattle.rc_instance.proofs.ScheduleLaws.{start_of-other, start_at-set_same, start_at-set_other}
use Rattle.activity_net.proofs.NameLaws.{named_contains}
use Rattle.serial_plain.specs.Shown.{ShowsStarts}
use Rattle.fwd_back.specs.Backward.{activities_of}

-- what holds of the start of each booking holds of the start of each booked activity
pub start_of-all : (P : ℕ → ℕ → Type 0) (bookings : List Booking) (a : ℕ)
    → All (λ b. P b.activity b.start) bookings → names (activities_of bookings) a ≡ true
    → P a (start_of bookings a)
start_of-all P [] a all named = Prim.absurd (true≢false (sym named))
start_of-all P (b ∷ bs) a all named =
    elim (cases_eq b.activity a) [
      | inl same ↦
          let own : start_of (b ∷ bs) a ≡ b.start =
          cond-true _ b.start (start_of bs a) (eq-eqb b.activity a same) in
          subst₂ P same (sym own) (All-head (λ c. P c.activity c.start) b bs all)
      | inr differ ↦
          let rest : names (activities_of bs) a ≡ true =
          rw (ne_eqb b.activity a differ) at named in
          subst (P a) (sym (start_of-other b bs a differ))
          (start_of-all P bs a (All-tail (λ c. P c.activity c.start) b bs all) rest)
    ]

-- a number that is not named is another than each that is
pub named_other : (xs : List ℕ) (a : ℕ) → names xs a ≡ false → (k d : ℕ) → k < length xs
    → get_or xs k d ≢ a
named_other xs a fresh k d within same =
    true≢false (sym (named_contains xs a (k, within, get_or_default xs k a d within ∙ same))
    ∙ fresh)

-- with one that they do not name distinct numbers stay distinct
pub distinct_push : (xs : List ℕ) (a : ℕ) → AllPairs (λ x y. x ≢ y) xs → names xs a ≡ false
    → AllPairs (λ x y. x ≢ y) (xs ++ a ∷ [])
distinct_push xs a once fresh = all_pairs_push (λ x y. x ≢ y) xs a once (named_other xs a fresh)

-- equal numbers of distinct ones stand at one place
pub same_place : (xs : List ℕ) (i j : ℕ) → AllPairs (λ x y. x ≢ y) xs → i < length xs
    → j < length xs → get_or xs i 0 ≡ get_or xs j 0 → i ≡ j
same_place xs i j once first second same =
    elim (cases_lt i j) [
      | inl below ↦ Prim.absurd (once i j 0 below second same)
      | inr upto ↦ elim (cases_eq i j) [
        | inl e ↦ e
        | inr ne ↦ Prim.absurd (once j i 0 (omega arith) first (sym same))
      ]
    ]

-- all numbers of a list pass, or one of them fails
pub all_or_some : (test : ℕ → Bool) (xs : List ℕ) → All (λ x. test x ≡ true) xs
    ⊎ ((x : ℕ) × Contains xs x × (test x ≡ false))
all_or_some test [] = inl (All-nil _)
all_or_some test (x ∷ xs) =
    elim (cases_Bool (test x)) [
      | inr fails ↦ inr (x, (0, omega arith, refl), fails)
      | inl passes ↦ elim (all_or_some test xs) [
        | inl all ↦ inl (All-cons (λ y. test y ≡ true) x xs passes all)
        | inr some ↦ inr (some.0, (suc some.1.0, omega (arith, some.1.1), some.1.2), some.2)
      ]
    ]

-- what is shown stays shown where another activity's start is written
shown_before : (bookings : List Booking) (starts : List ℕ) (a t : ℕ)
    → All (λ b. 1 ≤ b) (activities_of bookings) → names (activities_of bookings) a ≡ false
    → 1 ≤ a → ShowsStarts bookings starts
    → All (λ b. start_at (set starts (a - 1) t) b.activity ≡ b.start) bookings
shown_before [] starts a t numbers fresh from shown = All-nil _
shown_before (b ∷ bs) starts a t numbers fresh from shown =
    let P : Booking → Type 0 = λ c. start_at (set starts (a - 1) t) c.activity ≡ c.start in
    let Q : Booking → Type 0 = λ c. start_at starts c.activity ≡ c.start in
    let parts = or_parts (nat_eq b.activity a) (names (activities_of bs) a) fresh in
    let low : 1 ≤ b.activity = All-head (λ x. 1 ≤ x) b.activity (activities_of bs) numbers in
    let differ : a ≢ b.activity = λ e. true≢false (sym (eq-eqb b.activity a (sym e)) ∙ parts.0) in
    All-cons P b bs
    (start_at-set_other starts a b.activity t from low differ ∙ All-head Q b bs shown)
    (shown_before bs starts a t (All-tail (λ x. 1 ≤ x) b.activity (activities_of bs) numbers)
    parts.1 from (All-tail Q b bs shown))

-- one more booking is shown once its start is written
pub ShowsStarts_push : (bookings : List Booking) (starts : List ℕ) (a t : ℕ)
    → All (λ b. 1 ≤ b) (activities_of bookings) → names (activities_of bookings) a ≡ false
    → 1 ≤ a → a ≤ length starts → ShowsStarts bookings starts
    → ShowsStarts (bookings ++ record { activity = a; start = t } ∷ []) (set starts (a - 1) t)
ShowsStarts_push bookings starts a t numbers fresh from upto shown =
    let own : Booking = record { activity = a; start = t } in
    let P : Booking → Type 0 = λ b. start_at (set starts (a - 1) t) b.activity ≡ b.start in
    All-push P bookings own
    (shown_before bookings starts a t numbers fresh from shown)
    (start_at-set_same starts a t from upto)

-- a list of starts has the start of each activity in its place
pub starts_by_number : (starts : List ℕ) (n : ℕ) → length starts ≡ n
    → map (start_at starts) (numbers n) ≡ starts
unfolding start_at
starts_by_number starts n count =
    let long = length-map-range_with_len (start_at starts) 1 n in
    ext_get_or 0 _ starts (long ∙ sym count)
    (λ i within.
    get_or-map-range_with_len (start_at starts) 1 n i (i + 1) 0 (omega arith) (omega arith)
    ∙ ap (λ k. get_or starts k 0) (omega arith))

-- so it is the list of what it gives to each activity
pub starts_given : (starts : List ℕ) (n : ℕ) (given : ℕ → ℕ) → length starts ≡ n
    → ((a : ℕ) → 1 ≤ a → a ≤ n → start_at starts a ≡ given a)
    → starts ≡ map given (numbers n)
unfolding start_at
starts_given starts n given count each =
    let long = length-map-range_with_len given 1 n in
    ext_get_or 0 starts _ (count ∙ sym long)
    (λ i within.
    let back : i + 1 - 1 ≡ i = omega arith in
    ap (λ k. get_or starts k 0) (sym back)
    ∙ (each (i + 1) (omega arith) (omega arith)
    ∙ sym (get_or-map-range_with_len given 1 n i (i + 1) 0 (omega arith) (omega arith))))

-- each activity before a number has one start in both
abbrev pub SameBefore : ℕ → List ℕ → List ℕ → Type 0
SameBefore a one other = (b : ℕ) → 1 ≤ b → b < a → start_at other b ≡ start_at one b

-- with the start of the number itself written, so has it
pub SameBefore_more : (one other : List ℕ) (a t : ℕ) → 1 ≤ a → a ≤ length other
    → t ≡ start_at one a → SameBefore a one other
    → SameBefore (a + 1) one (set other (a - 1) t)
SameBefore_more one other a t from upto is same b low below =
    elim (cases_eq b a) [
      | inl here ↦
          subst (λ x. start_at (set other (a - 1) t) x ≡ start_at one x) (sym here)
          (start_at-set_same other a t from upto ∙ is)
      | inr differ ↦
          start_at-set_other other a b t from low (λ e. differ (sym e)) ∙ same b low (omega arith)
    ]

-- where all have, they are one schedule
pub SameBefore_all : (one other : List ℕ) (a : ℕ) → length other ≡ length one → length one < a
    → SameBefore a one other → other ≡ one
SameBefore_all one other a count after same =
    starts_given other (length one) (start_at one) count
    (λ b from upto. same b from (omega arith))
    ∙ starts_by_number one (length one) refl
