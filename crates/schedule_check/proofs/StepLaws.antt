-- One more activity of a schedule, or one more change of a calendar.
use Rattle.std.proofs.Common.{◌≡◌, ℕ, ◌+◌, ◌-◌, ◌<◌, ◌≤◌, Some, List, [], ◌∷◌, ◌++◌, length, get_or, take, map, sym, ap, ◌∙◌, arith}
use Rattle.std.specs.List.{slice_get}
use Rattle.std.proofs.lemmas.List.{take_more, map-append}
use Rattle.std.proofs.lemmas.Option.{slice_get-get_or}
use Rattle.rc_instance.specs.declared.change.Change.{Change}
use Rattle.rc_instance.specs.Project.{Project}
use Rattle.rc_instance.specs.Usage.{usage, use_of}
use Rattle.rc_instance.specs.Schedule.{bookings_of, start_at}
use Rattle.rc_instance.proofs.ScheduleLaws.{usage_more}

-- the starts of the activities up to a
pub starts_next : (starts : List ℕ) (a : ℕ) → 1 ≤ a → a ≤ length starts
    → take (a + 1 - 1) starts ≡ take (a - 1) starts ++ start_at starts a ∷ []
unfolding start_at
starts_next starts a low high =
    let next : a + 1 - 1 ≡ a - 1 + 1 = omega arith in
    ap (λ j. take j starts) next ∙ take_more starts (a - 1) 0 (omega arith)

-- what the activities up to a use
pub usage_next : (project : Project) (starts : List ℕ) (a k p : ℕ) → 1 ≤ a → a ≤ length starts
    → usage project (bookings_of (take (a + 1 - 1) starts)) k p
    ≡ usage project (bookings_of (take (a - 1) starts)) k p
    + use_of project k p (record { activity = a; start = start_at starts a })
unfolding start_at
usage_next project starts a k p low high =
    let i = a - 1 in
    let next : a + 1 - 1 ≡ i + 1 = omega arith in
    let back : i + 1 ≡ a = omega arith in
    ap (λ j. usage project (bookings_of (take j starts)) k p) next
    ∙ (usage_more project starts i k p (omega arith)
    ∙ ap (λ (n : ℕ). usage project (bookings_of (take i starts)) k p
    + use_of project k p (record { activity = n; start = get_or starts i 0 })) back)

-- the periods of the changes up to one
pub periods_next : (changes : List Change) (i : ℕ) (change : Change) → i < length changes
    → slice_get changes i ≡ Some change
    → map (λ (c : Change). c.period) (take (i + 1) changes)
    ≡ map (λ (c : Change). c.period) (take i changes) ++ change.period ∷ []
periods_next changes i change inside found =
    let period = λ (c : Change). c.period in
    let at : Some (get_or changes i change)
    ≡ Some change = sym (slice_get-get_or changes i change inside) ∙ found in
    let same : get_or changes i change ≡ change = cc in
    ap (map period) (take_more changes i change inside)
    ∙ (map-append period (take i changes) (get_or changes i change ∷ [])
    ∙ ap (λ (c : Change). map period (take i changes) ++ c.period ∷ []) same)
