-- The period by which an activity has to end.
use Rattle.std.proofs.Common.{◌≡◌, ℕ, ◌≤◌, min, Bool, true, false, ◌&&◌, not, ◌-◌, List, [], ◌∷◌, get_or, sym, refl, ap, ◌∙◌, arith}
use Rattle.std.specs.List.{All, fold, list_all}
use Rattle.std.proofs.lemmas.Bool.{and_from, and_parts, not-true, not_from_false}
use Rattle.std.proofs.lemmas.List.Elements.{All-head, All-tail, Contains-get_or}
use Rattle.std.proofs.lemmas.List.Sums.{list_all-from_AllPass, AllPass-from_list_all}
use Rattle.rc_instance.specs.Lists.{names}
use Rattle.rc_instance.specs.Project.{Project, IsActivity, activity_count, precedes, successors_of}
use Rattle.rc_instance.specs.Calendar.{IsWithinLimits}
use Rattle.rc_instance.specs.Usage.{Booking}
use Rattle.rc_instance.specs.Schedule.{IsFeasible, makespan, start_at, start_of}
use Rattle.rc_instance.proofs.LimitLaws.{successors_are}
use Rattle.rc_instance.proofs.ScheduleLaws.{finish-le-makespan}
use Rattle.activity_net.proofs.NameLaws.{named_contains}
use Rattle.activity_net.specs.Tables.{Shows}
use Rattle.serial_plain.specs.Shown.{ShowsStarts, finish_at}
use Rattle.fwd_back.specs.Backward.{activities_of, due, may_move}
use Rattle.fwd_back.proofs.BookedLaws.{start_of-all}
use Rattle.fwd_back.proofs.FitLaws.{IsMoved}

-- an activity that may move next has not moved
pub may_move-fresh : (project : Project) (moved : List ℕ) (a : ℕ) → may_move project moved a ≡ true
    → names moved a ≡ false
unfolding may_move
may_move-fresh project moved a may =
    not-true (names moved a)
    (and_parts (not (names moved a)) (list_all (names moved) (successors_of project a)) may).0

-- and each of its direct successors has
pub may_move-named : (project : Project) (moved : List ℕ) (a : ℕ) → may_move project moved a ≡ true
    → All (λ s. names moved s ≡ true) (successors_of project a)
unfolding may_move
may_move-named project moved a may =
    AllPass-from_list_all (names moved) (successors_of project a)
    (and_parts (not (names moved a)) (list_all (names moved) (successors_of project a)) may).1

-- an activity that has not moved may move where each direct successor has
pub may_move-from : (project : Project) (moved : List ℕ) (a : ℕ) → names moved a ≡ false
    → All (λ s. names moved s ≡ true) (successors_of project a) → may_move project moved a ≡ true
unfolding may_move
may_move-from project moved a fresh all =
    and_from (not (names moved a)) (list_all (names moved) (successors_of project a))
    (not_from_false (names moved a) fresh)
    (list_all-from_AllPass (names moved) (successors_of project a) all)

-- tests that agree on each number of a list agree on all
list_all-same : (p q : ℕ → Bool) (xs : List ℕ) → All (λ x. p x ≡ q x) xs
    → list_all p xs ≡ list_all q xs
list_all-same p q [] all = refl
list_all-same p q (x ∷ xs) all =
    let here : p x ≡ q x = All-head (λ y. p y ≡ q y) x xs all in
    let rest = list_all-same p q xs (All-tail (λ y. p y ≡ q y) x xs all) in
    rw here (ap (λ b. q x && b) rest)

-- an activity without a mark may move where each direct successor has one
pub may_move-unmarked : (project : Project) (moved : List ℕ) (marks : List Bool) (a : ℕ)
    (after : List ℕ) → Shows (activity_count project) marks moved → IsActivity project a
    → after ≡ successors_of project a → All (IsActivity project) after
    → get_or marks (a - 1) false ≡ false
    → list_all (λ s. get_or marks (s - 1) false) after ≡ may_move project moved a
unfolding may_move
may_move-unmarked project moved marks a after shows activity is are unmarked =
    let fresh : names moved a ≡ false =
    sym (shows.at a activity.0 activity.1) ∙ unmarked in
    let same = list_all-same (λ s. get_or marks (s - 1) false) (names moved) after
    (λ i d within. shows.at (get_or after i d) (are i d within).0 (are i d within).1) in
    rw fresh (same ∙ ap (list_all (names moved)) is)

-- one with a mark may not
pub may_move-marked : (project : Project) (moved : List ℕ) (marks : List Bool) (a : ℕ)
    → Shows (activity_count project) marks moved → IsActivity project a
    → get_or marks (a - 1) false ≡ true
    → not (get_or marks (a - 1) false) ≡ may_move project moved a
unfolding may_move
may_move-marked project moved marks a shows activity marked =
    let named : names moved a ≡ true = sym (shows.at a activity.0 activity.1) ∙ marked in
    rw (marked, named) refl

-- the least of an end and some values is at most the end
fold_min-le : (f : ℕ → ℕ) (xs : List ℕ) (end : ℕ) → fold (λ by x. min by (f x)) end xs ≤ end
fold_min-le f [] end = omega arith
fold_min-le f (x ∷ xs) end = omega (arith, fold_min-le f xs (min end (f x)))

-- and at least what each of them is at least
fold_min-ge : (f : ℕ → ℕ) (xs : List ℕ) (end m : ℕ) → m ≤ end → All (λ x. m ≤ f x) xs
    → m ≤ fold (λ by x. min by (f x)) end xs
fold_min-ge f [] end m le all = le
fold_min-ge f (x ∷ xs) end m le all =
    let here : m ≤ f x = All-head (λ y. m ≤ f y) x xs all in
    fold_min-ge f xs (min end (f x)) m (omega arith) (All-tail (λ y. m ≤ f y) x xs all)

-- equal values have one least
fold_min-same : (f g : ℕ → ℕ) (xs : List ℕ) (end : ℕ) → All (λ x. f x ≡ g x) xs
    → fold (λ by x. min by (f x)) end xs ≡ fold (λ by x. min by (g x)) end xs
fold_min-same f g [] end all = refl
fold_min-same f g (x ∷ xs) end all =
    let here : f x ≡ g x = All-head (λ y. f y ≡ g y) x xs all in
    let rest : All (λ y. f y ≡ g y) xs = All-tail (λ y. f y ≡ g y) x xs all in
    fold_min-same f g xs (min end (f x)) rest
    ∙ ap (λ n. fold (λ by y. min by (g y)) (min end n) xs) here

-- a due period is at most the end
pub due-le : (project : Project) (end : ℕ) (moved : List Booking) (a : ℕ)
    → due project end moved a ≤ end
due-le project end moved a = fold_min-le (start_of moved) (successors_of project a) end

-- at its start in the schedule an activity that may move next ends by its due period
pub due-ge : (project : Project) (starts : List ℕ) (moved : List Booking) (a : ℕ)
    → IsWithinLimits project → IsFeasible project starts → IsMoved project starts moved
    → IsActivity project a → may_move project (activities_of moved) a ≡ true
    → finish_at project starts a ≤ due project (makespan project starts) moved a
unfolding precedes
due-ge project starts moved a limits feasible is activity may =
    let after = successors_of project a in
    let are = (successors_are project a limits activity).within in
    let named = may_move-named project (activities_of moved) a may in
    fold_min-ge (start_of moved) after (makespan project starts) (finish_at project starts a)
    (finish-le-makespan project starts a activity.0 (omega (arith, feasible.count, activity.1)))
    (λ i d within.
    let s = get_or after i d in
    let before = named_contains after s (Contains-get_or after i d within) in
    let later = start_of-all (λ x t. start_at starts x ≤ t) moved s is.later (named i d within) in
    omega (arith, feasible.precedence a s activity (are i d within) before))

-- a table that shows the bookings tells the due period of an activity that may move next
pub due_shown : (project : Project) (end : ℕ) (moved : List Booking) (table : List ℕ) (a : ℕ)
    → ShowsStarts moved table → may_move project (activities_of moved) a ≡ true
    → fold (λ by s. min by (start_at table s)) end (successors_of project a)
    ≡ due project end moved a
due_shown project end moved table a shown may =
    let named = may_move-named project (activities_of moved) a may in
    fold_min-same (start_at table) (start_of moved) (successors_of project a) end
    (λ i d within.
    start_of-all (λ x t. start_at table x ≡ t) moved (get_or (successors_of project a) i d) shown
    (named i d within))
