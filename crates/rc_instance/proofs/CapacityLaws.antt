-- What the capacities of a project are once all changes have come, and where there are none.
use Rattle.std.proofs.Common.{◌≡◌, ℕ, zero, suc, ◌<◌, ◌≤◌, ◌&&◌, Bool, true, false, List, [], ◌∷◌, length, map, get_or, nat_eq, nat_le, if◌then◌else◌, All, AllPairs, Contains, refl, subst, arith}
use Rattle.std.specs.List.{fold}
use Rattle.std.proofs.lemmas.Bool.{le-leb}
use Rattle.std.proofs.lemmas.Bool.Decides.{nat_tests}
use Rattle.std.proofs.lemmas.List.Elements.{All-head, All-tail, Contains-get_or, Contains-append_right}
use Rattle.rc_instance.specs.Calendar.{ComesBefore, IsCalendar}
use Rattle.rc_instance.specs.declared.change.Change.{Change}
use Rattle.rc_instance.specs.Lists.{greatest}
use Rattle.rc_instance.specs.Project.{Project, resource_count, capacity, capacity_at, last_capacity, last_change}

-- the capacity after changes that are all there by period p is the capacity after all of them
changes_all_there : (k p : ℕ) (changes : List Change) (now : ℕ)
    → greatest (map (λ (c : Change). c.period) changes) ≤ p
    → fold (λ now change. if nat_eq change.resource k && nat_le change.period p then change.capacity
    else now) now changes
    ≡ fold (λ now change. if nat_eq change.resource k && true then change.capacity else now) now
    changes
changes_all_there k p [] now h = refl
changes_all_there k p (change ∷ changes) now h =
    rw (le-leb change.period p (omega arith)) (changes_all_there k p changes _ (omega arith))

-- from the last change on, a resource has its last capacity
pub capacity_at-last : (project : Project) (k p : ℕ) → last_change project ≤ p
    → capacity_at project k p ≡ last_capacity project k
unfolding capacity_at last_capacity last_change
capacity_at-last project k p h = changes_all_there k p project.changes (capacity project k) h

-- changes of which none applies leave a capacity as it is
none_applies : (applies : Change → Bool) (changes : List Change) (now : ℕ)
    → All (λ change. applies change ≡ false) changes
    → fold (λ now change. if applies change then change.capacity else now) now changes ≡ now
none_applies applies [] now none = refl
none_applies applies (change ∷ changes) now none =
    rw (All-head (λ c. applies c ≡ false) change changes none)
    (none_applies applies changes now (All-tail (λ c. applies c ≡ false) change changes none))

-- whether a change is one of the resource, up to the period
abbrev is_up_to : ℕ → ℕ → Change → Bool
is_up_to k p change = nat_eq change.resource k && nat_le change.period p

-- no later change of the resource comes up to the period: it is of another resource, or after it
is_not_up_to : (k p : ℕ) (change other : Change) → change.resource ≡ k → ComesBefore change other
    → (other.resource ≡ k → other.period ≤ p → other.period ≤ change.period)
    → is_up_to k p other ≡ false
is_not_up_to k p change other of_k before least = grind (arith, nat_tests)

-- a change up to the period, of which no later one is, decides whatever the capacity was before
first_decides : (k p : ℕ) (change : Change) (changes : List Change) (now : ℕ)
    → AllPairs ComesBefore (change ∷ changes) → change.resource ≡ k → change.period ≤ p
    → ((other : Change) → Contains (change ∷ changes) other → other.resource ≡ k
    → other.period ≤ p → other.period ≤ change.period)
    → fold (λ now other. if is_up_to k p other then other.capacity else now) now (change ∷ changes)
    ≡ change.capacity
first_decides k p change changes now rising of_k within last =
    let applies : is_up_to k p change ≡ true = grind (arith, nat_tests) in
    let others : All (λ other. is_up_to k p other ≡ false) changes = λ i d inside.
    is_not_up_to k p change (get_or changes i d) of_k (rising 0 (suc i) d (omega arith) (omega arith))
    (last (get_or changes i d)
    (Contains-append_right (change ∷ []) changes _ (Contains-get_or changes i d inside))) in
    rw applies (none_applies (is_up_to k p) changes change.capacity others)

-- the same of the change at a place
latest_decides : (k p : ℕ) (change : Change) (changes : List Change) (now place : ℕ)
    → place < length changes → get_or changes place change ≡ change
    → AllPairs ComesBefore changes → change.resource ≡ k → change.period ≤ p
    → ((other : Change) → Contains changes other → other.resource ≡ k → other.period ≤ p
    → other.period ≤ change.period)
    → fold (λ now other. if is_up_to k p other then other.capacity else now) now changes
    ≡ change.capacity
latest_decides k p change [] now place inside is rising of_k within last = absurd (omega arith)
latest_decides k p change (first ∷ changes) now zero inside is rising of_k within last =
    let folded = fold (λ now other. if is_up_to k p other then other.capacity else now) now (first ∷ changes) in
    let IsDecided : Change → Type 0 = λ c. c.resource ≡ k → c.period ≤ p
    → ((other : Change) → Contains (first ∷ changes) other → other.resource ≡ k
    → other.period ≤ p → other.period ≤ c.period) → folded ≡ c.capacity in
    subst IsDecided is (first_decides k p first changes now rising) of_k within last
latest_decides k p change (first ∷ changes) now (suc place) inside is rising of_k within last =
    latest_decides k p change changes _ place (omega arith) is
    (λ i j d before here. rising (suc i) (suc j) d (omega arith) (omega arith)) of_k within
    (λ other there. last other (Contains-append_right (first ∷ []) changes other there))

-- in a calendar the capacity in a period is that of the latest change up to then
pub capacity_at-latest : (project : Project) (k p : ℕ) (change : Change)
    → IsCalendar (resource_count project) project.changes → Contains project.changes change
    → change.resource ≡ k → change.period ≤ p
    → ((other : Change) → Contains project.changes other → other.resource ≡ k → other.period ≤ p
    → other.period ≤ change.period)
    → capacity_at project k p ≡ change.capacity
unfolding capacity_at
capacity_at-latest project k p change calendar there of_k within last =
    latest_decides k p change project.changes (capacity project k) there.0 there.1 there.2
    calendar.rising of_k within last

-- before the first change of a resource it has the capacity that it has before any
pub capacity_at-before : (project : Project) (k p : ℕ)
    → ((other : Change) → Contains project.changes other → other.resource ≡ k → p < other.period)
    → capacity_at project k p ≡ capacity project k
unfolding capacity_at
capacity_at-before project k p later =
    none_applies (is_up_to k p) project.changes (capacity project k)
    (λ i d inside. none (get_or project.changes i d)
    (later (get_or project.changes i d) (Contains-get_or project.changes i d inside)))
  where
    none : (other : Change) → (other.resource ≡ k → p < other.period) → is_up_to k p other ≡ false
    none other later = grind (arith, nat_tests)
