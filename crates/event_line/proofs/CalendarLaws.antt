-- The capacities after the first changes of a calendar, and how a change is written into rows.
use Rattle.std.proofs.Common.{◌≡◌, ◌≢◌, ℕ, ◌+◌, ◌-◌, ◌<◌, ◌≤◌, ◌&&◌, List, length, take, get_or, nat_eq, nat_le, nat_lt, if◌then◌else◌, Some, ap, ◌∙◌, subst, inl, inr, arith}
use Rattle.std.specs.List.{fold, slice_get}
use Rattle.std.proofs.lemmas.Bool.{cases_eq}
use Rattle.std.proofs.lemmas.Bool.Decides.{nat_tests}
use Rattle.std.proofs.lemmas.List.{take_all}
use Rattle.std.proofs.lemmas.List.Sums.{fold_more}
use Rattle.std.proofs.lemmas.Option.{get_or_from_slice_get, slice_get_within}
use Rattle.rc_instance.specs.declared.change.Change.{Change}
use Rattle.rc_instance.specs.declared.limits.TheConstants.{MAX_CAPACITY}
use Rattle.rc_instance.specs.Project.{Project, capacity, capacity_at}
use Rattle.rc_instance.specs.Calendar.{IsCalendar}
use Rattle.event_line.specs.Rows.{row_at, left_at}

-- the capacity of a resource in a period after a change
abbrev pub changed : ℕ → ℕ → ℕ → Change → ℕ
changed k p now change =
    if nat_eq change.resource k && nat_le change.period p then change.capacity else now

-- the capacity of a resource in a period after these changes
unfoldable pub capacity_after : Project → ℕ → ℕ → List Change → ℕ
capacity_after project k p changes = fold (changed k p) (capacity project k) changes

-- one change more
pub capacity_after_more : (project : Project) (k p i : ℕ) (change : Change)
    → slice_get project.changes i ≡ Some change
    → capacity_after project k p (take (i + 1) project.changes)
    ≡ changed k p (capacity_after project k p (take i project.changes)) change
unfolding capacity_after
capacity_after_more project k p i change at =
    fold_more (changed k p) (capacity project k) project.changes i change
    (slice_get_within project.changes i change at)
    ∙ ap (changed k p (fold (changed k p) (capacity project k) (take i project.changes)))
    (get_or_from_slice_get project.changes i change change at)

-- after all changes it is the capacity in the period
pub capacity_after_all : (project : Project) (k p n : ℕ) → length project.changes ≤ n
    → capacity_after project k p (take n project.changes) ≡ capacity_at project k p
unfolding capacity_after capacity_at
capacity_after_all project k p n all =
    ap (fold (changed k p) (capacity project k)) (take_all n project.changes all)

-- a change of a calendar is of one of the resources
pub change_resource : (resources i : ℕ) (changes : List Change) (change : Change)
    → IsCalendar resources changes → slice_get changes i ≡ Some change
    → (1 ≤ change.resource) × (change.resource ≤ resources)
change_resource resources i changes change calendar at =
    let within = slice_get_within changes i change at in
    let e = get_or_from_slice_get changes i change change at in
    subst (λ (c : Change). (1 ≤ c.resource) × (c.resource ≤ resources)) e
    (calendar.within i change within).resource

-- such a change is to a capacity within the limit
pub change_capacity : (resources i : ℕ) (changes : List Change) (change : Change)
    → IsCalendar resources changes → slice_get changes i ≡ Some change
    → change.capacity ≤ MAX_CAPACITY
change_capacity resources i changes change calendar at =
    let within = slice_get_within changes i change at in
    let e = get_or_from_slice_get changes i change change at in
    subst (λ (c : Change). c.capacity ≤ MAX_CAPACITY) e (calendar.within i change within).capacity

-- a change of a resource from a period on is written into the rows of the first n nodes
pub record IsWritten (periods : List ℕ) (old new : List (List ℕ)) (width resource from amount n : ℕ) : Type 0 where
  pub each : (i j : ℕ) → i < length periods → j < width → left_at new i j
      ≡ (if nat_eq resource (j + 1) && (nat_le from (get_or periods i 0) && nat_lt i n) then amount
      else left_at old i j)

-- into the row of one node more, which stands no earlier
pub written_more : (periods : List ℕ) (old free new : List (List ℕ))
    (width resource from amount n : ℕ)
    → IsWritten periods old free width resource from amount n
    → 1 ≤ resource → from ≤ get_or periods n 0 → left_at new n (resource - 1) ≡ amount
    → ((j : ℕ) → j < width → j ≢ resource - 1 → left_at new n j ≡ left_at free n j)
    → ((x : ℕ) → x ≢ n → row_at new x ≡ row_at free x)
    → IsWritten periods old new width resource from amount (n + 1)
written_more periods old free new width resource from amount n so_far some after here beside others =
    record {
      each = λ i j inside column.
          let before = so_far.each i j inside column in
          elim (cases_eq i n) [
            | inl e ↦ elim (cases_eq j (resource - 1)) [
              | inl same ↦
                  let written : left_at new i j ≡ amount = rw (e, same) here in
                  let period = ap (λ x. get_or periods x 0) e in
                  grind (arith, nat_tests)
              | inr ne ↦
                  let kept : left_at new i j ≡ left_at free i j = rw e (beside j column ne) in
                  let other : resource ≢ j + 1 = λ f. ne (omega arith) in
                  grind (arith, nat_tests)
            ]
            | inr ne ↦
                let kept : left_at new i j ≡ left_at free i j =
                ap (λ row. get_or row j 0) (others i ne) in
                grind (arith, nat_tests)
          ];
    }

-- one node more, which stands earlier, has nothing written into its row
pub written_past : (periods : List ℕ) (old free : List (List ℕ))
    (width resource from amount n : ℕ)
    → IsWritten periods old free width resource from amount n → get_or periods n 0 < from
    → IsWritten periods old free width resource from amount (n + 1)
written_past periods old free width resource from amount n so_far before = record {
  each = λ i j inside column.
      let so_far' = so_far.each i j inside column in
      elim (cases_eq i n) [
        | inl e ↦
            let period = ap (λ x. get_or periods x 0) e in
            grind (arith, nat_tests)
        | inr ne ↦ grind (arith, nat_tests)
      ];
}
