-- What holds of a calendar that the grammar accepts, and the kinds of its faults.
use Rattle.std.proofs.Common.{◌≡◌, ◌≢◌, ◌⊎◌, inl, inr, ℕ, suc, ◌+◌, ◌-◌, ◌<◌, ◌≤◌, Bool, true, false, not, ◌||◌, ◌&&◌, nat_lt, nat_eq, List, [], ◌∷◌, ◌++◌, length, get_or, Option, None, Some, Result, Ok, Err, refl, subst, sym, ap, ◌∙◌, arith, All}
use Rattle.std.specs.Prelude.{AllPairs, IfOk, IfErr}
use Rattle.std.proofs.lemmas.Bool.{cases_lt, ltb-true, ltb-false, eqb-true, eqb-false}
use Rattle.std.proofs.lemmas.Option.{slice_get-get_or}
use Rattle.std.proofs.lemmas.List.Elements.{All-nil, All-push}
use Rattle.std.proofs.lemmas.List.Quantifiers.{all_pairs_push}
use Rattle.rc_instance.specs.declared.change.Change.{Change}
use Rattle.rc_instance.specs.declared.limits.TheConstants.{MAX_CAPACITY, MAX_CHANGES, MAX_CHANGE_PERIOD}
use Rattle.rc_instance.specs.Calendar.{IsChange, ComesBefore, IsCalendar}
use Rattle.rc_edge.specs.declared.text_fault.TextFault.{TextFault}
use Rattle.rc_edge.specs.declared.text_fault.TextKind.{TextKind}
use Rattle.rc_edge.specs.declared.text_fault.TextKind.TheVariants.{PeriodOutOfRange, NotRising}
use Rattle.rc_edge.specs.Grammar.{more, refuse_if, GivesOrMemory}
use Rattle.rc_edge.specs.Entries as entries
use Rattle.rc_edge.specs.Source.{capacity_due}
use Rattle.rc_edge.proofs.EntryLaws.{guard_ok}
use Rattle.rc_edge.proofs.FaultLaws.{EachFault, EachFault-ok, EachFault-bind, EachFault-refuse_if, EachFault-more}
use Rattle.rc_edge.proofs.GrammarLaws.{bind_ok, ok_is, more_keeps, more-length}
use Rattle.rc_edge.proofs.SourceLaws.{capacity_found}
use Rattle.patterson_read.specs.Left.{Left, number_due, nothing}
use Rattle.patterson_read.specs.Calendar.{count_due, resource_due, last_of, rises, period_due, change_due, next_change, changes_due, IsCalendarKind}
use Rattle.patterson_read.proofs.KindLaws.{EachFault-number, EachFault-nothing}

-- neither of two tests holds
neither : (a b : Bool) → (a || b) ≡ false → (a ≡ false) × (b ≡ false)
neither true b e = absurd cc
neither false b e = (refl, e)

-- a number from 1 on that is not above a bound
within : (n most : ℕ) → (nat_eq n 0 || nat_lt most n) ≡ false → (1 ≤ n) × (n ≤ most)
within n most tame =
    let tests = neither (nat_eq n 0) (nat_lt most n) tame in
    (omega (arith, eqb-false n 0 tests.0), ltb-false most n tests.1)

-- the number of changes is within the limit
count_found : (left : Left) (found : ℕ × Left) → count_due left ≡ Ok found → found.0 ≤ MAX_CHANGES
unfolding count_due
count_found left found read =
    let number = bind_ok (number_due left) _ found read in
    let few = guard_ok _ _ _ _ found number.2 in
    subst (λ (x : ℕ × Left). x.0 ≤ MAX_CHANGES) (ok_is _ found few.1)
    (ltb-false MAX_CHANGES number.0.0.value few.0)

-- a resource is there
resource_found : (resources : ℕ) (left : Left) (found : ℕ × Left)
    → resource_due resources left ≡ Ok found → (1 ≤ found.0) × (found.0 ≤ resources)
unfolding resource_due
resource_found resources left found read =
    let number = bind_ok (number_due left) _ found read in
    let tame = guard_ok _ _ _ _ found number.2 in
    subst (λ (x : ℕ × Left). (1 ≤ x.0) × (x.0 ≤ resources)) (ok_is _ found tame.1)
    (within number.0.0.value resources tame.0)

-- a period is within the limit, and comes after the one before
record IsPeriod (before : Option Change) (resource period : ℕ) : Type 0 where
  within : (1 ≤ period) × (period ≤ MAX_CHANGE_PERIOD)
  rises : rises before resource period ≡ true

period_found : (before : Option Change) (resource : ℕ) (left : Left) (found : ℕ × Left)
    → period_due before resource left ≡ Ok found → IsPeriod before resource found.0
unfolding period_due
period_found before resource left found read =
    let number = bind_ok (number_due left) _ found read in
    let tame = guard_ok _ _ _ _ found number.2 in
    let rising = guard_ok _ _ _ _ found tame.1 in
    subst (λ (x : ℕ × Left). IsPeriod before resource x.0) (ok_is _ found rising.1)
    (record {
      within = within number.0.0.value MAX_CHANGE_PERIOD tame.0;
      rises = not_false (rises before resource number.0.0.value) rising.0;
    })
  where
    not_false : (test : Bool) → not test ≡ false → test ≡ true
    not_false true e = refl
    not_false false e = absurd cc

-- a change is within the limits, and comes after the one before
record IsNext (resources : ℕ) (before : Option Change) (change : Change) : Type 0 where
  is : IsChange resources change
  rises : rises before change.resource change.period ≡ true

change_found : (resources : ℕ) (before : Option Change) (left : Left) (found : Change × Left)
    → change_due resources before left ≡ Ok found → IsNext resources before found.0
unfolding change_due
change_found resources before left found read =
    let resource = bind_ok (resource_due resources left) _ found read in
    let period = bind_ok (period_due before resource.0.0 resource.0.1) _ found resource.2 in
    let capacity = bind_ok (capacity_due number_due resource.0.0 period.0.1) _ found period.2 in
    let later = period_found before resource.0.0 resource.0.1 period.0 period.1 in
    subst (λ (x : Change × Left). IsNext resources before x.0) (ok_is _ found capacity.2)
    (record {
      is = record {
        resource = resource_found resources left resource.0 resource.1;
        period = later.within;
        capacity = capacity_found number_due resource.0.0 period.0.1 capacity.0 capacity.1;
      };
      rises = later.rises;
    })

-- what rises comes later
comes_later : (before change : Change)
    → rises (Some before) change.resource change.period ≡ true → ComesBefore before change
comes_later before change rises =
    by_tests (nat_lt before.resource change.resource) (nat_eq before.resource change.resource)
    (nat_lt before.period change.period) refl refl refl rises
  where
    by_tests : (above same later : Bool) → nat_lt before.resource change.resource ≡ above
        → nat_eq before.resource change.resource ≡ same
        → nat_lt before.period change.period ≡ later → (above || (same && later)) ≡ true
        → ComesBefore before change
    by_tests true same later a s l e = inl (ltb-true before.resource change.resource a)
    by_tests false true true a s l e = inr (
      eqb-true before.resource change.resource s,
      ltb-true before.period change.period l,
    )
    by_tests false true false a s l e = absurd cc
    by_tests false false later a s l e = absurd cc

-- so does what comes after something later
comes_before-trans : (a b c : Change) → ComesBefore a b → ComesBefore b c → ComesBefore a c
comes_before-trans a b c (inl ab) (inl bc) = inl (omega (arith, ab, bc))
comes_before-trans a b c (inl ab) (inr bc) = inl (omega (arith, ab, bc.0))
comes_before-trans a b c (inr ab) (inl bc) = inl (omega (arith, ab.0, bc))
comes_before-trans a b c (inr ab) (inr bc) =
    inr (ab.0 ∙ bc.0, omega (arith, ab.1, bc.1))

-- the changes found so far
record AreChanges (resources : ℕ) (changes : List Change) : Type 0 where
  within : All (IsChange resources) changes
  rising : AllPairs ComesBefore changes

-- the next change comes after each of them
after_each : (found : List Change) (change : Change) (k : ℕ) (d : Change) → k < length found
    → AllPairs ComesBefore found → rises (last_of found) change.resource change.period ≡ true
    → ComesBefore (get_or found k d) change
after_each found change k d inside rising rises =
    let end = length found - 1 in
    let there = slice_get-get_or found end d (omega (arith, inside)) in
    let last = comes_later (get_or found end d) change (rw there at rises) in
    elim (cases_lt k end) [
      | inl early ↦
          comes_before-trans (get_or found k d) (get_or found end d) change
          (rising k end d early (omega (arith, inside))) last
      | inr late ↦
          let same : end ≡ k = omega (arith, inside, late) in
          subst (λ (i : ℕ). ComesBefore (get_or found i d) change) same last
    ]

changes_more : (resources : ℕ) (found : List Change) (left : Left) (change : Change) (rest : Left)
    → AreChanges resources found → next_change resources found left ≡ Ok (change, rest)
    → AreChanges resources (found ++ change ∷ [])
changes_more resources found left change rest before read =
    let next = change_found resources (last_of found) left (change, rest) read in
    record {
      within = All-push (IsChange resources) found change before.within next.is;
      rising = all_pairs_push ComesBefore found change before.rising
          (λ k d inside. after_each found change k d inside before.rising next.rises);
    }

-- accepted changes are a calendar
changes_are : (resources : ℕ) (left : Left) (changes : List Change)
    → changes_due resources left ≡ Ok changes → IsCalendar resources changes
unfolding changes_due
changes_are resources left changes read =
    let count = bind_ok (count_due left) _ changes read in
    let one = next_change resources in
    let found = bind_ok (more one count.0.0 [] count.0.1) _ changes count.2 in
    let end = bind_ok (nothing found.0.1) _ changes found.2 in
    let none : AreChanges resources [] = record {
      within = All-nil (IsChange resources);
      rising = λ i j d before inside. absurd (omega (arith, inside));
    } in
    let are = more_keeps (AreChanges resources) one (changes_more resources) count.0.0 []
    count.0.1 found.0 none found.1 in
    let many = more-length one count.0.0 [] count.0.1 found.0 found.1 in
    let few = count_found left count.0 count.1 in
    subst (IsCalendar resources) (ok_is _ changes end.2)
    (record { count = omega (arith, many, few); within = are.within; rising = are.rising })

-- so is what a call gave
pub calendar_is : {X : Type 0} (view : X → List Change) (resources : ℕ) (left : Left)
    (result : Result X TextFault) → GivesOrMemory view result (changes_due resources left)
    → IfOk result (λ x. IsCalendar resources (view x))
calendar_is view resources left (Ok x) gives = changes_are resources left (view x) gives
calendar_is view resources left (Err fault) gives = tt

-- the faults of a calendar
abbrev IsFault : TextFault → Type 0
IsFault fault = IsCalendarKind fault.kind

number_faults : (left : Left) → EachFault IsFault (number_due left)
number_faults left =
    EachFault-number IsFault
    (record { ended = λ at. tt; wrong = λ at. tt; large = λ at. tt }) left

count_faults : (left : Left) → EachFault IsFault (count_due left)
unfolding count_due
count_faults left =
    EachFault-bind IsFault _ _ (number_faults left) (λ number.
    EachFault-bind IsFault _ _ (EachFault-refuse_if IsFault _ _ number.0.at tt) (λ few.
    EachFault-ok IsFault _))

resource_faults : (resources : ℕ) (left : Left) → EachFault IsFault (resource_due resources left)
unfolding resource_due
resource_faults resources left =
    EachFault-bind IsFault _ _ (number_faults left) (λ number.
    EachFault-bind IsFault _ _ (EachFault-refuse_if IsFault _ _ number.0.at tt) (λ tame.
    EachFault-ok IsFault _))

period_faults : (before : Option Change) (resource : ℕ) (left : Left)
    → EachFault IsFault (period_due before resource left)
unfolding period_due
period_faults before resource left =
    EachFault-bind IsFault _ _ (number_faults left) (λ number.
    let period = number.0.value in
    let is_wild = nat_eq period 0 || nat_lt MAX_CHANGE_PERIOD period in
    let falls = not (rises before resource period) in
    let in_range = EachFault-refuse_if IsFault is_wild PeriodOutOfRange number.0.at tt in
    let rising = EachFault-refuse_if IsFault falls NotRising number.0.at tt in
    EachFault-bind IsFault (refuse_if is_wild PeriodOutOfRange number.0.at) _ in_range (λ tame.
    EachFault-bind IsFault (refuse_if falls NotRising number.0.at) _ rising (λ later.
    EachFault-ok IsFault (period, number.1))))

capacity_faults : (resource : ℕ) (left : Left)
    → EachFault IsFault (capacity_due number_due resource left)
unfolding capacity_due entries.capacity
capacity_faults resource left =
    EachFault-bind IsFault _ _ (number_faults left) (λ number.
    EachFault-bind IsFault _ _ (EachFault-bind IsFault _ _
    (EachFault-refuse_if IsFault _ _ number.0.at tt) (λ small. EachFault-ok IsFault _)) (λ c.
    EachFault-ok IsFault _))

change_faults : (resources : ℕ) (before : Option Change) (left : Left)
    → EachFault IsFault (change_due resources before left)
unfolding change_due
change_faults resources before left =
    EachFault-bind IsFault _ _ (resource_faults resources left) (λ resource.
    EachFault-bind IsFault _ _ (period_faults before resource.0 resource.1) (λ period.
    EachFault-bind IsFault _ _ (capacity_faults resource.0 period.1) (λ capacity.
    EachFault-ok IsFault _)))

changes_faults : (resources : ℕ) (left : Left) → EachFault IsFault (changes_due resources left)
unfolding changes_due
changes_faults resources left =
    let each = EachFault-more IsFault (next_change resources)
    (λ found rest. change_faults resources (last_of found) rest) in
    let end = EachFault-nothing IsFault (λ at. tt) in
    EachFault-bind IsFault _ _ (count_faults left) (λ count.
    EachFault-bind IsFault _ _ (each count.0 [] count.1) (λ changes.
    EachFault-bind IsFault _ _ (end changes.1) (λ end. EachFault-ok IsFault _)))

-- what a call refused is of one of these kinds
pub calendar_kind_is : {X : Type 0} (view : X → List Change) (resources : ℕ) (left : Left)
    (result : Result X TextFault) → GivesOrMemory view result (changes_due resources left)
    → IfErr result (λ fault. IsCalendarKind fault.kind)
calendar_kind_is view resources left (Ok x) gives = tt
calendar_kind_is view resources left (Err fault) (inl read) =
    changes_faults resources left fault read
calendar_kind_is view resources left (Err fault) (inr memory) =
    subst (λ (kind : TextKind). IsCalendarKind kind)
    (sym (ap (λ (f : TextFault). f.kind) memory)) tt
