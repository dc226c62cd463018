-- The first fault of an order: there is none exactly where the order is a feasible list.
use Rattle.std.proofs.Common.{◌≡◌, ◌≢◌, ℕ, ◌+◌, ◌-◌, ◌<◌, ◌≤◌, ◌||◌, Bool, true, false, not, Option, Some, None, List, [], ◌∷◌, ◌++◌, length, get_or, take, drop, nat_eq, nat_lt, if◌then◌else◌, sym, refl, ap, ◌∙◌, subst, inl, inr, arith}
use Rattle.std.specs.List.{Contains, find}
use Rattle.std.specs.Option.{option_map, option_or}
use Rattle.std.proofs.lemmas.Bool.{cases_Bool, not-false, eqb-true, eq-eqb, ne_eqb, ltb-false, eqb-false, or_parts, or_left, or_right}
use Rattle.std.proofs.lemmas.Bool.Decides.{nat_tests}
use Rattle.std.proofs.lemmas.List.{drop_all, get_or_append_left, append_assoc, append-nil, get_or_at, take_at, length-append, drop_more, take_more}
use Rattle.rc_instance.specs.Lists.{names}
use Rattle.rc_instance.specs.Project.{Project, activity_count, IsActivity, Precedes}
use Rattle.rc_instance.specs.Order.{IsFeasibleList}
use Rattle.activity_net.specs.declared.fault.ListFault.{ListFault}
use Rattle.activity_net.specs.declared.fault.ListFault.TheVariants.{Length, Unknown, Repeated, TooEarly, Memory}
use Rattle.activity_net.specs.Network.{predecessors_of}
use Rattle.activity_net.specs.Tables.{is_unmarked, Shows}
use Rattle.activity_net.specs.Removal.{IsBeginning}
use Rattle.activity_net.specs.ListFault.{next_fault, later_fault, first_list_fault, RefusesList}
use Rattle.activity_net.proofs.NameLaws.{named_contains, not_named}
use Rattle.activity_net.proofs.RemovalLaws.{IsBeginning-push, named_predecessor, predecessor_named}
use Rattle.activity_net.proofs.PredecessorLaws.{predecessors_are}
use Rattle.activity_net.proofs.StuckLaws.{find_agree}
use Rattle.activity_net.proofs.NetLaws.{find-none}

-- a fault that is found is the one that is refused
pub RefusesList-from : (first : Option ListFault) (fault : ListFault) → first ≡ Some fault
    → RefusesList first fault
RefusesList-from first (Length n count) is = is
RefusesList-from first (Unknown p) is = is
RefusesList-from first (Repeated p) is = is
RefusesList-from first (TooEarly p q) is = is
RefusesList-from first Memory is = tt

-- a may come next after the others
pub record MayFollow (project : Project) (before : List ℕ) (a : ℕ) : Type 0 where
  pub activity : IsActivity project a
  pub fresh : names before a ≡ false
  pub all : (p : ℕ) → IsActivity project p → Precedes project p a → names before p ≡ true

option_map-none : {X Y : Type 0} (f : X → Y) (o : Option X) → option_map f o ≡ None → o ≡ None
option_map-none f None none = refl
option_map-none f (Some x) none = Prim.absurd (cc)

-- without a fault an activity may come next
pub next_fault-none : (project : Project) (before : List ℕ) (a : ℕ)
    → next_fault project before a ≡ None → MayFollow project before a
unfolding next_fault
next_fault-none project before a none =
    let n = activity_count project in
    let rest = option_map (λ p. TooEarly (length before) p)
    (find (λ p. not (names before p)) (predecessors_of project a)) in
    elim (cases_Bool (nat_eq a 0 || nat_lt n a)) as (λ _. MayFollow project before a) [
      | inl wild ↦
          let wrong : Some (Unknown (length before)) ≡ None = rw wild at none in
          Prim.absurd (cc)
      | inr tame ↦
          let parts = or_parts (nat_eq a 0) (nat_lt n a) tame in
          let later : (if names before a then Some (Repeated (length before)) else rest)
          ≡ None = rw tame at none in
          elim (cases_Bool (names before a)) as (λ _. MayFollow project before a) [
            | inl named ↦
                let wrong : Some (Repeated (length before)) ≡ None = rw named at later in
                Prim.absurd (cc)
            | inr fresh ↦
                let last : rest ≡ None = rw fresh at later in
                let searched = option_map-none (λ p. TooEarly (length before) p)
                (find (λ p. not (names before p)) (predecessors_of project a)) last in
                let above : a ≢ 0 = eqb-false a 0 parts.0 in
                let within = ltb-false n a parts.1 in
                record {
                  activity = (omega arith, within);
                  fresh = fresh;
                  all = λ p is precedes. not-false (names before p)
                      (find-none (λ p. not (names before p)) (predecessors_of project a) p searched
                      (named_predecessor project p a is ∙ precedes));
                }
          ]
    ]

-- where nothing passes a search finds nothing
find_nothing : (test : ℕ → Bool) (xs : List ℕ) → ((x : ℕ) → names xs x ≡ true → test x ≡ false)
    → find test xs ≡ None
find_nothing test [] none = refl
find_nothing test (x ∷ xs) none =
    let same : nat_eq x x ≡ true = grind (arith, nat_tests) in
    rw (none x (or_left (nat_eq x x) (names xs x) same))
    (find_nothing test xs (λ y named. none y (or_right (nat_eq x y) (names xs y) named)))

option_or-none : {X : Type 0} (o p : Option X) → option_or o p ≡ None → (o ≡ None) × (p ≡ None)
option_or-none None p none = (refl, none)
option_or-none (Some x) p none = Prim.absurd (cc)

-- and where it may come next there is no fault
pub next_fault-may : (project : Project) (before : List ℕ) (a : ℕ) → MayFollow project before a
    → next_fault project before a ≡ None
unfolding next_fault
next_fault-may project before a may =
    let n = activity_count project in
    let tame : (nat_eq a 0 || nat_lt n a) ≡ false = let h = may.activity in grind
    (arith, nat_tests) in
    let nothing : find (λ p. not (names before p)) (predecessors_of project a) ≡ None =
    find_nothing (λ p. not (names before p)) (predecessors_of project a)
    (λ p named. let h = predecessor_named project p a named in ap not (may.all p h.0 h.1)) in
    rw (tame, may.fresh, nothing) refl

-- an order without a fault goes on as the beginning of a feasible list
later_fault-none : (project : Project) (before after : List ℕ) → IsBeginning project before
    → later_fault project before after ≡ None
    → IsBeginning project (before ++ after)
unfolding later_fault
later_fault-none project before [] beginning none = rw (append-nil before) beginning
later_fault-none project before (a ∷ after) beginning none =
    let first = option_or-none (next_fault project before a)
    (later_fault project (before ++ a ∷ []) after) none in
    let may = next_fault-none project before a first.0 in
    let more = later_fault-none project (before ++ a ∷ []) after
    (IsBeginning-push project before a beginning may.activity may.fresh may.all) first.1 in
    let same : (before ++ a ∷ []) ++ after ≡ before ++ a ∷ after = append_assoc before (a ∷ [])
    after in
    subst (IsBeginning project) same more

-- a feasible list has no fault from any of its places on
later_fault-feasible : (project : Project) (order before after : List ℕ)
    → IsFeasibleList project order → before ++ after ≡ order
    → later_fault project before after ≡ None
unfolding later_fault
later_fault-feasible project order before [] list same = refl
later_fault-feasible project order before (a ∷ after) list same =
    let long : length before < length order = omega
    (arith, ap length same, length-append before (a ∷ after)) in
    let at : (d : ℕ) → get_or order (length before) d ≡ a =
    λ d. ap (λ (xs : List ℕ). get_or xs (length before) d) (sym same)
    ∙ get_or_at before a after d (length before) refl in
    let front : take (length before) order ≡ before = ap (take (length before)) (sym same)
    ∙ take_at before (a ∷ after) (length before) refl in
    let may : MayFollow project before a = record {
      activity = subst (IsActivity project) (at 0) (list.activities (length before) 0 long);
      fresh = not_named before a (λ h. list.once h.0 (length before) a h.1 long
          (ap (λ (xs : List ℕ). get_or xs h.0 a) (sym same)
          ∙ (get_or_append_left before (a ∷ after) a h.0 h.1 ∙ (h.2 ∙ sym (at a)))));
      all = λ p is precedes. named_contains before p (subst (λ (xs : List ℕ). Contains xs p) front
          (list.after (length before) p long is (subst (Precedes project p) (sym (at 0))
          precedes)));
    } in
    rw (next_fault-may project before a may)
    (later_fault-feasible project order (before ++ a ∷ []) after list
    (append_assoc before (a ∷ []) after ∙ same))

-- there is no fault exactly where the order is a feasible list
pub first_list_fault-none : (project : Project) (order : List ℕ)
    → first_list_fault project order ≡ None → IsFeasibleList project order
unfolding first_list_fault
first_list_fault-none project order none =
    let n = activity_count project in
    let nothing : IsBeginning project [] = record {
      activities = λ i d h. Prim.absurd (omega arith);
      once = λ i j d h k. Prim.absurd (omega arith);
      after = λ place a h is before. Prim.absurd (omega arith);
    } in
    elim (cases_Bool (nat_eq (length order) n)) as (λ _. IsFeasibleList project order) [
      | inl long ↦
          let whole = later_fault-none project [] order nothing (rw long at none) in
          record {
            count = eqb-true (length order) n long;
            activities = whole.activities;
            once = whole.once;
            after = whole.after;
          }
      | inr other ↦
          let wrong : Some (Length (length order) (activity_count project))
          ≡ None = rw other at none in
          Prim.absurd (cc)
    ]

pub first_list_fault-feasible : (project : Project) (order : List ℕ) → IsFeasibleList project order
    → first_list_fault project order ≡ None
unfolding first_list_fault
first_list_fault-feasible project order list =
    rw (eq-eqb (length order) (activity_count project) list.count)
    (later_fault-feasible project order [] order list refl)

-- what the code finds with a table of marks is the next fault
pub next_fault-marked : (project : Project) (before : List ℕ) (listed : List Bool) (list : List ℕ)
    (a : ℕ) (found : Option ℕ)
    → Shows (activity_count project) listed before → IsActivity project a
    → get_or listed (a - 1) false ≡ false
    → list ≡ predecessors_of project a → found ≡ find (is_unmarked listed) list
    → next_fault project before a ≡ option_map (λ p. TooEarly (length before) p) found
unfolding next_fault
next_fault-marked project before listed list a found shows activity fresh same is =
    let n = activity_count project in
    let tame : (nat_eq a 0 || nat_lt n a) ≡ false = let h = activity in grind (arith, nat_tests) in
    let out : names before a ≡ false = sym (shows.at a activity.0 activity.1) ∙ fresh in
    let agree = find_agree (is_unmarked listed) (λ p. not (names before p))
    (predecessors_of project a)
    (λ i d within. let h = (predecessors_are project a).within i d within in ap not
    (shows.at (get_or (predecessors_of project a) i d) h.0 h.1)) in
    rw (tame, out) (ap (option_map (λ p. TooEarly (length before) p))
    (sym (is ∙ (ap (find (is_unmarked listed)) same ∙ agree))))

-- one step of the test: an activity that has no fault is listed
pub later_fault-more : (project : Project) (order : List ℕ) (i : ℕ) → i < length order
    → next_fault project (take i order) (get_or order i 0) ≡ None
    → later_fault project (take (i + 1) order) (drop (i + 1) order)
    ≡ later_fault project (take i order) (drop i order)
unfolding later_fault
later_fault-more project order i within none =
    rw (drop_more order i 0 within, none, take_more order i 0 within) refl

-- and one that has a fault is where the test ends
pub later_fault-here : (project : Project) (order : List ℕ) (i : ℕ) (fault : ListFault)
    → i < length order
    → next_fault project (take i order) (get_or order i 0) ≡ Some fault
    → later_fault project (take i order) (drop i order) ≡ Some fault
unfolding later_fault
later_fault-here project order i fault within some = rw (drop_more order i 0 within, some) refl

-- the first fault of an order of the right length, and of another one
pub first_list_fault-later : (project : Project) (order : List ℕ)
    → length order ≡ activity_count project
    → first_list_fault project order ≡ later_fault project [] order
unfolding first_list_fault
first_list_fault-later project order long = rw (eq-eqb (length order) (activity_count project) long)
    refl

pub first_list_fault-length : (project : Project) (order : List ℕ)
    → length order ≢ activity_count project
    → first_list_fault project order ≡ Some (Length (length order) (activity_count project))
unfolding first_list_fault
first_list_fault-length project order other = rw (ne_eqb (length order) (activity_count project)
    other) refl

-- after the last place no fault is left
pub later_fault-end : (project : Project) (order : List ℕ) (i : ℕ) → length order ≤ i
    → later_fault project (take i order) (drop i order) ≡ None
unfolding later_fault
later_fault-end project order i past = rw (drop_all i order past) refl
