-- Taking activities away one after another.
use Rattle.std.proofs.Common.{◌≡◌, ◌≢◌, ℕ, ◌+◌, ◌-◌, ◌<◌, ◌≤◌, Bool, true, false, not, List, [], ◌∷◌, ◌++◌, Vec, Global, length, get_or, take, set, map, replicate, sym, refl, ap, ◌∙◌, subst, inl, inr, arith, true≢false}
use Rattle.std.specs.List.{All, AllPairs, Contains, count_by, sum_by}
use Rattle.std.proofs.lemmas.Bool.{cases_eq, cases_lt, not-true, not-false}
use Rattle.std.proofs.lemmas.List.{get_or_push, get_or_append_left, get_or_default, get_or-replicate, length-replicate, length_push, take-append-le, take_all, get_or-map, length-map, map-id, length-set, get_or-set_other, take_more}
use Rattle.std.proofs.lemmas.Grind.{get_or-set_at}
use Rattle.std.proofs.lemmas.List.Elements.{All-push, All-contains, All-weaker, Contains-get_or}
use Rattle.std.proofs.lemmas.List.Quantifiers.{all_pairs_push}
use Rattle.std.proofs.lemmas.List.Sums.{sum_by-cons}
use Rattle.std.proofs.lemmas.List.FromFn.{length-map-range_with_len}
use Rattle.rc_instance.specs.Lists.{names, numbers}
use Rattle.rc_instance.specs.Project.{Project, activity_count, IsActivity, Precedes, precedes, successors_of}
use Rattle.rc_instance.proofs.ListLaws.{length-numbers}
use Rattle.rc_instance.proofs.OrderLaws.{sum_by-distinct, Contains-numbers}
use Rattle.activity_net.specs.Network.{predecessors_of, predecessor_table}
use Rattle.activity_net.specs.Tables.{lists_in, lengths_in, Shows, IsFree, IsReleased}
use Rattle.activity_net.specs.Removal.{IsBeginning, IsRemoval}
use Rattle.activity_net.proofs.NameLaws.{names_filter, contains_named, named_contains, not_named, distinct_from_rising}
use Rattle.activity_net.proofs.CountLaws.{count-none, count-some, count-named, count-all, count-push}
use Rattle.activity_net.proofs.TableLaws.{Shows-push}
use Rattle.activity_net.proofs.PredecessorLaws.{predecessors_are, table_at}

-- a direct predecessor is in the list of them
pub named_predecessor : (project : Project) (a b : ℕ) → IsActivity project a
    → names (predecessors_of project b) a ≡ precedes project a b
unfolding predecessors_of
named_predecessor project a b activity =
    let named = named_contains (numbers (activity_count project)) a
    (Contains-numbers (activity_count project) a activity.0 activity.1) in
    names_filter (λ p. precedes project p b) (numbers (activity_count project)) a
    ∙ rw named refl

-- and what the list names is a direct predecessor
pub predecessor_named : (project : Project) (a b : ℕ) → names (predecessors_of project b) a ≡ true
    → IsActivity project a × Precedes project a b
predecessor_named project a b named =
    let activity : IsActivity project a = All-contains (IsActivity project)
    (predecessors_of project b) a
    (predecessors_are project b).within (contains_named (predecessors_of project b) a named) in
    (activity, sym (named_predecessor project a b activity) ∙ named)

-- a sum of ones is the length
pub ones : (xs : List ℕ) → sum_by (λ _. 1) xs ≡ length xs
ones [] = refl
ones (x ∷ xs) = omega (arith, sum_by-cons (λ (_ : ℕ). 1) x xs, ones xs)

-- distinct activities are at most all of them
pub distinct_few : (project : Project) (order : List ℕ) → All (IsActivity project) order
    → AllPairs (λ a b. a ≢ b) order
    → length order ≤ activity_count project
distinct_few project order activities once =
    let n = activity_count project in
    let within = All-weaker (IsActivity project) (Contains (numbers n))
    (λ a h. Contains-numbers n a h.0 h.1) order activities in
    omega (
      arith,
      sum_by-distinct (λ _. 1) order (numbers n) once within,
      ones order,
      ones
          (numbers n),
      length-numbers n,
    )

pub length-beginning-le : (project : Project) (order : List ℕ) → IsBeginning project order
    → length order ≤ activity_count project
length-beginning-le project order beginning = distinct_few project order beginning.activities
    beginning.once

-- the beginning of a feasible list goes on with an activity whose direct predecessors it names
pub IsBeginning-push : (project : Project) (order : List ℕ) (a : ℕ) → IsBeginning project order
    → IsActivity project a
    → names order a ≡ false → ((p : ℕ) → IsActivity project p → Precedes project p a
    → names order p ≡ true)
    → IsBeginning project (order ++ a ∷ [])
IsBeginning-push project order a beginning activity fresh all = record {
  activities = All-push (IsActivity project) order a beginning.activities activity;
  once = all_pairs_push (λ x y. x ≢ y) order a beginning.once
      (λ k d within same. true≢false
      (sym (named_contains order a (k, within, get_or_default order k a d within ∙ same))
      ∙ fresh));
  after = λ place p within is before.
      let long = length_push order a in
      elim (cases_lt place (length order)) as (λ _. Contains (take place (order ++ a ∷ [])) p) [
        | inl earlier ↦
            let at = get_or_append_left order (a ∷ []) 0 place earlier in
            rw (take-append-le place order (a ∷ []) (omega arith))
            (beginning.after place p earlier is (subst (Precedes project p) at before))
        | inr last ↦
            let here : length order ≡ place = omega arith in
            let at = get_or_push order a 0 place here in
            let named = all p is (subst (Precedes project p) at before) in
            rw (
              take-append-le place order (a ∷ []) (omega arith),
              take_all place order
                  (omega arith),
            )
            (contains_named order p named)
      ];
}

-- what the removal keeps: the marks show the order, and each activity waits for its predecessors
-- that are left
pub record IsReached (project : Project) (order : List ℕ) (removed : List Bool) (waiting : List ℕ) :
    Type 0 where
  pub beginning : IsBeginning project order
  pub shows : Shows (activity_count project) removed order
  pub count : length waiting ≡ activity_count project
  pub counts : (b : ℕ) → IsActivity project b
      → get_or waiting (b - 1) 0 ≡ count_by (λ a. not (names order a)) (predecessors_of project b)

-- the lengths of the lists that vectors hold
lengths_are : (vectors : List (Vec ℕ Global)) → lengths_in vectors ≡ map length (lists_in vectors)
lengths_are [] = refl
lengths_are (v ∷ vs) = ap (λ ns. length v.items ∷ ns) (lengths_are vs)

-- at first each activity waits for all its predecessors
pub reached_none : (project : Project) (predecessors : List (Vec ℕ Global))
    → lists_in predecessors ≡ predecessor_table project
    → IsReached project [] (replicate (activity_count project) false) (lengths_in predecessors)
reached_none project predecessors table =
    let n = activity_count project in
    let long : length predecessors ≡ n = sym (length-map predecessors _)
    ∙ (ap length table ∙ length-map-range_with_len (predecessors_of project) 1 n) in
    record {
      beginning = record {
        activities = λ i d h. Prim.absurd (omega arith);
        once = λ i j d h k. Prim.absurd (omega arith);
        after = λ place a h is before. Prim.absurd (omega arith);
      };
      shows = record {
        count = length-replicate n false;
        at = λ a from upto. get_or-replicate n (a - 1) false false (omega arith);
      };
      count = length-map predecessors _ ∙ long;
      counts = λ b activity.
          let inside : b - 1 < length (lists_in predecessors) = omega
          (arith, length-map predecessors (λ (v : Vec ℕ Global). v.items)) in
          let all = count-all (λ a. not (names [] a)) (predecessors_of project b) (λ _. refl) in
          let at = table_at (predecessors_of project) (λ (list : List ℕ). list)
          (lists_in predecessors) n b [] (map-id (lists_in predecessors) ∙ table) activity.0
          activity.1 in
          ap (λ list. get_or list (b - 1) 0) (lengths_are predecessors)
          ∙ (get_or-map length (lists_in predecessors) (b - 1) [] 0 inside
          ∙ (ap length at ∙ sym all));
    }

-- the same with the tables as they are made
pub reached_start : (project : Project) (order : List ℕ) (removed : List Bool) (waiting : List ℕ)
    (count : ℕ) (predecessors : List (Vec ℕ Global))
    → lists_in predecessors ≡ predecessor_table project → order ≡ []
    → removed ≡ replicate count false → count ≡ activity_count project
    → waiting ≡ lengths_in predecessors → IsReached project order removed waiting
reached_start project order removed waiting count predecessors table empty unmarked same lengths =
    let start = reached_none project predecessors table in
    subst (λ (xs : List ℕ). IsReached project xs removed waiting) (sym empty)
    (subst (λ (ms : List Bool). IsReached project [] ms waiting)
    (sym (unmarked ∙ ap (λ (n : ℕ). replicate n false) same))
    (subst (λ (ws : List ℕ). IsReached project [] (replicate (activity_count project) false) ws)
    (sym lengths) start))

-- a free activity is taken away, and its successors are released
pub reached_more : (project : Project) (order : List ℕ) (removed : List Bool) (waiting now : List ℕ)
    (a : ℕ) (successors : List ℕ)
    → IsReached project order removed waiting → IsFree waiting removed a
    → successors ≡ successors_of project a
    → length now ≡ length waiting → IsReleased successors waiting now
    → IsReached project (order ++ a ∷ []) (set removed (a - 1) true) now
unfolding precedes
reached_more project order removed waiting now a successors reached free same long released =
    let activity : IsActivity project a =
    (free.within.0, omega (arith, free.within.1, reached.shows.count)) in
    let fresh : names order a ≡ false = sym (reached.shows.at a activity.0 activity.1)
    ∙ free.unmarked in
    let idle : count_by (λ p. not (names order p)) (predecessors_of project a)
    ≡ 0 = sym (reached.counts a activity) ∙ free.free in
    let all : (p : ℕ) → IsActivity project p → Precedes project p a → names order p ≡ true =
    λ p is before. not-false (names order p) (count-none (λ p. not (names order p))
    (predecessors_of project a) p idle
    (named_predecessor project p a is ∙ before)) in
    record {
      beginning = IsBeginning-push project order a reached.beginning activity fresh all;
      shows = Shows-push (activity_count project) removed order a activity.0 activity.1
          reached.shows;
      count = long ∙ reached.count;
      counts = λ b is.
          let e : names successors b ≡ names (predecessors_of project b) a =
          ap (λ list. names list b) same ∙ sym (named_predecessor project a b activity) in
          let falls = rw e at (released.at b is.0 (omega (arith, reached.count, is.1))) in
          let pushed = count-push order (predecessors_of project b) a fresh
          (distinct_from_rising (predecessors_of project b) (predecessors_are project b).rising) in
          omega (arith, falls, pushed, reached.counts b is);
    }

-- the successors of a free activity wait for it
pub free_waits : (project : Project) (order : List ℕ) (removed : List Bool) (waiting : List ℕ)
    (a : ℕ)
    → IsReached project order removed waiting → IsFree waiting removed a
    → All (IsActivity project) (successors_of project a) → All (λ b. 0 < get_or waiting (b - 1) 0)
    (successors_of project a)
unfolding precedes
free_waits project order removed waiting a reached free activities = λ k d within.
    let b = get_or (successors_of project a) k d in
    let activity : IsActivity project a =
    (free.within.0, omega (arith, free.within.1, reached.shows.count)) in
    let is = activities k d within in
    let fresh : names order a ≡ false = sym (reached.shows.at a activity.0 activity.1)
    ∙ free.unmarked in
    let before : Precedes project a b = named_contains (successors_of project a) b
    (Contains-get_or (successors_of project a) k d within) in
    let some = count-named (λ p. not (names order p)) (predecessors_of project b) a
    (named_predecessor project a b activity ∙ before) (ap not fresh) in
    omega (arith, reached.counts b is)

-- where none is free, each activity that is left is held back
pub reached_all : (project : Project) (order : List ℕ) (removed : List Bool) (waiting : List ℕ)
    → IsReached project order removed waiting → ((a : ℕ) → IsFree waiting removed a → ⊥)
    → IsRemoval project order removed
reached_all project order removed waiting reached none = record {
  beginning = reached.beginning;
  shows = reached.shows;
  held = λ b is left.
      let waits : 0 < count_by (λ p. not (names order p)) (predecessors_of project b) =
      elim (cases_eq (get_or waiting (b - 1) 0) 0) as
      (λ _. 0 < count_by (λ p. not (names order p)) (predecessors_of project b)) [
        | inl idle ↦ Prim.absurd (none b (record {
          within = (is.0, omega (arith, reached.shows.count, is.1));
          unmarked = reached.shows.at b is.0 is.1 ∙ left;
          free = idle;
        }))
        | inr more ↦ omega (arith, reached.counts b is)
      ] in
      let by = count-some (λ p. not (names order p)) (predecessors_of project b) waits in
      let before = predecessor_named project by.0 b by.1 in
      record {
        by = by.0;
        activity = before.0;
        precedes = before.1;
        left = not-true
            (names order by.0) by.2;
      };
}

-- one step of the removal, with what the tables are known to hold, and the order comes nearer its
-- end
pub reached_step : (project : Project) (order later : List ℕ) (removed marks : List Bool)
    (waiting before counts now : List ℕ) (a : ℕ) (successors : List ℕ)
    → IsReached project order removed waiting → counts ≡ waiting → marks ≡ removed
    → IsFree counts marks a
    → later ≡ order ++ a ∷ [] → successors ≡ successors_of project a
    → before ≡ waiting → length now ≡ length before → IsReleased successors before now
    → IsReached project later (set removed (a - 1) true) now
    × (activity_count project - length later < activity_count project - length order)
reached_step project order later removed marks waiting before counts now a successors reached
    is_counts is_marks free is_later same is_before long released =
    let is_free = subst (λ (m : List Bool). IsFree waiting m a) is_marks
    (subst (λ (w : List ℕ). IsFree w marks a) is_counts free) in
    let is_released = subst (λ (w : List ℕ). IsReleased successors w now) is_before released in
    let step = reached_more project order removed waiting now a successors reached is_free same
    (long ∙ ap length is_before) is_released in
    let few = length-beginning-le project (order ++ a ∷ []) step.beginning in (
      subst (λ (list : List ℕ). IsReached project list (set removed (a - 1) true) now)
          (sym is_later) step,
      omega (arith, length_push order a, ap length is_later),
    )

-- the search for a free activity can begin at a place: before it there is none
pub record IsSearched (waiting : List ℕ) (removed : List Bool) (from : ℕ) : Type 0 where
  pub inside : from ≤ length removed
  pub none : (a : ℕ) → a ≤ from → IsFree waiting removed a → ⊥

-- nothing was searched yet
pub IsSearched-none : (waiting : List ℕ) (removed : List Bool) → IsSearched waiting removed 0
IsSearched-none waiting removed = record {
  inside = omega arith;
  none = λ a early free. Prim.absurd (omega (arith, early, free.within.0));
}

-- once the least free activity was taken away, what stands before a place waits as it did
pub IsSearched-more : (waiting now : List ℕ) (removed : List Bool) (a place : ℕ)
    (successors : List ℕ) → length waiting ≡ length removed → IsFree waiting removed a
    → ((x : ℕ) → x < a → IsFree waiting removed x → ⊥) → IsReleased successors waiting now
    → place ≤ a → All (λ b. place < b) successors
    → IsSearched now (set removed (a - 1) true) place
IsSearched-more waiting now removed a place successors count taken least released most before =
    let after = set removed (a - 1) true in
    let long : length after ≡ length removed = length-set removed (a - 1) true in
    let inside : a - 1 < length removed = omega (arith, taken.within.0, taken.within.1) in
    record {
      inside = omega (arith, long, most, taken.within.1);
      none = λ x early free.
          let unnamed : names successors x ≡ false = not_named successors x
          (λ h. let late = before h.0 x h.1 in omega (arith, late, h.2, early)) in
          let upto : x ≤ length waiting = omega (arith, free.within.1, long, count) in
          let kept = rw unnamed at (released.at x free.within.0 upto) in
          let waits : get_or waiting (x - 1) 0 ≡ 0 = omega (arith, kept, free.free) in
          elim (cases_eq x a) [
            | inl same ↦
                let place_is : x - 1 ≡ a - 1 = omega (arith, same) in
                let marked = get_or-set_at removed (a - 1) (x - 1) true false place_is inside in
                Prim.absurd (true≢false (sym marked ∙ free.unmarked))
            | inr other ↦
                let apart : x - 1 ≢ a - 1 = λ e. other (omega (
                  arith,
                  e,
                  free.within.0,
                  taken.within.0,
                )) in
                let unmarked = sym (get_or-set_other removed (a - 1) (x - 1) true false apart)
                ∙ free.unmarked in
                least x (omega (arith, other, early, most)) (record {
                  within = (free.within.0, omega (arith, free.within.1, long));
                  unmarked = unmarked;
                  free = waits;
                })
          ];
    }

-- a place before each of the successors so far and the next one
pub next_place_more : (successors : List ℕ) (i place next : ℕ) → i < length successors
    → next ≤ place → next < get_or successors i 0 → All (λ b. place < b) (take i successors)
    → All (λ b. next < b) (take (i + 1) successors)
next_place_more successors i place next inside lower here before =
    let P = λ (b : ℕ). next < b in
    let so_far = All-weaker (λ (b : ℕ). place < b) P (λ b above. omega (arith, above, lower))
    (take i successors) before in
    rw (take_more successors i 0 inside)
    (All-push P (take i successors) (get_or successors i 0) so_far here)
