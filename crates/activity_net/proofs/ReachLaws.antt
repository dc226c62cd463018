-- The sets of followers, made from those of the direct successors.
use Rattle.std.proofs.Common.{◌≡◌, ◌≢◌, ℕ, ◌+◌, ◌-◌, ◌<◌, ◌≤◌, ◌||◌, Bool, true, false, List, [], length, get_or, set, slice_index, nat_eq, if◌then◌else◌, sym, refl, ap, ◌∙◌, subst, inl, inr, arith, ◌⊎◌}
use Rattle.std.specs.List.{list_any}
use Rattle.std.proofs.lemmas.Bool.{cases_lt, cases_eq, or_cases, or_left, or_right, eqb-true, eq-eqb, ne_eqb}
use Rattle.rc_instance.specs.Lists.{names}
use Rattle.rc_instance.specs.Project.{Project, activity_count, IsActivity, Precedes, precedes, successors_of}
use Rattle.rc_instance.specs.Calendar.{IsWithinLimits}
use Rattle.rc_instance.specs.Order.{IsFeasibleList}
use Rattle.rc_instance.proofs.OrderLaws.{feasible_list-before, place_in_feasible_list}
use Rattle.activity_net.specs.Follows.{Follows, followers, has_bit, set_of, IsGathered, HoldsFollowers, HoldFollowers, set_width}
use Rattle.activity_net.proofs.TableLaws.{place-set}
use Rattle.activity_net.proofs.StuckLaws.{any_named, named_any}
use Rattle.activity_net.proofs.FollowLaws.{successor_is, follows_first, first_step, follows_named, named_follower}

-- two tests that are true together are the same
same_test : (p q : Bool) → (p ≡ true → q ≡ true) → (q ≡ true → p ≡ true) → p ≡ q
same_test true q there back = sym (there refl)
same_test false true there back = back refl
same_test false false there back = refl

-- a direct successor stands later in a feasible list
successor_later : (project : Project) (order : List ℕ) (place s : ℕ) → IsFeasibleList project order
    → place < length order
    → IsActivity project s → Precedes project (slice_index order place) s
    → (later : ℕ) × (place < later) × (later < length order) × (slice_index order later ≡ s)
successor_later project order place s list within activity before =
    let here = place_in_feasible_list project order s list activity in
    let a = slice_index order place in
    let first = feasible_list-before project order here.0 a list here.1
    (list.activities place 0 within)
    (subst (Precedes project a) (sym here.2) before) in
    let later : place < here.0 =
    elim (cases_lt place here.0) as (λ _. place < here.0) [
      | inl less ↦ less
      | inr more ↦ Prim.absurd (list.once first.0 place 0 (omega (arith, first.1)) within first.2)
    ] in
    (here.0, later, here.1, here.2)

-- the set that is gathered from the successors of a holds its followers
pub HoldsFollowers-gathered : (project : Project) (order : List ℕ) (width : ℕ)
    (sets : List (List ℕ)) (a : ℕ) (words : List ℕ)
    → IsWithinLimits project → IsFeasibleList project order → IsActivity project a
    → width ≡ set_width project
    → IsGathered width sets (successors_of project a) words
    → ((s : ℕ) → IsActivity project s → Precedes project a s
    → HoldsFollowers project s (set_of sets s))
    → HoldsFollowers project a words
unfolding precedes
HoldsFollowers-gathered project order width sets a words limits list activity wide gathered hold =
    record {
      count = gathered.count ∙ wide;
      at = λ b is.
          let test = λ (s : ℕ). nat_eq s b || has_bit (set_of sets s) b in
          gathered.at b ∙ same_test (list_any test (successors_of project a))
          (names (followers project a) b)
          (λ any.
          let s = named_any test (successors_of project a) any in
          let later = successor_is project a s.0 limits activity s.1 in
          let rest : (s.0 ≡ b) ⊎ Follows project s.0 b =
          elim (or_cases (nat_eq s.0 b) (has_bit (set_of sets s.0) b) s.2) as
          (λ _. (s.0 ≡ b) ⊎ Follows project s.0 b) [
            | inl same ↦ inl (eqb-true s.0 b same)
            | inr has ↦ inr (follows_named project s.0 b (sym ((hold s.0 later s.1).at b is) ∙ has))
          ] in
          named_follower project order a b limits list activity
          (follows_first project a b s.0 s.1 rest))
          (λ named.
          let s = first_step project a b (follows_named project a b named) in
          let later = successor_is project a s.0 limits activity s.1 in
          any_named test (successors_of project a) s.0 s.1
          (elim (s.2) as (λ _. test s.0 ≡ true) [
            | inl same ↦ or_left (nat_eq s.0 b) (has_bit (set_of sets s.0) b) (eq-eqb s.0 b same)
            | inr follows ↦ or_right (nat_eq s.0 b) (has_bit (set_of sets s.0) b)
                ((hold s.0 later s.1).at b is ∙ named_follower project order s.0 b limits list later
                follows)
          ]));
    }

-- the sets of the last activities of an order hold their followers
abbrev pub AreMade : Project → List ℕ → ℕ → List (List ℕ) → Type 0
AreMade project order after sets =
    (place : ℕ) → length order ≤ place + after → place < length order
    → HoldsFollowers project (get_or order place 0) (set_of sets (get_or order place 0))

-- so do those of the direct successors of the one before them
pub made_successor : (project : Project) (order : List ℕ) (after : ℕ) (sets : List (List ℕ))
    (place s : ℕ) → IsFeasibleList project order
    → AreMade project order after sets → place < length order → length order ≤ place + after + 1
    → IsActivity project s
    → Precedes project (get_or order place 0) s → HoldsFollowers project s (set_of sets s)
made_successor project order after sets place s list made within last activity before =
    let later = successor_later project order place s list within activity before in
    subst (λ (a : ℕ). HoldsFollowers project a (set_of sets a)) later.3
    (made later.0 (omega (arith, later.1)) later.2)

-- one set more
pub made_more : (project : Project) (order : List ℕ) (after : ℕ) (sets : List (List ℕ)) (place : ℕ)
    (words : List ℕ) → IsFeasibleList project order
    → AreMade project order after sets → length sets ≡ activity_count project → place < length order
    → length order ≡ place + after + 1
    → HoldsFollowers project (get_or order place 0) words
    → AreMade project order (after + 1) (set sets (get_or order place 0 - 1) words)
made_more project order after sets place words list made count within last new = λ other from upto.
    let a = get_or order place 0 in
    let b = get_or order other 0 in
    let is = list.activities place 0 within in
    let also = list.activities other 0 upto in
    rw (place-set sets a b words [] is.0 (omega arith) also.0)
    (elim (cases_eq a b) as
    (λ _. HoldsFollowers project b (if nat_eq a b then words else get_or sets (b - 1) [])) [
      | inl same ↦ rw (eq-eqb a b same) (subst (λ (c : ℕ). HoldsFollowers project c words) same new)
      | inr differ ↦
          let further : other ≢ place = λ e. differ (ap (λ (i : ℕ). get_or order i 0) (sym e)) in
          rw (ne_eqb a b differ) (made other (omega arith) upto)
    ])

-- all sets
pub made_all : (project : Project) (order : List ℕ) (after : ℕ) (sets : List (List ℕ))
    → IsFeasibleList project order
    → AreMade project order after sets → length sets ≡ activity_count project → length order ≤ after
    → HoldFollowers project sets
made_all project order after sets list made count all = record {
  count = count;
  at = λ a activity.
      let place = place_in_feasible_list project order a list activity in
      subst (λ (b : ℕ). HoldsFollowers project b (set_of sets b)) place.2
      (made place.0 (omega arith) place.1);
}
