-- A change of one view and of the words keeps the rule.
use Rattle.std.proofs.Common.{◌≡◌, ℕ, suc, ◌+◌, ◌<◌, ◌≤◌, ◌⊎◌, false, List, ◌++◌, length, set, slice_index, sym, refl, ap, ◌∙◌, subst, inl, inr, arith, not}
use Rattle.std.specs.List.{Contains, sum_by}
use Rattle.std.proofs.lemmas.Bool.{cases_eq}
use mathlib.Core.Option.{Option, some, some-injective}
use lib.ListN.{get_elem?}
use Rattle.atomic_table.specs.Table.{State}
use Rattle.atomic_table.proofs.Lists.{at_set, set_here, set_else}
use Rattle.race_rule.specs.declared.view.SeekerView.{SeekerView}
use Rattle.race_rule.specs.Rule.{ticket_word, best_word, word_count, IsBestWord, Knows, IsSound, IsTaken, HasChief, IsNumbered, RaceRule, one_if, ends, lives}
use Rattle.race_rule.proofs.ViewLists.{sum_by-set}
use Rattle.race_rule.proofs.Knowing.{sound-later}

-- two views of one seeker, before and after a step of its own
pub record IsSameSeeker (old new : SeekerView) : Type 0 where
  pub spent : new.spent ≡ old.spent
  pub number : new.number ≡ old.number
  pub made : new.made ≡ old.made
  pub joined : new.joined ≡ old.joined

pub same_seeker : (v : SeekerView) → IsSameSeeker v v
same_seeker v = record { spent = refl; number = refl; made = refl; joined = refl }

-- a seeker counts the same before and after
lives-same : (v w : SeekerView) → IsSameSeeker v w → lives w ≡ lives v
lives-same v w same =
    let alive = ap (λ b. one_if (not b)) same.spent in
    let joined = same.joined in
    omega arith

-- a view at a seat after a change was there before, of the same seeker
pub at_before : (views : List SeekerView) (id : ℕ) (v w : SeekerView) (seat : ℕ) (u : SeekerView)
    → get_elem? views id ≡ some v → IsSameSeeker v w → get_elem? (set views id w) seat ≡ some u
    → (x : SeekerView) × (get_elem? views seat ≡ some x) × IsSameSeeker x u
at_before views id v w seat u at same found =
    elim (at_set views id seat w u found) [
      | inl here ↦ (
        v,
        subst (λ (i : ℕ). get_elem? views i ≡ some v) (sym here.0) at,
        subst (IsSameSeeker v) here.1 same,
      )
      | inr there ↦ (u, there.1, same_seeker u)
    ]

-- a view at a seat before is there after, or is the one that changed
pub at_after : (views : List SeekerView) (id : ℕ) (v w : SeekerView) (seat : ℕ) (u : SeekerView)
    → suc id ≤ length views → get_elem? views id ≡ some v → get_elem? views seat ≡ some u
    → ((u ≡ v) × (get_elem? (set views id w) seat ≡ some w))
    ⊎ (get_elem? (set views id w) seat ≡ some u)
at_after views id v w seat u within at found =
    elim (cases_eq seat id) [
      | inl same ↦ inl (
        some-injective u v (sym found ∙ (ap (get_elem? views) same ∙ at)),
        ap (get_elem? (set views id w)) same ∙ set_here views id w within,
      )
      | inr differ ↦ inr (set_else views id seat w differ ∙ found)
    ]

-- a step that changes one view and the words
pub record IsMove (words : List ℕ) (from : ℕ) (state : State (Unit {0}) SeekerView) (v w : SeekerView)
    (now : List ℕ) : Type 0 where
  pub wide : length now ≡ word_count
  pub best : IsBestWord words (slice_index now best_word)
  pub falls : slice_index now best_word ≤ slice_index state.words best_word
  pub rises : slice_index state.words ticket_word ≤ slice_index now ticket_word
  pub alive : w.spent ≡ false
  pub same : IsSameSeeker v w
  pub knows : Knows words from (slice_index now best_word) (slice_index now ticket_word) w
  pub kept : (t : ℕ) → Contains (v.drawn ++ v.gathered) t → Contains (w.drawn ++ w.gathered) t
  pub drawn : (t : ℕ) → t < length words → t < slice_index now ticket_word
      → (t < slice_index state.words ticket_word) ⊎ Contains (w.drawn ++ w.gathered) t
  pub count : (slice_index now ticket_word ≤ length words)
      ⊎ (slice_index now ticket_word + ends v ≤ slice_index state.words ticket_word + ends w)

-- what was drawn before still is
taken-moved : (views : List SeekerView) (id : ℕ) (v w : SeekerView) (t : ℕ) → suc id ≤ length views
    → get_elem? views id ≡ some v
    → ((u : ℕ) → Contains (v.drawn ++ v.gathered) u → Contains (w.drawn ++ w.gathered) u)
    → IsTaken views t → IsTaken (set views id w) t
taken-moved views id v w t within at kept taken =
    elim (at_after views id v w taken.seat taken.view within at taken.at) [
      | inl here ↦ record {
        seat = taken.seat;
        view = w;
        at = here.1;
        has = kept t (subst (λ (u : SeekerView). Contains (u.drawn ++ u.gathered) t) here.0
            taken.has);
      }
      | inr there ↦ record {
        seat = taken.seat;
        view = taken.view;
        at = there;
        has = taken.has;
      }
    ]

-- the ticket stays below its bound
count-moved : (n ticket later sum after a b : ℕ) → ticket ≤ n + sum → after + a ≡ sum + b
    → (later ≤ n) ⊎ (later + a ≤ ticket + b) → later ≤ n + after
count-moved n ticket later sum after a b bound change (inl low) = omega arith
count-moved n ticket later sum after a b bound change (inr high) = omega arith

-- the chief is still there
chief-moved : (views : List SeekerView) (id : ℕ) (v w : SeekerView) → suc id ≤ length views
    → get_elem? views id ≡ some v → IsSameSeeker v w → HasChief views → HasChief (set views id w)
chief-moved views id v w within at same chief =
    let sum = sum_by-set lives views id v w at in
    let alike = lives-same v w same in
    let total : sum_by lives (set views id w) ≡ chief.chief.made = omega (arith, chief.made) in
    elim (at_after views id v w 0 chief.chief within at chief.at) [
      | inl here ↦
          let made : w.made ≡ chief.chief.made =
          same.made ∙ sym (ap (λ (u : SeekerView). u.made) here.0) in
          record {
            chief = w;
            at = here.1;
            number = same.number ∙ (sym (ap (λ (u : SeekerView). u.number) here.0) ∙ chief.number);
            made = total ∙ sym made;
            few = omega (arith, chief.few);
          }
      | inr there ↦ record {
        chief = chief.chief;
        at = there;
        number = chief.number;
        made = total;
        few = chief.few;
      }
    ]

-- the numbers that were, of the same seekers
numbered-same : (c d v w : SeekerView) (seat : ℕ) → IsSameSeeker c d → IsSameSeeker v w
    → IsNumbered c seat v → IsNumbered d seat w
numbered-same c d v w seat chiefs seekers is =
    let number = seekers.number in
    let made = chiefs.made in
    let joined = chiefs.joined in
    let own = seekers.joined in
    let below = is.below in record {
      below = omega arith;
      above = λ other. let h = is.above other in (omega (arith, h.0), own ∙ h.1);
    }

-- the rule holds after such a step
pub moved : (words : List ℕ) (from : ℕ) (state : State (Unit {0}) SeekerView)
    (homes : List (Option (Unit {0}))) (id : ℕ) (v w : SeekerView) (now : List ℕ)
    → RaceRule words from state → get_elem? state.views id ≡ some v → suc id ≤ length state.views
    → IsMove words from state v w now
    → RaceRule words from (record { words = now; homes = homes; views = set state.views id w })
moved words from state homes id v w now rule at within move = record {
  are_words = rule.are_words;
  wide = move.wide;
  best = move.best;
  sound = λ seat u found.
      elim (at_set state.views id seat w u found) [
        | inl here ↦ subst (IsSound words from (slice_index now best_word)
            (slice_index now ticket_word)) here.1 (inr (move.alive, move.knows))
        | inr there ↦ sound-later words from (slice_index state.words best_word)
            (slice_index state.words ticket_word) (slice_index now best_word)
            (slice_index now ticket_word) u move.falls move.rises (rule.sound seat u there.1)
      ];
  taken = λ t inside below.
      elim (move.drawn t inside below) [
        | inl before ↦ taken-moved state.views id v w t within at move.kept
            (rule.taken t inside before)
        | inr new ↦ record { seat = id; view = w; at = set_here state.views id w within; has = new }
      ];
  count = count-moved (length words) (slice_index state.words ticket_word)
      (slice_index now ticket_word) (sum_by ends state.views) (sum_by ends (set state.views id w))
      (ends v) (ends w) rule.count (sum_by-set ends state.views id v w at) move.count;
  chief = chief-moved state.views id v w within at move.same rule.chief;
  numbered = λ chief first seat u found alive.
      let c = at_before state.views id v w 0 chief at move.same first in
      let x = at_before state.views id v w seat u at move.same found in
      numbered-same c.0 chief x.0 u seat c.2 x.2
      (rule.numbered c.0 c.1 seat x.0 x.1 (sym x.2.spent ∙ alive));
  apart = λ a b x y at_a at_b alive_x alive_y numbers.
      let p = at_before state.views id v w a x at move.same at_a in
      let q = at_before state.views id v w b y at move.same at_b in
      rule.apart a b p.0 q.0 p.1 q.1 (sym p.2.spent ∙ alive_x) (sym q.2.spent ∙ alive_y)
      (sym p.2.number ∙ (numbers ∙ q.2.number));
}
