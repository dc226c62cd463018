-- Once all seekers have ended and are taken in, the best word is the least of all.
use Rattle.std.proofs.Common.{◌≡◌, ◌≢◌, ℕ, ◌+◌, ◌<◌, ◌≤◌, ◌⊎◌, true, false, not, List, [], ◌++◌, length, slice_index, sym, ap, ◌∙◌, subst, inl, inr, arith, Some}
use Rattle.std.specs.List.{Contains, sum_by}
use Rattle.std.proofs.lemmas.Bool.{cases_eq, cases_Bool}
use Rattle.std.proofs.lemmas.List.Elements.{All-contains, All-from_get_or, Contains-append_cases}
use mathlib.Core.Option.{some, some-injective}
use lib.ListN.{get_elem?}
use Rattle.atomic_table.specs.Table.{State, Seen}
use Rattle.race_rule.specs.declared.view.SeekerView.{SeekerView}
use Rattle.race_rule.specs.declared.view.TheConstants.{NO_WORD}
use Rattle.race_rule.specs.Rule.{ticket_word, best_word, AreWords, IsBestWord, RaceRule, IsLeastWord, one_if, lives}
use Rattle.race_rule.proofs.ViewLists.{sum_by-two}
use Rattle.race_rule.proofs.Knowing.{knows, is_blank}

-- where seeker 0 has taken in all others, each other view is spent
all_spent : (words : List ℕ) (from : ℕ) (state : State (Unit {0}) SeekerView) (v u : SeekerView)
    (seat : ℕ) → RaceRule words from state → get_elem? state.views 0 ≡ some v → v.spent ≡ false
    → v.joined + 1 ≡ v.made → seat ≢ 0 → get_elem? state.views seat ≡ some u → u.spent ≡ true
all_spent words from state v u seat rule at alive all other found =
    elim (cases_Bool u.spent) [
      | inl spent ↦ spent
      | inr living ↦
          let chief = rule.chief in
          let is : chief.chief ≡ v = some-injective chief.chief v (sym chief.at ∙ at) in
          let made : sum_by lives state.views ≡ v.made =
          chief.made ∙ ap (λ (x : SeekerView). x.made) is in
          let own : one_if (not v.spent) ≡ 1 = ap (λ b. one_if (not b)) alive in
          let its : one_if (not u.spent) ≡ 1 = ap (λ b. one_if (not b)) living in
          absurd (omega (arith, sum_by-two lives state.views seat 0 u v other found at))
    ]

-- the best word is at most that of each sample
least_of_all : (words : List ℕ) (from : ℕ) (state : State (Unit {0}) SeekerView) (v : SeekerView)
    (t : ℕ) → RaceRule words from state → get_elem? state.views 0 ≡ some v → v.spent ≡ false
    → v.ended ≡ true → v.joined + 1 ≡ v.made → t < length words
    → slice_index state.words best_word ≤ slice_index words t
least_of_all words from state v t rule at alive ended all within =
    let best = slice_index state.words best_word in
    let n = slice_index state.words ticket_word in
    let k = knows words from best n v (rule.sound 0 v at) alive in
    let over = k.over ended in
    let far = over.1 in
    let idle = over.0 in
    let taken = rule.taken t within (omega arith) in
    let own : Contains (v.drawn ++ v.gathered) t =
    elim (cases_eq taken.seat 0) [
      | inl first ↦
          let is : taken.view ≡ v = some-injective taken.view v
          (sym taken.at ∙ (ap (get_elem? state.views) first ∙ at)) in
          subst (λ (u : SeekerView). Contains (u.drawn ++ u.gathered) t) is taken.has
      | inr other ↦
          let spent = all_spent words from state v taken.view taken.seat rule at alive all other
          taken.at in
          let is = is_blank words from best n taken.view (rule.sound taken.seat taken.view taken.at)
          spent in
          let none : Contains ([] ++ []) t =
          subst (λ (u : SeekerView). Contains (u.drawn ++ u.gathered) t) is taken.has in
          absurd (omega (arith, none.1))
    ] in
    elim (Contains-append_cases v.drawn v.gathered t own) [
      | inl drawn ↦
          elim (All-contains (λ u. u < length words → Contains v.done u ⊎ (v.hand ≡ Some u)) v.drawn
          t k.settled drawn within) [
            | inl done ↦ All-contains (λ u. best ≤ slice_index words u) v.done t k.done done
            | inr hand ↦ absurd (cc)
          ]
      | inr gathered ↦ All-contains (λ u. u < length words → best ≤ slice_index words u) v.gathered
          t k.gathered gathered within
    ]

-- a best word that is at most each word is one of them
is_word : (words : List ℕ) (best : ℕ) → AreWords words → IsBestWord words best
    → best ≤ slice_index words 0 → Contains words best
is_word words best are (inl none) low =
    let some = are.some in
    let below : slice_index words 0 < NO_WORD = are.below 0 0 some in
    absurd (omega arith)
is_word words best are (inr word) low = word

-- so it is the least word
pub finishes : (words : List ℕ) (from : ℕ) (state : State (Unit {0}) SeekerView) (v : SeekerView)
    → Seen (RaceRule words from) 0 v state → v.spent ≡ false → v.ended ≡ true
    → v.joined + 1 ≡ v.made → IsLeastWord words (slice_index state.words best_word)
finishes words from state v held alive ended all =
    let rule = held.0 in
    let at = held.1 in
    let best = slice_index state.words best_word in
    let each = λ (t : ℕ) (within : t < length words).
    least_of_all words from state v t rule at alive ended all within in
    record {
      is = is_word words best rule.are_words rule.best (each 0 rule.are_words.some);
      least = All-from_get_or (λ word. best ≤ word) words 0 each;
    }
