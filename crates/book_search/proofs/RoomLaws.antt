-- Loading one word more of the profile, or floors that lead past a block.
use Rattle.std.proofs.Common.{◌≡◌, ℕ, ◌+◌, ◌<◌, ◌≤◌, true, false, if◌then◌else◌, inl, inr, refl, sym, subst, ◌∙◌, arith}
use Rattle.std.proofs.lemmas.Bool.{cases_lt, cond_both}
use Rattle.std.proofs.lemmas.Bool.Decides.{nat_tests}
use Rattle.std.proofs.Math.Nat.{mul-le-mul_left}
use Rattle.activity_net.specs.Network.{Listing}
use Rattle.book_rule.specs.declared.view.Reach.{Reach}
use Rattle.book_rule.specs.declared.view.Search.{Search}
use Rattle.book_rule.specs.declared.view.View.{View}
use Rattle.book_rule.specs.Listed.{lasts, width, horizon_of}
use Rattle.book_rule.specs.Reaches.{none_reached, next_reach, is_whole}
use Rattle.book_rule.specs.Searches.{needs_next, is_full, is_chosen, block_end}
use Rattle.book_rule.specs.Views.{after_profile}
use Rattle.book_rule.proofs.SearchCases.{reach_cases}
use Rattle.book_search.specs.Sought.{IsSought}
use Rattle.book_search.specs.Steps.{IsUnderWay, IsDue, place_of, SearchesOn, IsPast}

-- what one turn of the search has made: it is under way, and further on
pub record GoesFurther (list : Listing) (v w : View) : Type 0 where
  pub under : IsUnderWay list w.search
  pub on : SearchesOn list v w
  pub further : place_of v.search < place_of w.search

-- the next word of a search is inside its period
pub words_inside : (list : Listing) (s : Search) → IsUnderWay list s → 0 < width list
    → s.free.words < width list
words_inside list s under wide = elim (cases_lt 0 s.free.words) [
  | inl some ↦ under.inside some
  | inr none ↦ omega arith
]

pub words-few : (list : Listing) (s : Search) → IsUnderWay list s → width list ≤ 4
    → s.free.words ≤ 4
words-few list s under narrow = elim (cases_lt 0 s.free.words) [
  | inl some ↦ let inside = under.inside some in omega arith
  | inr none ↦ omega arith
]

module _ (list : Listing) where
  -- past the period of a full word
  goes_past : (v : View) (loaded least : ℕ) (z : View) → IsDue list v.search
      → v.search.least + v.search.free.periods < least → least ≤ horizon_of list
      → v.loaded ≤ loaded → loaded ≤ v.loaded + 1
      → z ≡ record v {
        loaded = loaded;
        search = record v.search { least = least; free = none_reached };
        block = z.block;
        kept = z.kept;
      }
      → GoesFurther list v z
  goes_past v loaded least z due later within rises one is =
      let s : Search = v.search in
      let under = due.under in
      let words = words_inside list s under due.wide.0 in
      let step : s.least + s.free.periods + 1 ≤ least = omega arith in
      let row = mul-le-mul_left (width list) step in
      let there : View = record v {
        loaded = loaded;
        search = record s { least = least; free = none_reached };
        block = z.block;
        kept = z.kept;
      } in
      let all : GoesFurther list v there = record {
        under = record {
          read = under.read;
          within = omega arith;
          some = omega arith;
          more = λ h. omega arith;
          inside = λ h. omega arith;
          ends = λ h. omega arith;
        };
        on = record {
          sought = record {
            only = refl;
            position = refl;
            ahead = refl;
            begun = refl;
            later = omega arith;
          };
          rises = omega arith;
          loads = omega arith;
          none = λ still. let more = due.more in omega arith;
        };
        further = omega arith;
      } in
      subst (λ (y : View). GoesFurther list v y) (sym is) all

  -- further by a word with room
  goes_along : (v z : View) → IsDue list v.search
      → z ≡ record v {
        loaded = v.loaded + 1;
        search = record v.search { free = next_reach (width list) v.search.free };
        block = z.block;
        kept = z.kept;
      }
      → GoesFurther list v z
  goes_along v z due is =
      let s : Search = v.search in
      let under = due.under in
      let words = words_inside list s under due.wide.0 in
      let there : Reach → View = λ r. record v {
        loaded = v.loaded + 1;
        search = record s { free = r };
        block = z.block;
        kept = z.kept;
      } in
      let sought : (r : Reach) → IsSought v (there r) = λ r. record {
        only = refl;
        position = refl;
        ahead = refl;
        begun = refl;
        later = omega arith;
      } in
      let more = due.more in
      let ends = due.ends in
      subst (λ (y : View). GoesFurther list v y) (sym is)
      (reach_cases (λ r. GoesFurther list v (there r)) (width list) s.free
      (λ inside. record {
        under = record {
          read = under.read;
          within = under.within;
          some = under.some;
          more = λ _. due.more;
          inside = λ _. inside;
          ends = λ _. due.ends;
        };
        on = record {
          sought = sought (record { periods = s.free.periods; words = s.free.words + 1 });
          rises = omega arith;
          loads = omega arith;
          none = λ still. omega arith;
        };
        further = omega arith;
      })
      (λ last. record {
        under = record {
          read = under.read;
          within = omega arith;
          some = omega arith;
          more = λ h. omega arith;
          inside = λ h. omega arith;
          ends = λ h. omega arith;
        };
        on = record {
          sought = sought (record { periods = s.free.periods + 1; words = 0 });
          rises = omega arith;
          loads = omega arith;
          none = λ still. omega arith;
        };
        further = omega arith;
      }))

  -- the word that the search needs was loaded
  pub word_loaded : (v w : View) (p q x : ℕ) → IsDue list v.search
      → p ≡ v.search.least + v.search.free.periods → q ≡ v.search.free.words
      → w ≡ after_profile list v p q x → GoesFurther list v w
  word_loaded v w p q x due at index is =
      let s : Search = v.search in
      let read = due.under.read in
      let more = due.more in
      let ends = due.ends in
      let needs : needs_next list p q s ≡ true = grind (arith, nat_tests) in
      let late : Search = record s { least = p + 1; free = none_reached } in
      let along : Search = record s { free = next_reach (width list) s.free } in
      let test = is_full list s.position p q x in
      let there : Search → View = λ t. record (after_profile list v p q x) { search = t } in
      subst (λ (y : View). GoesFurther list v y) (sym is)
      (cond_both (needs_next list p q s) (if test then late else along) s
      (λ t. GoesFurther list v (there t))
      (λ _. cond_both test late along (λ t. GoesFurther list v (there t))
      (λ _. goes_past v (v.loaded + 1) (p + 1) (there late) due (omega arith) (omega arith)
      (omega arith) (omega arith) refl)
      (λ _. goes_along v (there along) due refl))
      (λ not. absurd (let clash : true ≡ false = sym needs ∙ not in cc)))

  -- a floor has led past the block
  pub block_passed : (v w : View) (b : ℕ) → IsDue list v.search → IsPast list b v w
      → GoesFurther list v w
  block_passed v w b due past =
      subst (λ (y : View). GoesFurther list v y) (sym past.view)
      (goes_past v v.loaded (block_end list b)
      (record v { search = record v.search { least = block_end list b; free = none_reached } })
      due past.inside (omega arith) (omega arith) (omega arith) refl)

-- a reach that is not whole has a word more to reach
pub not_whole : (list : Listing) (i : ℕ) (r : Reach) → r.periods ≤ lasts list i
    → is_whole list i r ≡ false → (0 < width list) × (r.periods < lasts list i)
not_whole list i r within partial = (grind (arith, nat_tests), grind (arith, nat_tests))

-- a search under way that is whole is chosen
pub room_found : (list : Listing) (s : Search) → IsUnderWay list s
    → is_whole list s.position s.free ≡ true → is_chosen list s ≡ true
room_found list s under whole = let read = under.read in grind (arith, nat_tests)
