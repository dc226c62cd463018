-- Each step on a word keeps the rule, and tells its seeker what it says.
use Rattle.std.proofs.Common.{◌≡◌, ℕ, ◌+◌, ◌%◌, ◌^◌, ◌<◌, ◌≤◌, ◌⊎◌, min, Bool, true, false, List, [], ◌∷◌, ◌++◌, length, set, slice_index, nat_lt, sym, refl, ap, ◌∙◌, subst, subst₂, inl, inr, arith, Some, IfSome, None, not}
use Rattle.std.specs.List.{All, Contains}
use Rattle.std.proofs.lemmas.Bool.{cases_lt, ltb-true}
use Rattle.std.proofs.lemmas.List.{length-set, get_or-set_same, get_or-set_other}
use Rattle.std.proofs.lemmas.List.Elements.{All-weaker, Contains-append_left, Contains-append_right, Contains-append_cases, Contains-get_or, Contains-push}
use mathlib.Core.Option.{none}
use Rattle.atomic_table.specs.Table.{State, Me, keeps, step, Allows}
use Rattle.race_rule.specs.declared.view.SeekerView.{SeekerView}
use Rattle.race_rule.specs.Views.{with_ticket, after_take, with_look, after_look, after_value}
use Rattle.race_rule.specs.Rule.{ticket_word, best_word, word_count, IsBestWord, Knows, IsSound, RaceRule, one_if, ends, lives}
use Rattle.race_rule.specs.Plays.{IsSeen, IsTaking, IsLooking, IsValuing}
use Rattle.race_rule.proofs.ViewLists.{sum_by-below, at_within}
use Rattle.race_rule.proofs.Knowing.{knows, take-knows, look-knows, settle-knows, knows-later}
use Rattle.race_rule.proofs.Moves.{IsSameSeeker, IsMove, moved}

-- one or none is at most one
one_or_none : (b : Bool) → one_if b ≤ 1
one_or_none true = omega arith
one_or_none false = omega arith

-- who has ended was made
ends-le : (words : List ℕ) (from best ticket : ℕ) (v : SeekerView)
    → IsSound words from best ticket v → ends v ≤ lives v
ends-le words from best ticket v (inl e) =
    subst (λ (u : SeekerView). ends u ≤ lives u) (sym e) (omega arith)
ends-le words from best ticket v (inr k) =
    let one : one_if (not v.spent) ≡ 1 = ap (λ b. one_if (not b)) k.0 in
    omega (arith, one_or_none v.ended)

-- so the next ticket does not wrap
ticket-small : (words : List ℕ) (from : ℕ) (state : State (Unit {0}) SeekerView)
    → RaceRule words from state → slice_index state.words ticket_word + 1 < 2 ^ 64
ticket-small words from state rule =
    let all = sum_by-below ends lives state.views
    (λ seat v at. ends-le words from (slice_index state.words best_word)
    (slice_index state.words ticket_word) v (rule.sound seat v at)) in
    let few = rule.are_words.few in
    let count = rule.count in
    let made = rule.chief.made in
    let most = rule.chief.few in
    omega arith

-- the words after a change of one
ticket_set : (ws : List ℕ) (x : ℕ) → length ws ≡ word_count
    → (slice_index (set ws ticket_word x) ticket_word ≡ x)
    × (slice_index (set ws ticket_word x) best_word ≡ slice_index ws best_word)
ticket_set ws x wide = (
  get_or-set_same ws ticket_word x 0 (omega arith),
  get_or-set_other ws ticket_word best_word x 0 (λ e. absurd (omega arith)),
)

best_set : (ws : List ℕ) (x : ℕ) → length ws ≡ word_count
    → (slice_index (set ws best_word x) ticket_word ≡ slice_index ws ticket_word)
    × (slice_index (set ws best_word x) best_word ≡ x)
best_set ws x wide = (
  get_or-set_other ws best_word ticket_word x 0 (λ e. absurd (omega arith)),
  get_or-set_same ws best_word x 0 (omega arith),
)

-- what a seeker sees of a best word that has not risen
seen : (words : List ℕ) (from best ticket lower : ℕ) (v : SeekerView) → Knows words from best ticket v
    → IsBestWord words lower → lower ≤ best → IsSeen v lower
seen words from best ticket lower v k real falls = record {
  real = subst (λ (ws : List ℕ). IsBestWord ws lower) (sym k.words_are) real;
  falls = let h = k.seen in omega arith;
  settled = subst (λ (ws : List ℕ). All (λ t. lower ≤ slice_index ws t) v.done) (sym k.words_are)
      (All-weaker (λ t. best ≤ slice_index words t) (λ t. lower ≤ slice_index words t)
      (λ t h. omega arith) v.done k.done);
}

-- a list with one more in its middle contains what it did
contains-middle : (xs ys : List ℕ) (n t : ℕ) → Contains (xs ++ ys) t
    → Contains ((xs ++ n ∷ []) ++ ys) t
contains-middle xs ys n t has =
    elim (Contains-append_cases xs ys t has) [
      | inl left ↦ Contains-append_left (xs ++ n ∷ []) ys t (Contains-append_left xs (n ∷ []) t left)
      | inr right ↦ Contains-append_right (xs ++ n ∷ []) ys t right
    ]

-- a step by a ticket is one of the same seeker, and adds the ticket
take-same : (b : Bool) (v : SeekerView) (n : ℕ) → IsSameSeeker v (with_ticket b v n)
take-same true v n = record { spent = refl; number = refl; made = refl; joined = refl }
take-same false v n = record { spent = refl; number = refl; made = refl; joined = refl }

take-lists : (b : Bool) (v : SeekerView) (n : ℕ)
    → (with_ticket b v n).drawn ++ (with_ticket b v n).gathered
    ≡ (v.drawn ++ n ∷ []) ++ v.gathered
take-lists true v n = refl
take-lists false v n = refl

-- the ticket is one of a sample, or one more seeker has ended
take-count : (b : Bool) (v : SeekerView) (n m : ℕ) → v.ended ≡ false → (b ≡ true → n < m)
    → (n + 1 ≤ m) ⊎ (n + 1 + ends v ≤ n + ends (with_ticket b v n))
take-count true v n m going within = let h = within refl in inl (omega arith)
take-count false v n m going within =
    let none : one_if v.ended ≡ 0 = ap one_if going in
    inr (omega arith)

-- to draw a ticket is such a move
take-move : (words : List ℕ) (from : ℕ) (state : State (Unit {0}) SeekerView) (v : SeekerView)
    → RaceRule words from state
    → Knows words from (slice_index state.words best_word) (slice_index state.words ticket_word) v
    → v.spent ≡ false → v.hand ≡ None → v.ended ≡ false
    → IsMove words from state v (after_take v (slice_index state.words ticket_word))
    (set state.words ticket_word ((slice_index state.words ticket_word + 1) % 2 ^ 64))
take-move words from state v rule k alive idle going =
    let n = slice_index state.words ticket_word in
    let best = slice_index state.words best_word in
    let b = nat_lt n (length v.words) in
    let small = ticket-small words from state rule in
    let exact : (n + 1) % 2 ^ 64 ≡ n + 1 = omega arith in
    let now = set state.words ticket_word ((n + 1) % 2 ^ 64) in
    let word = ticket_set state.words ((n + 1) % 2 ^ 64) rule.wide in
    let ticket_is : slice_index now ticket_word ≡ n + 1 = word.0 ∙ exact in
    let best_is : slice_index now best_word ≡ best = word.1 in
    let count : length v.words ≡ length words = ap length k.words_are in
    let same = take-same b v n in
    record {
      wide = length-set state.words ticket_word ((n + 1) % 2 ^ 64) ∙ rule.wide;
      best = subst (IsBestWord words) (sym best_is) rule.best;
      falls = omega arith;
      rises = omega arith;
      alive = same.spent ∙ alive;
      same = same;
      knows = subst₂ (λ (x y : ℕ). Knows words from x y (after_take v n)) (sym best_is)
          (sym ticket_is) (take-knows words from best n v k idle going);
      kept = λ t has. subst (λ (ts : List ℕ). Contains ts t) (sym (take-lists b v n))
          (contains-middle v.drawn v.gathered n t has);
      drawn = λ t inside below. elim (cases_lt t n) [
        | inl before ↦ inl before
        | inr here ↦
            let is : n ≡ t = omega arith in
            inr (subst (λ (ts : List ℕ). Contains ts t) (sym (take-lists b v n))
            (Contains-append_left (v.drawn ++ n ∷ []) v.gathered t
            (subst (Contains (v.drawn ++ n ∷ [])) is (Contains-push v.drawn n))))
      ];
      count =
          let change = take-count b v n (length words) going
          (λ e. let within = ltb-true n (length v.words) e in omega arith) in
          elim change [
            | inl low ↦ inl (omega arith)
            | inr high ↦ inr (omega arith)
          ];
    }

-- the step that draws a ticket
pub takes : (words : List ℕ) (from slots id : ℕ) (me : Me (Unit {0}) SeekerView)
    → me.0.spent ≡ false → me.0.hand ≡ None → me.0.ended ≡ false
    → Allows (RaceRule words from) slots id me ticket_word (λ n. (n + 1) % 2 ^ 64)
    (IsTaking (step slots ticket_word 1 0 none) me)
takes words from slots id me alive idle going = λ state rule homes at small.
    let v = me.0 in
    let n = slice_index state.words ticket_word in
    let k = knows words from (slice_index state.words best_word) n v (rule.sound id v at) alive in
    let within = at_within state.views v id at in
    let next = k.next in (
      after_take v n,
      keeps,
      tt,
      moved words from state state.homes id v (after_take v n)
          (set state.words ticket_word ((n + 1) % 2 ^ 64)) rule at within
          (take-move words from state v rule k alive idle going),
      record {
        kept = refl;
        view = refl;
        above = k.next;
        drawn = All-weaker (λ t. t < v.next) (λ t. t < n) (λ t h. omega arith) v.drawn k.drawn;
      },
    )

-- a look is one of the same seeker, and draws nothing
look-same : (b : Bool) (v : SeekerView) (best : ℕ) → IsSameSeeker v (with_look b v best)
look-same true v best = record { spent = refl; number = refl; made = refl; joined = refl }
look-same false v best = record { spent = refl; number = refl; made = refl; joined = refl }

look-lists : (b : Bool) (v : SeekerView) (best : ℕ)
    → (with_look b v best).drawn ++ (with_look b v best).gathered ≡ v.drawn ++ v.gathered
look-lists true v best = refl
look-lists false v best = refl

look-ends : (b : Bool) (v : SeekerView) (best : ℕ) → ends (with_look b v best) ≡ ends v
look-ends true v best = refl
look-ends false v best = refl

-- a step on the best word that draws nothing is a move
best-move : (words : List ℕ) (from : ℕ) (state : State (Unit {0}) SeekerView) (v w : SeekerView)
    (lower : ℕ) → RaceRule words from state → v.spent ≡ false → IsBestWord words lower
    → lower ≤ slice_index state.words best_word → IsSameSeeker v w
    → w.drawn ++ w.gathered ≡ v.drawn ++ v.gathered → ends w ≡ ends v
    → Knows words from lower (slice_index state.words ticket_word) w
    → IsMove words from state v w (set state.words best_word lower)
best-move words from state v w lower rule alive real falls same lists counts k =
    let word = best_set state.words lower rule.wide in
    let ticket_is = word.0 in
    let best_is = word.1 in
    record {
      wide = length-set state.words best_word lower ∙ rule.wide;
      best = subst (IsBestWord words) (sym best_is) real;
      falls = omega arith;
      rises = omega arith;
      alive = same.spent ∙ alive;
      same = same;
      knows = subst₂ (λ (x y : ℕ). Knows words from x y w) (sym best_is) (sym ticket_is) k;
      kept = λ t has. subst (λ (ts : List ℕ). Contains ts t) (sym lists) has;
      drawn = λ t inside below. inl (omega arith);
      count = inr (omega arith);
    }

-- the step that looks at the best word: the limit is no greater than the word of the sample in hand
pub looks : (words : List ℕ) (from slots id limit : ℕ) (me : Me (Unit {0}) SeekerView)
    → me.0.spent ≡ false → IfSome me.0.hand (λ t. limit ≤ slice_index words t)
    → Allows (RaceRule words from) slots id me best_word (λ n. n)
    (IsLooking limit (step slots best_word 0 0 none) me)
looks words from slots id limit me alive low = λ state rule homes at small.
    let v = me.0 in
    let best = slice_index state.words best_word in
    let n = slice_index state.words ticket_word in
    let k = knows words from best n v (rule.sound id v at) alive in
    let b = nat_lt best limit in
    let within = at_within state.views v id at in (
      after_look limit v best,
      keeps,
      tt,
      moved words from state state.homes id v (after_look limit v best)
          (set state.words best_word best) rule at within
          (best-move words from state v (after_look limit v best) best rule alive rule.best
          (omega arith) (look-same b v best) (look-lists b v best) (look-ends b v best)
          (look-knows words from best n limit v k low)),
      record {
        kept = refl;
        view = refl;
        seen = seen words from best n best v k rule.best (omega arith);
      },
    )

-- the lesser of two words is one of the race
best-least : (words : List ℕ) (best t : ℕ) → IsBestWord words best → t < length words
    → IsBestWord words (min best (slice_index words t))
best-least words best t real within =
    elim (cases_lt best (slice_index words t)) [
      | inl less ↦
          let is : best ≡ min best (slice_index words t) = omega arith in
          subst (IsBestWord words) is real
      | inr more ↦
          let is : slice_index words t ≡ min best (slice_index words t) = omega arith in
          subst (IsBestWord words) is (inr (Contains-get_or words t 0 within))
    ]

-- the step that values the sample in hand: its word is lowered into the best word
pub values : (words : List ℕ) (from slots id word t : ℕ) (me : Me (Unit {0}) SeekerView)
    → me.0.spent ≡ false → me.0.hand ≡ Some t → word ≡ slice_index words t
    → Allows (RaceRule words from) slots id me best_word (λ n. min n word)
    (IsValuing (step slots best_word word 0 none) me)
values words from slots id word t me alive hand is = λ state rule homes at small.
    let v = me.0 in
    let best = slice_index state.words best_word in
    let n = slice_index state.words ticket_word in
    let lower = min best word in
    let k = knows words from best n v (rule.sound id v at) alive in
    let inside : t < length words =
    let h = k.hand in subst (λ o. IfSome o (λ u. u < length words)) hand h in
    let real : IsBestWord words lower =
    subst (λ (x : ℕ). IsBestWord words (min best x)) (sym is)
    (best-least words best t rule.best inside) in
    let falls : lower ≤ best = omega arith in
    let low : IfSome v.hand (λ u. lower ≤ slice_index words u) =
    subst (λ o. IfSome o (λ u. lower ≤ slice_index words u)) (sym hand) (omega arith) in
    let within = at_within state.views v id at in (
      after_value v lower,
      keeps,
      tt,
      moved words from state state.homes id v (after_value v lower)
          (set state.words best_word lower) rule at within
          (best-move words from state v (after_value v lower) lower rule alive real falls
          (record { spent = refl; number = refl; made = refl; joined = refl }) refl refl
          (settle-knows words from lower n v.looks v
          (knows-later words from best n lower n v falls (omega arith) k) low)),
      record {
        kept = refl;
        view = refl;
        seen = seen words from best n lower v k real falls;
      },
    )
