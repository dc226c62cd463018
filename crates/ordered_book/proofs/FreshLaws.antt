-- The passes of a new book hold nothing.
use Rattle.std.proofs.Common.{◌≡◌, ℕ, ◌<◌, inl, inr, false, List, length, take, slice_index_or, Some, sym, ap, subst, ◌∙◌, arith}
use Rattle.std.proofs.lemmas.Bool.{cases_eq}
use Rattle.std.proofs.lemmas.List.{get_or-take}
use Rattle.book_rule.specs.declared.view.View.{View}
use Rattle.book_table.specs.Passes.{RunningBook, PassToken, IsFree, AreFresh}

pub fresh_free : (book : RunningBook) (passes : List PassToken) (k : ℕ) (d : PassToken)
    → AreFresh book passes → k < length passes → IsFree book (slice_index_or passes k d)
fresh_free book passes k d fresh below = record {
  own = fresh.all.own k d below;
  empty = elim (cases_eq k 0) [
    | inl first ↦
        let some : 0 < length passes = omega arith in
        let same = ap (λ n. (slice_index_or passes n d).view.hand.holds) first in
        subst (λ b. b ≡ false) (sym same) (ap (λ (v : View). v.hand.holds) (fresh.first d some))
    | inr later ↦ ap (λ (v : View). v.hand.holds) (fresh.others k d (omega arith) below)
  ];
}

-- one that was taken out of their list too
pub popped_free : (book : RunningBook) (passes : List PassToken) (k : ℕ) (d x : PassToken)
    → AreFresh book passes → k < length passes → Some x ≡ Some (slice_index_or passes k d)
    → IsFree book x
popped_free book passes k d x fresh below is =
    let same : x ≡ slice_index_or passes k d = cc in
    subst (λ (y : PassToken). IsFree book y) (sym same) (fresh_free book passes k d fresh below)

-- and one out of the first of them
pub popped_early : (book : RunningBook) (passes rest : List PassToken) (n k : ℕ) (d x : PassToken)
    → AreFresh book passes → k < n → k < length passes → rest ≡ take n passes
    → Some x ≡ Some (slice_index_or rest k d) → IsFree book x
popped_early book passes rest n k d x fresh early below cut is =
    let at : slice_index_or rest k d ≡ slice_index_or passes k d =
    ap (λ (xs : List PassToken). slice_index_or xs k d) cut ∙ get_or-take n passes k d early in
    popped_free book passes k d x fresh below (is ∙ ap (λ (y : PassToken). Some y) at)
