-- The passes of a new book.
use Rattle.std.proofs.Common.{◌≡◌, ℕ, zero, suc, ◌+◌, ◌<◌, Bool, true, false, List, [], ◌∷◌, ◌++◌, length, get_or, refl, sym, ap, subst, ◌∙◌, arith, ◌⊎◌, inl, inr}
use Rattle.std.proofs.lemmas.List.{get_or_append_left, get_or_push, length_push}
use Rattle.book_rule.specs.Listed.{IsBookable}
use Rattle.book_rule.specs.Views.{new_view}
use Rattle.book_rule.proofs.OpenLaws.{new_own}
use Rattle.book_table.specs.Passes.{RunningBook, PassToken, IsPassOf, AreFresh, fresh_pass}

-- a place in a list that is one longer is an old one or the last
old_or_last : (k n : ℕ) → k < n + 1 → (k < n) ⊎ (k ≡ n)
old_or_last k n below = grind arith

-- those after the first, in order of number
pub record AreOthers (book : RunningBook) (others : List PassToken) : Type 0 where
  pub each : (k : ℕ) (d : PassToken) → k < length others
      → get_or others k d ≡ fresh_pass book (k + 1) true 0

pub others-none : (book : RunningBook) → AreOthers book []
others-none book = record { each = λ k d below. absurd (omega arith) }

pub others_push : (book : RunningBook) (others : List PassToken) (next : PassToken) (number : ℕ)
    → AreOthers book others → number ≡ length others + 1 → next ≡ fresh_pass book number true 0
    → AreOthers book (others ++ next ∷ [])
others_push book others next number are at is = record {
  each = λ k d below.
      let long = length_push others next in
      elim (old_or_last k (length others) (omega (arith, long, below))) [
        | inl before ↦ get_or_append_left others (next ∷ []) d k before ∙ are.each k d before
        | inr last ↦
            let named : number ≡ k + 1 = omega (arith, at, last) in
            get_or_push others next d k (sym last) ∙ is ∙ ap (λ n. fresh_pass book n true 0) named
      ];
}

-- a pass that has done nothing is a pass of its book
fresh_is : (book : RunningBook) (number : ℕ) (resting : Bool) (made : ℕ) → IsBookable book.listing
    → (number ≡ 0 → made ≡ book.passes) → IsPassOf book (fresh_pass book number resting made)
fresh_is book number resting made bookable all = record {
  same = refl;
  own = new_own book.listing number made resting bookable;
  alone = refl;
  chief = all;
}

module _ (book : RunningBook) (others : List PassToken) (bookable : IsBookable book.listing)
    (are : AreOthers book others) where
  each_own : (k : ℕ) (d : PassToken) → k < length others + 1
      → IsPassOf book (get_or (fresh_pass book 0 false book.passes ∷ others) k d)
  each_own zero d below = fresh_is book 0 false book.passes bookable (λ _. refl)
  each_own (suc k) d below =
      let there : k < length others = omega (arith, below) in
      subst (IsPassOf book) (sym (are.each k d there))
      (fresh_is book (k + 1) true 0 bookable (λ none. absurd (omega (arith, none))))

  each_number : (k : ℕ) (d : PassToken) → k < length others + 1
      → (get_or (fresh_pass book 0 false book.passes ∷ others) k d).view.number ≡ k
  each_number zero d below = refl
  each_number (suc k) d below =
      let there : k < length others = omega (arith, below) in
      let next : k + 1 ≡ suc k = omega arith in
      ap (λ (p : PassToken). p.view.number) (are.each k d there) ∙ next

  each_rests : (k : ℕ) (d : PassToken) → 0 < k → k < length others + 1
      → (get_or (fresh_pass book 0 false book.passes ∷ others) k d).view
      ≡ new_view book.listing k true 0
  each_rests zero d some below = absurd (omega (arith, some))
  each_rests (suc k) d some below =
      let there : k < length others = omega (arith, below) in
      let next : k + 1 ≡ suc k = omega arith in
      ap (λ (p : PassToken). p.view) (are.each k d there)
      ∙ ap (λ n. new_view book.listing n true 0) next

  -- together they are all passes of the book
  pub are_fresh : length others + 1 ≡ book.passes
      → AreFresh book (fresh_pass book 0 false book.passes ∷ others)
  are_fresh long = record {
    all = record {
      count = omega (arith, long);
      own = λ k d below. each_own k d (omega (arith, below));
      number = λ k d below. each_number k d (omega (arith, below));
    };
    first = λ d below. refl;
    others = λ k d some below. each_rests k d some (omega (arith, below));
  }
