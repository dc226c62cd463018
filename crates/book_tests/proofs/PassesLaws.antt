-- All passes of a book: the last one is taken off.
use Rattle.std.proofs.Common.{ℕ, ◌<◌, List, [], ◌∷◌, ◌++◌, length, get_or, refl, subst, arith}
use Rattle.std.proofs.lemmas.List.{get_or_append_left, get_or_push, length_push}
use Rattle.book_table.specs.Passes.{RunningBook, PassToken, IsPassOf}

-- each of them is a pass of the book
abbrev pub EachOwn : RunningBook → List PassToken → Type 0
EachOwn book passes = (k : ℕ) (d : PassToken) → k < length passes → IsPassOf book (get_or passes k d)

-- so is the last one
pub last_own : (book : RunningBook) (rest : List PassToken) (x : PassToken)
    → EachOwn book (rest ++ x ∷ []) → IsPassOf book x
last_own book rest x each =
    subst (IsPassOf book) (get_or_push rest x x (length rest) refl)
    (each (length rest) x (omega (arith, length_push rest x)))

-- and each one before it
pub others_own : (book : RunningBook) (rest : List PassToken) (x : PassToken)
    → EachOwn book (rest ++ x ∷ []) → EachOwn book rest
others_own book rest x each k d below =
    subst (IsPassOf book) (get_or_append_left rest (x ∷ []) d k below)
    (each k d (omega (arith, length_push rest x)))
