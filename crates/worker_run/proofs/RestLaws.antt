-- Passes of a book before and after their work, as lists.
use Rattle.std.proofs.Common.{◌≡◌, ◌∙◌, ap, sym, subst, subst₂, inl, inr, ℕ, zero, suc, ◌+◌, ◌<◌, arith, true, List, [], ◌∷◌, ◌++◌, length, get_or, length-append}
use Rattle.std.specs.List.{All}
use Rattle.std.proofs.lemmas.Bool.{cases_lt}
use Rattle.std.proofs.lemmas.List.{get_or_append_left}
use Rattle.std.proofs.lemmas.List.Elements.{All-push}
use Rattle.std.proofs.Math.Seq.{get_or-append_seam}
use Rattle.book_rule.specs.declared.view.View.{View}
use Rattle.book_table.specs.Passes.{RunningBook, PassToken, IsFree, AreFresh, AreAtRest}
use Rattle.worker_run.specs.Works.{GoesOn, AllGoOn}

-- a pass that rests
abbrev pub Rests : PassToken → Type 0
Rests pass = pass.view.resting ≡ true

-- passes that stand in order of their numbers
pub record AreNumbered (passes : List PassToken) : Type 0 where
  pub number : (k : ℕ) (d : PassToken) → k < length passes → (get_or passes k d).view.number ≡ k

-- what is known of each pass of a new book
pub fresh-free : (book : RunningBook) (passes : List PassToken) → AreFresh book passes
    → All (IsFree book) passes
fresh-free book passes fresh zero d inside = record {
  own = fresh.all.own zero d inside;
  empty = ap (λ (v : View). v.hand.holds) (fresh.first d inside);
}
fresh-free book passes fresh (suc k) d inside = record {
  own = fresh.all.own (suc k) d inside;
  empty = ap (λ (v : View). v.hand.holds) (fresh.others (suc k) d (omega arith) inside);
}

pub fresh-rests : (book : RunningBook) (passes : List PassToken) (k : ℕ) (d : PassToken)
    → AreFresh book passes → 0 < k → k < length passes → Rests (get_or passes k d)
fresh-rests book passes k d fresh later inside =
    ap (λ (v : View). v.resting) (fresh.others k d later inside)

pub fresh-numbered : (book : RunningBook) (passes : List PassToken) → AreFresh book passes
    → AreNumbered passes
fresh-numbered book passes fresh = record { number = λ k d inside. fresh.all.number k d inside }

-- the passes before the last one
pub front-all : (P : PassToken → Type 0) (front : List PassToken) (last : PassToken)
    → All P (front ++ last ∷ []) → All P front
front-all P front last all k d inside =
    let long : k < length (front ++ last ∷ []) = omega (arith, length-append front (last ∷ [])) in
    subst P (get_or_append_left front (last ∷ []) d k inside) (all k d long)

pub last-is : (P : PassToken → Type 0) (front : List PassToken) (last : PassToken)
    → All P (front ++ last ∷ []) → P last
last-is P front last all =
    let long : length front < length (front ++ last ∷ []) =
    omega (arith, length-append front (last ∷ [])) in
    subst P (get_or-append_seam front last [] last) (all (length front) last long)

pub front-numbered : (front : List PassToken) (last : PassToken) → AreNumbered (front ++ last ∷ [])
    → AreNumbered front
front-numbered front last all = record {
  number = λ k d inside.
      let long : k < length (front ++ last ∷ []) = omega (arith, length-append front (last ∷ [])) in
      ap (λ (p : PassToken). p.view.number) (sym (get_or_append_left front (last ∷ []) d k inside))
      ∙ all.number k d long;
}

pub last-numbered : (front : List PassToken) (last : PassToken) → AreNumbered (front ++ last ∷ [])
    → last.view.number ≡ length front
last-numbered front last all =
    let long : length front < length (front ++ last ∷ []) =
    omega (arith, length-append front (last ∷ [])) in
    ap (λ (p : PassToken). p.view.number) (sym (get_or-append_seam front last [] last))
    ∙ all.number (length front) last long

-- and one more after them
pub numbered-push : (front : List PassToken) (last : PassToken) → AreNumbered front
    → last.view.number ≡ length front → AreNumbered (front ++ last ∷ [])
numbered-push front last all own = record {
  number = λ k d inside.
      let long : k < length front + 1 = omega (arith, length-append front (last ∷ [])) in
      grind (
        arith,
        all.number k d,
        own,
        get_or_append_left front (last ∷ []) d k,
        get_or-append_seam front last [] d,
      );
}

-- passes that have gone on keep their numbers
pub numbered-on : (old new : List PassToken) → length new ≡ length old → AllGoOn old new
    → AreNumbered old → AreNumbered new
numbered-on old new long on all = record {
  number = λ k d inside.
      let before : k < length old = omega arith in
      (on k d before).number ∙ all.number k d before;
}

-- all passes of a book, at rest
pub at-rest : (book : RunningBook) (passes : List PassToken) → length passes ≡ book.passes
    → All (IsFree book) passes → All Rests passes → AreNumbered passes → AreAtRest book passes
at-rest book passes long free rest numbered = record {
  all = record {
    count = long;
    own = λ k d inside. (free k d inside).own;
    number = λ k d inside. numbered.number k d inside;
  };
  rest = λ k d inside. rest k d inside;
}

-- the last pass of a new book rests, if it is not the only one
pub last-rests : (book : RunningBook) (front : List PassToken) (last : PassToken)
    → AreFresh book (front ++ last ∷ []) → 0 < length front → Rests last
last-rests book front last fresh some =
    let long : length front < length (front ++ last ∷ []) =
    omega (arith, length-append front (last ∷ [])) in
    subst Rests (get_or-append_seam front last [] last)
    (fresh-rests book (front ++ last ∷ []) (length front) last fresh some long)

-- once the workers have worked and the watch has looked, all passes rest
pub watched-rest : (book : RunningBook) (old new : List PassToken) (watch after : PassToken)
    → AreFresh book (old ++ watch ∷ []) → 0 < length old → length new ≡ length old
    → All (IsFree book) new → All Rests new → AllGoOn old new
    → IsFree book after → after.view.number ≡ watch.view.number
    → (Rests watch → Rests after)
    → AreAtRest book (new ++ after ∷ [])
watched-rest book old new watch after fresh some long free rest on own same rests =
    let count : length (new ++ after ∷ []) ≡ book.passes =
    omega (
      arith,
      fresh.all.count,
      length-append old (watch ∷ []),
      length-append new (after ∷ []),
    ) in
    let before = fresh-numbered book (old ++ watch ∷ []) fresh in
    let numbers = numbered-on old new long on (front-numbered old watch before) in
    let last : after.view.number ≡ length new = same ∙ last-numbered old watch before ∙ sym long in
    at-rest book (new ++ after ∷ []) count (All-push (IsFree book) new after free own)
    (All-push Rests new after rest (rests (last-rests book old watch fresh some)))
    (numbered-push new after numbers last)

-- passes that go on, and one more after them
pub go-push : (front front' all : List PassToken) (last last' : PassToken)
    → all ≡ front ++ last ∷ [] → length front' ≡ length front → AllGoOn front front'
    → GoesOn last.view last'.view → AllGoOn all (front' ++ last' ∷ [])
go-push front front' all last last' is long goes goes' =
    subst (λ (xs : List PassToken). AllGoOn xs (front' ++ last' ∷ [])) (sym is)
    (λ k d inside. elim (cases_lt k (length front)) [
      | inl below ↦ rw (
        get_or_append_left front (last ∷ []) d k below,
        get_or_append_left front' (last' ∷ []) d k (omega arith),
      )
          (goes k d below)
      | inr above ↦
          let at : k ≡ length front = omega (arith, length-append front (last ∷ [])) in
          let at' : k ≡ length front' = omega arith in
          subst₂ (λ (p q : PassToken). GoesOn p.view q.view)
          (sym (ap (λ (i : ℕ). get_or (front ++ last ∷ []) i d) at
          ∙ get_or-append_seam front last [] d))
          (sym (ap (λ (i : ℕ). get_or (front' ++ last' ∷ []) i d) at'
          ∙ get_or-append_seam front' last' [] d))
          goes'
    ])
