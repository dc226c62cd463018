-- The steps of a race on its table.
use Rattle.std.proofs.Common.{◌≡◌, ℕ, zero, suc, ◌+◌, ◌<◌, ◌≤◌, Bool, true, false, List, [], ◌∷◌, ◌++◌, length, drop, get_or, length-append, arith, slice_index, sym, refl, ap, ◌∙◌, subst₂, Some, None}
use Rattle.std.proofs.lemmas.Bool.{lt-ltb, le-ltb}
use Rattle.std.specs.Option.{option_map}
use mathlib.Core.Option.{some, some-injective, some-ne-none}
use lib.ListN.{get_elem?}
use Rattle.race_rule.specs.declared.view.SeekerView.{SeekerView}
use Rattle.race_rule.specs.Views.{with_ticket, after_take}
use Rattle.key_sampling.specs.declared.race.Race.{Race}
use Rattle.key_sampling.specs.declared.seeker.Seeker.{Seeker}
use Rattle.key_sampling.specs.Words.{word_of, words_of}
use Rattle.key_sampling.specs.Race.{value_in, IsSeekerOf, StaysAtWork}
use Rattle.key_sampling.proofs.WordLaws.{word_at}

-- what holds over the words of the race holds over those that its table keeps
pub over_table : (race : Race) (F : List ℕ → ℕ → Type 0) → F (words_of race.terms) race.terms.from
    → F (words_of race.table.shared.key) race.table.shared.key.from
over_table race F h = subst₂ F (sym race.words) (sym race.from) h

-- and the other way round
pub from_table : (race : Race) (F : List ℕ → ℕ → Type 0)
    → F (words_of race.table.shared.key) race.table.shared.key.from
    → F (words_of race.terms) race.terms.from
from_table race F h = subst₂ F race.words race.from h

-- a ticket below the count is that of a sample
pub after_take-in : (v : SeekerView) (ticket : ℕ) → ticket < length v.words
    → after_take v ticket ≡ with_ticket true v ticket
after_take-in v ticket within =
    ap (λ (b : Bool). with_ticket b v ticket) (lt-ltb ticket (length v.words) within)

-- any other is beyond the last one
pub after_take-out : (v : SeekerView) (ticket : ℕ) → length v.words ≤ ticket
    → after_take v ticket ≡ with_ticket false v ticket
after_take-out v ticket beyond =
    ap (λ (b : Bool). with_ticket b v ticket) (le-ltb ticket (length v.words) beyond)

-- the ticket of the sample in hand
pub ticket_of : (v : SeekerView) (sample : ℕ)
    → Some sample ≡ option_map (λ ticket. v.from + ticket) v.hand
    → (ticket : ℕ) × (v.hand ≡ Some ticket) × (v.from + ticket ≡ sample)
ticket_of v sample is =
    elim v.hand as (λ o. Some sample ≡ option_map (λ ticket. v.from + ticket) o
    → (ticket : ℕ) × (o ≡ Some ticket) × (v.from + ticket ≡ sample)) [
      | None ↦ λ e. absurd (cc)
      | Some ticket ↦ λ e. (ticket, refl, cc)
    ] is

-- where no sample is in hand there is no ticket
pub none_in_hand : (v : SeekerView) → option_map (λ ticket. v.from + ticket) v.hand ≡ None
    → v.hand ≡ None
none_in_hand v is =
    elim v.hand as (λ o. option_map (λ ticket. v.from + ticket) o ≡ None → o ≡ None) [
      | None ↦ λ e. refl
      | Some ticket ↦ λ e. absurd (cc)
    ] is

-- the element at a place, where there is one, is the one that is read there
pub read_at : (xs : List ℕ) (i x : ℕ) → get_elem? xs i ≡ some x → slice_index xs i ≡ x
read_at [] i x e = absurd (some-ne-none x (sym e))
read_at (y ∷ ys) zero x e = some-injective y x e
read_at (y ∷ ys) (suc i) x e = read_at ys i x e

-- the word of the sample in hand is that of its ticket
pub word_in_hand : (race : Race) (v : SeekerView) (ticket sample : ℕ) → v.from ≡ race.terms.from
    → ticket < race.terms.count → v.from + ticket ≡ sample
    → slice_index (words_of race.terms) ticket ≡ word_of (value_in race sample) sample
word_in_hand race v ticket sample from within is =
    word_at race.terms ticket within
    ∙ ap (λ (s : ℕ). word_of (value_in race s) s) (ap (λ (f : ℕ). f + ticket) (sym from) ∙ is)

-- the element behind the first part of a list
at_middle : {A : Type 0} (xs ys : List A) (x d : A) → get_or (xs ++ x ∷ ys) (length xs) d ≡ x
at_middle [] ys x d = refl
at_middle (y ∷ xs) ys x d = at_middle xs ys x d

-- the next item of what is left behind the first one
pub next_item : {A : Type 0} (items done rest tail : List A) (x d : A) → drop 1 items ≡ done ++ rest
    → rest ≡ x ∷ tail
    → (length done + 1 < length items) × (get_or items (length done + 1) d ≡ x)
next_item [] done rest tail x d all front =
    absurd (omega (arith, ap length all, length-append done rest, ap length front))
next_item (y ∷ ys) done rest tail x d all front =
    let is : ys ≡ done ++ x ∷ tail = all ∙ ap (λ r. done ++ r) front in
    let next : length done + 1 ≡ suc (length done) = omega arith in (
      omega (arith, ap length is, length-append done (x ∷ tail)),
      ap (λ (n : ℕ). get_or (y ∷ ys) n d) next
          ∙ (ap (λ zs. get_or zs (length done) d) is ∙ at_middle done tail x d),
    )

-- what holds of each element at its place, and of one more, holds of all
pub each_push : {A : Type 0} (P : ℕ → A → Type 0) (xs : List A) (y : A)
    → ((k : ℕ) (d : A) → k < length xs → P k (get_or xs k d)) → P (length xs) y
    → (k : ℕ) (d : A) → k < length (xs ++ y ∷ []) → P k (get_or (xs ++ y ∷ []) k d)
each_push P [] y each last zero d within = last
each_push P [] y each last (suc k) d within = absurd (omega arith)
each_push P (x ∷ xs) y each last zero d within = each zero x (omega arith)
each_push P (x ∷ xs) y each last (suc k) d within =
    each_push (λ i. P (suc i)) xs y (λ i e h. each (suc i) e (omega arith)) last k d (omega arith)

-- a seeker that has done nothing stays at work
pub stays_here : (race : Race) (seeker : Seeker) → IsSeekerOf race seeker
    → StaysAtWork race seeker seeker
stays_here race seeker own = record {
  own = own;
  same = record { table = refl; seat = refl; number = refl; made = refl; joined = refl };
  next = refl;
  ended = refl;
}

-- and one that stays at work twice
pub stays-through : (race : Race) (a b c : Seeker) → StaysAtWork race a b → StaysAtWork race b c
    → StaysAtWork race a c
stays-through race a b c first then = record {
  own = then.own;
  same = record {
    table = then.same.table ∙ first.same.table;
    seat = then.same.seat ∙ first.same.seat;
    number = then.same.number ∙ first.same.number;
    made = then.same.made ∙ first.same.made;
    joined = then.same.joined ∙ first.same.joined;
  };
  next = then.next ∙ first.next;
  ended = then.ended ∙ first.ended;
}
