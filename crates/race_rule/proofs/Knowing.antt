-- What a view knows, after each step.
use Rattle.std.proofs.Common.{◌≡◌, ℕ, ◌+◌, ◌<◌, ◌≤◌, ◌⊎◌, true, false, List, [], ◌++◌, length, slice_index, nat_lt, sym, refl, ap, ◌∙◌, subst, inl, inr, arith, true≢false, None, Some, IfSome}
use Rattle.std.specs.List.{All, Contains}
use Rattle.std.specs.Option.{option_to_list}
use Rattle.std.proofs.lemmas.Bool.{ltb-true, ltb-false}
use Rattle.std.proofs.lemmas.List.Elements.{All-nil, All-push, All-append, All-weaker, All-contains, Contains-append_left, Contains-append_right}
use Rattle.race_rule.specs.declared.view.SeekerView.{SeekerView}
use Rattle.race_rule.specs.declared.view.TheConstants.{NO_WORD}
use Rattle.race_rule.specs.Views.{newcomer, blank, with_ticket, after_take, settled, with_look, after_look, with_gathered}
use Rattle.race_rule.specs.Rule.{AreWords, IsBestWord, Knows, IsSound}

-- a sound view that is not spent knows what it says
pub knows : (words : List ℕ) (from best ticket : ℕ) (v : SeekerView)
    → IsSound words from best ticket v → v.spent ≡ false → Knows words from best ticket v
knows words from best ticket v (inl e) alive =
    absurd (true≢false (sym (ap (λ (w : SeekerView). w.spent) e) ∙ alive))
knows words from best ticket v (inr k) alive = k.1

-- and one that is spent is blank
pub is_blank : (words : List ℕ) (from best ticket : ℕ) (v : SeekerView)
    → IsSound words from best ticket v → v.spent ≡ true → v ≡ blank
is_blank words from best ticket v (inl e) dead = e
is_blank words from best ticket v (inr k) dead = absurd (true≢false (sym dead ∙ k.0))

-- what is known stays true while the best word falls and the ticket rises
pub knows-later : (words : List ℕ) (from best ticket lower later : ℕ) (v : SeekerView)
    → lower ≤ best → ticket ≤ later
    → Knows words from best ticket v → Knows words from lower later v
knows-later words from best ticket lower later v falls rises k =
    let seen = k.seen in
    let next = k.next in record {
      words_are = k.words_are;
      from_is = k.from_is;
      seen = omega arith;
      next = omega arith;
      drawn = k.drawn;
      settled = k.settled;
      done = All-weaker (λ t. best ≤ slice_index words t) (λ t. lower ≤ slice_index words t)
          (λ t h. omega arith) v.done k.done;
      gathered = All-weaker (λ t. t < length words → best ≤ slice_index words t)
          (λ t. t < length words → lower ≤ slice_index words t)
          (λ t h within. let below = h within in omega arith) v.gathered k.gathered;
      hand = k.hand;
      over = λ ended. let h = k.over ended in (h.0, omega (arith, h.1));
    }

pub sound-later : (words : List ℕ) (from best ticket lower later : ℕ) (v : SeekerView)
    → lower ≤ best → ticket ≤ later
    → IsSound words from best ticket v → IsSound words from lower later v
sound-later words from best ticket lower later v falls rises (inl e) = inl e
sound-later words from best ticket lower later v falls rises (inr k) =
    inr (k.0, knows-later words from best ticket lower later v falls rises k.1)

-- a view that is the same but for what it counts knows the same
pub knows-counting : (words : List ℕ) (from best ticket made : ℕ) (v : SeekerView)
    → Knows words from best ticket v
    → Knows words from best ticket (record v { made = made })
knows-counting words from best ticket made v k = record {
  words_are = k.words_are;
  from_is = k.from_is;
  seen = k.seen;
  next = k.next;
  drawn = k.drawn;
  settled = k.settled;
  done = k.done;
  gathered = k.gathered;
  hand = k.hand;
  over = k.over;
}

-- the best word of a race is at most that of none
pub best-le : (words : List ℕ) (best : ℕ) → AreWords words → IsBestWord words best → best ≤ NO_WORD
best-le words best are (inl none) = omega arith
best-le words best are (inr some) =
    let below : best < NO_WORD = All-contains (λ word. word < NO_WORD) words best are.below some in
    omega arith

-- a newcomer knows nothing
pub newcomer-knows : (words : List ℕ) (from best ticket number made : ℕ) → best ≤ NO_WORD
    → Knows words from best ticket (newcomer words from number made)
newcomer-knows words from best ticket number made below = record {
  words_are = refl;
  from_is = refl;
  seen = below;
  next = omega arith;
  drawn = All-nil _;
  settled = All-nil _;
  done = All-nil _;
  gathered = All-nil _;
  hand = tt;
  over = λ ended. absurd (true≢false (sym ended));
}

-- a ticket of a sample is drawn
taken-in : (words : List ℕ) (from best ticket : ℕ) (v : SeekerView) → Knows words from best ticket v
    → v.hand ≡ None → v.ended ≡ false → ticket < length words
    → Knows words from best (ticket + 1) (with_ticket true v ticket)
taken-in words from best ticket v k idle going within =
    let next = k.next in record {
      words_are = k.words_are;
      from_is = k.from_is;
      seen = k.seen;
      next = omega arith;
      drawn = All-push (λ t. t < ticket + 1) v.drawn ticket
          (All-weaker (λ t. t < v.next) (λ t. t < ticket + 1) (λ t h. omega arith) v.drawn k.drawn)
          (omega arith);
      settled = All-push (λ t. t < length words → Contains v.done t ⊎ (Some ticket ≡ Some t))
          v.drawn ticket
          (All-weaker (λ t. t < length words → Contains v.done t ⊎ (v.hand ≡ Some t))
          (λ t. t < length words → Contains v.done t ⊎ (Some ticket ≡ Some t))
          (λ t h within'. elim (h within') [ inl done ↦ inl done | inr hand ↦ absurd (cc) ]) v.drawn k.settled)
          (λ within'. inr refl);
      done = k.done;
      gathered = k.gathered;
      hand = within;
      over = λ ended. absurd (true≢false (sym ended ∙ going));
    }

-- a ticket beyond the last sample is drawn
taken-out : (words : List ℕ) (from best ticket : ℕ) (v : SeekerView) → Knows words from best ticket v
    → v.hand ≡ None → length words ≤ ticket
    → Knows words from best (ticket + 1) (with_ticket false v ticket)
taken-out words from best ticket v k idle beyond =
    let next = k.next in record {
      words_are = k.words_are;
      from_is = k.from_is;
      seen = k.seen;
      next = omega arith;
      drawn = All-push (λ t. t < ticket + 1) v.drawn ticket
          (All-weaker (λ t. t < v.next) (λ t. t < ticket + 1) (λ t h. omega arith) v.drawn k.drawn)
          (omega arith);
      settled = All-push (λ t. t < length words → Contains v.done t ⊎ (v.hand ≡ Some t)) v.drawn
          ticket k.settled (λ within. absurd (omega arith));
      done = k.done;
      gathered = k.gathered;
      hand = k.hand;
      over = λ ended. (idle, omega arith);
    }

-- what a seeker knows once it has drawn the next ticket
pub take-knows : (words : List ℕ) (from best ticket : ℕ) (v : SeekerView)
    → Knows words from best ticket v → v.hand ≡ None → v.ended ≡ false
    → Knows words from best (ticket + 1) (after_take v ticket)
take-knows words from best ticket v k idle going =
    let count : length v.words ≡ length words = ap length k.words_are in
    elim (nat_lt ticket (length v.words)) as (λ b. nat_lt ticket (length v.words) ≡ b
    → Knows words from best (ticket + 1) (with_ticket b v ticket)) [
      | true ↦ λ e. taken-in words from best ticket v k idle going
          (omega (arith, ltb-true ticket (length v.words) e))
      | false ↦ λ e. taken-out words from best ticket v k idle
          (omega (arith, ltb-false ticket (length v.words) e))
    ] refl

-- what it knows once the sample in hand is settled at a best word that is no greater than its own
pub settle-knows : (words : List ℕ) (from best ticket looks : ℕ) (v : SeekerView)
    → Knows words from best ticket v → IfSome v.hand (λ t. best ≤ slice_index words t)
    → Knows words from best ticket (settled v best looks)
settle-knows words from best ticket looks v k low = record {
  words_are = k.words_are;
  from_is = k.from_is;
  seen = omega arith;
  next = k.next;
  drawn = k.drawn;
  settled = All-weaker (λ t. t < length words → Contains v.done t ⊎ (v.hand ≡ Some t))
      (λ t. t < length words → Contains (v.done ++ option_to_list v.hand) t ⊎ (None ≡ Some t))
      (λ t h within. inl (elim (h within) [
        | inl done ↦ Contains-append_left v.done (option_to_list v.hand) t done
        | inr hand ↦ Contains-append_right v.done (option_to_list v.hand) t
            (subst (λ o. Contains (option_to_list o) t) (sym hand) (0, omega arith, refl))
      ])) v.drawn k.settled;
  done = All-append (λ t. best ≤ slice_index words t) v.done (option_to_list v.hand) k.done
      (elim v.hand as (λ o. IfSome o (λ t. best ≤ slice_index words t)
      → All (λ t. best ≤ slice_index words t) (option_to_list o)) [
        | None ↦ λ h. All-nil _
        | Some t ↦ λ h. All-push (λ u. best ≤ slice_index words u) [] t (All-nil _) h
      ] low);
  gathered = k.gathered;
  hand = tt;
  over = λ ended. (refl, (k.over ended).1);
}

-- what it knows once it has looked at the best word, and has given the sample in hand up or not
pub look-knows : (words : List ℕ) (from best ticket limit : ℕ) (v : SeekerView)
    → Knows words from best ticket v → IfSome v.hand (λ t. limit ≤ slice_index words t)
    → Knows words from best ticket (after_look limit v best)
look-knows words from best ticket limit v k low =
    elim (nat_lt best limit) as (λ b. nat_lt best limit ≡ b
    → Knows words from best ticket (with_look b v best)) [
      | true ↦ λ e. settle-knows words from best ticket (v.looks + 1) v k
          (elim v.hand as (λ o. IfSome o (λ t. limit ≤ slice_index words t)
          → IfSome o (λ t. best ≤ slice_index words t)) [
            | None ↦ λ h. tt
            | Some t ↦ λ h. omega (arith, ltb-true best limit e)
          ] low)
      | false ↦ λ e. record {
        words_are = k.words_are;
        from_is = k.from_is;
        seen = omega arith;
        next = k.next;
        drawn = k.drawn;
        settled = k.settled;
        done = k.done;
        gathered = k.gathered;
        hand = k.hand;
        over = k.over;
      }
    ] refl

-- what seeker 0 knows once it has taken in one that has ended
pub gather-knows : (words : List ℕ) (from best ticket : ℕ) (v w : SeekerView)
    → Knows words from best ticket v → Knows words from best ticket w → w.ended ≡ true
    → Knows words from best ticket (with_gathered v w)
gather-knows words from best ticket v w k other ended =
    let P = λ (t : ℕ). t < length words → best ≤ slice_index words t in
    let drawn : All P w.drawn =
    All-weaker (λ t. t < length words → Contains w.done t ⊎ (w.hand ≡ Some t)) P
    (λ t h within. elim (h within) [
      | inl done ↦ All-contains (λ u. best ≤ slice_index words u) w.done t other.done done
      | inr hand ↦ let idle = (other.over ended).0 in absurd (cc)
    ]) w.drawn other.settled in
    record {
      words_are = k.words_are;
      from_is = k.from_is;
      seen = k.seen;
      next = k.next;
      drawn = k.drawn;
      settled = k.settled;
      done = k.done;
      gathered = All-append P v.gathered (w.drawn ++ w.gathered) k.gathered
          (All-append P w.drawn w.gathered drawn other.gathered);
      hand = k.hand;
      over = k.over;
    }
