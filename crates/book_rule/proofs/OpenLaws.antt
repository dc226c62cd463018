-- A new book: all words are 0, and there is one pass.
use Rattle.std.proofs.Common.{◌≡◌, ℕ, ◌+◌, ◌<◌, ◌&&◌, ◌||◌, Bool, false, nat_eq, nat_lt, List, [], replicate, slice_index, inl, inr, refl, sym, subst, ◌∙◌, arith}
use Rattle.std.proofs.Math.ListN.{get_or-eq_default}
use Rattle.std.proofs.lemmas.List.{length-replicate, get_or-replicate}
use Rattle.std.proofs.lemmas.List.Elements.{All-nil}
use Rattle.std.proofs.lemmas.Bool.{cases_lt, cond-false}
use Rattle.std.proofs.lemmas.Bool.Decides.{nat_tests}
use mathlib.Core.Option.{some}
use Rattle.capacity_profile.specs.Lanes.{lane_of}
use Rattle.capacity_profile.proofs.LaneLaws.{four_cases}
use Rattle.atomic_table.specs.Table.{opening}
use Rattle.activity_net.specs.Network.{Listing}
use Rattle.book_rule.specs.Listed.{IsBookable, count, begins}
use Rattle.book_rule.specs.Reaches.{none_reached}
use Rattle.book_rule.specs.Layout.{turn_word, start_word, offer_word, profile_word, floor_word, word_count}
use Rattle.book_rule.specs.Knowledge.{IsOwn}
use Rattle.book_rule.specs.Views.{first_view, new_view}
use Rattle.book_rule.specs.Rule.{Stand, shown, start_value, Words, CanStand, KeptFits, Knows, Rule}
use Rattle.book_rule.proofs.ListedLaws.{count-some, level-none}
use Rattle.book_rule.proofs.ReachLaws.{share-none}
use Rattle.book_rule.proofs.SeatViews.{only_view}

-- where a new book stands
abbrev opened : Stand
opened = record {
  done = 0;
  busy = 0;
  holder = 0;
  added = none_reached;
  stored = false;
  offers =
      λ i. 0;
}

-- each of its words is 0
pub zero_word : (n i : ℕ) → slice_index (replicate {A = ℕ} n 0) i ≡ 0
zero_word n i = elim (cases_lt i n) [
  | inl below ↦ get_or-replicate n i 0 0 below
  | inr past ↦ get_or-eq_default (replicate {A = ℕ} n 0) 0 {n = i}
      (omega (arith, length-replicate {A = ℕ} n 0))
]

-- and so is each lane
zero_lane : (l : ℕ) → l < 4 → lane_of 0 l ≡ 0
unfolding lane_of
zero_lane = four_cases (λ l. lane_of 0 l ≡ 0) refl refl refl refl

-- a new book shows no start
no_start : (list : Listing) (i : ℕ) → start_value list opened i ≡ 0
no_start list i =
    let none : (nat_lt i 0 || (nat_eq i 0 && false)) ≡ false = grind (arith, nat_tests) in
    cond-false (nat_lt i 0 || (nat_eq i 0 && false)) (begins list i + 1) 0 none

-- and no lane shows anything
nothing_shown : (list : Listing) → IsBookable list → (w l p : ℕ) → shown list opened w l p ≡ 0
nothing_shown list bookable w l p =
    omega (arith, level-none list bookable w l p, share-none list 0 w l p)

-- so the words fit
opened_words : (list : Listing) (words : List ℕ) → IsBookable list
    → words ≡ replicate (word_count list) 0
    → Words list opened words
opened_words list words bookable zeros =
    let word = λ (j : ℕ). let at : slice_index words j ≡ 0 =
    rw zeros (zero_word (word_count list) j) in at in
    let lane = λ (j l : ℕ) (low : l < 4).
    let at : lane_of (slice_index words j) l ≡ 0 = rw (word j) (zero_lane l low) in at in
    record {
      wide = rw zeros (length-replicate (word_count list) 0);
      turn = word turn_word;
      starts = λ i there. rw (no_start list i) (word (start_word i));
      profile = λ p w l inside column low.
          omega (arith, lane (profile_word list p w) l low, nothing_shown list bookable w l p);
      offers = λ i there. word (offer_word list i);
      floors = λ b w p l from below column low.
          omega (arith, lane (floor_word list b w) l low, nothing_shown list bookable w l p);
    }

-- a book can stand there
opened_stands : (list : Listing) → CanStand list opened
opened_stands list = record {
  turn = (omega arith, omega arith);
  hand = λ free. (refl, refl);
  starts = λ stored. cc;
  profile = (omega arith, λ whole. refl);
  bounds = λ i there early. omega arith;
  offers = λ i there. omega arith;
}

-- the first pass knows nothing yet
first_knows : (list : Listing) → IsBookable list → Knows list opened 0 1 0 (first_view list)
first_knows list bookable = record {
  pass = λ unspent. record {
    same = refl;
    long = length-replicate (count list) 0;
    below = omega arith;
    later = λ other. absurd (other refl);
  };
  spent = λ h. cc;
  turn = omega arith;
  searched = count-some list bookable;
  hand = λ h. cc;
  search = λ h. cc;
  found = count-some list bookable;
  bounds = λ early. omega arith;
  offers = record {
    each = λ i there. let none = zero_word (count list) i in omega arith;
    loaded = λ there. omega arith;
  };
  floors = All-nil (KeptFits list opened);
  counts = refl;
}

-- it meets the rule
pub opens : {S : Type 0} (list : Listing) (words : List ℕ) → IsBookable list
    → words ≡ replicate (word_count list) 0
    → Rule list (opening {S = S} words [] (first_view list))
opens list words bookable zeros =
    let first = first_view list in
    record {
      bookable = bookable;
      stand = opened;
      stands = opened_stands list;
      words = opened_words list words bookable zeros;
      chief = first;
      chief_is = refl;
      first = (refl, refl);
      each = λ seat v there.
          let (at, one) = only_view first v seat there in
          subst (λ u. Knows list opened 0 1 seat u) one
          (subst (λ k. Knows list opened 0 1 k first) (sym at) (first_knows list bookable));
      apart = λ i j v w other one there unspent kept.
          absurd (other ((only_view first v i one).0 ∙ sym (only_view first w j there).0));
      held = λ busy. absurd (omega arith);
      awake = λ more. (0, (first, refl, refl));
      counts = refl;
    }

-- a pass that has done nothing knows what each pass knows of itself
pub new_own : (list : Listing) (number made : ℕ) (resting : Bool) → IsBookable list
    → IsOwn list (new_view list number resting made)
new_own list number made resting bookable =
    let some = bookable.limits.some in
    let all = bookable.feasible.count in
    record {
      same = refl;
      unspent = refl;
      seen = omega arith;
      searched = omega arith;
      found = omega arith;
      offered = length-replicate (count list) 0;
      hand = λ holds. cc;
    }
