-- How seekers come and go: the rule at the start, and when seeker 0 makes another or takes one in.
use Rattle.std.proofs.Common.{◌≡◌, ◌≢◌, ℕ, zero, suc, ◌+◌, ◌<◌, ◌≤◌, ◌⊎◌, true, false, not, List, [], ◌∷◌, ◌++◌, length, set, slice_index, sym, refl, ap, ◌∙◌, subst, inl, inr, arith, true≢false, append_assoc}
use Rattle.std.specs.List.{Contains, sum_by}
use Rattle.std.proofs.lemmas.Bool.{cases_eq}
use Rattle.std.proofs.lemmas.List.{length-set}
use Rattle.std.proofs.lemmas.List.Sums.{sum_by-cons}
use Rattle.std.proofs.lemmas.List.Elements.{Contains-append_left, Contains-append_right}
use mathlib.Core.Option.{some, some-injective, some-ne-none}
use lib.ListN.{get_elem?}
use Rattle.atomic_table.specs.Table.{State, Splits, Joins, opening}
use Rattle.atomic_table.proofs.Lists.{at_set, set_here, set_else, at_longer}
use Rattle.race_rule.specs.declared.view.SeekerView.{SeekerView}
use Rattle.race_rule.specs.declared.view.TheConstants.{NO_WORD}
use Rattle.race_rule.specs.Views.{newcomer, blank, with_another, another, with_gathered}
use Rattle.race_rule.specs.Rule.{ticket_word, best_word, first_words, AreWords, Knows, IsSound, IsTaken, IsNumbered, RaceRule, one_if, ends, lives}
use Rattle.race_rule.proofs.ViewLists.{sum_by-set, sum_by-at, sum_by-push, at_push, at_within}
use Rattle.race_rule.proofs.Moves.{at_after}
use Rattle.race_rule.proofs.Knowing.{knows, knows-counting, newcomer-knows, best-le, gather-knows}

-- an element of a list of one is that one
at_one : (v w : SeekerView) (seat : ℕ) → get_elem? (v ∷ []) seat ≡ some w → (seat ≡ 0) × (v ≡ w)
at_one v w zero e = (refl, some-injective v w e)
at_one v w (suc seat) e = absurd (some-ne-none w (sym e))

-- the rule at the start: no ticket is drawn, there is no best word, and there is seeker 0
pub begins : (words : List ℕ) (from : ℕ) → AreWords words
    → RaceRule words from (opening first_words [] (newcomer words from 0 1))
begins words from are =
    let first = newcomer words from 0 1 in record {
      are_words = are;
      wide = refl;
      best = inl refl;
      sound = λ seat view at.
          subst (IsSound words from NO_WORD 0) (at_one first view seat at).1
          (inr (refl, newcomer-knows words from NO_WORD 0 0 1 (omega arith)));
      taken = λ t inside below. absurd (omega arith);
      count = omega arith;
      chief = record {
        chief = first;
        at = refl;
        number = refl;
        made = sum_by-cons lives first [];
        few = omega arith;
      };
      numbered = λ chief at seat view there alive.
          let c = at_one first chief 0 at in
          let v = at_one first view seat there in
          subst (λ (x : SeekerView). IsNumbered x seat view) c.1
          (subst (IsNumbered first seat) v.1 (record {
            below = omega arith;
            above = λ other. absurd (other v.0);
          }));
      apart = λ a b v w at_a at_b alive_v alive_w same.
          (at_one first v a at_a).0 ∙ sym (at_one first w b at_b).0;
    }

-- a view after a split: seeker 0, one of before, or the new one
at_split : (views : List SeekerView) (v u : SeekerView) (seat : ℕ)
    → get_elem? (set views 0 (with_another v) ++ another v ∷ []) seat ≡ some u
    → ((seat ≡ 0) × (with_another v ≡ u)) ⊎ (((seat ≢ 0) × (get_elem? views seat ≡ some u))
    ⊎ ((seat ≡ length views) × (another v ≡ u)))
at_split views v u seat found =
    elim (at_push (set views 0 (with_another v)) (another v) u seat found) [
      | inl old ↦ elim (at_set views 0 seat (with_another v) u old) [
        | inl here ↦ inl here
        | inr there ↦ inr (inl there)
      ]
      | inr new ↦ inr (inr (new.0 ∙ length-set views 0 (with_another v), new.1))
    ]

-- seeker 0 is made
chief_made : (state : State (Unit {0}) SeekerView) (words : List ℕ) (from : ℕ) (v : SeekerView)
    → RaceRule words from state → get_elem? state.views 0 ≡ some v
    → (sum_by lives state.views ≡ v.made) × (v.number ≡ 0) × (v.made ≤ 64)
chief_made state words from v rule at =
    let chief = rule.chief in
    let is : chief.chief ≡ v = some-injective chief.chief v (sym chief.at ∙ at) in (
      chief.made ∙ ap (λ (u : SeekerView). u.made) is,
      sym (ap (λ (u : SeekerView). u.number) is) ∙ chief.number,
      subst (λ (u : SeekerView). u.made ≤ 64) is chief.few,
    )

-- seeker 0 has taken in fewer than were made
joined-below : (words : List ℕ) (from : ℕ) (state : State (Unit {0}) SeekerView) (v : SeekerView)
    → RaceRule words from state → get_elem? state.views 0 ≡ some v → v.spent ≡ false
    → v.joined < v.made
joined-below words from state v rule at alive =
    let own : one_if (not v.spent) ≡ 1 = ap (λ b. one_if (not b)) alive in
    let made = (chief_made state words from v rule at).0 in
    omega (arith, sum_by-at lives state.views 0 v at)

-- a view after a split was there before, with its number, or is the new one
split_before : (views : List SeekerView) (v u : SeekerView) (seat : ℕ)
    → get_elem? views 0 ≡ some v
    → get_elem? (set views 0 (with_another v) ++ another v ∷ []) seat ≡ some u
    → ((x : SeekerView) × (get_elem? views seat ≡ some x) × (x.spent ≡ u.spent)
    × (x.number ≡ u.number)) ⊎ ((seat ≡ length views) × (another v ≡ u))
split_before views v u seat at found =
    elim (at_split views v u seat found) [
      | inl chief ↦ inl (
        v,
        subst (λ (i : ℕ). get_elem? views i ≡ some v) (sym chief.0) at,
        ap (λ (x : SeekerView). x.spent) chief.1,
        ap (λ (x : SeekerView). x.number) chief.1,
      )
      | inr others ↦ elim others [
        | inl old ↦ inl (u, old.1, refl, refl)
        | inr last ↦ inr last
      ]
    ]

-- the new number is that of no seeker before
new-number : (words : List ℕ) (from : ℕ) (state : State (Unit {0}) SeekerView) (v u x : SeekerView)
    (seat : ℕ) → RaceRule words from state → get_elem? state.views 0 ≡ some v
    → get_elem? state.views seat ≡ some x → x.spent ≡ false → another v ≡ u
    → x.number ≡ u.number → ⊥
new-number words from state v u x seat rule at found alive last same =
    let is : v.made ≡ u.number = ap (λ (w : SeekerView). w.number) last in
    let below = (rule.numbered v at seat x found alive).below in
    omega arith

-- numbers differ after a split
split-apart : (words : List ℕ) (from : ℕ) (state : State (Unit {0}) SeekerView) (v : SeekerView)
    → RaceRule words from state → get_elem? state.views 0 ≡ some v → v.spent ≡ false
    → (a b : ℕ) (x y : SeekerView)
    → get_elem? (set state.views 0 (with_another v) ++ another v ∷ []) a ≡ some x
    → get_elem? (set state.views 0 (with_another v) ++ another v ∷ []) b ≡ some y
    → x.spent ≡ false → y.spent ≡ false → x.number ≡ y.number → a ≡ b
split-apart words from state v rule at alive a b x y at_a at_b alive_x alive_y same =
    elim (split_before state.views v x a at at_a) [
      | inl p ↦ elim (split_before state.views v y b at at_b) [
        | inl q ↦ rule.apart a b p.0 q.0 p.1 q.1 (p.2 ∙ alive_x) (q.2 ∙ alive_y)
            (p.3 ∙ (same ∙ sym q.3))
        | inr last ↦ absurd (new-number words from state v y p.0 a rule at p.1 (p.2 ∙ alive_x)
            last.1 (p.3 ∙ same))
      ]
      | inr last ↦ elim (split_before state.views v y b at at_b) [
        | inl q ↦ absurd (new-number words from state v x q.0 b rule at q.1 (q.2 ∙ alive_y)
            last.1 (q.3 ∙ sym same))
        | inr other ↦ last.0 ∙ sym other.0
      ]
    ]

-- what was drawn before a split still is
split-taken : (views : List SeekerView) (v : SeekerView) (t : ℕ) → suc 0 ≤ length views
    → get_elem? views 0 ≡ some v → IsTaken views t
    → IsTaken (set views 0 (with_another v) ++ another v ∷ []) t
split-taken views v t within at taken =
    let now = set views 0 (with_another v) in
    elim (at_after views 0 v (with_another v) taken.seat taken.view within at taken.at) [
      | inl here ↦ record {
        seat = taken.seat;
        view = with_another v;
        at = at_longer now (another v ∷ []) taken.seat (with_another v) here.1;
        has = subst (λ (u : SeekerView). Contains (u.drawn ++ u.gathered) t) here.0 taken.has;
      }
      | inr there ↦ record {
        seat = taken.seat;
        view = taken.view;
        at = at_longer now (another v ∷ []) taken.seat taken.view there;
        has = taken.has;
      }
    ]

-- seeker 0 may make another, which has the next number
pub splits : (words : List ℕ) (from : ℕ) (v : SeekerView) → v.spent ≡ false → v.made < 64
    → Splits (RaceRule words from) 0 v (with_another v) (another v)
splits words from v alive room = λ state rule at.
    let best = slice_index state.words best_word in
    let n = slice_index state.words ticket_word in
    let k = knows words from best n v (rule.sound 0 v at) alive in
    let made = chief_made state words from v rule at in
    let within = at_within state.views v 0 at in
    let views = set state.views 0 (with_another v) in
    let here = set_here state.views 0 (with_another v) within in
    let new : Knows words from best n (another v) =
    subst (λ (ws : List ℕ). Knows words from best n (newcomer ws v.from v.made 0))
    (sym k.words_are)
    (subst (λ (f : ℕ). Knows words from best n (newcomer words f v.made 0)) (sym k.from_is)
    (newcomer-knows words from best n v.made 0 (best-le words best rule.are_words rule.best))) in
    let low = joined-below words from state v rule at alive in
    let fits : (seat : ℕ) (u : SeekerView)
    → get_elem? (views ++ another v ∷ []) seat ≡ some u → u.spent ≡ false
    → IsNumbered (with_another v) seat u = λ seat u found living.
    elim (at_split state.views v u seat found) [
      | inl chief ↦ subst (IsNumbered (with_another v) seat) chief.1 (record {
        below = omega (arith, made.1, low);
        above = λ other. absurd (other chief.0);
      })
      | inr others ↦ elim others [
        | inl old ↦
            let was = rule.numbered v at seat u old.1 living in
            record { below = omega (arith, was.below); above = was.above }
        | inr last ↦ subst (IsNumbered (with_another v) seat) last.1 (record {
          below = omega arith;
          above = λ other. (low, refl);
        })
      ]
    ] in
    record {
      are_words = rule.are_words;
      wide = rule.wide;
      best = rule.best;
      sound = λ seat u found.
          elim (at_split state.views v u seat found) [
            | inl chief ↦ subst (IsSound words from best n) chief.1
                (inr (alive, knows-counting words from best n (v.made + 1) v k))
            | inr others ↦ elim others [
              | inl old ↦ rule.sound seat u old.1
              | inr last ↦ subst (IsSound words from best n) last.1 (inr (refl, new))
            ]
          ];
      taken = λ t inside below. split-taken state.views v t within at (rule.taken t inside below);
      count = omega (
        arith,
        rule.count,
        sum_by-push ends views (another v),
        sum_by-set ends state.views 0 v (with_another v) at,
      );
      chief = record {
        chief = with_another v;
        at = at_longer views (another v ∷ []) 0 (with_another v) here;
        number = made.1;
        made = omega (
          arith,
          made.0,
          sum_by-push lives views (another v),
          sum_by-set lives state.views 0 v (with_another v) at,
        );
        few = omega arith;
      };
      numbered = λ chief first seat u found living.
          subst (λ (x : SeekerView). IsNumbered x seat u)
          (some-injective (with_another v) chief
          (sym (at_longer views (another v ∷ []) 0 (with_another v) here) ∙ first))
          (fits seat u found living);
      apart = split-apart words from state v rule at alive;
    }

-- a view after a join: seeker 0, the one that is spent, or one of before
at_join : (views : List SeekerView) (v w u : SeekerView) (other seat : ℕ)
    → get_elem? (set (set views 0 (with_gathered v w)) other blank) seat ≡ some u
    → ((seat ≡ other) × (blank ≡ u)) ⊎ (((seat ≢ other) × (seat ≡ 0) × (with_gathered v w ≡ u))
    ⊎ ((seat ≢ other) × (seat ≢ 0) × (get_elem? views seat ≡ some u)))
at_join views v w u other seat found =
    elim (at_set (set views 0 (with_gathered v w)) other seat blank u found) [
      | inl here ↦ inl here
      | inr there ↦ elim (at_set views 0 seat (with_gathered v w) u there.1) [
        | inl chief ↦ inr (inl (there.0, chief.0, chief.1))
        | inr old ↦ inr (inr (there.0, old.0, old.1))
      ]
    ]

-- no view that is not spent is blank
not_blank : (u : SeekerView) → u.spent ≡ false → blank ≡ u → ⊥
not_blank u alive is = true≢false (ap (λ (x : SeekerView). x.spent) is ∙ alive)

-- a view that is not spent after a join was there before, at another seat than the one that is
join_before : (views : List SeekerView) (v w u : SeekerView) (other seat : ℕ)
    → get_elem? views 0 ≡ some v
    → get_elem? (set (set views 0 (with_gathered v w)) other blank) seat ≡ some u
    → u.spent ≡ false
    → (x : SeekerView) × (get_elem? views seat ≡ some x) × (x.spent ≡ u.spent)
    × (x.number ≡ u.number) × (seat ≢ other)
join_before views v w u other seat at found alive =
    elim (at_join views v w u other seat found) [
      | inl gone ↦ absurd (not_blank u alive gone.1)
      | inr stays ↦ elim stays [
        | inl chief ↦ (
          v,
          subst (λ (i : ℕ). get_elem? views i ≡ some v) (sym chief.1) at,
          ap (λ (x : SeekerView). x.spent) chief.2,
          ap (λ (x : SeekerView). x.number) chief.2,
          chief.0,
        )
        | inr old ↦ (u, old.2, refl, refl, old.0)
      ]
    ]

-- what the one that is spent has drawn stands with seeker 0 after a join, all else where it was
join-taken : (views : List SeekerView) (v w : SeekerView) (other t : ℕ) → suc 0 ≤ length views
    → get_elem? views 0 ≡ some v → other ≢ 0 → get_elem? views other ≡ some w
    → IsTaken views t
    → IsTaken (set (set views 0 (with_gathered v w)) other blank) t
join-taken views v w other t within at apart there taken =
    let both = with_gathered v w in
    let now = set views 0 both in
    let chief : get_elem? (set now other blank) 0 ≡ some both =
    set_else now other 0 blank (λ e. apart (sym e)) ∙ set_here views 0 both within in
    let regroup : both.drawn ++ both.gathered
    ≡ (v.drawn ++ v.gathered) ++ (w.drawn ++ w.gathered) =
    sym (append_assoc v.drawn v.gathered (w.drawn ++ w.gathered)) in
    let with_chief = λ (has : Contains ((v.drawn ++ v.gathered) ++ (w.drawn ++ w.gathered)) t).
    let is : IsTaken (set now other blank) t = record {
      seat = 0;
      view = both;
      at = chief;
      has = subst (λ (ts : List ℕ). Contains ts t) (sym regroup) has;
    } in is in
    elim (cases_eq taken.seat 0) [
      | inl first ↦
          let is : taken.view ≡ v = some-injective taken.view v
          (sym taken.at ∙ (ap (get_elem? views) first ∙ at)) in
          with_chief (Contains-append_left (v.drawn ++ v.gathered) (w.drawn ++ w.gathered) t
          (subst (λ (u : SeekerView). Contains (u.drawn ++ u.gathered) t) is taken.has))
      | inr later ↦ elim (cases_eq taken.seat other) [
        | inl gone ↦
            let is : taken.view ≡ w = some-injective taken.view w
            (sym taken.at ∙ (ap (get_elem? views) gone ∙ there)) in
            with_chief (Contains-append_right (v.drawn ++ v.gathered) (w.drawn ++ w.gathered) t
            (subst (λ (u : SeekerView). Contains (u.drawn ++ u.gathered) t) is taken.has))
        | inr stays ↦ record {
          seat = taken.seat;
          view = taken.view;
          at = set_else now other taken.seat blank stays
              ∙ (set_else views 0 taken.seat both later ∙ taken.at);
          has = taken.has;
        }
      ]
    ]

-- a number above another, and not the next, is above the next
above-next : (low a b : ℕ) → low < a → a ≢ b → b ≡ low + 1 → low + 1 < a
above-next low a b more differ next = omega arith

-- a sum after a join
sum-join : (f : SeekerView → ℕ) (views : List SeekerView) (v w : SeekerView) (other : ℕ)
    → get_elem? views 0 ≡ some v
    → get_elem? (set views 0 (with_gathered v w)) other ≡ some w
    → sum_by f (set (set views 0 (with_gathered v w)) other blank) + f v + f w
    ≡ sum_by f views + f (with_gathered v w) + f blank
sum-join f views v w other at there = omega (
  arith,
  sum_by-set f views 0 v (with_gathered v w) at,
  sum_by-set f (set views 0 (with_gathered v w)) other w blank there,
)

-- seeker 0 may take in the next one that has ended
pub joins : (words : List ℕ) (from other : ℕ) (v w : SeekerView) → v.spent ≡ false
    → w.spent ≡ false → w.ended ≡ true → w.number ≡ v.joined + 1
    → Joins (RaceRule words from) 0 v other w (with_gathered v w) blank
joins words from other v w alive_v alive_w ended next = λ state rule at apart found.
    let best = slice_index state.words best_word in
    let n = slice_index state.words ticket_word in
    let views = state.views in
    let both = with_gathered v w in
    let within = at_within views v 0 at in
    let there : get_elem? views other ≡ some w = sym (set_else views 0 other both apart) ∙ found in
    let k = knows words from best n v (rule.sound 0 v at) alive_v in
    let kw = knows words from best n w (rule.sound other w there) alive_w in
    let made = chief_made state words from v rule at in
    let was = rule.numbered v at other w there alive_w in
    let alone : w.joined ≡ 0 = (was.above apart).1 in
    let chief : get_elem? (set (set views 0 both) other blank) 0 ≡ some both =
    set_else (set views 0 both) other 0 blank (λ e. apart (sym e)) ∙ set_here views 0 both within in
    let ends_w : one_if w.ended ≡ 1 = ap one_if ended in
    let lives_w : one_if (not w.spent) ≡ 1 = ap (λ b. one_if (not b)) alive_w in
    let fits : (seat : ℕ) (u : SeekerView)
    → get_elem? (set (set views 0 both) other blank) seat ≡ some u → u.spent ≡ false
    → IsNumbered both seat u = λ seat u here alive.
    elim (at_join views v w u other seat here) [
      | inl gone ↦ absurd (not_blank u alive gone.1)
      | inr stays ↦ elim stays [
        | inl first ↦ subst (IsNumbered both seat) first.2 (record {
          below = let h = (rule.numbered v at 0 v at alive_v).below in h;
          above = λ later. absurd (later first.1);
        })
        | inr old ↦
            let h = rule.numbered v at seat u old.2 alive in
            let differ : u.number ≢ w.number =
            λ e. old.0 (rule.apart seat other u w old.2 there alive alive_w e) in
            let more = (h.above old.1).0 in
            record {
              below = h.below;
              above = λ later. (above-next v.joined u.number w.number more differ next, (h.above old.1).1);
            }
      ]
    ] in
    record {
      are_words = rule.are_words;
      wide = rule.wide;
      best = rule.best;
      sound = λ seat u here.
          elim (at_join views v w u other seat here) [
            | inl gone ↦ inl (sym gone.1)
            | inr stays ↦ elim stays [
              | inl first ↦ subst (IsSound words from best n) first.2
                  (inr (alive_v, gather-knows words from best n v w k kw ended))
              | inr old ↦ rule.sound seat u old.2
            ]
          ];
      taken = λ t inside below. join-taken views v w other t within at apart there
          (rule.taken t inside below);
      count = omega (arith, rule.count, sum-join ends views v w other at found);
      chief = record {
        chief = both;
        at = chief;
        number = made.1;
        made = omega (arith, made.0, sum-join lives views v w other at found);
        few = made.2;
      };
      numbered = λ c first seat u here alive.
          subst (λ (x : SeekerView). IsNumbered x seat u)
          (some-injective both c (sym chief ∙ first)) (fits seat u here alive);
      apart = λ a b x y at_a at_b alive_x alive_y same.
          let p = join_before views v w x other a at at_a alive_x in
          let q = join_before views v w y other b at at_b alive_y in
          rule.apart a b p.0 q.0 p.1 q.1 (p.2 ∙ alive_x) (q.2 ∙ alive_y)
          (p.3 ∙ (same ∙ sym q.3));
    }
