-- Making passes and taking them in again, and what is known once all of them rest.
use Rattle.std.proofs.Common.{◌≡◌, ◌≢◌, ℕ, ◌+◌, ◌*◌, ◌<◌, ◌||◌, ◌&&◌, inl, inr, nat_eq, nat_lt, List, [], ◌∷◌, ◌++◌, length, set, true, false, refl, sym, ap, subst, ◌∙◌, arith}
use Rattle.std.proofs.lemmas.Bool.{cases_Bool, cases_lt, cond-true}
use Rattle.std.proofs.lemmas.Bool.Decides.{nat_tests}
use Rattle.std.proofs.Common.{length-append}
use Rattle.std.proofs.lemmas.List.Sums.{sum_by_push}
use mathlib.Core.Option.{some, some-injective}
use native.Mathlib.Decide.{ℕ_discrete}
use lib.ListN.{get_elem?}
use Rattle.atomic_table.specs.Table.{State, Splits, Joins, Seen, Final}
use Rattle.atomic_table.proofs.Lists.{set_else, at_set, at_longer}
use Rattle.activity_net.specs.Network.{Listing}
use Rattle.book_rule.specs.declared.view.View.{View}
use Rattle.book_rule.specs.Listed.{count, begins, level}
use Rattle.book_rule.specs.Reaches.{share}
use Rattle.book_rule.specs.Knowledge.{IsOwn}
use Rattle.book_rule.specs.Views.{after_split, split_off, after_join, spent_view, weight}
use Rattle.book_rule.specs.Rule.{turn_of, Knows, Rule, IsComplete}
use Rattle.book_rule.proofs.ReachLaws.{share-none}
use Rattle.book_rule.proofs.ViewLaws.{set_there, sum_by-set_at, some_after}
use Rattle.book_rule.proofs.SeatViews.{old_or_last, sum_one}
use Rattle.book_rule.proofs.SeatKnowledge.{knows_more, knows_later, knows_split, knows_new, knows_joined, knows_spent}

-- what pass 0 knows of itself stays so when it takes in another
pub joined_own : (list : Listing) (v w : View) → IsOwn list v → IsOwn list (after_join v w)
joined_own list v w own = record {
  same = own.same;
  unspent = own.unspent;
  seen = own.seen;
  searched = own.searched;
  found = own.found;
  offered = own.offered;
  hand = λ holds. let h = own.hand holds in record {
    turn = h.turn;
    claimed = h.claimed;
    awake = h.awake;
    early = h.early;
    exact = h.exact;
    ends = h.ends;
    within = h.within;
    few = h.few;
  };
}

-- a pass of number 0 is the chief
is_chief : {S : Type 0} (list : Listing) (s : State S View) (rule : Rule list s) (id : ℕ) (v : View)
    → get_elem? s.views id ≡ some v → v.spent ≡ false → v.number ≡ 0 → (id ≡ 0) × (rule.chief ≡ v)
is_chief list s rule id v here unspent zero = go (ℕ_discrete id 0)
  where
    go : Dec (id ≡ 0) → (id ≡ 0) × (rule.chief ≡ v)
    go (yes e) = (
      e,
      some-injective rule.chief v
          (sym rule.chief_is ∙ ap (get_elem? s.views) (sym e) ∙ here),
    )
    go (no ne) =
        absurd (rule.apart id 0 v rule.chief ne here rule.chief_is unspent rule.first.1
        (zero ∙ sym rule.first.0))

module _ {S : Type 0} (list : Listing) where
  -- pass 0 is the one at seat 0, and all views but its own stand
  split_chief : (s : State S View) (rule : Rule list s) (v : View) → IsOwn list v → v.gathered ≡ []
      → rule.chief ≡ v
      → get_elem? s.views 0 ≡ some v
      → Rule list (record {
        words = s.words;
        homes = s.homes;
        views =
            set s.views 0 (after_split v) ++ split_off v ∷ [];
      })
  split_chief s rule v own alone is first =
      let d = rule.stand in
      let left = after_split v in
      let right = split_off v in
      let views = set s.views 0 left in
      let each = λ (seat : ℕ) (u : View) (there : get_elem? s.views seat ≡ some u).
      let k : Knows list d (length v.gathered) v.made seat u =
      subst (λ (c : View). Knows list d (length c.gathered) c.made seat u) is
      (rule.each seat u there) in k in
      let mine = each 0 v first in
      let none : length v.gathered ≡ 0 = ap (λ (xs : List ℕ). length xs) alone in
      let low = (mine.pass own.unspent).below in
      let below = λ (seat : ℕ) (u : View) (there : get_elem? s.views seat ≡ some u)
      (unspent : u.spent ≡ false).
      let b : u.number < v.made = ((each seat u there).pass unspent).below in b in
      let old = λ (seat : ℕ) (u : View) (there : get_elem? views seat ≡ some u)
      (unspent : u.spent ≡ false).
      let found : (was : View) × (get_elem? s.views seat ≡ some was) × (was.spent ≡ false) ×
      (was.number ≡ u.number) =
      elim (at_set s.views 0 seat left u there) [
        | inl (at, same) ↦ (
          v,
          ap (get_elem? s.views) at ∙ first,
          own.unspent,
          ap
              (λ (c : View). c.number) same,
        )
        | inr (at, stays) ↦ (u, stays, unspent, refl)
      ] in found in
      record {
        bookable = rule.bookable;
        stand = d;
        stands = rule.stands;
        words = rule.words;
        chief = left;
        chief_is = at_longer views (right ∷ []) 0 left (set_there s.views 0 v left first);
        first = (ap (λ (c : View). c.number) (sym is) ∙ rule.first.0, own.unspent);
        each = λ seat u there. elim (old_or_last views right u seat there) [
          | inl stays ↦ elim (at_set s.views 0 seat left u stays) [
            | inl (at, same) ↦ subst (λ (c : View).
                Knows list d (length v.gathered) (v.made + 1) seat c) same
                (subst (λ k. Knows list d (length v.gathered) (v.made + 1) k left) (sym at)
                (knows_split list d (length v.gathered) v.made v own.unspent mine))
            | inr (at, was) ↦ knows_more list d (length v.gathered) v.made seat u (each seat u was)
          ]
          | inr (at, same) ↦ subst (λ (c : View). Knows list d (length v.gathered) (v.made + 1)
              seat c) same
              (knows_new list d (length v.gathered) v.made seat v rule.bookable own.same
              (omega arith) refl)
        ];
        apart = λ i j u w other one two unspent alive.
            elim (old_or_last views right u i one) [
              | inl oi ↦
                  let (u0, ui, us, un) = old i u oi unspent in
                  elim (old_or_last views right w j two) [
                    | inl oj ↦
                        let (w0, wj, ws, wn) = old j w oj alive in
                        λ e. rule.apart i j u0 w0 other ui wj us ws (un ∙ e ∙ sym wn)
                    | inr (at, new) ↦ λ e.
                        let number : v.made ≡ w.number = ap (λ (c : View). c.number) new in
                        let b = below i u0 ui us in
                        absurd (omega arith)
                  ]
              | inr (ai, ni) ↦
                  elim (old_or_last views right w j two) [
                    | inl oj ↦
                        let (w0, wj, ws, wn) = old j w oj alive in
                        λ e.
                        let number : v.made ≡ u.number = ap (λ (c : View). c.number) ni in
                        let b = below j w0 wj ws in
                        absurd (omega arith)
                    | inr (aj, nj) ↦ λ e. absurd (other (ai ∙ sym aj))
                  ]
            ];
        held = λ busy.
            let (u, there, has) = rule.held busy in
            let (n, at, is) = some_after (λ (c : View). c.hand.holds ≡ true) s.views 0 d.holder v
            left u first
            (λ h. h) there has in
            (n, at_longer views (right ∷ []) d.holder n at, is);
        awake = λ more.
            let (seat, (u, there, has)) = rule.awake more in
            let (n, at, is) = some_after (λ (c : View). c.resting ≡ false) s.views 0 seat v left u
            first
            (λ h. h) there has in
            (seat, (n, at_longer views (right ∷ []) seat n at, is));
        counts = omega (
          arith,
          sum_by_push weight views right,
          sum_by-set_at weight s.views 0 v
              left first,
          rule.counts,
        );
      }

  -- the same where it takes in the pass at another seat
  join_chief : (s : State S View) (rule : Rule list s) (other : ℕ) (v w : View) → IsOwn list v
      → rule.chief ≡ v
      → get_elem? s.views 0 ≡ some v → other ≢ 0 → get_elem? s.views other ≡ some w → IsOwn list w
      → w.number ≡ length v.gathered + 1 → w.resting ≡ true
      → Rule list (record {
        words = s.words;
        homes = s.homes;
        views =
            set (set s.views 0 (after_join v w)) other spent_view;
      })
  join_chief s rule other v w own is first off second joined next rests =
      let d = rule.stand in
      let both = after_join v w in
      let last = length v.gathered in
      let one = set s.views 0 both in
      let views = set one other spent_view in
      let there : get_elem? one other ≡ some w = set_else s.views 0 other both off ∙ second in
      let each = λ (seat : ℕ) (u : View) (at : get_elem? s.views seat ≡ some u).
      let k : Knows list d last v.made seat u =
      subst (λ (c : View). Knows list d (length c.gathered) c.made seat u) is
      (rule.each seat u at) in k in
      let longer : length both.gathered ≡ last + 1 = length-append v.gathered (w.mine ∷ []) in
      let old = λ (seat : ℕ) (u : View) (at : get_elem? views seat ≡ some u)
      (unspent : u.spent ≡ false).
      let found : (was : View) × (get_elem? s.views seat ≡ some was) × (was.spent ≡ false) ×
      (was.number ≡ u.number) =
      elim (at_set one other seat spent_view u at) [
        | inl (here, same) ↦
            absurd (let clash : true ≡ false = ap (λ (c : View). c.spent) same ∙ unspent in cc)
        | inr (away, stays) ↦ elim (at_set s.views 0 seat both u stays) [
          | inl (here, same) ↦ (
            v,
            ap (get_elem? s.views) here ∙ first,
            own.unspent,
            ap
                (λ (c : View). c.number) same,
          )
          | inr (apart, was) ↦ (u, was, unspent, refl)
        ]
      ] in found in
      let idle : w.hand.holds ≡ true → ⊥ = λ holds.
      let clash : true ≡ false = sym rests ∙ (joined.hand holds).awake in cc in
      let bare : w.gathered ≡ [] = (((each other w second).pass joined.unspent).later off).1 in
      let few : weight w ≡ w.mine = rw bare (omega arith) in
      let more : weight both ≡ weight v + w.mine =
      omega (arith, sum_by_push (λ (n : ℕ). n) v.gathered w.mine) in
      let know : (seat : ℕ) (u : View) → get_elem? views seat ≡ some u → Knows list d (last + 1)
      v.made seat u =
      λ seat u at. elim (at_set one other seat spent_view u at) [
        | inl (here, same) ↦ subst (λ (c : View). Knows list d (last + 1) v.made seat c) same
            (knows_spent list d last v.made seat rule.bookable)
        | inr (away, stays) ↦ elim (at_set s.views 0 seat both u stays) [
          | inl (here, same) ↦ subst (λ (c : View). Knows list d (last + 1) v.made seat c) same
              (subst (λ k. Knows list d (last + 1) v.made k both) (sym here)
              (knows_joined list d last v.made v w own.unspent (each 0 v first)))
          | inr (apart, was) ↦ knows_later list d last v.made seat u apart
              (λ unspent e. rule.apart seat other u w away was second unspent joined.unspent
              (e ∙ sym next))
              (each seat u was)
        ]
      ] in
      record {
        bookable = rule.bookable;
        stand = d;
        stands = rule.stands;
        words = rule.words;
        chief = both;
        chief_is = set_else one other 0 spent_view (λ e. off (sym e))
            ∙ set_there s.views 0 v both first;
        first = (ap (λ (c : View). c.number) (sym is) ∙ rule.first.0, own.unspent);
        each = λ seat u at. subst (λ n. Knows list d n v.made seat u) (sym longer) (know seat u at);
        apart = λ i j u x ne ati atj unspent alive e.
            let (u0, ui, us, un) = old i u ati unspent in
            let (x0, xj, xs, xn) = old j x atj alive in
            rule.apart i j u0 x0 ne ui xj us xs (un ∙ e ∙ sym xn);
        held = λ busy.
            let holding = λ (c : View). c.hand.holds ≡ true in
            let (u, at, has) = rule.held busy in
            let (n, now, is) = some_after holding s.views 0 d.holder v both u first (λ h. h) at
            has in
            some_after holding one other d.holder w spent_view n there (λ h. absurd (idle h)) now
            is;
        awake = λ early.
            let waking = λ (c : View). c.resting ≡ false in
            let (seat, (u, at, has)) = rule.awake early in
            let (n, now, is) = some_after waking s.views 0 seat v both u first (λ h. h) at has in (
              seat,
              some_after waking one other seat w spent_view n there
                  (λ h. absurd (let clash : true ≡ false = sym rests ∙ h in cc)) now is,
            );
        counts = omega (
          arith,
          sum_by-set_at weight one other w spent_view there,
          sum_by-set_at
              weight s.views 0 v both first,
          rule.counts,
        );
      }

  -- once pass 0 has taken in all others, every other view is spent
  others_spent : (s : State S View) (rule : Rule list s) (v : View) → rule.chief ≡ v
      → v.made ≡ length v.gathered + 1
      → (j : ℕ) (u : View) → j ≢ 0 → get_elem? s.views j ≡ some u → u.spent ≡ true
  others_spent s rule v is all j u apart there = elim (cases_Bool u.spent) [
    | inl spent ↦ spent
    | inr unspent ↦
        let k : Knows list rule.stand (length v.gathered) v.made j u =
        subst (λ (c : View). Knows list rule.stand (length c.gathered) c.made j u) is
        (rule.each j u there) in
        let fits = k.pass unspent in
        let below = fits.below in
        let later = (fits.later apart).0 in
        absurd (omega arith)
  ]

  -- nor is any pass awake if it rests
  sleeping : (s : State S View) (rule : Rule list s) (v : View) → get_elem? s.views 0 ≡ some v
      → rule.chief ≡ v
      → v.resting ≡ true → v.made ≡ length v.gathered + 1
      → (seat : ℕ) (u : View) → get_elem? s.views seat ≡ some u → u.resting ≡ false → ⊥
  sleeping s rule v first is rests all seat u there awake = go (ℕ_discrete seat 0)
    where
      go : Dec (seat ≡ 0) → ⊥
      go (yes e) =
          let one : v ≡ u = some-injective v u
          (sym first ∙ ap (get_elem? s.views) (sym e) ∙ there) in
          let clash : true ≡ false = sym rests ∙ ap (λ (c : View). c.resting) one ∙ awake in cc
      go (no ne) =
          let spent = others_spent s rule v is all seat u ne there in
          let clash : true ≡ false = sym ((rule.each seat u there).spent spent).0 ∙ awake in cc

  -- and if it rests, all positions are booked
  all_done : (s : State S View) (rule : Rule list s) (v : View) → get_elem? s.views 0 ≡ some v
      → rule.chief ≡ v
      → v.resting ≡ true → v.made ≡ length v.gathered + 1
      → (rule.stand.done ≡ count list) × (rule.stand.busy ≡ 0)
  all_done s rule v first is rests all =
      let d = rule.stand in
      let one = rule.stands.turn.0 in
      let most = rule.stands.turn.1 in
      elim (cases_lt (turn_of d) (2 * count list)) [
        | inl early ↦
            let (seat, (u, there, awake)) = rule.awake early in
            absurd (sleeping s rule v first is rests all seat u there awake)
        | inr late ↦ (omega arith, omega arith)
      ]

  -- then its words are those of a complete book
  done_complete : (s : State S View) (rule : Rule list s) → rule.stand.done ≡ count list
      → rule.stand.busy ≡ 0
      → IsComplete list s.words
  done_complete s rule done free =
      let d = rule.stand in
      let (none, unstored) = rule.stands.hand free in
      record {
        wide = rule.words.wide;
        starts = λ i there.
            let past : (nat_lt i d.done || (nat_eq i d.done && d.stored)) ≡ true =
            (let low : i < d.done = omega arith in grind (arith, nat_tests)) in
            rule.words.starts i there ∙ cond-true
            (nat_lt i d.done || (nat_eq i d.done && d.stored)) (begins list i + 1) 0 past;
        profile = λ p w l inside column low.
            let added : share list d.done d.added w l p ≡ 0 =
            rw none (share-none list d.done w l p) in
            let whole : level list d.done w l p ≡ level list (count list) w l p =
            ap (λ c. level list c w l p) done in
            let here = rule.words.profile p w l inside column low in
            omega arith;
      }

  -- pass 0 is cut in two
  pub splits : (id : ℕ) (v : View) → IsOwn list v → v.number ≡ 0 → v.gathered ≡ []
      → Splits (Rule {S = S} list) id v (after_split v) (split_off v)
  splits id v own chief alone = λ s rule here.
      let (at, is) = is_chief list s rule id v here own.unspent chief in
      let first : get_elem? s.views 0 ≡ some v = subst (λ k. get_elem? s.views k ≡ some v) at
      here in
      rw at (split_chief s rule v own alone is first)

  -- pass 0 takes in the next pass by number, which rests
  pub joins : (id other : ℕ) (v w : View) → IsOwn list v → v.number ≡ 0 → IsOwn list w
      → w.number ≡ length v.gathered + 1 → w.resting ≡ true
      → Joins (Rule {S = S} list) id v other w (after_join v w) spent_view
  joins id other v w own chief joined next rests = λ s rule here apart there.
      let (at, is) = is_chief list s rule id v here own.unspent chief in
      let first : get_elem? s.views 0 ≡ some v = subst (λ k. get_elem? s.views k ≡ some v) at
      here in
      let off : other ≢ 0 = λ e. apart (e ∙ sym at) in
      let second : get_elem? s.views other ≡ some w =
      sym (set_else s.views id other (after_join v w) apart) ∙ there in
      rw at (join_chief s rule other v w own is first off second joined next rests)

  -- once pass 0 has taken in all others and rests, the book is complete
  pub completes : (id : ℕ) (v : View) (words : List ℕ) (slots : List S)
      → v.number ≡ 0 → v.spent ≡ false → v.resting ≡ true → v.made ≡ length v.gathered + 1
      → Final (Seen (Rule list) id v) words slots
      → IsComplete list words × (weight v ≡ count list)
  completes id v words slots chief unspent rests all (s, (rule, here), same, long, homes) =
      let (at, is) = is_chief list s rule id v here unspent chief in
      let first : get_elem? s.views 0 ≡ some v = subst (λ k. get_elem? s.views k ≡ some v) at
      here in
      let done = all_done s rule v first is rests all in
      let complete = done_complete s rule done.0 done.1 in (
        subst (λ ws. IsComplete list ws) same complete,
        sym (sum_one weight s.views v first (λ j u apart there.
            (((rule.each j u there).spent (others_spent s rule v is all j u apart there)).2)))
            ∙ rule.counts ∙ done.0,
      )
