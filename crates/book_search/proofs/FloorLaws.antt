-- What a pass keeps of the words of a block, as one word more is loaded.
use Rattle.std.proofs.Common.{◌≡◌, ℕ, ◌/◌, ◌<◌, inl, inr, true, List, [], get_or, nat_eq, refl, sym, ap, subst, ◌∙◌, arith}
use Rattle.std.specs.List.{Contains}
use Rattle.std.proofs.lemmas.Bool.Decides.{nat_tests}
use Rattle.std.proofs.lemmas.Bool.{cond-true}
use Rattle.std.proofs.lemmas.List.Elements.{Contains-append_left, Contains-append_right}
use Rattle.capacity_profile.specs.Lanes.{lane_of}
use Rattle.activity_net.specs.Network.{Listing}
use Rattle.book_rule.specs.declared.view.Kept.{Kept}
use Rattle.book_rule.specs.declared.view.View.{View}
use Rattle.book_rule.specs.Searches.{block_end}
use Rattle.book_rule.specs.Views.{kept_in, after_profile}
use Rattle.book_rule.specs.Told.{IsKeptFloor}
use Rattle.book_search.specs.declared.floors.Floors.{Floors}
use Rattle.book_search.specs.Runs.{IsRun, AreKept, AreOf, AreWith}

-- a word more was loaded
pub kept_more : (list : Listing) (v z : View) (before now after : Floors) (q i x : ℕ)
    → AreKept v.block v.kept before → AreOf before now → now.block ≡ q / 32
    → AreWith now q i x after → after.block ≡ now.block → z ≡ after_profile list v q i x
    → AreKept z.block z.kept after
kept_more list v z before now after q i x kept of here more stays is =
    subst (λ (y : View). AreKept y.block y.kept after) (sym is)
    (λ w p below run. elim (more w p below run) [
      | inl old ↦
          let from = of w p below old.0 in
          let was = kept w p below from.1 in
          let block : v.block ≡ q / 32 = was.here ∙ (from.0 ∙ here) in
          let test : nat_eq v.block (q / 32) ≡ true = grind (arith, nat_tests) in
          let all : kept_in v (q / 32) ≡ v.kept = cond-true (nat_eq v.block (q / 32)) v.kept [] test in
          record {
            here = sym here ∙ sym stays;
            kept = was.kept;
            there = Contains-append_left (kept_in v (q / 32)) _ was.kept
                (subst (λ (xs : List Kept). Contains xs was.kept) (sym all) was.there);
            period = was.period;
            index = was.index;
            low = λ l lane.
                let first = old.1 l lane in
                let second = was.low l lane in
                let same = ap (λ y. lane_of y l) from.2 in
                omega arith;
          }
      | inr new ↦ record {
        here = sym here ∙ sym stays;
        kept = record { period = q; index = i; value = x };
        there = Contains-append_right (kept_in v (q / 32)) _ (record { period = q; index = i; value = x })
            (0, omega arith, refl);
        period = sym new.1;
        index = sym new.0;
        low = new.2;
      }
    ])

-- once all words of a block were loaded at an index, their least values may be stored
pub kept_floor : (list : Listing) (v : View) (floors : Floors) (b w : ℕ) → w < 4
    → floors.block ≡ b → get_or floors.next w 0 ≡ block_end list b
    → AreKept v.block v.kept floors → IsKeptFloor list v b w (get_or floors.least w 0)
kept_floor list v floors b w below is end kept p from inside =
    let run : IsRun floors w p = (omega arith, omega arith) in
    let one = kept w p below run in
    (one.kept, one.there, one.period, one.index, one.low)
