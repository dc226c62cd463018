-- What two advances have booked one after the other.
use Rattle.std.proofs.Common.{◌≡◌, [], ◌++◌, sym, ap, ◌∙◌, append_assoc, length-append, arith}
use Rattle.std.proofs.lemmas.List.{append-nil}
use Rattle.std.proofs.lemmas.List.Sums.{sum_by-append}
use Rattle.std.specs.List.{sum_by}
use Rattle.activity_net.specs.Network.{Listing}
use Rattle.book_rule.specs.declared.view.View.{View}
use Rattle.ordered_book.specs.Advanced.{cost_of, advanced, HasBooked}

pub advanced_more : (u v w : View) → v ≡ advanced u v → w ≡ advanced v w → w ≡ advanced u w
advanced_more u v w first second = second ∙ ap (λ (z : View). advanced z w) first

module _ (list : Listing) where
  -- nothing was booked
  pub booked_none : (u v : View) → v.released ≡ u.released → v.mine ≡ u.mine → v.loaded ≡ u.loaded
      → v ≡ advanced u v → HasBooked list u v
  booked_none u v released mine loaded others = record {
    gained = [];
    released = released ∙ sym (append-nil u.released);
    mine = omega (arith, mine);
    rises = omega (arith, loaded);
    loaded = omega (arith, loaded);
    others = others;
  }

  pub booked_more : (u v w : View) → HasBooked list u v → HasBooked list v w → HasBooked list u w
  booked_more u v w first second =
      let offered : v.offered ≡ u.offered = ap (λ (z : View). z.offered) first.others in
      let cost = cost_of list u.offered in
      let same : sum_by (cost_of list v.offered) second.gained ≡ sum_by cost second.gained =
      ap (λ offers. sum_by (cost_of list offers) second.gained) offered in
      let both = sum_by-append cost first.gained second.gained in
      record {
        gained = first.gained ++ second.gained;
        released =
            second.released
            ∙ (ap (λ xs. xs ++ second.gained) first.released
            ∙ append_assoc u.released first.gained second.gained);
        mine = omega
            (arith, first.mine, second.mine, length-append first.gained second.gained);
        rises = omega (arith, first.rises, second.rises);
        loaded = omega (arith, first.loaded, second.loaded, same, both);
        others = advanced_more u v w first.others second.others;
      }
