-- One try to book the next position: what it makes of the pass, and what it loads.
use Rattle.std.proofs.Common.{◌≡◌, ℕ, ◌+◌, ◌-◌, ◌*◌, ◌/◌, ◌≤◌, true, nat_eq, List, [], ◌∷◌, ◌++◌, slice_index, refl, sym, ap, subst, ◌∙◌, arith}
use Rattle.std.proofs.lemmas.Bool.{cond_both, cond-true}
use Rattle.std.proofs.lemmas.Bool.Decides.{nat_tests}
use Rattle.std.proofs.lemmas.List.Sums.{sum_by-cons}
use Rattle.std.proofs.Math.Nat.{mul-add, mul-le-mul_left}
use Rattle.activity_net.specs.Network.{Listing}
use Rattle.book_rule.specs.declared.view.Offer.{Offer}
use Rattle.book_rule.specs.declared.view.Search.{Search}
use Rattle.book_rule.specs.declared.view.View.{View}
use Rattle.book_rule.specs.Listed.{begins, lasts, width}
use Rattle.book_rule.specs.Searches.{known_search}
use Rattle.book_rule.specs.Views.{after_turn, after_offer, after_claim, after_claim_with, after_known_claim, after_release, adopted_search}
use Rattle.book_rule.specs.Knowledge.{IsHolder}
use Rattle.ordered_book.specs.Advanced.{cost_of, advanced, HasBooked}
use Rattle.ordered_book.specs.Booking.{booked_view, IsBooked}
use Rattle.ordered_book.proofs.AdvancedLaws.{advanced_more, booked_none}

-- the turn was loaded, and nothing booked
pub turn_seen : (list : Listing) (v w : View) (t : ℕ) → w ≡ after_turn list v t
    → HasBooked list v w
turn_seen list v w t is = booked_none list v w (ap (λ (z : View). z.released) is)
    (ap (λ (z : View). z.mine) is) (ap (λ (z : View). z.loaded) is)
    (subst (λ (y : View). y ≡ advanced v y) (sym is) refl)

-- the words up to an end from an offer on are no more than those from what the pass itself has offered
cost_covers : (n rest own offer a b : ℕ) → own ≤ offer → a + n * offer ≤ b + n * (rest + own)
    → a ≤ b + n * rest
cost_covers n rest own offer a b low loads = omega
    (arith, mul-add n rest own, mul-le-mul_left n low)

-- a claim has put position i in hand, and changed nothing that bookings keep
pub record IsInHand (u w : View) (i : ℕ) : Type 0 where
  pub position : w.search.position ≡ i
  pub released : w.released ≡ u.released
  pub mine : w.mine ≡ u.mine
  pub loaded : w.loaded ≡ u.loaded
  pub others : w ≡ advanced u w

-- whatever offer it had loaded, and whatever its search begins with
in_hand : (u w : View) (offer : Offer) (search : Search) (t : ℕ)
    → w ≡ after_claim_with search (record u { adopted = offer }) t → IsInHand u w search.position
in_hand u w offer search t is =
    subst (λ (y : View). IsInHand u y search.position) (sym is) (record {
      position = refl;
      released = refl;
      mine = refl;
      loaded = refl;
      others = refl;
    })

-- the claim after an offer was loaded, and that with a known start
pub offer_in_hand : (u v w : View) (i t x : ℕ) → v ≡ after_offer u i x → w ≡ after_claim v t
    → IsInHand u w (t / 2)
offer_in_hand u v w i t x loaded claimed =
    let search = adopted_search v t in
    in_hand u w (record { position = i; start = x }) search t
    (claimed ∙ ap (λ (y : View). after_claim_with search y t) loaded)

pub known_in_hand : (list : Listing) (u w : View) (t start : ℕ)
    → w ≡ after_known_claim list u t start → IsInHand u w (t / 2)
known_in_hand list u w t start claimed =
    in_hand u w u.adopted (known_search list (t / 2) t start) t claimed

-- the position in hand is booked
pub one_booked : (list : Listing) (u w z : View) (i : ℕ) → IsInHand u w i → IsBooked list w z
    → z.loaded ≤ w.loaded + cost_of list u.offered i → HasBooked list u z
one_booked list u w z i hand booked few =
    let more : z.mine ≡ w.mine + 1 = ap (λ (y : View). y.mine) booked.only in
    let sum = sum_by-cons (cost_of list u.offered) i [] in
    let last : z ≡ advanced w z =
    booked.only ∙ sym (ap (λ (y : View). advanced w y) booked.only) in
    let rises = booked.rises in
    let loaded = hand.loaded in
    let mine = hand.mine in
    record {
      gained = i ∷ [];
      released = ap (λ (y : View). y.released) booked.only
          ∙ (ap (λ xs. xs ++ w.search.position ∷ []) hand.released
          ∙ ap (λ k. u.released ++ k ∷ []) hand.position);
      mine = omega arith;
      rises = omega arith;
      loaded = omega arith;
      others = advanced_more u w z hand.others last;
    }

-- where its start was chosen with the claim, no word was loaded
pub chosen_booked : (list : Listing) (w z : View) → IsHolder list w → z ≡ after_release w
    → IsBooked list w z
chosen_booked list w z holder released =
    let i = w.search.position in
    let loaded : z.loaded ≡ w.loaded = ap (λ (y : View). y.loaded) released in
    let early : w.search.least ≤ begins list i + lasts list i = omega (arith, holder.early) in
    record {
      only = subst (λ (y : View). y ≡ booked_view w y) (sym released) refl;
      rises = omega arith;
      within = omega (arith, mul-le-mul_left (width list) early);
      none = λ _. loaded;
    }

-- what that booking has loaded
pub one_loads : (list : Listing) (u v w z : View) (i t x own : ℕ) → i ≡ t / 2
    → v ≡ after_offer u i x → own ≤ x → w ≡ after_claim v t → IsHolder list w → IsBooked list w z
    → (lasts list i ≡ 0 → z.loaded ≡ w.loaded)
    × (z.loaded ≤ w.loaded + width list * (begins list i + lasts list i - own))
one_loads list u v w z i t x own at loaded low claimed holder booked =
    let position : w.search.position ≡ i =
    ap (λ (y : View). y.search.position) claimed ∙ sym at in
    let adopted : v.adopted ≡ record { position = i; start = x } =
    ap (λ (y : View). y.adopted) loaded in
    let same : nat_eq v.adopted.position (t / 2) ≡ true =
    let is : v.adopted.position ≡ t / 2 = ap (λ (y : View). y.adopted.position) loaded ∙ at in
    grind (arith, nat_tests) in
    let least : w.search.least ≡ x =
    ap (λ (y : View). y.search.least) claimed
    ∙ (cond-true (nat_eq v.adopted.position (t / 2)) v.adopted.start 0 same
    ∙ ap (λ (y : View). y.adopted.start) loaded) in
    let begin : begins list w.search.position ≡ begins list i = ap (begins list) position in
    let last : lasts list w.search.position ≡ lasts list i = ap (lasts list) position in
    let early = holder.early in
    let rest = begins list i + lasts list i - own in
    let end : begins list w.search.position + lasts list w.search.position
    ≡ begins list i + lasts list i - own + own = omega arith in
    let loads : z.loaded + width list * x
    ≤ w.loaded + width list * (begins list i + lasts list i - own + own) =
    subst (λ n. z.loaded + width list * x ≤ w.loaded + width list * n) end
    (subst (λ n. z.loaded + width list * n
    ≤ w.loaded
    + width list * (begins list w.search.position + lasts list w.search.position))
    least booked.within) in (
      λ still. booked.none (last ∙ still),
      cost_covers (width list) rest own x z.loaded w.loaded low loads,
    )

-- so it is at most its cost
pub cost_within : (list : Listing) (offered : List ℕ) (i a b : ℕ)
    → (lasts list i ≡ 0 → a ≡ b)
    × (a ≤ b + width list * (begins list i + lasts list i - slice_index offered i))
    → a ≤ b + cost_of list offered i
cost_within list offered i a b loads =
    cond_both (nat_eq (lasts list i) 0) 0
    (width list * (begins list i + lasts list i - slice_index offered i)) (λ n. a ≤ b + n)
    (λ is. let still : lasts list i ≡ 0 = grind (arith, nat_tests) in
    omega (arith, loads.0 still))
    (λ not. loads.1)
