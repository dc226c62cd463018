-- Each step keeps the rule of the queue.
use Rattle.std.proofs.Common.{◌≡◌, ◌≢◌, ℕ, zero, suc, ◌+◌, ◌<◌, List, [], ◌∷◌, ◌++◌, length, set, get_or, drop, sym, refl, ap, ◌∙◌, subst, inl, inr, arith}
use mathlib.Core.Option.{some, some-injective, some-ne-none}
use lib.ListN.{get_elem?}
use Rattle.crossbeam_queue.specs.Fifo.{Pushes, Pops, Forks, Merges, Learns, Held}
use Rattle.crossbeam_queue.proofs.Lists.{at_set, at_snoc}
use Rattle.work_queue.specs.declared.hand.Hand.{Hand}
use Rattle.work_queue.specs.Rule.{whole, newcomer, with_pushed, with_taken, with_part_lent, lent, merged, spent, weigh, weigh_below, jobs_from, IsKnown, HandsOut, IsLeft}
use Rattle.work_queue.proofs.Weights.{weigh-append, weigh-set, weigh-two, weigh-one, jobs_from-push, length-jobs_from}

abbrev parts_of : Hand → ℕ
parts_of v = v.parts

abbrev taken_of : (ℕ → ℕ) → Hand → ℕ
taken_of h v = weigh h v.taken

-- what is known in each seat is known after a step on one seat, if it is known there
known_set : (m : ℕ) (views : List Hand) (seat : ℕ) (w : Hand)
    → ((i : ℕ) (u : Hand) → i ≢ seat → get_elem? views i ≡ some u → IsKnown m u) → IsKnown m w
    → (i : ℕ) (u : Hand) → get_elem? (set views seat w) i ≡ some u → IsKnown m u
known_set m views seat w others mine i u at =
    elim (at_set views seat i w u at) [
      | inl here ↦ subst (IsKnown m) here.1 mine
      | inr there ↦ others i u there.0 there.1
    ]

-- who makes the queue is alone
alone : (seat : ℕ) (v : Hand) → get_elem? (newcomer ∷ []) seat ≡ some v → IsKnown 0 v
alone zero v at =
    subst (IsKnown 0) (some-injective newcomer v at)
    (record { active = λ some_part. refl; idle = λ none. refl })
alone (suc seat) v at = absurd (some-ne-none v (sym at))

-- the rule at the start
pub begins : HandsOut [] (newcomer ∷ [])
begins = record {
  out = 0;
  left = 0;
  holds = refl;
  parts = refl;
  once = λ h. refl;
  known = alone;
}

-- who has all parts leaves none to others
others_idle : (items : List ℕ) (views : List Hand) (seat : ℕ) (v : Hand) → HandsOut items views
    → get_elem? views seat ≡ some v → v.parts ≡ whole
    → (i : ℕ) (u : Hand) → i ≢ seat → get_elem? views i ≡ some u → u.parts ≡ 0
others_idle items views seat v rule at all i u apart there =
    let two = weigh-two parts_of views i seat u v apart there at in
    let sum = rule.parts in
    omega arith

pub pushes : (n seat : ℕ) (v : Hand) (job : ℕ) → v.parts ≡ whole → job ≡ v.pushed
    → Pushes HandsOut n seat v job (λ w. w ≡ with_pushed v)
pushes n seat v job all next = λ items views room rule at.
    let w = with_pushed v in
    let here : v.pushed ≡ rule.out + rule.left =
    (rule.known seat v at).active (λ none. absurd (omega arith)) in
    let is : job ≡ rule.out + rule.left = next ∙ here in (
      w,
      record {
        out = rule.out;
        left = suc rule.left;
        holds = ap (λ (l : List ℕ). l ++ job ∷ []) rule.holds
            ∙ (ap (λ (x : ℕ). jobs_from rule.out rule.left ++ x ∷ []) is
            ∙ jobs_from-push rule.out rule.left);
        parts = (let change = weigh-set parts_of views seat v w at in
            let sum = rule.parts in omega arith);
        once = λ h.
            let change = weigh-set (taken_of h) views seat v w at in
            let sum = rule.once h in
            omega arith;
        known = known_set (rule.out + suc rule.left) views seat w
            (λ i u apart there. record {
              active = λ some_part. absurd (some_part
                  (others_idle items views seat v rule at all i u apart there));
              idle = (rule.known i u there).idle;
            })
            (record {
              active = λ some_part. omega arith;
              idle = λ none. absurd (omega arith);
            });
      },
      refl,
    )

-- the first job that is left
first_left : (job first n : ℕ) (items : List ℕ) → job ∷ items ≡ jobs_from first n
    → (m : ℕ) × (n ≡ suc m) × (job ≡ first) × (items ≡ jobs_from (suc first) m)
first_left job first zero items same =
    let one : suc (length items) ≡ 0 = ap length same in absurd (omega arith)
first_left job first (suc m) items same =
    (m, refl, ap (λ (l : List ℕ). get_or l 0 0) same, ap (λ (l : List ℕ). drop 1 l) same)

pub takes : (seat : ℕ) (v : Hand) → 0 < v.parts
    → Pops HandsOut seat v (λ job after. (job < v.pushed) × (after ≡ with_taken v job))
takes seat v active = λ job items views rule at.
    let w = with_taken v job in
    let here : v.pushed ≡ rule.out + rule.left =
    (rule.known seat v at).active (λ none. absurd (omega arith)) in
    let first = first_left job rule.out rule.left items rule.holds in
    let m : ℕ = first.0 in
    let more : rule.left ≡ suc m = first.1 in
    let is : job ≡ rule.out = first.2 in (
      w,
      record {
        out = suc rule.out;
        left = m;
        holds = first.3;
        parts = (let change = weigh-set parts_of views seat v w at in
            let sum = rule.parts in omega arith);
        once = λ h.
            let change = weigh-set (taken_of h) views seat v w at in
            let sum = rule.once h in
            let same : h job ≡ h rule.out = ap h is in
            omega (arith, weigh-append h v.taken (job ∷ []));
        known = known_set (suc rule.out + m) views seat w
            (λ i u apart there.
            let old = rule.known i u there in record {
              active = λ some_part. let was = old.active some_part in omega arith;
              idle = old.idle;
            })
            (record {
              active = λ some_part. omega arith;
              idle = λ none. absurd (omega arith);
            });
      },
      (omega arith, refl),
    )

pub learns : (seat : ℕ) (v : Hand) → Learns HandsOut seat v (IsLeft v)
learns seat v = λ items views rule at. record {
  out = rule.out;
  count = λ all.
      let here = (rule.known seat v at).active (λ none. absurd (omega arith)) in
      let size = ap length rule.holds in
      omega (arith, length-jobs_from rule.out rule.left);
  once = λ all h. rule.once h
      ∙ weigh-one parts_of (taken_of h) views seat v
      (λ i u there none. ap (weigh h) ((rule.known i u there).idle none)) at
      (rule.parts ∙ sym all);
}

pub forks : (seat : ℕ) (v : Hand) → 1 < v.parts
    → Forks HandsOut seat v (with_part_lent v) (lent v)
forks seat v two = λ items views rule at.
    let w = with_part_lent v in
    let here : v.pushed ≡ rule.out + rule.left =
    (rule.known seat v at).active (λ none. absurd (omega arith)) in
    let old = known_set (rule.out + rule.left) views seat w
    (λ i u apart there. rule.known i u there)
    (record { active = λ some_part. here; idle = λ none. absurd (omega arith) }) in record {
      out = rule.out;
      left = rule.left;
      holds = rule.holds;
      parts = (let change = weigh-set parts_of views seat v w at in
          let sum = rule.parts in
          omega (arith, weigh-append parts_of (set views seat w) (lent v ∷ [])));
      once = λ h.
          let change = weigh-set (taken_of h) views seat v w at in
          let sum = rule.once h in
          omega (arith, weigh-append (taken_of h) (set views seat w) (lent v ∷ []));
      known = λ i u there.
          elim (at_snoc (set views seat w) (lent v) u i there) [
            | inl before ↦ old i u before
            | inr new ↦ subst (IsKnown (rule.out + rule.left)) new
                (record { active = λ some_part. here; idle = λ none. refl })
          ];
    }

pub merges : (seat : ℕ) (v : Hand) (other : ℕ) (w : Hand) → 0 < v.parts
    → Merges HandsOut seat v other w (merged v w) spent
merges seat v other w active = λ items views rule at apart there.
    let both = merged v w in
    let here : v.pushed ≡ rule.out + rule.left =
    (rule.known seat v at).active (λ none. absurd (omega arith)) in
    let taken_in = set views seat both in
    let old = known_set (rule.out + rule.left) views seat both
    (λ i u _ found. rule.known i u found)
    (record { active = λ some_part. here; idle = λ none. absurd (omega arith) }) in record {
      out = rule.out;
      left = rule.left;
      holds = rule.holds;
      parts = (let first = weigh-set parts_of views seat v both at in
          let second = weigh-set parts_of taken_in other w spent there in
          let sum = rule.parts in
          omega arith);
      once = λ h.
          let first = weigh-set (taken_of h) views seat v both at in
          let second = weigh-set (taken_of h) taken_in other w spent there in
          let sum = rule.once h in
          omega (arith, weigh-append h v.taken w.taken);
      known = known_set (rule.out + rule.left) taken_in other spent
          (λ i u _ found. old i u found)
          (record { active = λ some_part. absurd (some_part refl); idle = λ none. refl });
    }

-- a queue with room for more than was pushed was not full
pub not_full : (v : Hand) (room : ℕ) → v.parts ≡ whole → v.pushed < room
    → Held room (IsLeft v) → ⊥
not_full v room all below held =
    let count = held.2.count all in
    let size = held.1 in
    omega arith

-- an empty queue: all that was pushed was taken
pub all_taken : (v : Hand) → Held 0 (IsLeft v) → v.parts ≡ whole
    → (h : ℕ → ℕ) → weigh_below h v.pushed ≡ weigh h v.taken
all_taken v held all h =
    let count = held.2.count all in
    let size = held.1 in
    let same : held.2.out ≡ v.pushed = omega arith in
    ap (weigh_below h) (sym same) ∙ held.2.once all h
