-- Workers and their seekers.
use Rattle.std.proofs.Common.{◌≡◌, ℕ, zero, suc, ◌<◌, true, List, [], ◌∷◌, ◌++◌, length, map, get_or, sym, ap, ◌∙◌, subst, arith}
use Rattle.std.specs.List.{All}
use Rattle.std.proofs.lemmas.List.{length-map, get_or-map}
use Rattle.activity_net.specs.Network.{Network}
use Rattle.key_sampling.specs.declared.race.Race.{Race}
use Rattle.key_sampling.specs.declared.seeker.Seeker.{Seeker}
use Rattle.key_sampling.specs.declared.worker.Worker.{Worker}
use Rattle.key_sampling.specs.Race.{view_of, IsSameSeeker, IsSeekerAt, IsFirst, IsFresh, IsOpened, AreSeekers}
use Rattle.key_sampling.specs.Workers.{seeker_of, HaveTools, IsReady, HasEnded, HaveEnded}

-- the seeker of a worker is among the seekers, at its place
seeker-at : (workers : List Worker) (seekers : List Seeker) (k : ℕ) (d : Worker)
    → map seeker_of workers ≡ seekers → k < length workers
    → (k < length seekers) × (get_or seekers k (seeker_of d) ≡ seeker_of (get_or workers k d))
seeker-at workers seekers k d same within =
    let long = ap length (sym same) ∙ length-map workers seeker_of in (
      omega arith,
      ap (λ (xs : List Seeker). get_or xs k (seeker_of d)) (sym same)
          ∙ get_or-map seeker_of workers k d (seeker_of d) within,
    )

-- workers whose seekers are fresh, and that have tools, are ready
pub all_ready : (race : Race) (network : Network) (count : ℕ) (workers : List Worker)
    (seekers : List Seeker) → map seeker_of workers ≡ seekers → IsOpened count race seekers
    → HaveTools network workers → race.terms.net.now ≡ network → All (IsReady race) workers
all_ready race network count workers seekers same opened tools of k d within =
    let at = seeker-at workers seekers k d same within in
    let fresh = subst (IsFresh race k) at.1 (opened.fresh k (seeker_of d) at.0) in
    record {
      own = fresh.own;
      idle = fresh.idle;
      going = fresh.going;
      network = tools k d within ∙ sym of;
    }

-- a seeker that has searched is the one that it was
same_first : (made joined : ℕ) (old new : Seeker) → IsSameSeeker old new → IsFirst made joined old
    → IsFirst made joined new
same_first made joined old new same first = record {
  seat = same.seat ∙ first.seat;
  number = same.number ∙ first.number;
  made_is = same.made ∙ first.made_is;
  joined_is = same.joined ∙ first.joined_is;
}

-- an element of a list at a place within it
some_at : {X : Type 0} (xs : List X) (k : ℕ) → k < length xs → X
some_at [] k within = absurd (omega arith)
some_at (x ∷ xs) zero within = x
some_at (x ∷ xs) (suc k) within = some_at xs k (omega arith)

-- what a worker's seeker is once it has searched
ended-at : (race : Race) (seekers : List Seeker) (old new : List Worker) (k : ℕ) (d : Seeker)
    → map seeker_of old ≡ seekers → length new ≡ length old → HaveEnded race old new
    → k < length new
    → (w : Worker) × HasEnded race (get_or old k w) (get_or new k w)
    × (get_or (map seeker_of new) k d ≡ seeker_of (get_or new k w))
    × (get_or seekers k d ≡ seeker_of (get_or old k w))
ended-at race seekers old new k d same long all within =
    let w = some_at new k within in
    let there : k < length old = omega arith in (
      w,
      all k w there,
      get_or-map seeker_of new k w d within,
      ap (λ (xs : List Seeker). get_or xs k d) (sym same) ∙ get_or-map seeker_of old k w d there,
    )

-- the seekers of workers that have searched are still those of the race
pub seekers-kept : (race : Race) (seekers : List Seeker) (old new : List Worker)
    → AreSeekers race seekers → map seeker_of old ≡ seekers → length new ≡ length old
    → HaveEnded race old new → AreSeekers race (map seeker_of new)
seekers-kept race seekers old new are same long all =
    let some = are.some in
    let before : length seekers ≡ length old = ap length (sym same) ∙ length-map old seeker_of in
    let after = length-map new seeker_of in
    record {
      some = omega arith;
      each = λ k d within.
          let h = ended-at race seekers old new k d same long all (omega arith) in
          let was = subst (IsSeekerAt race k) h.3 (are.each k d (omega arith)) in
          subst (IsSeekerAt race k) (sym h.2) (record {
            own = h.1.own;
            number_is = h.1.same.number ∙ was.number_is;
          });
      first = λ d.
          let h = ended-at race seekers old new 0 d same long all (omega arith) in
          let was = subst (IsFirst (length seekers) 0) h.3 (are.first d) in
          let is = same_first (length seekers) 0 (seeker_of (get_or old 0 h.0))
          (seeker_of (get_or new 0 h.0)) h.1.same was in
          let count : length seekers ≡ length (map seeker_of new) = omega arith in
          subst (λ (n : ℕ). IsFirst n 0 (get_or (map seeker_of new) 0 d)) count
          (subst (IsFirst (length seekers) 0) (sym h.2) is);
    }

-- and each has ended
pub seekers-ended : (race : Race) (seekers : List Seeker) (old new : List Worker)
    → map seeker_of old ≡ seekers → length new ≡ length old → HaveEnded race old new
    → All (λ seeker. (view_of seeker).ended ≡ true) (map seeker_of new)
seekers-ended race seekers old new same long all = λ k d within.
    let after = length-map new seeker_of in
    let h = ended-at race seekers old new k d same long all (omega arith) in
    subst (λ (s : Seeker). (view_of s).ended ≡ true) (sym h.2) h.1.ended

-- the seekers that are put behind none are those of the workers
pub handed-back : (items ended : List Seeker) (back new : List Worker)
    → items ≡ ended ++ map seeker_of back → ended ≡ [] → back ≡ new → items ≡ map seeker_of new
handed-back items ended back new all none same =
    all ∙ (ap (λ (xs : List Seeker). xs ++ map seeker_of back) none ∙ ap (map seeker_of) same)
