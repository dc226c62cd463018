-- What the only seeker of a race is after each call.
use Rattle.std.proofs.Common.{◌≡◌, ℕ, zero, suc, ◌<◌, Bool, true, false, MatchBool, if◌then◌else◌, List, [], ◌∷◌, ◌++◌, length, slice_index_or, None, Some, sym, ap, ◌∙◌, subst, arith}
use Rattle.std.specs.List.{All}
use Rattle.std.proofs.lemmas.List.{length_push, get_or_push}
use Rattle.std.proofs.lemmas.List.Elements.{All-nil, All-cons}
use Rattle.std.proofs.lemmas.List.FromFn.{get_or-map-range_with_len}
use Rattle.rc_instance.specs.Project.{Project}
use Rattle.activity_net.specs.Network.{Network}
use Rattle.key_sampling.specs.declared.race.Race.{Race}
use Rattle.key_sampling.specs.declared.seeker.Seeker.{Seeker}
use Rattle.key_sampling.specs.Samples.{sample_makespan, sample_values}
use Rattle.key_sampling.specs.Race.{view_of, sample_in_hand, value_in, IsSeekerOf, IsSeekerAt, IsSameSeeker, IsFirst, IsFresh, IsRaceOf, IsOpened, AreSeekers, StaysAtWork}
use Rattle.worker_tests.specs.Alone.{IsAlone, IsIdle, IsAtSample, HasStopped}

pub same_alone : (race : Race) (old new : Seeker) → IsAlone race old → IsSeekerOf race new
    → IsSameSeeker old new → IsAlone race new
same_alone race old new alone own same = record {
  at = record { own = own; number_is = same.number ∙ alone.at.number_is };
  first = record {
    seat = same.seat ∙ alone.first.seat;
    number = same.number ∙ alone.first.number;
    made_is = same.made ∙ alone.first.made_is;
    joined_is = same.joined ∙ alone.first.joined_is;
  };
}

-- the last of the seekers of a race that has one
pub popped_idle : (race : Race) (rest : List Seeker) (x : Seeker)
    → IsOpened 1 race (rest ++ x ∷ []) → IsIdle race x
popped_idle race rest x opened =
    let none : length rest ≡ 0 = omega (arith, opened.count_is, length_push rest x) in
    let at : slice_index_or (rest ++ x ∷ []) 0 x ≡ x = get_or_push rest x x 0 none in
    let fresh = subst (IsFresh race 0) at (opened.fresh 0 x (omega (arith, opened.count_is))) in
    let chief = subst (λ (n : ℕ). IsFirst n 0 (slice_index_or (rest ++ x ∷ []) 0 x)) opened.count_is
    (opened.all.first x) in
    record {
      alone = record {
        at = record { own = fresh.own; number_is = fresh.number_is };
        first = subst (IsFirst 1 0) at chief;
      };
      idle = fresh.idle;
      going = fresh.going;
    }

-- a sample was taken, or none was left
pub taken : (race : Race) (old new : Seeker) (sample : ℕ) → IsIdle race old → IsSeekerOf race new
    → IsSameSeeker old new → Some sample ≡ sample_in_hand (view_of new)
    → (view_of new).ended ≡ false → IsAtSample race new sample
taken race old new sample idle own same hand going = record {
  alone = same_alone race old new idle.alone own same;
  hand = sym hand;
  going = going;
}

pub stopped : (race : Race) (old new : Seeker) → IsIdle race old → IsSeekerOf race new
    → IsSameSeeker old new → (view_of new).ended ≡ true → HasStopped race new
stopped race old new idle own same ended = record {
  alone = same_alone race old new idle.alone own same;
  ended = ended;
}

-- it was given up or not
pub given_up : (race : Race) (old new : Seeker) (sample : ℕ) (answer : Bool)
    → IsAtSample race old sample → StaysAtWork race old new
    → sample_in_hand (view_of new) ≡ (if answer then None else sample_in_hand (view_of old))
    → MatchBool answer (IsIdle race new) (IsAtSample race new sample)
given_up race old new sample true at stays hand = record {
  alone = same_alone race old new at.alone stays.own stays.same;
  idle = hand;
  going = stays.ended ∙ at.going;
}
given_up race old new sample false at stays hand = record {
  alone = same_alone race old new at.alone stays.own stays.same;
  hand = hand ∙ at.hand;
  going = stays.ended ∙ at.going;
}

pub settled : (race : Race) (old new : Seeker) (sample : ℕ) → IsAtSample race old sample
    → StaysAtWork race old new → sample_in_hand (view_of new) ≡ None → IsIdle race new
settled race old new sample at stays idle = record {
  alone = same_alone race old new at.alone stays.own stays.same;
  idle = idle;
  going = stays.ended ∙ at.going;
}

-- a seeker that is alone is all of them
each_alone : (race : Race) (x : Seeker) → IsAlone race x → (k : ℕ) (d : Seeker)
    → k < length (x ∷ []) → IsSeekerAt race k (slice_index_or (x ∷ []) k d)
each_alone race x alone zero d inside = alone.at
each_alone race x alone (suc k) d inside = absurd (omega arith)

pub all_alone : (race : Race) (x : Seeker) → IsAlone race x → AreSeekers race (x ∷ [])
all_alone race x alone = record {
  some = omega arith;
  each = each_alone race x alone;
  first = λ d. alone.first;
}

pub all_ended : (x : Seeker) → (view_of x).ended ≡ true
    → All (λ (seeker : Seeker). (view_of seeker).ended ≡ true) (x ∷ [])
all_ended x ended =
    let Ended : Seeker → Type 0 = λ (seeker : Seeker). (view_of seeker).ended ≡ true in
    All-cons Ended x [] ended (All-nil Ended)

-- the only value of a range of one sample
pub only_value : (project : Project) (seed sample d : ℕ) (values : List ℕ)
    → values ≡ sample_values project seed sample 1
    → slice_index_or values 0 d ≡ sample_makespan project seed sample
only_value project seed sample d values are =
    ap (λ (xs : List ℕ). slice_index_or xs 0 d) are
    ∙ get_or-map-range_with_len (sample_makespan project seed) sample 1 0 sample d (omega arith)
    (omega arith)

-- the value of a sample is that in the race
pub value_is : (network : Network) (seed from count : ℕ) (race : Race) (sample value : ℕ)
    → IsRaceOf network seed from count race → value ≡ sample_makespan network.project seed sample
    → value ≡ value_in race sample
value_is network seed from count race sample value of is =
    subst (λ (n : Network). value ≡ sample_makespan n.project race.terms.seed sample)
    (sym of.network_is)
    (subst (λ (s : ℕ). value ≡ sample_makespan network.project s sample) (sym of.seed_is) is)
