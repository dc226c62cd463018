-- How the direct predecessors of each activity are counted.
use Rattle.std.proofs.Common.{◌≡◌, ◌≢◌, ℕ, ◌+◌, ◌-◌, ◌<◌, ◌≤◌, not, List, [], ◌∷◌, ◌++◌, length, take, set, sym, refl, ◌∙◌, subst, inl, inr, arith, slice_index}
use Rattle.std.proofs.lemmas.Bool.{cases_eq}
use Rattle.std.specs.List.{All}
use Rattle.std.specs.List.Sorted.{IsPermutation}
use Rattle.std.proofs.lemmas.List.{get_or-set_same, get_or-set_other}
use Rattle.std.proofs.lemmas.List.Elements.{All-weaker}
use Rattle.rc_instance.specs.Lists.{names, IsUpTo}
use Rattle.rc_instance.specs.Project.{Project, activity_count}
use Rattle.activity_net.specs.Network.{predecessors_of}
use Rattle.activity_net.proofs.CountLaws.{count-all}
use Rattle.priority_rules.specs.Choosing.{missing, IsWaiting, AreFree, IsPile}
use Rattle.priority_rules.proofs.FreeLaws.{AreFree-next, AreFree-next_waits, AreFree-permutation}

-- what the tables keep while the predecessors of the activities before one are counted
pub record IsCounted (project : Project) (keys waiting pile : List ℕ) (activity free : ℕ) : Type 0 where
  pub counts : (a : ℕ) → 1 ≤ a → a < activity → slice_index waiting (a - 1) ≡ missing project [] a
  pub below : free < activity
  pub are_free : AreFree (activity - 1) waiting (take free pile)
  pub falling : IsPile keys pile free

-- where nothing is listed an activity misses all its direct predecessors
missing-none : (project : Project) (a : ℕ) → missing project [] a ≡ length
    (predecessors_of project a)
unfolding missing
missing-none project a = count-all (λ p. not (names [] p)) (predecessors_of project a) (λ _. refl)

-- at first nothing is counted
pub counted_none : (project : Project) (keys waiting pile : List ℕ)
    → IsCounted project keys waiting pile 1 0
counted_none project keys waiting pile = record {
  counts = λ a from below. Prim.absurd (omega arith);
  below = omega arith;
  are_free = record {
    all = λ a up zero. Prim.absurd (omega (arith, up.0, up.1));
    within = λ k d h. Prim.absurd (omega arith);
    idle = λ k d h. Prim.absurd (omega arith);
    once = λ i j d h k. Prim.absurd (omega arith);
  };
  falling = record { falling = λ i j lt h. Prim.absurd (omega arith) };
}

-- the count of the next activity is written
counts_more : (project : Project) (waiting : List ℕ) (activity count : ℕ)
    → ((a : ℕ) → 1 ≤ a → a < activity → slice_index waiting (a - 1) ≡ missing project [] a)
    → 1 ≤ activity → activity ≤ length waiting → count ≡ length (predecessors_of project activity)
    → (a : ℕ) → 1 ≤ a → a < activity + 1 → slice_index (set waiting (activity - 1) count)
    (a - 1) ≡ missing project [] a
counts_more project waiting activity count counts one inside is a from below =
    elim (cases_eq a activity) as (λ _. slice_index (set waiting (activity - 1) count)
    (a - 1) ≡ missing project [] a) [
      | inl same ↦
          subst (λ (x : ℕ). slice_index (set waiting (activity - 1) count) (x - 1) ≡ missing
          project [] x) (sym same)
          (get_or-set_same waiting (activity - 1) count 0 (omega arith)
          ∙ (is ∙ sym (missing-none project activity)))
      | inr differ ↦ get_or-set_other waiting (activity - 1) (a - 1) count 0 (omega arith)
          ∙ counts a from (omega arith)
    ]

-- an activity with predecessors waits
pub counted_waits : (project : Project) (keys waiting pile : List ℕ) (activity free count : ℕ)
    → IsCounted project keys waiting pile activity free
    → 1 ≤ activity → activity ≤ length waiting → count ≡ length (predecessors_of project activity)
    → count ≢ 0
    → IsCounted project keys (set waiting (activity - 1) count) pile (activity + 1) free
counted_waits project keys waiting pile activity free count counted one inside is some =
    let back : activity ≡ activity + 1 - 1 = omega arith in
    record {
      counts = counts_more project waiting activity count counted.counts one inside is;
      below = omega (arith, counted.below);
      are_free = subst (λ (n : ℕ). AreFree n (set waiting (activity - 1) count) (take free pile))
          back
          (AreFree-next_waits (activity - 1) waiting (take free pile) activity count
          counted.are_free (omega arith) inside some);
      falling = counted.falling;
    }

-- one without any is added to the pile
pub counted_frees : (project : Project) (keys waiting pile pile' : List ℕ)
    (activity free count : ℕ)
    → IsCounted project keys waiting pile activity free
    → 1 ≤ activity → activity ≤ length waiting
    → count ≡ length (predecessors_of project activity) → count ≡ 0
    → IsPermutation (take free pile ++ activity ∷ []) (take (free + 1) pile')
    → IsPile keys pile' (free + 1)
    → IsCounted project keys (set waiting (activity - 1) count) pile' (activity + 1) (free + 1)
counted_frees project keys waiting pile pile' activity free count counted one inside is none added
    falling =
    let back : activity ≡ activity + 1 - 1 = omega arith in
    record {
      counts = counts_more project waiting activity count counted.counts one inside is;
      below = omega (arith, counted.below);
      are_free = subst (λ (n : ℕ). AreFree n (set waiting (activity - 1) count)
          (take (free + 1) pile')) back
          (AreFree-permutation activity (set waiting (activity - 1) count)
          (take free pile ++ activity ∷ []) (take (free + 1) pile') added
          (AreFree-next (activity - 1) waiting (take free pile) activity count counted.are_free
          (omega arith) inside none));
      falling = falling;
    }

-- the piled ones are numbers of activities before this one
pub counted_numbers : (project : Project) (keys waiting pile : List ℕ) (activity free : ℕ)
    → IsCounted project keys waiting pile activity free → activity ≤ length keys + 1
    → All (IsUpTo (length keys)) (take free pile)
counted_numbers project keys waiting pile activity free counted within =
    All-weaker (IsUpTo (activity - 1)) (IsUpTo (length keys)) (λ a up. (up.0, omega (arith, up.1)))
    (take free pile) counted.are_free.within

-- once all are counted, each activity waits for its direct predecessors
pub counted_all : (project : Project) (keys waiting pile : List ℕ) (activity free : ℕ)
    → IsCounted project keys waiting pile activity free
    → activity_count project < activity → IsWaiting project [] waiting
counted_all project keys waiting pile activity free counted all =
    record { at = λ a is. counted.counts a is.0 (omega (arith, is.1)) }
