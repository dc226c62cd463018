-- The main laws of samples, each over all projects and seeds.
use Rattle.std.specs.Prelude.{◌≡◌, ℕ, ◌+◌, ◌≤◌, List, ◌++◌}
use Rattle.rc_instance.specs.Project.{Project}
use Rattle.rc_instance.specs.Order.{IsFeasibleList}
use Rattle.priority_rules.specs.KeyList.{key_list}
use Rattle.key_sampling.specs.declared.best.Best.{Best}
use Rattle.key_sampling.specs.Samples.{sample_values}
use Rattle.key_sampling.specs.Best.{IsBest, better, best_of}

-- the values of a range are those of its parts, joined
abbrev pub ValuesAreThoseOfTheParts : Type 0
ValuesAreThoseOfTheParts = (project : Project) (seed from first second : ℕ)
    → sample_values project seed from (first + second)
    ≡ sample_values project seed from first ++ sample_values project seed (from + first) second

-- the best sample of a range is the better of the best ones of its parts
abbrev pub BestIsTheBetterOfTheParts : Type 0
BestIsTheBetterOfTheParts = (project : Project) (seed from first second : ℕ) (a b : Best)
    → IsBest project seed from first a → IsBest project seed (from + first) second b
    → IsBest project seed from (first + second) (better a b)

-- a range has one best sample
abbrev pub BestIsUnique : Type 0
BestIsUnique = (project : Project) (seed from count : ℕ) (a b : Best)
    → IsBest project seed from count a → IsBest project seed from count b → a ≡ b

-- the best sample of a range is the computed one
abbrev pub BestIsComputed : Type 0
BestIsComputed = (project : Project) (seed from count : ℕ) → 1 ≤ count
    → IsBest project seed from count (best_of project seed from count)

-- where there is a feasible list, each list by keys is feasible, whatever the keys
abbrev pub ListByKeysIsFeasible : Type 0
ListByKeysIsFeasible = (project : Project) (key : ℕ → ℕ) (order : List ℕ)
    → IsFeasibleList project order → IsFeasibleList project (key_list project key)
