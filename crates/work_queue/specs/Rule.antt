-- The rule of a queue of jobs, over what it holds and what each worker knows.
use Rattle.std.specs.Prelude.{◌≡◌, ◌≢◌, ℕ, zero, suc, ◌+◌, ◌-◌, List, [], ◌∷◌, ◌++◌, length}
use mathlib.Core.Option.{some}
use lib.ListN.{get_elem?}
use Rattle.work_queue.specs.declared.hand.Hand.{Hand}

abbrev pub hand : ℕ → ℕ → List ℕ → Hand
hand parts pushed taken = record { parts = parts; pushed = pushed; taken = taken }

-- all parts of the right to know the whole
abbrev pub whole : ℕ
whole = 128

-- who makes the queue
abbrev pub newcomer : Hand
newcomer = hand whole 0 []

abbrev pub with_pushed : Hand → Hand
with_pushed v = hand v.parts (v.pushed + 1) v.taken

abbrev pub with_taken : Hand → ℕ → Hand
with_taken v job = hand v.parts v.pushed (v.taken ++ job ∷ [])

-- one part goes to a worker that is made
abbrev pub with_part_lent : Hand → Hand
with_part_lent v = hand (v.parts - 1) v.pushed v.taken

abbrev pub lent : Hand → Hand
lent v = hand 1 v.pushed []

-- a worker comes back
abbrev pub merged : Hand → Hand → Hand
merged v w = hand (v.parts + w.parts) v.pushed (v.taken ++ w.taken)

abbrev pub spent : Hand
spent = hand 0 0 []

-- the weights of the members, added up
abbrev pub weigh : {X : Type 0} → (X → ℕ) → List X → ℕ
weigh h [] = 0
weigh h (x ∷ xs) = h x + weigh h xs

-- the weights of the numbers below n, added up
abbrev pub weigh_below : (ℕ → ℕ) → ℕ → ℕ
weigh_below h zero = 0
weigh_below h (suc n) = weigh_below h n + h n

-- so many jobs from a number on, in order
abbrev pub jobs_from : ℕ → ℕ → List ℕ
jobs_from first zero = []
jobs_from first (suc n) = first ∷ jobs_from (suc first) n

-- who has a part knows how many jobs were pushed, and who has none took nothing
pub record IsKnown (pushed : ℕ) (v : Hand) : Type 0 where
  pub active : v.parts ≢ 0 → v.pushed ≡ pushed
  pub idle : v.parts ≡ 0 → v.taken ≡ []

-- the queue holds the jobs from some number on, and those before were taken once each, however jobs
-- are weighed
pub record HandsOut (items : List ℕ) (views : List Hand) : Type 0 where
  pub out : ℕ
  pub left : ℕ
  pub holds : items ≡ jobs_from out left
  pub parts : weigh (λ (v : Hand). v.parts) views ≡ whole
  pub once : (h : ℕ → ℕ) → weigh_below h out ≡ weigh (λ (v : Hand). weigh h v.taken) views
  pub known : (port : ℕ) (v : Hand) → get_elem? views port ≡ some v → IsKnown (out + left) v

-- what one with all parts knows of what the queue holds
pub record IsLeft (v : Hand) (items : List ℕ) : Type 0 where
  pub out : ℕ
  pub count : v.parts ≡ whole → out + length items ≡ v.pushed
  pub once : v.parts ≡ whole → (h : ℕ → ℕ) → weigh_below h out ≡ weigh h v.taken
