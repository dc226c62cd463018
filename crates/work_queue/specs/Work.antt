-- What workers answer, and where their answers stand.
use Rattle.std.specs.Prelude.{◌≡◌, ℕ, ◌<◌, List, [], ◌∷◌, ◌++◌, length, map, Option, Some, None, All, slice_index_or, slice_set, if◌then◌else◌, nat_eq}
use Rattle.std.specs.declared.vec.Vec.{Vec}
use Rattle.std.specs.declared.alloc.Global.{Global}
use Rattle.crossbeam_queue.specs.Passes.{Pass, view, IsPassOf}
use Rattle.crossbeam_queue.specs.declared.array_queue.Doing.{Doing}
use Rattle.crossbeam_queue.specs.declared.array_queue.Slotted.{Slotted}
use Rattle.work_queue.specs.declared.hand.Hand.{Hand}
use Rattle.work_queue.specs.Rule.{hand, whole, weigh, weigh_below}

-- the numbers of the jobs that were done
abbrev pub jobs_of : {T : Type 0} → List (ℕ × T) → List ℕ
jobs_of done = map (λ one. one.0) done

-- 1 for this job, 0 for the others
abbrev pub mark : ℕ → ℕ → ℕ
mark job other = if nat_eq other job then 1 else 0

module _ {T : Type 0} where
  -- one of the workers may answer x for the job
  abbrev pub IsGiven : ℕ → (ℕ → ℕ → T → Type 0) → ℕ → T → Type 0
  IsGiven workers gives job x = (worker : ℕ) × (worker < workers) × gives worker job x

  -- a worker has done each job that it took
  pub record HasDone (gives : ℕ → T → Type 0) (before after : Hand) (done : List (ℕ × T)) : Type 0
    where
      pub parts : after.parts ≡ before.parts
      pub pushed : after.pushed ≡ before.pushed
      pub taken : after.taken ≡ before.taken ++ jobs_of done
      pub answers : All (λ one. (one.0 < before.pushed) × gives one.0 one.1) done

  -- it has, until the queue was empty: if all parts are its own, then all jobs were taken
  pub record HasWorked (gives : ℕ → T → Type 0) (before after : Hand) (done : List (ℕ × T)) : Type 0
    where
      pub each : HasDone gives before after done
      pub all : before.parts ≡ whole
          → (h : ℕ → ℕ) → weigh_below h before.pushed ≡ weigh h after.taken

  -- what stands in the place of a job: an answer, or nothing as long as it was not taken
  abbrev pub IsSlot : (ℕ → T → Type 0) → List ℕ → ℕ → Option T → Type 0
  IsSlot gives taken job (Some x) = gives job x
  IsSlot gives taken job None = weigh (mark job) taken ≡ 0

  -- the places after answers have been put into them
  abbrev pub placed : List (Option T) → List (ℕ × T) → List (Option T)
  placed slots [] = slots
  placed slots (one ∷ done) = placed (slice_set slots one.0 (Some one.1)) done

  abbrev pub AreSlots : (ℕ → T → Type 0) → List ℕ → List (Option T) → Type 0
  AreSlots gives taken slots = (job : ℕ) → job < length slots
      → IsSlot gives taken job (slice_index_or slots job None)

module _ {Q A : Type 0} where
  -- a worker that may begin, with its number
  abbrev pub IsReady : Slotted (Option ℕ) (Doing ℕ Hand) Q A → ℕ → ℕ → (ℕ × Pass ℕ Hand) → Type 0
  IsReady queue workers count ready =
      IsPassOf queue ready.1 × (ready.0 < workers) × (view ready.1 ≡ hand 1 count [])

  -- what one of the workers gives back
  abbrev pub IsReturned : {T : Type 0} → Slotted (Option ℕ) (Doing ℕ Hand) Q A → ℕ → ℕ
      → (ℕ → ℕ → T → Type 0) → (Pass ℕ Hand × Vec (ℕ × T) Global) → Type 0
  IsReturned queue workers count gives returned =
      IsPassOf queue returned.0
      × ((worker : ℕ) × (worker < workers)
      × HasWorked (gives worker) (hand 1 count []) (view returned.0) returned.1.items)
