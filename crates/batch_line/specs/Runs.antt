-- The runs of many files, one for each name.
use Rattle.std.specs.Prelude.{◌≡◌, ℕ, List, [], ◌∷◌, ◌++◌, map, Some, Ok, slice_get}
use Rattle.std.specs.declared.vec.Vec.{Vec}
use Rattle.std.specs.declared.alloc.Global.{Global}
use Rattle.rcpsp_run.specs.declared.status.Status.{Status}
use Rattle.rcpsp_run.specs.declared.status.Status.TheVariants.{Done}
use Rattle.rcpsp_run.specs.Outcome.{contents}
use Rattle.batch_line.specs.declared.ran.Ran.{Ran}
use Rattle.batch_line.specs.declared.joined.Joined.{Joined as Made}
use Rattle.batch_line.specs.Batch.{Joined, alone, CameTo, IsEnding, head_line, or_else, batch_outcome}

-- the run of the name and the text at a place
abbrev pub IsRunOf : List (List ℕ) → List (Vec ℕ Global) → ℕ → Ran → Type 0
IsRunOf names texts place ran = (name : List ℕ) (text : Vec ℕ Global)
    → slice_get names place ≡ Some name → slice_get texts place ≡ Some text
    → CameTo (alone ((name, text.items) ∷ []) name) ran × IsEnding ran.status

-- the status of the first run that is not `Done`
abbrev pub ran_status : List Ran → Status
ran_status [] = Done
ran_status (ran ∷ rans) = or_else ran.status (ran_status rans)

-- what is printed of a run
abbrev pub ran_part : List ℕ → Ran → List ℕ
ran_part name ran = head_line name ++ ran.text.items ++ ran.line.items

-- what is printed of many
abbrev pub ran_text : List (List ℕ) → List Ran → List ℕ
ran_text (name ∷ names) (ran ∷ rans) = ran_part name ran ++ ran_text names rans
ran_text _ _ = []

-- how what was joined is seen
abbrev pub joined_view : Made → Joined
joined_view made = record { status = made.status; text = made.text.items }

-- what is joined is what the names come to, where these are the contents of their files
abbrev pub IsJoinedOf : List (List ℕ) → List (Vec ℕ Global) → Joined → Type 0
IsJoinedOf names texts joined = (pairs : List (List ℕ × List ℕ))
    → contents pairs names ≡ Ok (map (λ text. text.items) texts)
    → batch_outcome pairs names ≡ Ok joined
