-- How the next activity is found, number by number.
use Rattle.std.proofs.Common.{◌≡◌, ℕ, List, Option}
use Rattle.std.specs.Option.{IfNone, IfSome}
use Rattle.rc_instance.specs.Project.{Project}
use Rattle.serial_plain.specs.Shown.{finish_at}
use Rattle.fwd_back.specs.Moving.{IsNextMoved, NoneMoves}

-- of the activities up to a number the next one is found, and its finish, or there is none
pub record IsFound (project : Project) (starts moved : List ℕ) (upto : ℕ) (next : Option ℕ)
    (end : ℕ) : Type 0 where
  pub some : IfSome next (λ a. IsNextMoved project starts moved upto a
      × (finish_at project starts a ≡ end))
  pub none : IfNone next (NoneMoves project moved upto × (end ≡ 0))
