-- Why a scheme refuses an instance, and what that says.
use Rattle.std.specs.Prelude.{ℕ, List}
use Rattle.serial_plain.specs.declared.fault.SchemeFault.{SchemeFault}
use Rattle.serial_plain.specs.declared.fault.SchemeFault.TheVariants.{Misfit, Memory}
use Rattle.rc_instance.specs.FaultWords.{memory_words, misfit_words}
use Rattle.rc_instance.specs.Project.{Project}
use Rattle.rc_instance.specs.Misfit.{HasNoMisfit, IsFirstMisfit}

-- the first misfit of the instance; want of memory is told only where there is none
abbrev pub IsFault : Project → SchemeFault → Type 0
IsFault project (Misfit misfit) = IsFirstMisfit project misfit
IsFault project Memory = HasNoMisfit project

-- what a fault says
abbrev pub scheme_words : SchemeFault → List ℕ
scheme_words (Misfit misfit) = misfit_words misfit
scheme_words Memory = memory_words
