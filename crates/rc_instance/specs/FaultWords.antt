-- What the faults of instances say.
use Rattle.std.specs.Prelude.{ℕ, List, ◌++◌, codes}
use Rattle.std.specs.Fmt.{decimal}
use Rattle.rc_instance.specs.declared.misfit.Misfit.{Misfit as Shown}
use Rattle.rc_instance.specs.declared.parts.InstanceFault.{InstanceFault}
use Rattle.rc_instance.specs.declared.parts.InstanceFault.TheVariants.{NoActivity, TooManyActivities, TooManyResources, CapacityTooLarge, SuccessorOutOfRange, TooLong, Memory}

-- want of memory
abbrev pub memory_words : List ℕ
memory_words = codes "out of memory"

-- why parts make no instance
abbrev pub instance_words : InstanceFault → List ℕ
instance_words NoActivity = codes "no activity"
instance_words (TooManyActivities _) = codes "too many activities"
instance_words (TooManyResources _) = codes "too many resources"
instance_words (CapacityTooLarge _ _) = codes "capacity too large"
instance_words (SuccessorOutOfRange _ _) = codes "successor out of range"
instance_words (TooLong _) = codes "too long"
instance_words Memory = memory_words

-- a demand that no period can meet
abbrev pub misfit_words : Shown → List ℕ
misfit_words misfit =
    codes "activity " ++ decimal misfit.activity ++ codes " needs " ++ decimal misfit.demand
    ++ codes " of resource " ++ decimal misfit.resource ++ codes ", capacity " ++ decimal misfit.capacity
