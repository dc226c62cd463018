-- What each number of an instance may be, whatever the format: a limit is tested at the number that passes it.
use Rattle.std.specs.Prelude.{ℕ, ◌+◌, ◌||◌, ◌==◌, nat_lt, Result, Ok}
use Rattle.rc_instance.specs.declared.limits.TheConstants.{MAX_ACTIVITIES, MAX_RESOURCES, MAX_CAPACITY, MAX_DURATION_SUM}
use Rattle.rc_instance.specs.declared.parts.InstanceFault.{InstanceFault}
use Rattle.rc_instance.specs.declared.parts.InstanceFault.TheVariants.{NoActivity, TooManyActivities, TooManyResources, CapacityTooLarge, SuccessorOutOfRange, TooLong, Memory}
use Rattle.rc_edge.specs.declared.text_number.Number.{Number}
use Rattle.rc_edge.specs.declared.text_fault.TextFault.{TextFault}
use Rattle.rc_edge.specs.declared.text_fault.TextKind.TheVariants.{Instance}
use Rattle.rc_edge.specs.Grammar.{◌>>=◌, refuse_if}

-- a limit that a number can pass
abbrev pub IsLimit : InstanceFault → Type 0
IsLimit Memory = ⊥
IsLimit fault = Unit {0}

-- how many activities there are
unfoldable pub activity_count : Number → Result ℕ TextFault
activity_count number = do
  none ← refuse_if (number.value == 0) (Instance NoActivity) number.at
  many ← refuse_if (nat_lt MAX_ACTIVITIES number.value) (Instance (TooManyActivities number.value)) number.at
  Ok number.value

-- how many resources there are
unfoldable pub resource_count : Number → Result ℕ TextFault
resource_count number = do
  many ← refuse_if (nat_lt MAX_RESOURCES number.value) (Instance (TooManyResources number.value)) number.at
  Ok number.value

-- the capacity of a resource
unfoldable pub capacity : ℕ → Number → Result ℕ TextFault
capacity resource number = do
  large ← refuse_if (nat_lt MAX_CAPACITY number.value) (Instance (CapacityTooLarge resource number.value)) number.at
  Ok number.value

-- the duration of an activity; those of the activities before it have the sum `before`
unfoldable pub duration : ℕ → Number → Result ℕ TextFault
duration before number = do
  long ← refuse_if (nat_lt MAX_DURATION_SUM (before + number.value)) (Instance (TooLong (before + number.value))) number.at
  Ok number.value

-- a successor of an activity, of `count` activities in all
unfoldable pub successor : ℕ → ℕ → Number → Result ℕ TextFault
successor count activity number = do
  wild ← refuse_if (number.value == 0 || nat_lt count number.value) (Instance (SuccessorOutOfRange activity number.value)) number.at
  Ok number.value
