-- How long a text of an instance that was read can be, each over all texts of files.
use Rattle.std.specs.Prelude.{◌≡◌, ◌⊎◌, ℕ, ◌≤◌, List, length, Some, Ok, Err}
use Rattle.rc_instance.specs.declared.limits.TheConstants.{MAX_FILE_BYTES}
use Rattle.rc_instance.specs.declared.misfit.Misfit.{Misfit as Shown}
use Rattle.rc_instance.specs.Project.{Project}
use Rattle.rc_instance.specs.Calendar.{IsWithinLimits}
use Rattle.rc_instance.specs.Misfit.{first_misfit}
use Rattle.rc_instance.specs.Schedule.{serial_schedule}
use Rattle.rc_instance.specs.FaultWords.{misfit_words}
use Rattle.rc_edge.specs.declared.text_fault.TextFault.{TextFault}
use Rattle.rc_edge.specs.TextFault.{fault_words}
use Rattle.patterson_read.specs.Rcp as rcp
use Rattle.psplib_read.specs.Sm as sm
use Rattle.activity_net.specs.Ring.{shown_cycle}
use Rattle.activity_net.specs.RingWords.{ring_words}
use Rattle.priority_rules.specs.Rules.{rule_list}
use Rattle.priority_rules.specs.declared.rule.Rule.TheVariants.{Number}
use Rattle.gantt_table.specs.Table.{table_text}

-- an instance is that of these bytes, in one of the formats
abbrev pub IsRead : List ℕ → Project → Type 0
IsRead bytes project =
    (rcp.read_instance bytes ≡ Ok project) ⊎ (sm.read_instance bytes ≡ Ok project)

-- a fault is that of these bytes, in one of the formats
abbrev pub IsFaultOf : List ℕ → TextFault → Type 0
IsFaultOf bytes fault =
    (rcp.read_instance bytes ≡ Err fault) ⊎ (sm.read_instance bytes ≡ Err fault)

abbrev pub ReadIsWithinLimits : Type 0
ReadIsWithinLimits = (bytes : List ℕ) (project : Project) → IsRead bytes project
    → IsWithinLimits project

-- the table of the serial schedule by number
abbrev pub TableIsShort : Type 0
TableIsShort = (project : Project) → IsWithinLimits project
    → length (table_text project (serial_schedule project (rule_list project Number))) ≤ 25100

-- the first fault of a text of a file within the limit
abbrev pub FaultIsShort : Type 0
FaultIsShort = (bytes : List ℕ) (fault : TextFault) → length bytes ≤ MAX_FILE_BYTES
    → IsFaultOf bytes fault → length (fault_words fault) ≤ 100

-- the cycle that is shown
abbrev pub CycleIsShort : Type 0
CycleIsShort = (project : Project) (ring : List ℕ) → IsWithinLimits project
    → shown_cycle project ≡ Some ring → length (ring_words ring) ≤ 5100

-- the first misfit
abbrev pub MisfitIsShort : Type 0
MisfitIsShort = (bytes : List ℕ) (project : Project) (misfit : Shown) → IsRead bytes project
    → first_misfit project ≡ Some misfit → length (misfit_words misfit) ≤ 100
