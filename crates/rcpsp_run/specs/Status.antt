-- The exit code of each way that a run can end.
use Rattle.std.specs.Prelude.{ℕ}
use Rattle.rcpsp_run.specs.declared.status.Status.{Status}
use Rattle.rcpsp_run.specs.declared.status.Status.TheVariants.{Done, BadText, Cycle, BadList, Words, Misfit, Violated, ReadFault, WriteFault, Memory, TooLarge}

abbrev pub code_of : Status → ℕ
code_of Done = 0
code_of BadText = 1
code_of Cycle = 1
code_of BadList = 1
code_of Words = 2
code_of Misfit = 3
code_of Violated = 4
code_of ReadFault = 5
code_of WriteFault = 6
code_of Memory = 7
code_of TooLarge = 8
