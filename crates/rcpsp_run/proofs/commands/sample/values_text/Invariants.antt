use Rattle.std.proofs.Common.{◌≡◌, ◌+◌, ◌++◌, drop}
use Rattle.std.specs.String.{string_bytes}
use Rattle.rcpsp_run.specs.Steps.Samples.{value_records, values_text}
use Rattle.rcpsp_run.proofs.commands.sample.values_text.Given as goal

abbrev pub invariant-loop-place : goal.invariant-loop-place
invariant-loop-place l =
    string_bytes l.text ++ value_records (l.from + l.place) (drop l.place l.values)
    ≡ values_text l.from l.values
