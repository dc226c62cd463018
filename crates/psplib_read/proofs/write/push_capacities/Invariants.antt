use Rattle.std.proofs.Common.{◌≡◌, ◌-◌, ◌++◌, take}
use Rattle.std.specs.List.{flat_map}
use Rattle.std.specs.String.{string_bytes}
use Rattle.psplib_read.specs.Written.{column}
use Rattle.psplib_read.proofs.write.push_capacities.Given as goal

abbrev pub invariant-loop-resource : goal.invariant-loop-resource
invariant-loop-resource l =
    string_bytes l.text
    ≡ string_bytes l.initial.text ++ flat_map (column 7)
    (take (l.resource - 1) l.instance.capacities)
