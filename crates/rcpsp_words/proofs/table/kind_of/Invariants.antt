use Rattle.std.proofs.Common.{◌≡◌, map, drop, find}
use Rattle.rcpsp_words.specs.Table.{options, entry_view, is_option}
use Rattle.rcpsp_words.proofs.table.kind_of.Given as goal

abbrev pub invariant-loop-entry : goal.invariant-loop-entry
invariant-loop-entry l =
    find (λ entry. is_option entry l.command l.name)
    (map entry_view (drop l.entry-index l.entry-items))
    ≡ find (λ entry. is_option entry l.command l.name) options
