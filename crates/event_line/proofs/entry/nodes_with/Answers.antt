use Rattle.std.proofs.Common.{◌-◌, length, sym, ap, ◌∙◌, arith}
use Rattle.std.proofs.lemmas.Option.{get_or_from_slice_get, slice_get_within}
use Rattle.event_line.specs.declared.entry.Entry.{Entry}
use Rattle.event_line.proofs.JournalLaws.{nodes_with-last}
use Rattle.event_line.proofs.entry.nodes_with.Goals as goal

pub returns-in-Some : goal.returns-in-Some
returns-in-Some c =
    let entries = c.args.entries.now in
    let entry = c.in-Some.entry.now in
    let at = sym c.in-Some.ensures.value in
    let within = slice_get_within entries (length entries - 1) entry at in
    let read = get_or_from_slice_get entries (length entries - 1) entry entry at in
    let last = nodes_with-last c.args.before entries (length entries - 1) entry (omega arith) in
    sym (last ∙ ap (λ (e : Entry). e.nodes) read)
