use Rattle.std.proofs.Common.{◌≡◌, ◌∙◌, nat_lt, true, false, arith}
use Rattle.std.proofs.lemmas.Bool.Decides.{nat_tests}
use Rattle.schedule_check.proofs.EarlyLaws.{is_early-shown}
use Rattle.schedule_check.proofs.early_starts.is_early.Goals as goal

pub returns-then-from-finish_of : goal.returns-then-from-finish_of
returns-then-from-finish_of c =
    let shown = is_early-shown c.args.instance.now c.args.schedule.now c.args.activity
    c.args.predecessor c.from.result c.finish_of.result c.requires.count c.requires.activity
    c.requires.predecessor (c.from.ensures ∙ c.start.ensures) c.finish_of.ensures in
    let ends : nat_lt c.from.result c.finish_of.result ≡ true = grind (arith, nat_tests) in
    c.precedes.ensures ∙ rw ends at shown

pub returns-else-from-finish_of : goal.returns-else-from-finish_of
returns-else-from-finish_of c =
    let shown = is_early-shown c.args.instance.now c.args.schedule.now c.args.activity
    c.args.predecessor c.from.result c.finish_of.result c.requires.count c.requires.activity
    c.requires.predecessor (c.from.ensures ∙ c.start.ensures) c.finish_of.ensures in
    let ended : nat_lt c.from.result c.finish_of.result ≡ false = grind (arith, nat_tests) in
    rw ended (rw ended at shown)
