use Rattle.std.proofs.Common.{◌≡◌, vec_len}
use Rattle.rc_instance.proofs.tests.idle.Given as goal

abbrev pub invariant-loop : goal.invariant-loop
invariant-loop l = vec_len l.successors ≡ l.counter
