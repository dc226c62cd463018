use Rattle.std.proofs.Common.{append_assoc}
use Rattle.psplib_read.specs.Written.{availabilities}
use Rattle.psplib_read.proofs.write.push_availabilities.Goals as goal

pub returns : goal.returns
unfolding availabilities
returns c =
    rw (
      c.in_ok-push_line-3.ensures,
      c.in_ok-push_capacities.ensures,
      c.in_ok-push_names.ensures,
      c.in_ok-push_line-2.ensures,
      c.in_ok-push_line.ensures,
    )
    (simp append_assoc)
