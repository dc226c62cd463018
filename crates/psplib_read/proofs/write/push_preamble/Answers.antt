use Rattle.std.proofs.Common.{◌≡◌, ◌-◌, arith}
use Rattle.std.specs.String.{string_bytes}
use Rattle.rc_instance.specs.Project.{duration_sum}
use Rattle.psplib_read.proofs.WrittenPreamble.{preamble_written}
use Rattle.psplib_read.proofs.write.push_preamble.Goals as goal

pub returns : goal.returns
returns c =
    let work : c.horizon.result - c.last_change.result ≡ duration_sum c.args.instance.now = omega
    (arith, c.horizon.ensures.value, c.last_change.ensures.value) in
    rw (
      c.in_ok-push_line-5.ensures,
      c.in_ok-push_line-4.ensures,
      c.in_ok-push_value-3.ensures,
      c.in_ok-push_line-3.ensures,
      c.in_ok-push_value-2.ensures,
      work,
      c.in_ok-push_value.ensures,
      c.in_ok-push_line-2.ensures,
      c.in_ok-push_line.ensures,
      c.count.ensures.value,
      c.resources.ensures.value,
    )
    (preamble_written c.args.instance.now (string_bytes c.args.text.now))
