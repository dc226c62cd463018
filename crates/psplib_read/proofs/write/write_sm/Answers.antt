use Rattle.std.proofs.Common.{append_assoc}
use Rattle.std.proofs.lemmas.Grind.{flat_map-append}
use Rattle.psplib_read.specs.Written.{sm_text}
use Rattle.psplib_read.proofs.WrittenText.{written_is_read}
use Rattle.psplib_read.proofs.write.write_sm.Goals as goal

pub returns-clause-text : goal.returns-clause-text
unfolding sm_text
returns-clause-text c =
    rw (
      c.into_bytes.ensures.value,
      c.in_ok-push_availabilities.ensures,
      c.in_ok-push_requests.ensures.value,
      c.in_ok-push_relations.ensures,
      c.in_ok-push_preamble.ensures,
      c.in_ok-text.ensures.bytes,
    )
    (simp (flat_map-append, append_assoc))

pub returns-clause-read_back : goal.returns-clause-read_back
returns-clause-read_back c =
    rw (returns-clause-text c)
    (written_is_read c.args.instance.now c.count.ensures.limits
    c.in_ok-push_requests.ensures.small)
