use Rattle.std.proofs.Common.{◌≡◌, ◌-◌, ◌∙◌, map, arith, append_assoc}
use Rattle.std.proofs.lemmas.List.{flat_map_more}
use Rattle.std.specs.String.{string_bytes}
use Rattle.rc_instance.specs.Lists.{numbers}
use Rattle.rc_instance.specs.Project.{activity_count}
use Rattle.rc_edge.specs.Written.{HasSmallDemandsAt}
use Rattle.rc_edge.proofs.NumberedLaws.{map-numbers_more, holds_more}
use Rattle.psplib_read.specs.Written.{ended, request, requests}
use Rattle.psplib_read.proofs.write.push_requests.Goals as goal

pub loop-job-preserved : goal.loop-job-preserved
loop-job-preserved c =
    let job = c.loop-job.job in
    let row = request c.args.instance.now in
    record {
      written = c.in_ok-push_request.ensures.value
          ∙ rw (c.loop-job.invariant.written, map-numbers_more row job (omega arith))
          (flat_map_more ended (string_bytes c.push_names.new.text) (map row (numbers (job - 1)))
          (row job));
      within = omega (arith, c.count-job-end.ensures.value);
      small = holds_more (HasSmallDemandsAt c.args.instance.now) job c.loop-job.invariant.small
          c.in_ok-push_request.ensures.small;
    }

pub returns-clause-value : goal.returns-clause-value
unfolding requests
returns-clause-value c =
    let all : c.loop-job.job - 1 ≡ activity_count c.args.instance.now
    = omega (arith, c.count-job-end.ensures.value, c.loop-job.invariant.within) in
    rw (
      c.loop-job.invariant.written,
      all,
      c.in_ok-push_names.ensures,
      c.in_ok-push_str.ensures.bytes,
      c.in_ok-push_line-2.ensures,
      c.in_ok-push_line.ensures,
    )
    (simp append_assoc)
