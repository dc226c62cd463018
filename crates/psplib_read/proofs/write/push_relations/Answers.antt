use Rattle.std.proofs.Common.{◌≡◌, ◌-◌, ◌∙◌, map, arith, append_assoc}
use Rattle.std.proofs.lemmas.List.{flat_map_more}
use Rattle.std.specs.String.{string_bytes}
use Rattle.rc_instance.specs.Lists.{numbers}
use Rattle.rc_instance.specs.Project.{activity_count}
use Rattle.rc_edge.proofs.NumberedLaws.{map-numbers_more}
use Rattle.psplib_read.specs.Written.{ended, relation, relations}
use Rattle.psplib_read.proofs.write.push_relations.Goals as goal

pub loop-job-preserved : goal.loop-job-preserved
loop-job-preserved c =
    let job = c.loop-job.job in
    let row = relation c.args.instance.now in
    record {
      written = c.in_ok-push_relation.ensures
          ∙ rw (c.loop-job.invariant.written, map-numbers_more row job (omega arith))
          (flat_map_more ended (string_bytes c.push_line-3.new.text) (map row (numbers (job - 1)))
          (row job));
      within = omega (arith, c.count-job-end.ensures.value);
    }

pub returns : goal.returns
unfolding relations
returns c =
    let all : c.loop-job.job - 1 ≡ activity_count c.args.instance.now
    = omega (arith, c.count-job-end.ensures.value, c.loop-job.invariant.within) in
    rw (
      c.loop-job.invariant.written,
      all,
      c.in_ok-push_line-3.ensures,
      c.in_ok-push_line-2.ensures,
      c.in_ok-push_line.ensures,
    )
    (simp append_assoc)
