use Rattle.std.proofs.Common.{◌≡◌, ◌++◌, drop}
use Rattle.batch_line.specs.Batch.{or_else}
use Rattle.batch_line.specs.Runs.{ran_status, ran_text}
use Rattle.batch_line.proofs.joined.joined_of.Given as goal

abbrev pub invariant-loop-place : goal.invariant-loop-place
invariant-loop-place l = record {
  status : or_else l.status (ran_status (drop l.place l.rans)) ≡ ran_status l.rans;
  text : l.text.items ++ ran_text (drop l.place l.names) (drop l.place l.rans)
      ≡ ran_text l.names l.rans;
}
