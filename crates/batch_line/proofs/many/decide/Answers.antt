use Rattle.std.proofs.Common.{All, rules, refl, sym, subst, map, string_bytes, arith}
use Rattle.rcpsp_words.specs.Many.{many_view}
use Rattle.batch_line.specs.Batch.{IsPlainName}
use Rattle.rcpsp_run.proofs.FetchCounts.{fetches-none}
use Rattle.batch_line.proofs.ManyLaws.{many_within}
use Rattle.batch_line.proofs.many.decide.Goals as goal

pub returns-in_err-many-clause-comes : goal.returns-in_err-many-clause-comes
returns-in_err-many-clause-comes g c = record {
  told = refl;
  failing = refl;
  stand = search rules;
  cause = search rules;
  most = fetches-none _ _ _ refl;
  all = search rules;
  gives = search rules;
}

pub overflow_cast-many : goal.overflow_cast-many
overflow_cast-many g c =
    let many = many_within (map string_bytes c.args.words.now) (many_view c.in_ok-many.many)
    c.in_ok-many.ensures in
    omega (arith, many.workers)

pub batch-requires-clause-names : goal.batch-requires-clause-names
batch-requires-clause-names g c κs within =
    let many = many_within (map string_bytes c.args.words.now) (many_view c.in_ok-many.many)
    c.in_ok-many.ensures in
    rw c.deref.ensures.value (many.some, many.few)

pub batch-requires-clause-plain : goal.batch-requires-clause-plain
batch-requires-clause-plain g c κs within =
    let many = many_within (map string_bytes c.args.words.now) (many_view c.in_ok-many.many)
    c.in_ok-many.ensures in
    subst (All IsPlainName) (sym c.deref.ensures.value) many.plain

pub batch-requires-clause-workers : goal.batch-requires-clause-workers
batch-requires-clause-workers g c κs within =
    let many = many_within (map string_bytes c.args.words.now) (many_view c.in_ok-many.many)
    c.in_ok-many.ensures in
    (many.worker, many.workers)
