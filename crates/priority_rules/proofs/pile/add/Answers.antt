use Rattle.std.proofs.Common.{arith}
use Rattle.priority_rules.proofs.PileLaws.{sought_more, pile_with}
use Rattle.priority_rules.proofs.pile.add.Goals as goal
use Rattle.priority_rules.proofs.pile.add.Goals.{then-loop-place-test+else-rank_of-rank, else-loop-place-test}

pub loop-place-preserved : goal.loop-place-preserved
loop-place-preserved c =
    let l = c.loop-place in
    let rank = c.rank_of-rank.ensures in
    let here = c.rank_of.ensures in
    let lower = c.if-rank_of-rank.true in
    sought_more c.args.keys.now c.args.pile.now l.pile c.args.count c.args.number l.place l.invariant
    (omega arith) (omega arith)

pub returns-clause-falling : goal.returns-clause-falling
returns-clause-falling c =
    let l = c.loop-place in
    let rank = c.rank_of-rank.ensures in
    pile_with c.args.keys.now c.args.pile.now l.pile c.args.count c.args.number l.place l.invariant
    c.requires.falling
    (λ some. elim c.loop-place-test.branch [
      | then-loop-place-test+else-rank_of-rank w ↦
          let here = w.rank_of.ensures in
          let upper = w.if-rank_of-rank.false in
          omega arith
      | else-loop-place-test w ↦
          let none = w.loop-place-test.false in
          Prim.absurd (omega arith)
    ])
