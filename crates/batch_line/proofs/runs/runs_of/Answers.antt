use Rattle.batch_line.proofs.runs.runs_of.Goals as goal

pub returns-clause-runs : goal.returns-clause-runs
returns-clause-runs g c place ran at =
    let given = c.in_ok-rans.ensures.answers place ran at in
    given.2
