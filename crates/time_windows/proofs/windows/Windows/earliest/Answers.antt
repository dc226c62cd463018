use Rattle.std.proofs.Common.{arith}
use Rattle.time_windows.proofs.ReadLaws.{count_kept, earliest_read}
use Rattle.time_windows.proofs.windows.Windows.earliest.Goals as goal

pub index-requires : goal.index-requires
index-requires c =
    omega (
      arith,
      c.self.inside.earliest.ok.0,
      (count_kept c.self.inside c.args.self.now c.self.view_is c.self.invariant).0,
    )

pub returns-clause-value : goal.returns-clause-value
returns-clause-value c =
    (earliest_read c.self.inside c.args.self.now c.args.activity _ c.self.view_is c.self.invariant
    c.requires c.index.ensures).value

pub returns-clause-longest : goal.returns-clause-longest
returns-clause-longest c =
    (earliest_read c.self.inside c.args.self.now c.args.activity _ c.self.view_is c.self.invariant
    c.requires c.index.ensures).longest

pub returns-clause-within : goal.returns-clause-within
returns-clause-within c =
    (earliest_read c.self.inside c.args.self.now c.args.activity _ c.self.view_is c.self.invariant
    c.requires c.index.ensures).within
