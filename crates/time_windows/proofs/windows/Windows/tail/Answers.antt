use Rattle.std.proofs.Common.{arith}
use Rattle.time_windows.proofs.ReadLaws.{count_kept, tail_read}
use Rattle.time_windows.proofs.windows.Windows.tail.Goals as goal

pub index-requires : goal.index-requires
index-requires c =
    omega (
      arith,
      c.self.inside.tails.ok.0,
      (count_kept c.self.inside c.args.self.now c.self.view_is c.self.invariant).1,
    )

pub returns-clause-value : goal.returns-clause-value
returns-clause-value c =
    (tail_read c.self.inside c.args.self.now c.args.activity _ c.self.view_is c.self.invariant
    c.requires c.index.ensures).value

pub returns-clause-longest : goal.returns-clause-longest
returns-clause-longest c =
    (tail_read c.self.inside c.args.self.now c.args.activity _ c.self.view_is c.self.invariant
    c.requires c.index.ensures).longest

pub returns-clause-within : goal.returns-clause-within
returns-clause-within c =
    (tail_read c.self.inside c.args.self.now c.args.activity _ c.self.view_is c.self.invariant
    c.requires c.index.ensures).within
