use Rattle.std.proofs.Common.{arith}
use Rattle.time_windows.proofs.ReadLaws.{count_kept, latest_read}
use Rattle.time_windows.proofs.windows.Windows.latest.Goals as goal

pub index-requires : goal.index-requires
index-requires c =
    omega (
      arith,
      c.self.inside.tails.ok.0,
      (count_kept c.self.inside c.args.self.now c.self.view_is c.self.invariant).1,
    )

pub overflow_sub-result : goal.overflow_sub-result
overflow_sub-result c =
    (latest_read c.self.inside c.args.self.now c.args.activity _ c.self.view_is c.self.invariant
    c.requires c.index.ensures).inside

pub returns-clause-value : goal.returns-clause-value
returns-clause-value c =
    (latest_read c.self.inside c.args.self.now c.args.activity _ c.self.view_is c.self.invariant
    c.requires c.index.ensures).value

pub returns-clause-window : goal.returns-clause-window
returns-clause-window c =
    (latest_read c.self.inside c.args.self.now c.args.activity _ c.self.view_is c.self.invariant
    c.requires c.index.ensures).window

pub returns-clause-end : goal.returns-clause-end
returns-clause-end c =
    (latest_read c.self.inside c.args.self.now c.args.activity _ c.self.view_is c.self.invariant
    c.requires c.index.ensures).ends

pub returns-clause-within : goal.returns-clause-within
returns-clause-within c =
    (latest_read c.self.inside c.args.self.now c.args.activity _ c.self.view_is c.self.invariant
    c.requires c.index.ensures).within
