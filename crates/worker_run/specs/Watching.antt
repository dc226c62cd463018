-- The pass of a watch.
use Rattle.std.specs.Prelude.{Option, None, Some}
use Rattle.book_table.specs.Passes.{PassToken}
use Rattle.worker_run.specs.declared.watch.Watch.{Watch}

abbrev pub pass_of : Option Watch → Option PassToken
pass_of None = None
pass_of (Some watch) = Some watch.pass
