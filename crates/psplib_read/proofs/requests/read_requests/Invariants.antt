use Rattle.std.proofs.Common.{List}
use Rattle.psplib_read.specs.Sm.{Request}
use Rattle.psplib_read.proofs.RequestLaws.{HasRead}
use Rattle.psplib_read.proofs.requests.read_requests.Given as goal

abbrev pub invariant-loop-index : goal.invariant-loop-index
invariant-loop-index l = (found : List Request) × HasRead l.head l.fn.cursor l.cursor l.requests
    l.index l.sum found
