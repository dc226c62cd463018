use Rattle.std.proofs.Common.{◌≡◌, drop}
use Rattle.rc_edge.specs.Files.{file_of, pairs_of}
use Rattle.rc_edge.proofs.mem_files.find.Given as goal

abbrev pub invariant-loop-file : goal.invariant-loop-file
invariant-loop-file l =
    file_of (pairs_of (drop l.file-index l.files)) l.name ≡ file_of (pairs_of l.files) l.name
