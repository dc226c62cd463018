use Rattle.std.proofs.Common.{◌≡◌, Ok, ap, sym}
use Rattle.rc_instance.specs.declared.parts.InstanceFault.TheVariants.{Memory}
use Rattle.rc_edge.proofs.PartsLaws.{only_memory}
use Rattle.rc_edge.proofs.instance.built.Goals as goal
use Rattle.rc_edge.proofs.instance.built.Goals.{in-Memory, in_default}

pub prove-unreachable-requires : goal.prove-unreachable-requires
prove-unreachable-requires c =
    let memory : c.in-Err.fault ≡ Memory =
    only_memory _ c.in-Err.fault c.requires.fits c.in-Err.ensures.refused in
    elim c.match-matches.branch [
      | in-Memory w ↦ cc (w.matches-is, c.if-prove.true)
      | in_default w ↦ w.in_default.not-Memory memory
    ]

pub returns-in-Ok : goal.returns-in-Ok
returns-in-Ok c = ap Ok (sym c.in-Ok.ensures.made)
