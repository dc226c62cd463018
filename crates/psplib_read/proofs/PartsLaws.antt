-- The parts that hold an accepted text: they pass no limit, and make the text's instance.
use Rattle.std.proofs.Common.{◌≡◌, ℕ, ◌*◌, List, length, map, None, Result, Ok, Err, ◌⊎◌, inl, inr, refl, ap, sym, ◌∙◌, arith}
use Rattle.std.specs.Prelude.{IfErr}
use Rattle.std.proofs.lemmas.List.{length-map}
use Rattle.std.proofs.lemmas.List.Sums.{sum-map}
use Rattle.rc_instance.specs.Project.{Project}
use Rattle.rc_instance.specs.Parts.{made_of, first_fault_of}
use Rattle.rc_instance.specs.declared.parts.Parts.{Parts}
use Rattle.rc_edge.specs.declared.text_fault.TextFault.{TextFault}
use Rattle.rc_edge.specs.Grammar.{out_of_memory, GivesOrMemory}
use Rattle.rc_edge.proofs.PartsLaws.{no_fault, length-flat_map}
use Rattle.psplib_read.specs.Left.{whole}
use Rattle.psplib_read.specs.Sm.{Request, Text, text_due, project_of, read_instance}
use Rattle.psplib_read.specs.View.{HoldsText}
use Rattle.psplib_read.proofs.TextLaws.{IsText}

-- the parts that hold an accepted text pass no limit
pub parts_fit : (text : Text) (parts : Parts) → HoldsText text parts → IsText text
    → first_fault_of parts ≡ None
parts_fit text parts holds is =
    let n : length (map (λ r. r.duration) text.requests) ≡ length text.requests = length-map
    text.requests (λ (r : Request). r.duration) in
    rw (holds.capacities, holds.durations, holds.successors)
    (no_fault text.capacities (map (λ r. r.duration) text.requests) text.successors
    (omega (arith, n, is.some)) (omega (arith, n, is.few)) is.resources is.capacities
    (rw n is.successors) (rw sum-map is.short))

pub demands_fit : (text : Text) (parts : Parts) → HoldsText text parts → IsText text
    → length parts.demands.items ≡ length parts.durations.items * length parts.capacities.items
demands_fit text parts holds is =
    rw (
      holds.capacities,
      holds.durations,
      holds.demands,
      length-map text.requests
          (λ (r : Request). r.duration),
    ) (length-flat_map (λ (r : Request). r.demands)
    (length text.capacities) text.requests is.demands)

pub successors_fit : (text : Text) (parts : Parts) → HoldsText text parts → IsText text
    → length parts.successors.items ≡ length parts.durations.items
successors_fit text parts holds is =
    let lists = length-map parts.successors.items (λ list. list.items) in
    let durations = length-map text.requests (λ (r : Request). r.duration) in
    sym lists ∙ ap length holds.successors ∙ is.lists ∙ sym durations
    ∙ sym (ap length holds.durations)

-- the parts that hold a text make its instance
pub parts_made : (text : Text) (parts : Parts) → HoldsText text parts
    → made_of parts ≡ project_of text
parts_made text parts holds = rw (
  holds.capacities,
  holds.durations,
  holds.demands,
  holds.successors,
) refl

-- what a call gave of these parts is what the text says
pub instance_read : {X : Type 0} (view : X → Project) (bytes : List ℕ) (text : Text)
    (parts : Parts) (result : Result X TextFault) → text_due (whole bytes) ≡ Ok text
    → HoldsText text parts → GivesOrMemory view result (Ok (made_of parts))
    → GivesOrMemory view result (read_instance bytes)
unfolding read_instance
instance_read view bytes text parts (Ok x) read holds gives =
    rw read (ap Ok (sym (parts_made text parts holds)) ∙ gives)
instance_read view bytes text parts (Err fault) read holds (inl wrong) = absurd cc
instance_read view bytes text parts (Err fault) read holds (inr memory) = inr memory

-- and it is refused for want of memory alone
pub refused_for_memory : {X : Type 0} (view : X → Project) (parts : Parts)
    (result : Result X TextFault) → GivesOrMemory view result (Ok (made_of parts))
    → IfErr result (λ fault. fault ≡ out_of_memory)
refused_for_memory view parts (Ok x) gives = tt
refused_for_memory view parts (Err fault) (inl wrong) = absurd cc
refused_for_memory view parts (Err fault) (inr memory) = memory

pub text_refused : (bytes : List ℕ) (fault : TextFault)
    → (text_due (whole bytes) ≡ Err fault) ⊎ (fault ≡ out_of_memory)
    → (read_instance bytes ≡ Err fault) ⊎ (fault ≡ out_of_memory)
unfolding read_instance
text_refused bytes fault (inl read) = inl (rw read refl)
text_refused bytes fault (inr memory) = inr memory
