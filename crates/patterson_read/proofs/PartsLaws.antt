-- The parts that hold an accepted text: they pass no limit, and make the text's instance.
use Rattle.std.proofs.Common.{◌≡◌, ℕ, ◌*◌, List, length, map, None, Result, Ok, Err, ◌⊎◌, inl, inr, refl, ap, sym, ◌∙◌, All, arith}
use Rattle.std.specs.Prelude.{IfErr}
use Rattle.std.proofs.lemmas.List.{length-map}
use Rattle.std.proofs.lemmas.List.Elements.{All-map}
use Rattle.std.proofs.lemmas.List.Sums.{sum-map}
use Rattle.rc_instance.specs.Lists.{IsUpTo}
use Rattle.rc_instance.specs.Project.{Project}
use Rattle.rc_instance.specs.Parts.{made_of, first_fault_of}
use Rattle.rc_instance.specs.declared.parts.Parts.{Parts}
use Rattle.rc_edge.specs.declared.text_fault.TextFault.{TextFault}
use Rattle.rc_edge.specs.Grammar.{out_of_memory, GivesOrMemory}
use Rattle.rc_edge.proofs.PartsLaws.{no_fault, length-flat_map}
use Rattle.patterson_read.specs.Left.{whole}
use Rattle.patterson_read.specs.Rcp.{Activity, Text, text_due, project_of, read_instance}
use Rattle.patterson_read.specs.View.{Holds}
use Rattle.patterson_read.proofs.TextLaws.{IsText}

-- the parts that hold an accepted text pass no limit
pub parts_fit : (text : Text) (parts : Parts) → Holds text parts → IsText text
    → first_fault_of parts ≡ None
parts_fit text parts holds is =
    let n : length (map (λ a. a.duration) text.activities) ≡ length text.activities =
    length-map text.activities (λ (a : Activity). a.duration) in
    let durations = map (λ (a : Activity). a.duration) text.activities in
    let successors = map (λ (a : Activity). a.successors) text.activities in
    let within : All (All (IsUpTo (length text.activities))) successors =
    All-map (All (IsUpTo (length text.activities))) (λ (a : Activity). a.successors)
    text.activities is.successors in
    rw (holds.capacities, holds.durations, holds.successors)
    (no_fault text.capacities durations successors (omega (arith, n, is.some))
    (omega (arith, n, is.few)) is.resources is.capacities (rw n within) (rw sum-map is.short))

pub demands_fit : (text : Text) (parts : Parts) → Holds text parts → IsText text
    → length parts.demands.items ≡ length parts.durations.items * length parts.capacities.items
demands_fit text parts holds is =
    let durations = length-map text.activities (λ (a : Activity). a.duration) in
    rw (holds.capacities, holds.durations, holds.demands, durations)
    (length-flat_map (λ (a : Activity). a.demands) (length text.capacities) text.activities
    is.demands)

pub successors_fit : (text : Text) (parts : Parts) → Holds text parts
    → length parts.successors.items ≡ length parts.durations.items
successors_fit text parts holds =
    let lists = length-map parts.successors.items (λ list. list.items) in
    let named = length-map text.activities (λ (a : Activity). a.successors) in
    let durations = length-map text.activities (λ (a : Activity). a.duration) in
    sym lists ∙ ap length holds.successors ∙ named ∙ sym durations ∙ sym (ap length holds.durations)

-- the parts that hold a text make its instance
pub parts_made : (text : Text) (parts : Parts) → Holds text parts → made_of parts ≡ project_of text
parts_made text parts holds = rw (
  holds.capacities,
  holds.durations,
  holds.demands,
  holds.successors,
) refl

-- what a call gave of these parts is what the text says
pub instance_read : {X : Type 0} (view : X → Project) (bytes : List ℕ) (text : Text)
    (parts : Parts) (result : Result X TextFault) → text_due (whole bytes) ≡ Ok text
    → Holds text parts → GivesOrMemory view result (Ok (made_of parts))
    → GivesOrMemory view result (read_instance bytes)
unfolding read_instance
instance_read view bytes text parts (Ok x) read holds gives =
    rw read (ap Ok (sym (parts_made text parts holds)) ∙ gives)
instance_read view bytes text parts (Err fault) read holds (inl wrong) = absurd cc
instance_read view bytes text parts (Err fault) read holds (inr memory) = inr memory

-- and it is refused for want of memory alone
pub refused_for_memory : {X : Type 0} (view : X → Project) (parts : Parts)
    (result : Result X TextFault) → GivesOrMemory view result (Ok (made_of parts))
    → IfErr result (λ fault. fault ≡ out_of_memory)
refused_for_memory view parts (Ok x) gives = tt
refused_for_memory view parts (Err fault) (inl wrong) = absurd cc
refused_for_memory view parts (Err fault) (inr memory) = memory

pub text_refused : (bytes : List ℕ) (fault : TextFault)
    → (text_due (whole bytes) ≡ Err fault) ⊎ (fault ≡ out_of_memory)
    → (read_instance bytes ≡ Err fault) ⊎ (fault ≡ out_of_memory)
unfolding read_instance
text_refused bytes fault (inl read) = inl (rw read refl)
text_refused bytes fault (inr memory) = inr memory
