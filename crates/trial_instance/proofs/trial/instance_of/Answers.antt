use Rattle.std.proofs.Common.{◌≡◌, ℕ, ◌*◌, length, sym, ap, ◌∙◌, arith}
use Rattle.std.proofs.lemmas.List.{length-map}
use Rattle.std.proofs.lemmas.List.FromFn.{length-map-range_with_len}
use Rattle.rc_instance.specs.Parts.{first_fault, first_fault_of}
use Rattle.rc_edge.proofs.PartsLaws.{only_memory}
use Rattle.trial_instance.specs.Trial.{capacities_of, durations_of, successor_lists_of, project_of_words}
use Rattle.trial_instance.proofs.TrialLaws.{length-capacities, length-durations, length-demands, no-fault, made-same}
use Rattle.trial_instance.proofs.trial.instance_of.Goals as goal

pub build-requires-clause-successors : goal.build-requires-clause-successors
build-requires-clause-successors c =
    let parts = c.in_ok-parts.ensures in
    let n = c.args.activities in
    let words = c.args.words.now in
    let count = length-durations n c.args.resources words c.requires.activities.0 in
    sym (length-map c.in_ok-parts.parts.successors.items (λ list. list.items))
    ∙ (ap length parts.successors ∙ (length-map-range_with_len _ 1 n
    ∙ sym (ap length parts.durations ∙ count)))

pub build-requires-clause-demands : goal.build-requires-clause-demands
build-requires-clause-demands c =
    let parts = c.in_ok-parts.ensures in
    let n = c.args.activities in
    let resources = c.args.resources in
    let words = c.args.words.now in
    let some = c.requires.activities.0 in
    let long = ap length parts.durations ∙ length-durations n resources words some in
    let kinds = ap length parts.capacities
    ∙ length-capacities resources words (omega (arith, c.requires.words)) in
    ap length parts.demands ∙ (length-demands n resources words some
    ∙ sym (ap (λ (m : ℕ). m * length c.in_ok-parts.parts.capacities.items) long
    ∙ ap (λ (k : ℕ). n * k) kinds))

pub returns-in-Ok : goal.returns-in-Ok
unfolding project_of_words
returns-in-Ok c =
    let parts = c.in_ok-parts.ensures in
    c.in-Ok.ensures.made
    ∙ made-same _ _ _ _ _ _ _ _ parts.capacities parts.durations parts.demands parts.successors

pub want_of_memory-requires : goal.want_of_memory-requires
want_of_memory-requires c =
    let parts = c.in_ok-parts.ensures in
    let words = c.args.words.now in
    let none = no-fault c.args.activities c.args.resources words c.requires.activities.0
    c.requires.activities.1 c.requires.resources (omega (arith, c.requires.words)) in
    let same : first_fault_of c.in_ok-parts.parts
    ≡ first_fault (capacities_of c.args.resources words)
    (durations_of c.args.activities c.args.resources words)
    (successor_lists_of c.args.activities c.args.resources words) =
    λ i. first_fault (parts.capacities i) (parts.durations i) (parts.successors i) in
    only_memory (first_fault_of c.in_ok-parts.parts) c.in-Err.fault (same ∙ none)
    c.in-Err.ensures.refused
