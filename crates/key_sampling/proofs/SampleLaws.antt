-- Keys, lists and values of samples.
use Rattle.std.proofs.Common.{◌≡◌, ℕ, suc, ◌+◌, ◌-◌, ◌<◌, ◌≤◌, max, List, [], ◌∷◌, ◌++◌, length, take, set, slice_index, sym, refl, ap, ◌∙◌, subst₂, append_assoc, arith}
use Rattle.std.proofs.Math.Seq.{take-suc-set}
use Rattle.std.proofs.lemmas.List.{take_all, length-set}
use Rattle.rand_pcg.specs.Lcg.{Lcg}
use Rattle.rand_pcg.specs.Pcg.{pcg32}
use Rattle.rc_instance.specs.declared.limits.TheConstants.{MAX_HORIZON}
use Rattle.rc_instance.specs.Project.{Project, activity_count, duration}
use Rattle.rc_instance.specs.Calendar.{IsWithinLimits}
use Rattle.rc_instance.specs.Order.{IsFeasibleList}
use Rattle.rc_instance.specs.Usage.{last_finish}
use Rattle.rc_instance.specs.Serial.{serial_bookings, serial_start}
use Rattle.rc_instance.specs.Schedule.{makespan, serial_schedule}
use Rattle.serial_plain.proofs.HorizonLaws.{horizon-le}
use Rattle.rc_instance.proofs.UsageLaws.{last_finish_push}
use Rattle.rc_instance.proofs.SerialLaws.{serial_booking, serial_more}
use Rattle.rc_instance.proofs.FeasibleLaws.{makespan-serial_schedule, finish-serial_start-le-horizon}
use Rattle.priority_rules.specs.KeyList.{key_list, key_in}
use Rattle.priority_rules.proofs.KeyListLaws.{IsFeasibleList-key_list}
use Rattle.key_sampling.specs.Samples.{generator_of, first_words, sample_keys, sample_list, sample_makespan}

-- no word is the first words of which there is none
pub first_words-none : (g : Lcg) → first_words 0 g ≡ []
unfolding first_words
first_words-none g = refl

-- one word more is written, and one less is left
pub first_words-next : (keys : List ℕ) (i word : ℕ) (g after : Lcg) → i < length keys
    → (word, after) ≡ pcg32 g
    → take (i + 1) (set keys i word) ++ first_words (length (set keys i word) - (i + 1)) after
    ≡ take i keys ++ first_words (length keys - i) g
unfolding first_words
first_words-next keys i word g after within step =
    let next : i + 1 ≡ suc i = omega arith in
    let left : length keys - i ≡ suc (length keys - (i + 1)) = omega arith in
    let written : take (i + 1) (set keys i word) ≡ take i keys ++ word ∷ [] =
    rw next (take-suc-set keys i word within) in
    let first : word ≡ (pcg32 g).0 = ap (λ p. p.0) step in
    let then : after ≡ (pcg32 g).1 = ap (λ p. p.1) step in
    rw (written, length-set keys i word, left, first, then)
    (append_assoc (take i keys) ((pcg32 g).0 ∷ []) (first_words (length keys - (i + 1)) (pcg32 g).1))

-- the list of a sample is that of the keys that are drawn for it
pub sample_list-drawn : (project : Project) (seed sample n : ℕ) (keys : List ℕ)
    → keys ≡ first_words n (generator_of seed sample) → n ≡ activity_count project
    → key_list project (key_in keys) ≡ sample_list project seed sample
unfolding sample_list
sample_list-drawn project seed sample n keys drawn count = rw (drawn, count) refl

-- the activity at a place of a feasible list ends by the greatest horizon
pub finish-within : (project : Project) (order : List ℕ) (i : ℕ) → IsWithinLimits project
    → IsFeasibleList project order → i < length order
    → serial_start project order i + duration project (slice_index order i) ≤ MAX_HORIZON
finish-within project order i limits list within =
    omega (
      arith,
      finish-serial_start-le-horizon project order i list.activities list.once within,
      horizon-le project limits,
    )

-- the greatest finish of one place more
pub last_finish-next : (project : Project) (order : List ℕ) (i : ℕ) → i < length order
    → last_finish project (serial_bookings project (take (i + 1) order))
    ≡ max (last_finish project (serial_bookings project (take i order)))
    (serial_start project order i + duration project (slice_index order i))
last_finish-next project order i within =
    ap (last_finish project) (serial_more project order i within)
    ∙ last_finish_push project (serial_bookings project (take i order))
    (serial_booking project order i)

-- the value of a sample is the greatest finish of all places of its list
pub sample_makespan-is : (project : Project) (seed sample places : ℕ)
    → IsFeasibleList project (sample_list project seed sample) → activity_count project ≤ places
    → last_finish project (serial_bookings project (take places (sample_list project seed sample)))
    ≡ sample_makespan project seed sample
unfolding sample_makespan
sample_makespan-is project seed sample places list all =
    let order = sample_list project seed sample in
    let count = list.count in
    let whole : take places order ≡ order = take_all places order (omega arith) in
    rw whole (sym (makespan-serial_schedule project order list))

-- what all places of the list of a sample come to is its value
pub value-of : (project of : Project) (seed sample places makespan : ℕ) (order : List ℕ)
    → project ≡ of → order ≡ sample_list of seed sample → IsFeasibleList project order
    → length order ≤ places
    → makespan ≡ last_finish project (serial_bookings project (take places order))
    → makespan ≡ sample_makespan of seed sample
value-of project of seed sample places makespan order project_is order_is list all value =
    let feasible : IsFeasibleList of (sample_list of seed sample) =
    subst₂ IsFeasibleList project_is order_is list in
    let same : length order ≡ length (sample_list of seed sample) = ap length order_is in
    value
    ∙ (ap (λ (p : Project). last_finish p (serial_bookings p (take places order))) project_is
    ∙ (ap (λ (xs : List ℕ). last_finish of (serial_bookings of (take places xs))) order_is
    ∙ sample_makespan-is of seed sample places feasible (omega (arith, feasible.count))))

-- the list of each sample is feasible, where some list is
pub IsFeasibleList-sample_list : (project : Project) (seed sample : ℕ) (order : List ℕ)
    → IsFeasibleList project order → IsFeasibleList project (sample_list project seed sample)
unfolding sample_list
IsFeasibleList-sample_list project seed sample order list =
    IsFeasibleList-key_list project (key_in (sample_keys project seed sample)) order list

-- the makespan of the schedule of the list of a sample is its value
pub makespan-of : (project of : Project) (seed sample : ℕ) (order : List ℕ) → project ≡ of
    → order ≡ sample_list of seed sample
    → makespan project (serial_schedule project order) ≡ sample_makespan of seed sample
unfolding sample_makespan
makespan-of project of seed sample order project_is order_is =
    ap (λ (p : Project). makespan p (serial_schedule p order)) project_is
    ∙ ap (λ (xs : List ℕ). makespan of (serial_schedule of xs)) order_is
