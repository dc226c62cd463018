-- Answers in the places of their jobs.
use Rattle.std.proofs.Common.{◌≡◌, ◌≢◌, ℕ, zero, suc, ◌<◌, List, [], ◌∷◌, ◌++◌, length, map, Option, Some, None, All, slice_get, slice_index_or, slice_set, nat_eq, true, false, IfOk, Result, Ok, Err, sym, refl, ap, ◌∙◌, subst, arith, append_assoc, inl, inr}
use Rattle.std.proofs.lemmas.Bool.{cases_eq}
use Rattle.std.proofs.lemmas.Bool.Decides.{nat_tests}
use Rattle.std.proofs.lemmas.List.{append-nil, length-set, length-map, get_or-set_other}
use Rattle.std.proofs.lemmas.List.Elements.{All-head, All-tail, All-weaker, All-from_get_or}
use Rattle.std.proofs.lemmas.Grind.{get_or-set_at}
use Rattle.std.proofs.lemmas.Option.{slice_get_within, slice_get-map, get_or_from_slice_get}
use Rattle.std.specs.Option.{option_map}
use Rattle.std.specs.declared.vec.Vec.{Vec}
use Rattle.std.specs.declared.alloc.Global.{Global}
use Rattle.crossbeam_queue.specs.Passes.{Pass, view, IsPassOf}
use Rattle.crossbeam_queue.specs.declared.array_queue.Doing.{Doing}
use Rattle.crossbeam_queue.specs.declared.array_queue.Slotted.{Slotted}
use Rattle.work_queue.specs.declared.hand.Hand.{Hand}
use Rattle.work_queue.specs.Rule.{hand, weigh, weigh_below}
use Rattle.work_queue.specs.Work.{jobs_of, mark, IsGiven, HasWorked, IsSlot, AreSlots, placed, IsReturned}
use Rattle.work_queue.proofs.Weights.{weigh-append}

mark-same : (job : ℕ) → mark job job ≡ 1
mark-same job = let same : nat_eq job job ≡ true = grind (arith, nat_tests) in rw same refl

mark-other : (job other : ℕ) → other ≢ job → mark job other ≡ 0
mark-other job other apart =
    let no : nat_eq other job ≡ false = grind (arith, nat_tests) in rw no refl

-- a number below n counts among them
mark_counts : (job n : ℕ) → job < n → 0 < weigh_below (mark job) n
mark_counts job zero below = absurd (omega arith)
mark_counts job (suc n) below =
    elim (cases_eq n job) [
      | inl same ↦ let one : mark job n ≡ 1 = subst (λ (k : ℕ). mark job k ≡ 1) (sym same)
          (mark-same job) in omega arith
      | inr apart ↦ let less : job < n = omega arith in omega (arith, mark_counts job n less)
    ]

module _ {T : Type 0} where
  pub slots_empty : (gives : ℕ → T → Type 0) (slots : List (Option T))
      → All (λ slot. slot ≡ None) slots → AreSlots gives [] slots
  slots_empty gives slots none =
      λ job within. subst (IsSlot gives [] job) (sym (none job None within)) refl

  -- a place stays right when another job is taken
  slot_kept : (gives : ℕ → T → Type 0) (taken : List ℕ) (other job : ℕ) (slot : Option T)
      → other ≢ job → IsSlot gives taken job slot → IsSlot gives (taken ++ other ∷ []) job slot
  slot_kept gives taken other job (Some x) apart is = is
  slot_kept gives taken other job None apart is =
      omega (arith, weigh-append (mark job) taken (other ∷ []), mark-other job other apart)

  slot_put : (gives : ℕ → T → Type 0) (taken : List ℕ) (slots : List (Option T)) (other : ℕ) (x : T)
      → other < length slots → gives other x → AreSlots gives taken slots
      → AreSlots gives (taken ++ other ∷ []) (slice_set slots other (Some x))
  slot_put gives taken slots other x inside given are = λ job within.
      elim (cases_eq job other) [
        | inl same ↦ let here = get_or-set_at slots other job (Some x) None same inside in
            subst (IsSlot gives (taken ++ other ∷ []) job) (sym here)
            (subst (λ (k : ℕ). gives k x) (sym same) given)
        | inr apart ↦ let size = length-set slots other (Some x) in
            let there = get_or-set_other slots other job (Some x) None apart in
            let within' : job < length slots = omega arith in
            subst (IsSlot gives (taken ++ other ∷ []) job) (sym there)
            (slot_kept gives taken other job (slice_index_or slots job None)
            (λ same. apart (sym same)) (are job within'))
      ]

  -- all answers are put into their places
  pub slots_placed : (gives : ℕ → T → Type 0) (taken : List ℕ) (slots : List (Option T))
      (done : List (ℕ × T)) → All (λ one. (one.0 < length slots) × gives one.0 one.1) done
      → AreSlots gives taken slots → AreSlots gives (taken ++ jobs_of done) (placed slots done)
  slots_placed gives taken slots [] given are =
      subst (λ (l : List ℕ). AreSlots gives l slots) (sym (append-nil taken)) are
  slots_placed gives taken slots (one ∷ done) given are =
      let slots' = slice_set slots one.0 (Some one.1) in
      let first = All-head (λ (a : ℕ × T). (a.0 < length slots) × gives a.0 a.1) one done given in
      let rest = All-tail (λ (a : ℕ × T). (a.0 < length slots) × gives a.0 a.1) one done given in
      let size : length slots' ≡ length slots = length-set slots one.0 (Some one.1) in
      subst (λ (l : List ℕ). AreSlots gives l (placed slots' done))
      (append_assoc taken (one.0 ∷ []) (jobs_of done))
      (slots_placed gives (taken ++ one.0 ∷ []) slots' done
      (All-weaker (λ (a : ℕ × T). (a.0 < length slots) × gives a.0 a.1)
      (λ (a : ℕ × T). (a.0 < length slots') × gives a.0 a.1)
      (λ a h. (subst (λ (n : ℕ). a.0 < n) (sym size) h.0, h.1)) done rest)
      (slot_put gives taken slots one.0 one.1 first.0 first.1 are))

  pub length-placed : (slots : List (Option T)) (done : List (ℕ × T))
      → length (placed slots done) ≡ length slots
  length-placed slots [] = refl
  length-placed slots (one ∷ done) =
      length-placed (slice_set slots one.0 (Some one.1)) done
      ∙ length-set slots one.0 (Some one.1)

  -- where all jobs were taken, each place has an answer
  pub slots_full : (gives : ℕ → T → Type 0) (taken : List ℕ) (slots : List (Option T)) (count : ℕ)
      → ((h : ℕ → ℕ) → weigh_below h count ≡ weigh h taken) → length slots ≡ count
      → AreSlots gives taken slots → All (λ slot. slot ≢ None) slots
  slots_full gives taken slots count all size are =
      All-from_get_or (λ (slot : Option T). slot ≢ None) slots None (λ job within none.
      let slot : IsSlot gives taken job None =
      subst (IsSlot gives taken job) none (are job within) in
      let zero : weigh (mark job) taken ≡ 0 = slot in
      let sum = all (mark job) in
      let some = mark_counts job count (subst (λ (n : ℕ). job < n) size within) in
      omega arith)

  -- what stands in the places are the answers
  pub slots_give : (gives : ℕ → T → Type 0) (taken : List ℕ) (slots : List (Option T))
      (values : List T) → map Some values ≡ slots → AreSlots gives taken slots
      → (job : ℕ) (x : T) → slice_get values job ≡ Some x → gives job x
  slots_give gives taken slots values same are job x at =
      let inside = slice_get_within values job x at in
      let size : length slots ≡ length values =
      ap length (sym same) ∙ length-map values (λ (y : T). Some y) in
      let there : slice_get (map Some values) job ≡ Some (Some x) =
      slice_get-map Some values job ∙ ap (option_map Some) at in
      let here : slice_index_or slots job None ≡ Some x =
      ap (λ (l : List (Option T)). slice_index_or l job None) (sym same)
      ∙ get_or_from_slice_get (map Some values) job (Some x) None there in
      subst (IsSlot gives taken job) here (are job (subst (λ (n : ℕ). job < n) (sym size) inside))

  -- the answers of one worker are put into their places
  pub answers_placed : (workers pushed worker : ℕ) (gives : ℕ → ℕ → T → Type 0) (taken after : List ℕ)
      (slots : List (Option T)) (done : List (ℕ × T)) → worker < workers → pushed ≡ length slots
      → All (λ one. (one.0 < pushed) × gives worker one.0 one.1) done
      → after ≡ taken ++ jobs_of done → AreSlots (IsGiven workers gives) taken slots
      → AreSlots (IsGiven workers gives) after (placed slots done)
  answers_placed workers pushed worker gives taken after slots done below size answers is are =
      subst (λ (l : List ℕ). AreSlots (IsGiven workers gives) l (placed slots done)) (sym is)
      (slots_placed (IsGiven workers gives) taken slots done
      (All-weaker (λ (a : ℕ × T). (a.0 < pushed) × gives worker a.0 a.1)
      (λ (a : ℕ × T). (a.0 < length slots) × IsGiven workers gives a.0 a.1)
      (λ a h. (subst (λ (n : ℕ). a.0 < n) size h.0, (worker, below, h.1))) done answers) are)

  -- the jobs of the answers have places
  pub answers_inside : (pushed n : ℕ) (gives : ℕ → T → Type 0) (done : List (ℕ × T)) → pushed ≡ n
      → All (λ one. (one.0 < pushed) × gives one.0 one.1) done → All (λ one. one.0 < n) done
  answers_inside pushed n gives done size answers =
      All-weaker (λ (a : ℕ × T). (a.0 < pushed) × gives a.0 a.1) (λ (a : ℕ × T). a.0 < n)
      (λ a h. subst (λ (m : ℕ). a.0 < m) size h.0) done answers

  -- what a worker that was ready gives back
  pub given_back : {Q A E : Type 0} (queue : Slotted (Option ℕ) (Doing ℕ Hand) Q A)
      (workers count worker : ℕ) (before : Hand) (gives : ℕ → ℕ → T → Type 0)
      (result : Result (Pass ℕ Hand × Vec (ℕ × T) Global) E) → worker < workers
      → before ≡ hand 1 count [] → IfOk result (λ r. IsPassOf queue r.0)
      → IfOk result (λ r. HasWorked (gives worker) before (view r.0) r.1.items)
      → IfOk result (IsReturned queue workers count gives)
  given_back queue workers count worker before gives (Ok r) below ready own worked = (
    own,
    (
      worker,
      below,
      subst (λ (v : Hand). HasWorked (gives worker) v (view r.0) r.1.items) ready worked,
    ),
  )
  given_back queue workers count worker before gives (Err e) below ready own worked = tt
