-- The words of the samples of a race.
use Rattle.std.proofs.Common.{◌≡◌, ℕ, ◌+◌, ◌-◌, ◌/◌, ◌%◌, ◌^◌, ◌<◌, ◌≤◌, ◌⊎◌, List, length, slice_index, sym, refl, ap, ◌∙◌, subst, subst₂, inl, inr, arith}
use Rattle.std.proofs.lemmas.Bool.{cases_lt}
use Rattle.std.proofs.lemmas.List.{get_or_default}
use Rattle.std.proofs.lemmas.List.FromFn.{length-map-range_with_len, get_or-map-range_with_len}
use Rattle.std.proofs.lemmas.List.Elements.{All-from_get_or}
use Rattle.rc_instance.specs.declared.limits.TheConstants.{MAX_HORIZON}
use Rattle.rc_instance.specs.Project.{Project}
use Rattle.rc_instance.specs.Calendar.{IsWithinLimits}
use Rattle.rc_instance.specs.Order.{IsFeasibleList}
use Rattle.rc_instance.proofs.FeasibleLaws.{makespan-serial_schedule-le-horizon}
use Rattle.race_rule.specs.declared.view.TheConstants.{NO_WORD}
use Rattle.race_rule.specs.Rule.{AreWords, IsLeastWord}
use Rattle.key_sampling.specs.declared.best.Best.{Best}
use Rattle.key_sampling.specs.declared.terms.Terms.{Terms}
use Rattle.key_sampling.specs.Samples.{sample_list, sample_makespan}
use Rattle.key_sampling.specs.Best.{IsRange, IsBest}
use Rattle.key_sampling.specs.Words.{word_of, sample_word, words_of}
use Rattle.serial_plain.proofs.HorizonLaws.{horizon-le}
use Rattle.key_sampling.proofs.SampleLaws.{IsFeasibleList-sample_list}

-- there is a word for each ticket below the count
pub length-words_of : (terms : Terms) → length (words_of terms) ≡ terms.count
unfolding words_of
length-words_of terms = length-map-range_with_len _ terms.from terms.count

-- it is that of its sample
pub word_at : (terms : Terms) (ticket : ℕ) → ticket < terms.count
    → slice_index (words_of terms) ticket
    ≡ sample_word terms.net.now.project terms.seed (terms.from + ticket)
unfolding words_of
word_at terms ticket within =
    get_or-map-range_with_len (sample_word terms.net.now.project terms.seed) terms.from terms.count
    ticket (terms.from + ticket) 0 within refl

-- the value of a sample is at most the greatest horizon
pub sample_makespan-within : (project : Project) (seed sample : ℕ) (order : List ℕ)
    → IsWithinLimits project → IsFeasibleList project order
    → sample_makespan project seed sample ≤ MAX_HORIZON
unfolding sample_makespan
sample_makespan-within project seed sample order limits list =
    omega (
      arith,
      makespan-serial_schedule-le-horizon project (sample_list project seed sample)
          (IsFeasibleList-sample_list project seed sample order list),
      horizon-le project limits,
    )

-- a word of numbers within the limits is not that of none
word-below : (makespan sample : ℕ) → makespan ≤ MAX_HORIZON → sample < 2 ^ 32
    → word_of makespan sample < NO_WORD
word-below makespan sample low small = omega arith

-- the words of a range are the words of a race
pub are_words : (terms : Terms) (order : List ℕ) → IsWithinLimits terms.net.now.project
    → IsFeasibleList terms.net.now.project order → IsRange terms.from terms.count
    → AreWords (words_of terms)
are_words terms order limits list range =
    let count = length-words_of terms in
    let some = range.some in
    let few = range.few in
    let within = range.within in
    let project = terms.net.now.project in record {
      some = omega arith;
      few = omega arith;
      below = All-from_get_or (λ word. word < NO_WORD) (words_of terms) 0
          (λ ticket inside.
          let is = word_at terms ticket (omega arith) in
          let low = word-below (sample_makespan project terms.seed (terms.from + ticket))
          (terms.from + ticket)
          (sample_makespan-within project terms.seed (terms.from + ticket) order limits list)
          (omega arith) in
          subst (λ word. word < NO_WORD) (sym is) low);
    }

-- a word gives its makespan and its sample back
word-parts : (makespan sample word : ℕ) → word ≡ word_of makespan sample → sample < 2 ^ 32
    → (word / 2 ^ 32 ≡ makespan) × (word % 2 ^ 32 ≡ sample)
word-parts makespan sample word is small = (omega arith, omega arith)

-- of two words the lesser has the lesser pair
word-order : (m s n t : ℕ) → word_of m s ≤ word_of n t → s < 2 ^ 32 → t < 2 ^ 32
    → (m < n) ⊎ ((m ≡ n) × (s ≤ t))
word-order m s n t low small other =
    elim (cases_lt m n) [
      | inl less ↦ inl less
      | inr more ↦ inr (omega arith, omega arith)
    ]

-- the least word is that of the best sample
pub best-of-words : (terms : Terms) (word : ℕ) (best : Best) → terms.from + terms.count ≤ 2 ^ 32
    → IsLeastWord (words_of terms) word → best.makespan ≡ word / 2 ^ 32
    → best.sample ≡ word % 2 ^ 32
    → IsBest terms.net.now.project terms.seed terms.from terms.count best
best-of-words terms word best room least makespan sample =
    let value = sample_makespan terms.net.now.project terms.seed in
    let count = length-words_of terms in
    let ticket = least.is.0 in
    let inside = least.is.1 in
    let within : ticket < terms.count = omega arith in
    let s = terms.from + ticket in
    let is : word ≡ word_of (value s) s =
    sym least.is.2 ∙ (get_or_default (words_of terms) ticket word 0 inside
    ∙ word_at terms ticket within) in
    let parts = word-parts (value s) s word is (omega arith) in
    let value_is : best.makespan ≡ value s = makespan ∙ parts.0 in
    let sample_is : best.sample ≡ s = sample ∙ parts.1 in
    record {
      within = (omega arith, omega arith);
      value = value_is ∙ ap value (sym sample_is);
      least = λ t from below.
          let k = t - terms.from in
          let at : terms.from + k ≡ t = omega arith in
          let there = word_at terms k (omega arith) in
          let other : slice_index (words_of terms) k ≡ word_of (value t) t =
          there ∙ ap (λ (x : ℕ). word_of (value x) x) at in
          let low : word ≤ slice_index (words_of terms) k =
          least.least k 0 (omega arith) in
          subst₂ (λ (x y : ℕ). (x < value t) ⊎ ((x ≡ value t) × (y ≤ t))) (sym value_is)
          (sym sample_is)
          (word-order (value s) s (value t) t (omega arith) (omega arith) (omega arith));
    }
