-- Tables of values.
use Rattle.std.proofs.Common.{◌≡◌, ◌≢◌, ℕ, ◌+◌, ◌<◌, List, length, set, slice_index, sym, refl, ◌∙◌, subst, inl, inr, arith}
use Rattle.std.proofs.lemmas.Bool.{cases_eq}
use Rattle.std.proofs.lemmas.List.{ext_get_or, get_or-set_same, get_or-set_other}
use Rattle.std.proofs.lemmas.List.FromFn.{length-map-range_with_len, get_or-map-range_with_len}
use Rattle.rc_instance.specs.Project.{Project}
use Rattle.key_sampling.specs.declared.values.TheConstants.{NO_VALUE}
use Rattle.key_sampling.specs.Samples.{sample_makespan, sample_values}
use Rattle.key_sampling.specs.Values.{ShowsValues}

-- one value more is written
pub written_more : (f : ℕ → ℕ) (values : List ℕ) (place value : ℕ) → place < length values
    → value ≡ f place → ((k : ℕ) → k < place → slice_index values k ≡ f k)
    → (k : ℕ) → k < place + 1 → slice_index (set values place value) k ≡ f k
written_more f values place value within is before k below =
    elim (cases_eq k place) [
      | inl same ↦ subst (λ (i : ℕ). slice_index (set values place value) i ≡ f i) (sym same)
          (get_or-set_same values place value 0 within ∙ is)
      | inr differ ↦ get_or-set_other values place k value 0 differ ∙ before k (omega arith)
    ]

-- a table that shows values, and has one at each place, has the values of the range
pub values-of : (project : Project) (seed from count : ℕ) (values : List ℕ) → length values ≡ count
    → ShowsValues project seed from count values
    → ((k : ℕ) → k < length values → slice_index values k ≢ NO_VALUE)
    → values ≡ sample_values project seed from count
values-of project seed from count values long shows all =
    ext_get_or 0 values (sample_values project seed from count)
    (long ∙ sym (length-map-range_with_len _ from count))
    (λ k within. elim (shows k (omega arith)) [
      | inl none ↦ absurd (all k within none)
      | inr is ↦ is ∙ sym (get_or-map-range_with_len (sample_makespan project seed) from count k
          (from + k) 0 (omega arith) refl)
    ])
