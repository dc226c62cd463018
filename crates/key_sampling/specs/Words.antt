-- The words of the samples of a range.
use Rattle.std.specs.Prelude.{ℕ, ◌+◌, ◌*◌, ◌^◌, List, map}
use Rattle.std.specs.List.{range_with_len}
use Rattle.rc_instance.specs.Project.{Project}
use Rattle.key_sampling.specs.declared.terms.Terms.{Terms}
use Rattle.key_sampling.specs.Samples.{sample_makespan}

-- a makespan and a sample in one word: of two words the lesser has the lesser makespan, or the same
-- and the lesser sample
abbrev pub word_of : ℕ → ℕ → ℕ
word_of makespan sample = makespan * 2 ^ 32 + sample

-- the word of a sample
abbrev pub sample_word : Project → ℕ → ℕ → ℕ
sample_word project seed sample = word_of (sample_makespan project seed sample) sample

-- the words of the samples of a race, in order
unfoldable pub words_of : Terms → List ℕ
words_of terms = map (sample_word terms.net.now.project terms.seed) (range_with_len terms.from terms.count)
