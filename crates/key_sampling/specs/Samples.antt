-- Samples of a project: serial schedules of lists by random keys (Hartmann and Kolisch 2000).
use Rattle.std.specs.Prelude.{ℕ, zero, suc, List, [], ◌∷◌, map}
use Rattle.std.specs.List.{range_with_len}
use Rattle.rand_pcg.specs.Lcg.{Lcg, started, increment_of}
use Rattle.rand_pcg.specs.Pcg.{multiplier_64, pcg32}
use Rattle.rc_instance.specs.Project.{Project, activity_count}
use Rattle.rc_instance.specs.Schedule.{makespan, serial_schedule}
use Rattle.priority_rules.specs.KeyList.{key_list, key_in}

-- the generator of a sample: its seed is the state, its number the stream
abbrev pub generator_of : ℕ → ℕ → Lcg
generator_of seed sample = started 64 multiplier_64 seed (increment_of 64 sample)

-- the first n words of a generator
unfoldable pub first_words : ℕ → Lcg → List ℕ
first_words zero generator = []
first_words (suc n) generator = (pcg32 generator).0 ∷ first_words n (pcg32 generator).1

-- the keys of a sample: a word for each activity, in order of number
abbrev pub sample_keys : Project → ℕ → ℕ → List ℕ
sample_keys project seed sample = first_words (activity_count project) (generator_of seed sample)

-- the list of a sample: again and again the activity of least key that may be listed
unfoldable pub sample_list : Project → ℕ → ℕ → List ℕ
sample_list project seed sample = key_list project (key_in (sample_keys project seed sample))

-- the value of a sample: the makespan of the serial schedule of its list
unfoldable pub sample_makespan : Project → ℕ → ℕ → ℕ
sample_makespan project seed sample =
    makespan project (serial_schedule project (sample_list project seed sample))

-- the values of a range of samples, in order
abbrev pub sample_values : Project → ℕ → ℕ → ℕ → List ℕ
sample_values project seed from count =
    map (sample_makespan project seed) (range_with_len from count)
