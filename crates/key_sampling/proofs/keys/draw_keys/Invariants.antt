use Rattle.std.proofs.Common.{◌≡◌, ◌-◌, ◌++◌, length, take}
use Rattle.key_sampling.specs.Samples.{first_words, generator_of}
use Rattle.key_sampling.proofs.keys.draw_keys.Given as goal

abbrev pub invariant-loop-key : goal.invariant-loop-key
invariant-loop-key l =
    take l.key-index l.keys ++ first_words (length l.keys - l.key-index) l.generator
    ≡ first_words (length l.fn.keys) (generator_of l.seed l.sample)
