use Rattle.std.proofs.Common.{◌≡◌, ℕ, ◌-◌, ◌<◌, ◌≤◌, ◌++◌, List, [], length, take, ap, ◌∙◌, sym, append-nil, arith}
use Rattle.std.proofs.lemmas.List.{take_all}
use Rattle.key_sampling.specs.Samples.{first_words}
use Rattle.key_sampling.proofs.SampleLaws.{first_words-none, first_words-next}
use Rattle.key_sampling.proofs.keys.draw_keys.Goals as goal

pub loop-key-preserved : goal.loop-key-preserved
loop-key-preserved c =
    let within : c.loop-key.key-index < length c.loop-key.keys = omega arith in
    first_words-next c.loop-key.keys c.loop-key.key-index c.next_word.result c.loop-key.generator
    c.next_word.new.self within c.next_word.ensures ∙ c.loop-key.invariant

-- once all words are written, none is left
all_written : (keys : List ℕ) (i : ℕ) (left words : List ℕ) → length keys ≤ i → left ≡ []
    → take i keys ++ left ≡ words → keys ≡ words
all_written keys i left words long none same =
    sym (append-nil keys) ∙ (sym (ap (λ (xs : List ℕ). xs ++ []) (take_all i keys long))
    ∙ (ap (λ (xs : List ℕ). take i keys ++ xs) (sym none) ∙ same))

pub returns : goal.returns
returns c =
    let i = c.loop-key.key-index in
    let keys = c.loop-key.keys in
    let g = c.loop-key.generator in
    let long : length keys ≤ i = omega arith in
    let none : length keys - i ≡ 0 = omega arith in
    let left : first_words (length keys - i) g ≡ [] =
    ap (λ (n : ℕ). first_words n g) none ∙ first_words-none g in
    all_written keys i (first_words (length keys - i) g) _ long left c.loop-key.invariant
