-- What words give, one after another.
use Rattle.std.proofs.Common.{◌≡◌, ℕ, ◌+◌, ◌<◌, ◌++◌, true, List, [], ◌∷◌, length, map, drop, get_or, Option, None, Some, Result, Err, IsErrOf, cond, refl, sym, subst, ◌∙◌, ap, append_assoc, append-nil}
use Rattle.std.proofs.lemmas.List.{at_drop_more}
use Rattle.std.specs.List.{flat_map, list_any}
use Rattle.rcpsp_words.specs.declared.table.Kind.{Kind}
use Rattle.rcpsp_words.specs.declared.words.WordsFault.{WordsFault}
use Rattle.rcpsp_words.specs.declared.words.WordsFault.TheVariants.{Undefined, Memory}
use Rattle.rcpsp_words.specs.Reading.{Reads}
use Rattle.rcpsp_words.specs.Part.{Part, is_wrong, parts_after, part_of, awaited, end_part}
use Rattle.rcpsp_words.specs.Gathered.{Given, Adds, given_of, values_in, flags_in, positional_in}

-- what words give besides what some before them gave
abbrev pub given_after : Given → List Part → Option Given
given_after before parts = cond (list_any is_wrong parts) None (Some (record {
  values = before.values ++ flat_map values_in parts;
  flags = before.flags ++ flat_map flags_in parts;
  positional = before.positional ++ flat_map positional_in parts;
}))

-- where nothing was given before, they give what they give by themselves
pub given_after-nothing : (parts : List Part)
    → given_after (record { values = []; flags = []; positional = [] }) parts ≡ given_of parts
unfolding given_of
given_after-nothing parts = refl

-- a part that is not wrong is given before the others
pub given_after-adds : (old new : Given) (part : Part) (rest : List Part) → Adds old new part
    → given_after old (part ∷ rest) ≡ given_after new rest
given_after-adds old new part rest adds =
    let values : old.values ++ (values_in part ++ flat_map values_in rest)
    ≡ new.values ++ flat_map values_in rest =
    rw adds.values (sym (append_assoc old.values (values_in part) (flat_map values_in rest))) in
    let flags : old.flags ++ (flags_in part ++ flat_map flags_in rest)
    ≡ new.flags ++ flat_map flags_in rest =
    rw adds.flags (sym (append_assoc old.flags (flags_in part) (flat_map flags_in rest))) in
    let positional : old.positional ++ (positional_in part ++ flat_map positional_in rest)
    ≡ new.positional ++ flat_map positional_in rest =
    rw adds.positional
    (sym (append_assoc old.positional (positional_in part) (flat_map positional_in rest))) in
    rw (adds.fits, values, flags, positional) refl

-- a wrong part leaves nothing
pub given_after-wrong : (old : Given) (part : Part) (rest : List Part) → is_wrong part ≡ true
    → given_after old (part ∷ rest) ≡ None
given_after-wrong old part rest wrong = rw wrong refl

-- where no words are left, what was given stands
pub given_after-end : (given : Given) → given_after given [] ≡ Some given
given_after-end given =
    rw (append-nil given.values, append-nil given.flags, append-nil given.positional) refl

-- the first of the words that follow a word
pub parts_after-more : (command before word : List ℕ) (rest : List (List ℕ))
    → parts_after command before (word ∷ rest) ≡ part_of command before word ∷ parts_after command word rest
unfolding parts_after
parts_after-more command before word rest = refl

-- the end of the words
pub parts_after-end : (command before : List ℕ)
    → parts_after command before [] ≡ end_part (awaited command before)
unfolding parts_after
parts_after-end command before = refl

-- a word more, and what it gives
pub given_after-more : (old new : Given) (command before word : List ℕ)
    (rest : List (List ℕ)) → Adds old new (part_of command before word)
    → given_after old (parts_after command before (word ∷ rest)) ≡ given_after new
    (parts_after command word rest)
given_after-more old new command before word rest adds =
    ap (given_after old) (parts_after-more command before word rest)
    ∙ given_after-adds old new (part_of command before word) (parts_after command word rest) adds

-- a word that is wrong
pub given_after-faulty : (old : Given) (command before word : List ℕ) (rest : List (List ℕ))
    → is_wrong (part_of command before word) ≡ true
    → given_after old (parts_after command before (word ∷ rest)) ≡ None
given_after-faulty old command before word rest wrong =
    ap (given_after old) (parts_after-more command before word rest)
    ∙ given_after-wrong old (part_of command before word) (parts_after command word rest) wrong

-- after the last word an option lacks its value
pub given_after-lacking : (given : Given) (command before : List ℕ)
    (option : List ℕ × Kind) → awaited command before ≡ Some option → given_after given (parts_after command before []) ≡ None
given_after-lacking given command before option lacks =
    ap (given_after given) (parts_after-end command before ∙ ap end_part lacks)

-- after the last word nothing is lacking
pub given_after-whole : (given : Given) (command before : List ℕ)
    → awaited command before ≡ None → given_after given (parts_after command before []) ≡ Some given
given_after-whole given command before whole =
    ap (given_after given) (parts_after-end command before ∙ ap end_part whole) ∙ given_after-end given

-- the next of the words that are left
pub next_of : {X Y : Type 0} (f : X → Y) (xs : List X) (i : ℕ) (x : X) (y : Y) → i < length xs
    → x ≡ get_or xs i x → y ≡ f x
    → map f (drop i xs) ≡ y ∷ map f (drop (i + 1) xs)
next_of f xs i x y within is seen =
    at_drop_more (map f) xs i x within
    ∙ ap (λ z. z ∷ map f (drop (i + 1) xs)) (ap f (sym is) ∙ sym seen)

-- what was refused by a step is refused by the whole
pub Reads-refused : {X T Y : Type 0} (view : X → T) (said : Option T)
    (result : Result X WordsFault) (step : Result Y WordsFault) (fault : WordsFault)
    → result ≡ Err fault → step ≡ Err fault → (IsErrOf step Undefined → said ≡ None)
    → Reads view said result
Reads-refused view said result step fault is was undefined =
    subst (Reads view said) (sym is) (by_fault fault was)
  where
    by_fault : (fault : WordsFault) → step ≡ Err fault → Reads view said (Err fault)
    by_fault Undefined was = undefined (rw was refl)
    by_fault Memory was = tt
