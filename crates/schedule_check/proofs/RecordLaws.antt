-- The records of a text, one after another.
use Rattle.std.proofs.Common.{◌≡◌, ◌⊎◌, Bor, ℕ, zero, suc, ◌+◌, ◌<◌, ◌≤◌, Bool, true, false, Option, None, Some, IsSome, List, [], ◌∷◌, ◌++◌, length, cond, sym, refl, ap, ◌∙◌, subst, inl, inr, arith}
use Rattle.std.proofs.lemmas.Bool.{cond_both}
use Rattle.csv.specs.Machine.{Read, ends_at_end, is_end, next_record, step}
use Rattle.csv.specs.Reading.{default_config, NextIs, ReadRecord, ReadsNext, is_bom, pending_of, reader_state, records_from, records_next, strip_bom}
use Rattle.csv.specs.declared.parser.State.{State}
use Rattle.csv.specs.declared.reader.Reader.{Reader}
use Rattle.csv.specs.declared.parser.State.TheVariants as st
use Rattle.schedule_check.specs.Records.{IsReading, Takes, bytes_left, records_in, records_known, records_left}

-- fewer bytes are left after a record, or it was the last
abbrev Shortens : List ℕ → Read → Type 0
Shortens bytes read = (length read.2 < length bytes) ⊎ ((read.1 ≡ st.StartRecord) × (read.2 ≡ []))

some_is : (a b : Read) → Some a ≡ Some b → a ≡ b
some_is a b e = cc

-- a byte ends the record, or what follows it does
either_shortens : (byte : ℕ) (rest : List ℕ) (ends : Bool) (last read : Read) (more : Option Read)
    → cond ends (Some last) more ≡ Some read → Shortens (byte ∷ rest) last
    → (more ≡ Some read → Shortens rest read) → Shortens (byte ∷ rest) read
either_shortens byte rest true last read more e here later =
    subst (Shortens (byte ∷ rest)) (some_is last read e) here
either_shortens byte rest false last read more e here later = elim (later e) [
  | inl shorter ↦ inl (omega arith)
  | inr ended ↦ inr ended
]

-- a record takes a byte, or ends the text
next_shortens : (bytes : List ℕ) (state : State) (fields : List (List ℕ)) (field : List ℕ)
    (read : Read)
    → next_record default_config state fields field bytes ≡ Some read → Shortens bytes read
unfolding next_record
next_shortens [] state fields field read is = by (ends_at_end state) is
  where
    by : (ends : Bool) → cond ends (Some (fields ++ (field ∷ []), st.StartRecord, [])) None
        ≡ Some read → Shortens [] read
    by true e = subst (Shortens []) (some_is (fields ++ (field ∷ []), st.StartRecord, []) read e)
        (inr (refl, refl))
    by false e = absurd cc
next_shortens (byte ∷ rest) state fields field read is =
    either_shortens byte rest (is_end (step default_config state byte).1) _ read _ is
    (inl (omega arith)) (next_shortens rest _ _ _ read)

-- no record is left at the end
nothing_left : (n : ℕ) → records_from default_config n st.StartRecord [] ≡ []
unfolding records_from next_record
nothing_left zero = refl
nothing_left (suc n) = refl

-- a text has no more records than bytes and one, so a higher bound gives the same ones
records_enough : (n m : ℕ) (state : State) (bytes : List ℕ) → length bytes < n → length bytes < m
    → records_from default_config n state bytes ≡ records_from default_config m state bytes
unfolding records_from
records_enough zero m state bytes below within = absurd (omega arith)
records_enough (suc n) zero state bytes below within = absurd (omega arith)
records_enough (suc n) (suc m) state bytes below within =
    by (next_record default_config state [] [] bytes) refl (records_enough n m)
  where
    by : (next : Option Read) → next_record default_config state [] [] bytes ≡ next
        → ((state : State) (bytes : List ℕ) → length bytes < n → length bytes < m
        → records_from default_config n state bytes ≡ records_from default_config m state bytes)
        → records_next (records_from default_config n) next
        ≡ records_next (records_from default_config m) next
    by None is later = refl
    by (Some read) is later =
        ap (λ more. read.0 ∷ more) (elim (next_shortens bytes state [] [] read is) [
          | inl shorter ↦ later read.1 read.2 (omega arith) (omega arith)
          | inr last ↦ rw (last.0, last.1) (nothing_left n ∙ sym (nothing_left m))
        ])

-- where there is a next record, the records are it and those after it
pub records_in-next : (state : State) (bytes : List ℕ) (read : Read)
    → next_record default_config state [] [] bytes ≡ Some read
    → records_in state bytes ≡ read.0 ∷ records_in read.1 read.2
unfolding records_from
records_in-next state bytes read is =
    let long : length bytes + 1 ≡ suc (length bytes) = omega arith in
    let rest : records_from default_config (length bytes) read.1 read.2 ≡ records_in read.1 read.2 =
    elim (next_shortens bytes state [] [] read is) as
    (λ _. records_from default_config (length bytes) read.1 read.2 ≡ records_in read.1 read.2) [
      | inl shorter ↦
          records_enough (length bytes) (length read.2 + 1) read.1 read.2 shorter (omega arith)
      | inr last ↦ rw (last.0, last.1) (nothing_left (length bytes) ∙ sym (nothing_left 1))
    ] in
    rw (long, is) (ap (λ more. read.0 ∷ more) rest)

-- where there is none, there are no records
pub records_in-none : (state : State) (bytes : List ℕ)
    → next_record default_config state [] [] bytes ≡ None
    → records_in state bytes ≡ []
unfolding records_from
records_in-none state bytes none =
    let long : length bytes + 1 ≡ suc (length bytes) = omega arith in
    rw (long, none) refl

-- a bound on the number of records
pub length-records_from : (n : ℕ) (state : State) (bytes : List ℕ)
    → length (records_from default_config n state bytes) ≤ n
unfolding records_from
length-records_from zero state bytes = omega arith
length-records_from (suc n) state bytes =
    by (next_record default_config state [] [] bytes) (length-records_from n)
  where
    by : (next : Option Read)
        → ((state : State) (bytes : List ℕ) → length
        (records_from default_config n state bytes) ≤ n)
        → length (records_next (records_from default_config n) next) ≤ suc n
    by None fewer = omega arith
    by (Some read) fewer = omega (arith, fewer read.1 read.2)

-- a text is no longer without its byte order mark
strip_bom-le : (bytes : List ℕ) → length (strip_bom bytes) ≤ length bytes
unfolding strip_bom
strip_bom-le [] = omega arith
strip_bom-le (a ∷ []) = omega arith
strip_bom-le (a ∷ b ∷ []) = omega arith
strip_bom-le (a ∷ b ∷ c ∷ rest) =
    cond_both (is_bom a b c) rest (a ∷ b ∷ c ∷ rest) (λ xs. length xs ≤ length (a ∷ b ∷ c ∷ rest))
    (λ _. omega arith) (λ _. omega arith)

-- a text has at most as many records as bytes and one
pub length-records_known : (state : State) (known : Option (List ℕ)) (bytes : List ℕ) → known
    ≡ Some (strip_bom bytes)
    → length (records_known state known) ≤ length bytes + 1
length-records_known state known bytes is =
    subst (λ left. length (records_known state left) ≤ length bytes + 1) (sym is)
    (omega (
      arith,
      length-records_from (length (strip_bom bytes) + 1) state (strip_bom bytes),
      strip_bom-le bytes,
    ))

-- what a read of the next record leaves
pub Takes-next : (state after : State) (bytes left : List ℕ) (found : Bool) (fields : List (List ℕ))
    → NextIs (next_record default_config state [] [] bytes) found fields after left
    → Takes (records_in state bytes) fields (records_in after left) found
Takes-next state after bytes left found fields is =
    by (next_record default_config state [] [] bytes) refl found is
  where
    by : (next : Option Read) → next_record default_config state [] [] bytes ≡ next → (found : Bool)
        → NextIs next found fields after left
        → Takes (records_in state bytes) fields (records_in after left) found
    by None none false is = records_in-none state bytes none
    by None none true is = absurd cc
    by (Some read) some false is = absurd (let e = is.0 in cc)
    by (Some read) some true is =
        records_in-next state bytes read some ∙ rw (is.1, is.2, is.3) refl

pub Takes-known : (state after : State) (before left : Option (List ℕ)) (found : Bool)
    (fields : List (List ℕ))
    → IsSome before → ReadsNext default_config state before left found fields after
    → Takes (records_known state before) fields (records_known after left) found
Takes-known state after None left found fields known is = absurd (cc known)
Takes-known state after (Some bytes) None found fields known is = absurd is
Takes-known state after (Some bytes) (Some left) found fields known is =
    Takes-next state after bytes left found fields is

-- what a read of the next record of a reader leaves
pub Takes-read : (old new : Reader (Bor (List ℕ))) (found : Bool) (fields : List (List ℕ))
    → IsReading old
    → ReadRecord (λ bytes. Some bytes.now) old new found fields
    → Takes (records_left old) fields (records_left new) found
Takes-read old new found fields reading read =
    let rem = λ (bytes : Bor (List ℕ)). Some bytes.now in
    let left : pending_of (rem new.rdr) new ≡ bytes_left new = rw read.1 refl in
    Takes-known (reader_state old) (reader_state new) (bytes_left old)
    (bytes_left new) found fields reading.known
    (rw (reading.config, left) at read.0)
