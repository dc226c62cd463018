-- The cause of a refusal, and what several files hold, by what a fetch of all of them tells.
use Rattle.std.proofs.Common.{◌≡◌, ℕ, zero, suc, ◌<◌, ◌≤◌, List, [], ◌∷◌, length, take, map, get_or, Option, None, Some, IfSome, Ok, Err, All, IsSomeAnd, slice_get, nat_lt, cond, true, false, refl, sym, subst, ap, ◌∙◌, inl, inr, arith, Vec, Global, Bor}
use Rattle.std.proofs.lemmas.Bool.Decides.{nat_tests}
use Rattle.std.specs.Option.{option_map}
use Rattle.std.proofs.lemmas.Option.{slice_get-map}
use Rattle.std.proofs.lemmas.List.{take-map}
use Rattle.std.proofs.lemmas.List.Elements.{All-head, All-tail, All-map}
use Rattle.rc_instance.specs.declared.limits.TheConstants.{MAX_FILE_BYTES}
use Rattle.rc_edge.specs.Files.{file_of}
use Rattle.rc_edge.specs.Fetches.{IsWithin, IsBeyond, AreFiles, AreWithin, HasReason}
use Rattle.rc_edge.specs.declared.files.FetchFault.{FetchFault}
use Rattle.rc_edge.specs.declared.files.FetchFault.TheVariants as fetching
use Rattle.rcpsp_run.specs.declared.refusal.Refusal.{Refusal}
use Rattle.rcpsp_run.specs.declared.refusal.Refusal.TheVariants.{TooLarge}
use Rattle.rc_instance.specs.Results.{◌>>=◌}
use Rattle.rcpsp_run.specs.Outcome.{contents, within_limit}
use Rattle.rcpsp_run.proofs.RunLaws.{IfSome-implied}
use Rattle.rcpsp_run.specs.Causes.{FilesAt, HasCause, IsRefusedAt, IsOfFetch, IsRefusalOf, Explains, refusal_for}

-- the names of files, of which a caller holds references
abbrev pub names_now : List (Bor (List ℕ)) → List (List ℕ)
names_now names = map (λ name. name.now) names

-- an element of which something is known stands at its place
pub found_there : {X : Type 0} (P : X → Type 0) (xs : List X) (place : ℕ) (d : X)
    → IsSomeAnd (slice_get xs place) P
    → (slice_get xs place ≡ Some (get_or xs place d)) × P (get_or xs place d)
found_there P [] place d found = absurd found
found_there P (x ∷ xs) zero d found = (refl, found)
found_there P (x ∷ xs) (suc place) d found = found_there P xs place d found

-- a file within the limit is given
within_limit-file : (name bytes : List ℕ) → length bytes ≤ MAX_FILE_BYTES
    → within_limit name (Some bytes) ≡ Ok bytes
within_limit-file name bytes small =
    elim (nat_lt MAX_FILE_BYTES (length bytes)) as (λ b. nat_lt MAX_FILE_BYTES (length bytes) ≡ b
    → cond b (Err (TooLarge name)) (Ok bytes) ≡ Ok bytes) [
      | true ↦ λ is. absurd (grind (arith, nat_tests))
      | false ↦ λ is. refl
    ] refl

-- a longer one is too large
within_limit-large : (name bytes : List ℕ) → MAX_FILE_BYTES < length bytes
    → within_limit name (Some bytes) ≡ Err (TooLarge name)
within_limit-large name bytes large =
    elim (nat_lt MAX_FILE_BYTES (length bytes)) as (λ b. nat_lt MAX_FILE_BYTES (length bytes) ≡ b
    → cond b (Err (TooLarge name)) (Ok bytes) ≡ Err (TooLarge name)) [
      | true ↦ λ is. refl
      | false ↦ λ is. absurd (grind (arith, nat_tests))
    ] refl

-- files that are there within the limit are the contents
pub contents-files : (pairs : List (List ℕ × List ℕ)) (names : List (Bor (List ℕ)))
    (texts : List (Vec ℕ Global)) → AreFiles pairs names texts
    → All (λ text. length text.items ≤ MAX_FILE_BYTES) texts
    → contents pairs (names_now names) ≡ Ok (map (λ text. text.items) texts)
unfolding contents
contents-files pairs [] [] are small = refl
contents-files pairs [] (text ∷ texts) are small = absurd are
contents-files pairs (name ∷ names) [] are small = absurd are
contents-files pairs (name ∷ names) (text ∷ texts) are small =
    let first = ap (within_limit name.now) are.0
    ∙ within_limit-file name.now text.items (All-head (λ (t : Vec ℕ Global). length t.items ≤ MAX_FILE_BYTES) text texts small) in
    let others = contents-files pairs names texts are.1 (All-tail (λ (t : Vec ℕ Global). length t.items ≤ MAX_FILE_BYTES) text texts small) in
    rw (first, others) refl

-- the first file that is too large is the refusal
pub contents-large : (pairs : List (List ℕ × List ℕ)) (names : List (Bor (List ℕ))) (place : ℕ)
    (name : Bor (List ℕ)) → slice_get names place ≡ Some name
    → AreWithin pairs MAX_FILE_BYTES (take place names) → IsBeyond pairs MAX_FILE_BYTES name.now
    → contents pairs (names_now names) ≡ Err (TooLarge name.now)
unfolding contents
contents-large pairs [] place name is within beyond = absurd cc
contents-large pairs (first ∷ names) zero name is within beyond =
    by_file (file_of pairs first.now) refl
    (subst (λ (n : Bor (List ℕ)). IsBeyond pairs MAX_FILE_BYTES n.now) (sym same) beyond)
    ∙ ap (λ (n : Bor (List ℕ)). Err (TooLarge n.now)) same
  where
    same : first ≡ name
    same = subst (λ (o : Option (Bor (List ℕ))). IsSomeAnd o (λ n. n ≡ name)) (sym is) refl

    by_file : (file : Option (List ℕ)) → file_of pairs first.now ≡ file
        → IsSomeAnd file (λ bytes. MAX_FILE_BYTES < length bytes)
        → (within_limit first.now (file_of pairs first.now) >>= (λ text. contents pairs (names_now names) >>= (λ texts. Ok (text ∷ texts))))
        ≡ Err (TooLarge first.now)
    by_file None is beyond = absurd beyond
    by_file (Some bytes) is beyond = rw (is, within_limit-large first.now bytes beyond) refl
contents-large pairs (first ∷ names) (suc place) name is within beyond =
    by_file (file_of pairs first.now) refl (All-head (λ (n : Bor (List ℕ)). IsWithin pairs MAX_FILE_BYTES n.now) first (take place names) within)
    (contents-large pairs names place name is (All-tail (λ (n : Bor (List ℕ)). IsWithin pairs MAX_FILE_BYTES n.now) first (take place names) within) beyond)
  where
    by_file : (file : Option (List ℕ)) → file_of pairs first.now ≡ file
        → IsSomeAnd file (λ bytes. length bytes ≤ MAX_FILE_BYTES)
        → contents pairs (names_now names) ≡ Err (TooLarge name.now)
        → (within_limit first.now (file_of pairs first.now) >>= (λ text. contents pairs (names_now names) >>= (λ texts. Ok (text ∷ texts))))
        ≡ Err (TooLarge name.now)
    by_file None is within others = absurd within
    by_file (Some bytes) is within others = rw (is, within_limit-file first.now bytes within, others) refl

-- a name that is refused stands at a place of the names, behind files that are within the limit
refused_at : (told : Option (List (List ℕ × List ℕ))) (names : List (Bor (List ℕ))) (place : ℕ)
    (name : Bor (List ℕ)) (rose : Type 0) → slice_get names place ≡ Some name
    → IfSome told (λ pairs. AreWithin pairs MAX_FILE_BYTES (take place names))
    → rose → IsRefusedAt told (names_now names) rose name.now
refused_at told names place name rose is within shown = record {
  place = place;
  named = slice_get-map (λ (n : Bor (List ℕ)). n.now) names place ∙ ap (option_map (λ (n : Bor (List ℕ)). n.now)) is;
  shown = shown;
  before = by_told told within;
}
  where
    by_told : (told : Option (List (List ℕ × List ℕ)))
        → IfSome told (λ pairs. AreWithin pairs MAX_FILE_BYTES (take place names))
        → IfSome told (λ pairs. All (IsWithin pairs MAX_FILE_BYTES) (take place (names_now names)))
    by_told None within = tt
    by_told (Some pairs) within =
        subst (All (IsWithin pairs MAX_FILE_BYTES)) (sym (take-map (λ (n : Bor (List ℕ)). n.now) place names))
        (All-map (IsWithin pairs MAX_FILE_BYTES) (λ (n : Bor (List ℕ)). n.now) (take place names) within)

-- the refusal of a fetch of several files has its cause
pub has_cause : (names : List (Bor (List ℕ))) (place : ℕ) (name : Bor (List ℕ)) (before after : FilesAt)
    (fault : FetchFault) (refusal : Refusal) → slice_get names place ≡ Some name
    → HasReason fault before.faults after.faults before.long after.long name.now
    → IfSome before.told (λ pairs. AreWithin pairs MAX_FILE_BYTES (take place names))
    → IfSome before.told (λ pairs. fault ≡ fetching.TooLarge → IsBeyond pairs MAX_FILE_BYTES name.now)
    → IsRefusalOf name.now fault refusal
    → HasCause (names_now names) before after refusal
has_cause names place name before after fault refusal is reason within beyond (inr memory) =
    subst (HasCause (names_now names) before after) (sym memory) tt
has_cause names place name before after fault refusal is reason within beyond (inl same) =
    subst (HasCause (names_now names) before after) (sym same) (by_fault fault reason beyond)
  where
    by_fault : (fault : FetchFault)
        → HasReason fault before.faults after.faults before.long after.long name.now
        → IfSome before.told (λ pairs. fault ≡ fetching.TooLarge → IsBeyond pairs MAX_FILE_BYTES name.now)
        → HasCause (names_now names) before after (refusal_for name.now fault)
    by_fault fetching.Failed reason beyond = refused_at before.told names place name _ is within reason
    by_fault fetching.TooLarge reason beyond = record {
      refused = refused_at before.told names place name _ is within reason;
      beyond = IfSome-implied before.told _ _ (λ pairs large. large refl) beyond;
    }
    by_fault fetching.Memory reason beyond = tt

-- and it is the definition's
pub explains_refused : (pairs : List (List ℕ × List ℕ)) (names : List (Bor (List ℕ))) (place : ℕ)
    (name : Bor (List ℕ)) (fault : FetchFault) (refusal : Refusal)
    → slice_get names place ≡ Some name
    → AreWithin pairs MAX_FILE_BYTES (take place names)
    → (fault ≡ fetching.TooLarge → IsBeyond pairs MAX_FILE_BYTES name.now)
    → IsRefusalOf name.now fault refusal
    → Explains refusal (contents pairs (names_now names))
explains_refused pairs names place name fault refusal is within beyond (inr memory) =
    subst (λ r. Explains r (contents pairs (names_now names))) (sym memory) tt
explains_refused pairs names place name fault refusal is within beyond (inl same) =
    subst (λ r. Explains r (contents pairs (names_now names))) (sym same) (by_fault fault beyond)
  where
    by_fault : (fault : FetchFault) → (fault ≡ fetching.TooLarge → IsBeyond pairs MAX_FILE_BYTES name.now)
        → Explains (refusal_for name.now fault) (contents pairs (names_now names))
    by_fault fetching.Failed beyond = tt
    by_fault fetching.TooLarge beyond = contents-large pairs names place name is within (beyond refl)
    by_fault fetching.Memory beyond = tt

-- and it is one of a file, or want of memory
pub of_fetch : (name : List ℕ) (fault : FetchFault) (refusal : Refusal)
    → IsRefusalOf name fault refusal → IsOfFetch refusal
of_fetch name fault refusal (inr memory) = subst IsOfFetch (sym memory) tt
of_fetch name fault refusal (inl same) = subst IsOfFetch (sym same) (by_fault fault)
  where
    by_fault : (fault : FetchFault) → IsOfFetch (refusal_for name fault)
    by_fault fetching.Failed = tt
    by_fault fetching.TooLarge = tt
    by_fault fetching.Memory = tt
