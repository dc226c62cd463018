-- One more name fetched, after those before it.
use Rattle.std.proofs.Common.{◌≡◌, ◌∙◌, sym, subst, arith, ℕ, zero, suc, ◌+◌, ◌<◌, ◌≤◌}
use Rattle.std.proofs.Common.{Option, Some, None, IfSome}
use Rattle.std.proofs.Common.{Result, Err, List, [], ◌∷◌, ◌++◌, length, take, get_or, IsSomeAnd}
use Rattle.std.proofs.Common.{Vec, Global, Bor}
use Rattle.std.specs.List.{All, slice_get}
use Rattle.std.proofs.lemmas.List.{take_more}
use Rattle.std.proofs.lemmas.List.Elements.{All-push}
use Rattle.std.proofs.lemmas.Option.{slice_get-get_or}
use Rattle.std.proofs.lemmas.Slice.Zip.{all_zipped_more}
use Rattle.rc_edge.specs.Faults.{Rose}
use Rattle.rc_edge.specs.Files.{file_of, Counts, SameCounts}
use Rattle.rc_edge.specs.Fetches.{AreFiles, AreWithin, IsWithin, IsBeyond, HasReason}
use Rattle.rc_edge.specs.declared.files.FetchFault.{FetchFault}
use Rattle.rc_edge.specs.declared.files.FetchFault.TheVariants.{Failed, TooLarge, Memory}

-- a fact about the name at a place is one about what is found there
pub IsSomeAnd-slice_get : {X : Type 0} (P : X → Type 0) (xs : List X) (i : ℕ) (d : X) →
    i < length xs → P (get_or xs i d) → IsSomeAnd (slice_get xs i) P
IsSomeAnd-slice_get {X} P xs i d inside holds =
    let Q : Option X → Type 0 = λ found. IsSomeAnd found P in
    subst Q (sym (slice_get-get_or xs i d inside)) holds

-- what holds of every name holds of the one at a place
pub IsSomeAnd-all : {X : Type 0} (P : X → Type 0) (xs : List X) (i : ℕ) →
    i < length xs → ((x : X) → P x) → IsSomeAnd (slice_get xs i) P
IsSomeAnd-all P [] i inside each = absurd (omega (arith, inside))
IsSomeAnd-all P (x ∷ xs) zero inside each = each x
IsSomeAnd-all P (x ∷ xs) (suc i) inside each = IsSomeAnd-all P xs i (omega (arith, inside)) each

-- what files may tell
abbrev pub Told : Type 0
Told = Option (List (List ℕ × List ℕ))

-- the text is the file of the name
abbrev pub IsFile : Bor (List ℕ) → Vec ℕ Global → List (List ℕ × List ℕ) → Type 0
IsFile name text pairs = file_of pairs name.now ≡ Some text.items

-- counts that stood before a fetch, and then what a refusal counts
pub Counts-reason : {T : Type 0} (name : List ℕ)
    (faults mid faults' long between long' : List ℕ → ℕ)
    (fault : FetchFault) (result : Result T FetchFault) → result ≡ Err fault →
    SameCounts faults mid → SameCounts long between →
    Counts name mid faults' between long' result →
    HasReason fault faults faults' long long' name
Counts-reason name faults mid faults' long between long' Failed result is same same_long counts =
    let P : ℕ → Type 0 = λ count. Rose count (faults' name) in
    subst P (same name) (counts.failed is)
Counts-reason name faults mid faults' long between long' TooLarge result is same same_long counts =
    let P : ℕ → Type 0 = λ count. Rose count (long' name) in
    subst P (same_long name) (counts.too_large is)
Counts-reason name faults mid faults' long between long' Memory result is same same_long counts =
    let stand = counts.memory is in
    ((λ n. stand.0 n ∙ same n), (λ n. stand.1 n ∙ same_long n))

-- one more text, which is the file of the next name
pub AreFiles-more : (told told' : Told) (names : List (Bor (List ℕ))) (place : ℕ)
    (d : Bor (List ℕ)) (texts texts' : List (Vec ℕ Global)) (text : Vec ℕ Global) →
    told' ≡ told → place < length names → texts' ≡ texts ++ text ∷ [] →
    IfSome told (λ pairs. AreFiles pairs (take place names) texts) →
    IfSome told' (IsFile (get_or names place d) text) →
    IfSome told (λ pairs. AreFiles pairs (take (place + 1) names) texts')
AreFiles-more None told' names place d texts texts' text same inside more before here = tt
AreFiles-more (Some pairs) told' names place d texts texts' text same inside more before here =
    let name = get_or names place d in
    let P : Told → Type 0 = λ told. IfSome told (IsFile name text) in
    let R = λ (name : Bor (List ℕ)) (text : Vec ℕ Global). IsFile name text pairs in
    let longer = all_zipped_more R (take place names) texts name text before (subst P same here) in
    rw (take_more names place d inside, more) longer

-- one more name that has a file within the limit
pub AreWithin-more : (told told' : Told) (names : List (Bor (List ℕ))) (limit place : ℕ)
    (d : Bor (List ℕ)) (text : Vec ℕ Global) →
    told' ≡ told → place < length names → length text.items ≤ limit →
    IfSome told (λ pairs. AreWithin pairs limit (take place names)) →
    IfSome told' (IsFile (get_or names place d) text) →
    IfSome told (λ pairs. AreWithin pairs limit (take (place + 1) names))
AreWithin-more None told' names limit place d text same inside short before here = tt
AreWithin-more (Some pairs) told' names limit place d text same inside short before here =
    let name = get_or names place d in
    let P : Told → Type 0 = λ told. IfSome told (IsFile name text) in
    let Q : Option (List ℕ) → Type 0 = λ file. IsSomeAnd file (λ bytes. length bytes ≤ limit) in
    let within : IsWithin pairs limit name.now = subst Q (sym (subst P same here)) short in
    let W = λ (name : Bor (List ℕ)). IsWithin pairs limit name.now in
    let S : List (Bor (List ℕ)) → Type 0 = λ front. All W front in
    let longer = All-push W (take place names) name before within in
    subst S (sym (take_more names place d inside)) longer

-- a name at a place that is beyond the limit, by the files told before
pub IsBeyond-at : (told told' : Told) (names : List (Bor (List ℕ))) (limit place : ℕ)
    (d : Bor (List ℕ)) (fault : FetchFault) →
    told' ≡ told → place < length names →
    IfSome told' (λ pairs. fault ≡ TooLarge → IsBeyond pairs limit (get_or names place d).now) →
    IfSome told (λ pairs. fault ≡ TooLarge →
    IsSomeAnd (slice_get names place) (λ name. IsBeyond pairs limit name.now))
IsBeyond-at None told' names limit place d fault same inside here = tt
IsBeyond-at (Some pairs) told' names limit place d fault same inside here =
    let B = λ (pairs : List (List ℕ × List ℕ)) (name : Bor (List ℕ)).
    IsBeyond pairs limit name.now in
    let P : Told → Type 0 =
    λ told. IfSome told (λ pairs. fault ≡ TooLarge → B pairs (get_or names place d)) in
    λ is. IsSomeAnd-slice_get (B pairs) names place d inside (subst P same here is)
