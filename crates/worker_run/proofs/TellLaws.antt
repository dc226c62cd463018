-- Lines that are put one after the other, as far as no put fails.
use Rattle.std.proofs.Common.{◌≡◌, ◌∙◌, ap, sym, subst, refl, ℕ, zero, suc, ◌+◌, ◌-◌, ◌≤◌, ◌<◌, arith, Bool, true, false}
use Rattle.std.proofs.Common.{Option, Some, None, List, [], ◌∷◌, ◌++◌, length, take, get_or, append_assoc, length-append}
use Rattle.std.specs.List.{All, AllPairs}
use Rattle.std.proofs.lemmas.Bool.{false≢true}
use Rattle.std.proofs.lemmas.Grind.{flat_map-append}
use Rattle.std.proofs.lemmas.List.{append-nil, take-append-le}
use Rattle.std.proofs.lemmas.List.Elements.{All-nil, All-push, All-get_or, All-weaker}
use Rattle.std.proofs.lemmas.List.Quantifiers.{all_pairs_push}
use Rattle.std.proofs.Math.Seq.{take-append-add}
use Rattle.rc_edge.specs.Faults.{Rose}
use Rattle.rc_edge.specs.Sink.{Gains, GainsPrefix}
use Rattle.rc_edge.proofs.SinkLaws.{Gains-append}
use Rattle.worker_run.specs.Lines.{report_line, report_lines, AreCounts}
use Rattle.worker_run.specs.Told.{Takes, TellsLooks, TellsRun}

-- the lines of so many looks were put, of counts that never fall and are at most this one; no put
-- failed
pub record IsTelling (n done top before after : ℕ) (old new : Option (List ℕ)) : Type 0 where
  pub counts : List ℕ
  pub many : length counts ≡ done
  pub within : All (λ c. c ≤ top) counts
  pub rising : AllPairs (λ a b. a ≤ b) counts
  pub kept : after ≡ before
  pub gained : Gains old new (report_lines n counts)

-- nothing is gained where nothing was put
Gains-none : (held : Option (List ℕ)) → Gains held held []
Gains-none None = tt
Gains-none (Some bytes) = ap Some (sym (append-nil bytes))

-- a prefix of a text is one of a longer text
prefix-longer : (old new : Option (List ℕ)) (xs ys : List ℕ) → GainsPrefix old new xs
    → GainsPrefix old new (xs ++ ys)
prefix-longer old new xs ys (k, within, gained) = (
  k,
  omega (arith, length-append xs ys),
  rw (take-append-le k xs ys within) gained,
)

-- and a text with a prefix of the next one is a prefix of both
prefix-after : (old mid new : Option (List ℕ)) (xs ys : List ℕ) → Gains old mid xs
    → GainsPrefix mid new ys → GainsPrefix old new (xs ++ ys)
prefix-after old mid new xs ys first (k, within, gained) = (
  length xs + k,
  omega (arith, length-append xs ys),
  rw (take-append-add xs ys k) (Gains-append old mid new xs (take k ys) first gained),
)

-- the lines of counts with one more, and with more of them
lines-more : (n c : ℕ) (counts rest : List ℕ)
    → report_lines n (counts ++ c ∷ rest)
    ≡ report_lines n counts ++ (report_line n c ++ report_lines n rest)
lines-more n c counts rest = flat_map-append (report_line n) counts (c ∷ rest)

lines-one : (n c : ℕ) (counts : List ℕ)
    → report_lines n (counts ++ c ∷ []) ≡ report_lines n counts ++ report_line n c
lines-one n c counts =
    lines-more n c counts [] ∙ ap (λ xs. report_lines n counts ++ xs) (append-nil (report_line n c))

-- one count more, which is not below the others
rising-more : (top c : ℕ) (counts : List ℕ) → All (λ x. x ≤ top) counts → top ≤ c
    → AllPairs (λ a b. a ≤ b) counts → AllPairs (λ a b. a ≤ b) (counts ++ c ∷ [])
rising-more top c counts within high rising =
    all_pairs_push (λ a b. a ≤ b) counts c rising (λ k d inside.
    let low : get_or counts k d ≤ top = All-get_or (λ x. x ≤ top) counts k d inside within in
    omega arith)

within-more : (top c : ℕ) (counts : List ℕ) → All (λ x. x ≤ top) counts → top ≤ c
    → All (λ x. x ≤ c) (counts ++ c ∷ [])
within-more top c counts within high =
    All-push (λ x. x ≤ c) counts c
    (All-weaker (λ x. x ≤ top) (λ x. x ≤ c) (λ x low. omega arith) counts within) (omega arith)

-- counts can be followed by as many more as are due
counts-padded : (n more : ℕ) (counts : List ℕ) → All (λ x. x ≤ n) counts
    → AllPairs (λ a b. a ≤ b) counts
    → (rest : List ℕ) × AreCounts n (length counts + more) (counts ++ rest)
counts-padded n zero counts within rising = (
  [],
  record {
    many = length-append counts [];
    within = rw (append-nil counts) within;
    rising = rw (append-nil counts) rising;
  },
)
counts-padded n (suc more) counts within rising =
    let longer = counts-padded n more (counts ++ n ∷ [])
    (within-more n n counts within (omega arith))
    (rising-more n n counts within (omega arith) rising) in
    let all : List ℕ = counts ++ (n ∷ longer.0) in
    let same : (counts ++ n ∷ []) ++ longer.0 ≡ all = append_assoc counts (n ∷ []) longer.0 in
    let long : length (counts ++ n ∷ []) + more ≡ length counts + suc more =
    omega (arith, length-append counts (n ∷ [])) in (
      n ∷ longer.0,
      subst (λ (k : ℕ). AreCounts n k all) long
          (subst (AreCounts n (length (counts ++ n ∷ []) + more)) same longer.1),
    )

-- before the first look
pub telling-none : (n top faults : ℕ) (held : Option (List ℕ))
    → IsTelling n 0 top faults faults held held
telling-none n top faults held = record {
  counts = [];
  many = refl;
  within = All-nil (λ c. c ≤ top);
  rising = λ i j d lt within. absurd (omega arith);
  kept = refl;
  gained = Gains-none held;
}

-- one line more was put
pub telling-more : (n done top c before mid after : ℕ) (old now new : Option (List ℕ))
    → IsTelling n done top before mid old now → top ≤ c
    → Takes mid after now new false (report_line n c)
    → IsTelling n (done + 1) c before after old new
telling-more n done top c before mid after old now new told high taken =
    let put = taken.whole refl in record {
      counts = told.counts ++ c ∷ [];
      many = omega (arith, length-append told.counts (c ∷ []), told.many);
      within = within-more top c told.counts told.within high;
      rising = rising-more top c told.counts told.within high told.rising;
      kept = put.0 ∙ told.kept;
      gained = rw (lines-one n c told.counts)
          (Gains-append old now new (report_lines n told.counts) (report_line n c)
          told.gained put.1);
    }

-- a put of the next line failed: the lines are a prefix of those of so many looks
pub telling-fails : (n done top c times before mid after : ℕ) (old now new : Option (List ℕ))
    → IsTelling n done top before mid old now → top ≤ c → c ≤ n → done < times
    → Takes mid after now new true (report_line n c)
    → TellsLooks n times before after old new true
telling-fails n done top c times before mid after old now new told high small more taken =
    let put = taken.part refl in
    let counts : List ℕ = told.counts ++ c ∷ [] in
    let within = All-weaker (λ x. x ≤ c) (λ x. x ≤ n) (λ x low. omega arith) counts
    (within-more top c told.counts told.within high) in
    let padded = counts-padded n (times - (done + 1)) counts within
    (rising-more top c told.counts told.within high told.rising) in
    let long : length counts + (times - (done + 1)) ≡ times =
    omega (arith, length-append told.counts (c ∷ []), told.many) in
    let rose = put.0 in
    let kept = told.kept in
    let here = prefix-after old now new (report_lines n told.counts) (report_line n c)
    told.gained put.1 in
    let all = prefix-longer old new (report_lines n told.counts ++ report_line n c)
    (report_lines n padded.0) here in
    let text : report_lines n (counts ++ padded.0)
    ≡ (report_lines n told.counts ++ report_line n c) ++ report_lines n padded.0 =
    flat_map-append (report_line n) counts padded.0
    ∙ ap (λ xs. xs ++ report_lines n padded.0) (lines-one n c told.counts) in
    record {
      counts = counts ++ padded.0;
      rising = subst (λ (k : ℕ). AreCounts n k (counts ++ padded.0)) long padded.1;
      taken = record {
        later = omega (arith, taken.later);
        whole = λ none. absurd (false≢true (sym none));
        part = λ _. (subst (λ (f : ℕ). Rose f after) kept rose, rw text all);
      };
    }

-- all looks were told
pub telling-ends : (n times top before after : ℕ) (old new : Option (List ℕ))
    → IsTelling n times top before after old new → top ≤ n
    → TellsLooks n times before after old new false
telling-ends n times top before after old new told low =
    record {
      counts = told.counts;
      rising = record {
        many = told.many;
        within = All-weaker (λ x. x ≤ top) (λ x. x ≤ n) (λ x under. omega arith)
            told.counts told.within;
        rising = told.rising;
      };
      taken = record {
        later = omega (arith, told.kept);
        whole = λ _. (told.kept, told.gained);
        part = λ some. absurd (false≢true some);
      };
    }

-- and then the last line, or as much of it as was put
pub run-ends : (n times before mid after : ℕ) (old now new : Option (List ℕ)) (failed : Bool)
    → TellsLooks n times before mid old now false
    → Takes mid after now new failed (report_line n n)
    → TellsRun n times before after old new failed
run-ends n times before mid after old now new failed looks last =
    let put = looks.taken.whole refl in
    let text = lines-one n n looks.counts in
    let kept : mid ≡ before = put.0 in
    record {
      counts = looks.counts;
      rising = looks.rising;
      taken = record {
        later = omega (arith, last.later);
        whole = λ none.
            let end = last.whole none in (
              end.0 ∙ kept,
              rw text (Gains-append old now new (report_lines n looks.counts)
                  (report_line n n) put.1 end.1),
            );
        part = λ some.
            let end = last.part some in (
              subst (λ (f : ℕ). Rose f after) kept end.0,
              rw text (prefix-after old now new (report_lines n looks.counts)
                  (report_line n n) put.1 end.1),
            );
      };
    }

-- where a put has failed nothing more is put
pub run-failed : (n times before after : ℕ) (old new : Option (List ℕ))
    → TellsLooks n times before after old new true
    → TellsRun n times before after old new true
run-failed n times before after old new looks =
    let put = looks.taken.part refl in
    record {
      counts = looks.counts;
      rising = looks.rising;
      taken = record {
        later = looks.taken.later;
        whole = λ none. absurd (false≢true (sym none));
        part = λ _. (
          put.0,
          rw (flat_map-append (report_line n) looks.counts (n ∷ []))
              (prefix-longer old new (report_lines n looks.counts) (report_lines n (n ∷ [])) put.1),
        );
      };
    }

-- both ways
pub run-told : (n times before mid after : ℕ) (old now new : Option (List ℕ)) (failed fails : Bool)
    → TellsLooks n times before mid old now failed
    → (failed ≡ true → (fails ≡ true) × (after ≡ mid) × (new ≡ now))
    → (failed ≡ false → Takes mid after now new fails (report_line n n))
    → TellsRun n times before after old new fails
run-told n times before mid after old now new true fails looks still last =
    let same = still refl in
    rw (same.0, same.1, same.2) (run-failed n times before mid old now looks)
run-told n times before mid after old now new false fails looks still last =
    run-ends n times before mid after old now new fails looks (last refl)
