-- What a text in the `.rcp` format gives: an instance within the limits with small demands, or a
-- fault in the text.
use Rattle.std.proofs.Common.{◌≡◌, ℕ, ◌+◌, ◌<◌, ◌≤◌, ◌^◌, false, List, [], ◌∷◌, length, map, Result, Ok, Err, sym, subst, arith, All}
use Rattle.std.specs.List.{flat_map, sum_by}
use Rattle.std.proofs.lemmas.List.{length-map}
use Rattle.std.proofs.lemmas.List.Elements.{All-nil, All-head, All-tail, All-map, All-weaker}
use Rattle.std.proofs.lemmas.List.Sums.{sum-map}
use Rattle.rc_instance.specs.Lists.{IsUpTo}
use Rattle.rc_instance.specs.Project.{Project}
use Rattle.rc_instance.specs.Parts.{made}
use Rattle.rc_instance.specs.Calendar.{IsWithinLimits}
use Rattle.rc_instance.specs.declared.limits.TheConstants.{MAX_DURATION_SUM}
use Rattle.rc_edge.specs.declared.number.NumberFault.{NumberFault}
use Rattle.rc_edge.specs.declared.number.NumberFault.TheVariants as faults
use Rattle.rc_edge.specs.declared.text_fault.TextFault.{TextFault}
use Rattle.rc_edge.specs.Tokens.{Token, tokens_of}
use Rattle.rc_edge.specs.Numbers.{number_of}
use Rattle.rc_edge.specs.Grammar as grammar
use Rattle.rc_edge.specs.Grammar.{◌>>=◌, number_in, more}
use Rattle.rc_edge.specs.Entries as entries
use Rattle.rc_edge.specs.Source.{next_capacity, demand_due, duration_due, successor_due}
use Rattle.rc_edge.proofs.GrammarLaws.{bind_ok, ok_is}
use Rattle.rc_edge.proofs.PartsLaws.{length-flat_map}
use Rattle.patterson_read.specs.declared.head.Head.{Head}
use Rattle.patterson_read.specs.Left.{Left, whole, number_due, none_of, nothing}
use Rattle.patterson_read.specs.Rcp.{Activity, head_due, activity_due, next_activity, Text, text_due, project_of, read_instance}
use Rattle.patterson_read.proofs.TextLaws.{IsText, text_is}
use Rattle.text_bounds.proofs.KeepLaws.{Keeps, keeps_then, keeps_fault, keeps_value, IsNumberOf, number_small, AreWithin, activities_keep, resources_keep, more_keep, duration_next, capacities_next, demands_next, successors_next, flat_all}
use Rattle.text_bounds.proofs.FitLaws.{IsFit, within_limits}
use Rattle.text_bounds.proofs.PlaceLaws.{tokens_within}

-- what is left of a text stands within the bound
record IsIn (bound : ℕ) (left : Left) : Type 0 where
  size : left.size ≤ bound
  tokens : All (λ token. token.at ≤ bound) left.tokens

-- the next number does
number_next : (bound : ℕ) (left : Left) → IsIn bound left
    → Keeps bound (AreWithin bound (IsIn bound)) (number_due left)
unfolding number_due grammar.number_due
number_next bound left within = by_tokens left.tokens within.tokens
  where
    by_number : (token : Token) (rest : List Token) (number : Result ℕ NumberFault)
        → IsNumberOf number → token.at ≤ bound → All (λ t. t.at ≤ bound) rest
        → Keeps bound (AreWithin bound (IsIn bound))
        (number_in token rest number
        >>= (λ number. Ok (number.0, record left { tokens = number.1 })))
    by_number token rest (Ok value) small here others =
        ((here, small), record { size = within.size; tokens = others })
    by_number token rest (Err faults.NotANumber) small here others = here
    by_number token rest (Err faults.NumberTooLarge) small here others = here

    by_tokens : (tokens : List Token) → All (λ t. t.at ≤ bound) tokens
        → Keeps bound (AreWithin bound (IsIn bound))
        (grammar.number_due left.size tokens
        >>= (λ number. Ok (number.0, record left { tokens = number.1 })))
    by_tokens [] all = within.size
    by_tokens (token ∷ rest) all =
        by_number token rest (number_of token.text) (number_small token.text)
        (All-head (λ (t : Token). t.at ≤ bound) token rest all)
        (All-tail (λ (t : Token). t.at ≤ bound) token rest all)

-- an activity has small demands
abbrev pub IsModest : Activity → Type 0
IsModest activity = All (λ d. d < 2 ^ 32) activity.demands

head_next : (bound : ℕ) (left : Left) → IsIn bound left
    → Keeps bound (λ next. IsIn bound next.1) (head_due left)
unfolding head_due
head_next bound left within =
    keeps_then bound (AreWithin bound (IsIn bound))
    (λ next. IsIn bound next.1) (number_due left) _ (number_next bound left within) (λ first is.
    keeps_then bound (λ _. Unit {0}) (λ next. IsIn bound next.1)
    (entries.activity_count first.0) _ (activities_keep bound first.0 is.0) (λ activities _.
    keeps_then bound (AreWithin bound (IsIn bound))
    (λ next. IsIn bound next.1) (number_due first.1) _ (number_next bound first.1 is.1)
    (λ second too.
    keeps_then bound (λ _. Unit {0}) (λ next. IsIn bound next.1)
    (entries.resource_count second.0) _ (resources_keep bound second.0 too.0)
    (λ resources _. too.1))))

activity_next : (bound : ℕ) (head : Head) (number before : ℕ) (left : Left) → IsIn bound left
    → Keeps bound (λ next. IsModest next.0 × IsIn bound next.1)
    (activity_due head number before left)
unfolding activity_due
activity_next bound head number before left within =
    keeps_then bound (λ next. IsIn bound next.1) (λ next. IsModest next.0 × IsIn bound next.1)
    (duration_due number_due before left) _
    (duration_next bound (IsIn bound) number_due (number_next bound) before left within)
    (λ duration after.
    keeps_then bound (λ all. All (λ d. d < 2 ^ 32) all.0 × IsIn bound all.1)
    (λ next. IsModest next.0 × IsIn bound next.1)
    (more (λ _. demand_due number_due) head.resources [] duration.1) _
    (demands_next bound (IsIn bound) number_due (number_next bound) head.resources duration.1 after)
    (λ demands modest.
    keeps_then bound (AreWithin bound (IsIn bound))
    (λ next. IsModest next.0 × IsIn bound next.1) (number_due demands.1) _
    (number_next bound demands.1 modest.1) (λ count counted.
    keeps_then bound (λ all. All (λ _. Unit {0}) all.0 × IsIn bound all.1)
    (λ next. IsModest next.0 × IsIn bound next.1)
    (more (λ _. successor_due number_due head.activities number) count.0.value [] count.1) _
    (successors_next bound (IsIn bound) number_due (number_next bound) head.activities number
    count.0.value count.1 counted.1)
    (λ successors last. (modest.0, last.1)))))

nothing_next : (bound : ℕ) (tokens : List Token) → All (λ t. t.at ≤ bound) tokens
    → Keeps bound (λ _. Unit {0}) (none_of tokens)
nothing_next bound [] all = tt
nothing_next bound (token ∷ rest) all = All-head (λ (t : Token). t.at ≤ bound) token rest all

text_next : (bound : ℕ) (left : Left) → IsIn bound left
    → Keeps bound (λ text. All IsModest text.activities) (text_due left)
unfolding text_due
text_next bound left within =
    keeps_then bound (λ next. IsIn bound next.1) (λ text. All IsModest text.activities)
    (head_due left) _ (head_next bound left within) (λ head after.
    keeps_then bound (λ all. All (λ _. Unit {0}) all.0 × IsIn bound all.1)
    (λ text. All IsModest text.activities)
    (more (next_capacity number_due) head.0.resources [] head.1) _
    (capacities_next bound (IsIn bound) number_due (number_next bound) head.0.resources head.1
    after)
    (λ capacities rest.
    keeps_then bound (λ all. All IsModest all.0 × IsIn bound all.1)
    (λ text. All IsModest text.activities)
    (more (next_activity head.0) head.0.activities [] capacities.1) _
    (more_keep bound (IsIn bound) IsModest (next_activity head.0)
    (λ found left there. activity_next bound head.0 (length found + 1)
    (sum_by (λ a. a.duration) found) left there) head.0.activities [] capacities.1
    (All-nil IsModest) rest.1)
    (λ activities modest.
    keeps_then bound (λ _. Unit {0}) (λ text. All IsModest text.activities)
    (nothing activities.1) _ (nothing_next bound activities.1.tokens modest.1.tokens)
    (λ end _. modest.0))))

whole_within : (bytes : List ℕ) → IsIn (length bytes) (whole bytes)
whole_within bytes = record {
  size = omega arith;
  tokens = All-weaker (λ (t : Token). t.at < 0 + length bytes) (λ (t : Token). t.at ≤ length bytes)
      (λ t below. omega (arith, below)) (tokens_of bytes) (tokens_within false 0 bytes);
}

-- the instance of a text that is accepted
text_limits : (text : Text) → IsText text → IsWithinLimits (project_of text)
text_limits text is =
    within_limits text.capacities (map (λ a. a.duration) text.activities)
    (flat_map (λ a. a.demands) text.activities) (map (λ a. a.successors) text.activities)
    (length text.activities) (length-map text.activities (λ (a : Activity). a.duration)) is.some
    is.few is.resources is.capacities
    (All-map (All (IsUpTo (length text.activities))) (λ (a : Activity). a.successors)
    text.activities is.successors)
    (subst (λ (s : ℕ). s ≤ MAX_DURATION_SUM)
    (sym (sum-map (λ (a : Activity). a.duration) text.activities)) is.short)
    (length-map text.activities (λ (a : Activity). a.successors))
    (length-flat_map (λ (a : Activity). a.demands) (length text.capacities) text.activities
    is.demands)

text_fit : (text : Text) → IsText text → All IsModest text.activities → IsFit (project_of text)
unfolding made
text_fit text is modest = record {
  limits = text_limits text is;
  modest = flat_all (λ d. d < 2 ^ 32) (λ (a : Activity). a.demands) text.activities modest;
}

pub rcp_fit : (bytes : List ℕ) (project : Project) → read_instance bytes ≡ Ok project
    → IsFit project
unfolding read_instance
rcp_fit bytes project read =
    let found = bind_ok (text_due (whole bytes)) (λ text. Ok (project_of text)) project read in
    let modest = keeps_value (length bytes) (λ (t : Text). All IsModest t.activities)
    (text_due (whole bytes)) found.0 (text_next (length bytes) (whole bytes) (whole_within bytes))
    found.1 in
    subst IsFit (ok_is (project_of found.0) project found.2)
    (text_fit found.0 (text_is (whole bytes) found.0 found.1) modest)

pub rcp_fault : (bytes : List ℕ) (fault : TextFault) → read_instance bytes ≡ Err fault
    → fault.at ≤ length bytes
unfolding read_instance
rcp_fault bytes fault read =
    keeps_fault (length bytes) (λ (p : Project). Unit {0})
    (text_due (whole bytes) >>= (λ text. Ok (project_of text))) fault
    (keeps_then (length bytes) (λ (t : Text). All IsModest t.activities) (λ (p : Project). Unit {0})
    (text_due (whole bytes)) (λ text. Ok (project_of text))
    (text_next (length bytes) (whole bytes) (whole_within bytes)) (λ text _. tt)) read
