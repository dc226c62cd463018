-- The texts that were fetched.
use Rattle.std.specs.Prelude.{ℕ, List, [], Result, Ok, Err, slice_index_or}
use Rattle.rc_edge.specs.declared.text_fault.TextFault.{TextFault}
use Rattle.rcpsp_run.specs.declared.refusal.Refusal.{Refusal}
use Rattle.rcpsp_run.specs.declared.refusal.Refusal.TheVariants.{BadText}

-- the text at a place of those that were fetched, counted from 0
abbrev pub text_at : List (List ℕ) → ℕ → List ℕ
text_at texts place = slice_index_or texts place []

-- what is read in the text of a file, or that its text is bad
abbrev pub in_text : {X : Type 0} → List ℕ → Result X TextFault → Result X Refusal
in_text name (Ok x) = Ok x
in_text name (Err fault) = Err (BadText name fault)
