-- What a file comes to that is scheduled alone, by what its text says.
use Rattle.std.proofs.Common.{◌≡◌, ℕ, ◌≤◌, List, [], ◌∷◌, length, nat_lt, true, false, Option, None, Some, IsSome, IfSome, Result, Ok, Err, refl, sym, ap, ◌∙◌, subst}
use Rattle.std.specs.Str.{bytes_eq}
use Rattle.std.proofs.lemmas.Bool.{le-ltb}
use Rattle.std.proofs.lemmas.Slice.Eq.{bytes_eq-Decides}
use Rattle.rc_instance.specs.Results.{◌>>=◌}
use Rattle.rc_instance.specs.declared.limits.TheConstants.{MAX_FILE_BYTES}
use Rattle.rc_instance.specs.declared.misfit.Misfit.{Misfit as Shown}
use Rattle.rc_instance.specs.Project.{Project}
use Rattle.rc_instance.specs.Misfit.{first_misfit}
use Rattle.rc_instance.specs.Schedule.{serial_schedule}
use Rattle.rc_edge.specs.declared.text_fault.TextFault.{TextFault}
use Rattle.rc_edge.specs.Files.{file_of}
use Rattle.activity_net.specs.Ring.{shown_cycle}
use Rattle.priority_rules.specs.Rules.{rule_list}
use Rattle.priority_rules.specs.declared.rule.Rule.TheVariants.{Number}
use Rattle.gantt_table.specs.Table.{table_text}
use Rattle.rcpsp_words.specs.declared.words.Options.{Options}
use Rattle.rcpsp_words.specs.declared.commands.Command.TheVariants.{Schedule}
use Rattle.rcpsp_words.specs.declared.values.format.Format.{Format}
use Rattle.rcpsp_words.specs.Words.{options_of}
use Rattle.rcpsp_words.specs.Many.{plain_words, plain_command, IsPlain}
use Rattle.rcpsp_words.proofs.PlainLaws.{plain_words_say}
use Rattle.rcpsp_run.specs.declared.refusal.Refusal.{Refusal}
use Rattle.rcpsp_run.specs.declared.refusal.Refusal.TheVariants.{BadText, Cycle, Misfit}
use Rattle.rcpsp_run.specs.Answer.{Answer, told}
use Rattle.rcpsp_run.specs.Steps.Text.{in_text}
use Rattle.rcpsp_run.specs.Steps.Instance.{read_by, instance_in}
use Rattle.rcpsp_run.specs.Steps.Calendar.{on_calendar}
use Rattle.rcpsp_run.specs.Steps.Network.{without_cycle}
use Rattle.rcpsp_run.specs.Steps.Schedule.{without_misfit, scheduled}
use Rattle.rcpsp_run.specs.Steps.Improvement.{improved_if}
use Rattle.rcpsp_run.specs.Commands.{answer_of}
use Rattle.rcpsp_run.specs.Commands.Schedule.{starts_of, schedule_answer, schedule_told}
use Rattle.rcpsp_run.specs.Outcome.{within_limit, contents, command_outcome, options_outcome}
use Rattle.batch_line.specs.Batch.{alone, IsPlainName, IsEnding, status_in}

-- the starts of the plain schedule of an instance
abbrev pub plain_starts : Project → List ℕ
plain_starts project = serial_schedule project (rule_list project Number)

-- what holds of each way in which a text can end that is scheduled plainly
module _ (P : Result Answer Refusal → Type 0) (name bytes : List ℕ)
    (bad : (format : Format) (fault : TextFault) → read_by format bytes ≡ Err fault
    → P (Err (BadText name fault)))
    (ringed : (format : Format) (project : Project) (ring : List ℕ)
    → read_by format bytes ≡ Ok project → shown_cycle project ≡ Some ring → P (Err (Cycle ring)))
    (unfit : (format : Format) (project : Project) (misfit : Shown)
    → read_by format bytes ≡ Ok project → first_misfit project ≡ Some misfit
    → P (Err (Misfit misfit)))
    (done : (format : Format) (project : Project) → read_by format bytes ≡ Ok project
    → shown_cycle project ≡ None → first_misfit project ≡ None
    → P (Ok (told (table_text project (plain_starts project))))) where
  -- the instance is there, and its demands are tested
  by_misfit : (format : Format) (project : Project) → read_by format bytes ≡ Ok project
      → shown_cycle project ≡ None → (found : Option Shown) → first_misfit project ≡ found
      → P (((without_misfit found >>= (λ _. Ok (plain_starts project)))
      >>= (λ starts. Ok (improved_if false project starts)))
      >>= (λ starts. Ok (schedule_told (plain_command name format) project starts)))
  by_misfit format project read acyclic None none = done format project read acyclic none
  by_misfit format project read acyclic (Some misfit) is = unfit format project misfit read is

  -- the instance is there, and its precedence has no cycle
  by_starts : (format : Format) (project : Project) → read_by format bytes ≡ Ok project
      → shown_cycle project ≡ None
      → P (starts_of (plain_command name format) [] project
      >>= (λ starts. Ok (schedule_told (plain_command name format) project starts)))
  unfolding starts_of scheduled
  by_starts format project read acyclic =
      by_misfit format project read acyclic (first_misfit project) refl

  -- the instance is there
  by_cycle : (format : Format) (project : Project) → read_by format bytes ≡ Ok project
      → (found : Option (List ℕ)) → shown_cycle project ≡ found
      → P (without_cycle found >>= (λ _. starts_of (plain_command name format) [] project
      >>= (λ starts. Ok (schedule_told (plain_command name format) project starts))))
  by_cycle format project read None none = by_starts format project read none
  by_cycle format project read (Some ring) is = ringed format project ring read is

  by_instance : (format : Format) (found : Result Project TextFault) → read_by format bytes ≡ found
      → P (in_text name found >>= (λ project. without_cycle (shown_cycle project)
      >>= (λ _. starts_of (plain_command name format) [] project
      >>= (λ starts. Ok (schedule_told (plain_command name format) project starts)))))
  by_instance format (Ok project) read = by_cycle format project read (shown_cycle project) refl
  by_instance format (Err fault) is = bad format fault is

  -- what the command makes of the text
  by_answer : (format : Format) → P (schedule_answer (plain_command name format) (bytes ∷ []))
  unfolding schedule_answer instance_in on_calendar
  by_answer format = by_instance format (read_by format bytes) refl

  -- the text is fetched
  fetched : length bytes ≤ MAX_FILE_BYTES
      → contents ((name, bytes) ∷ []) (name ∷ []) ≡ Ok (bytes ∷ [])
  unfolding contents
  fetched short =
      let same : bytes_eq name name ≡ true = (bytes_eq-Decides name name).1 refl in
      let here : file_of ((name, bytes) ∷ []) name ≡ Some bytes = rw same refl in
      let small : nat_lt MAX_FILE_BYTES (length bytes) ≡ false =
      le-ltb MAX_FILE_BYTES (length bytes) short in
      let within : within_limit name (Some bytes) ≡ Ok bytes = rw small refl in
      ap (λ (read : Result (List ℕ) Refusal). read >>= (λ text. Ok (text ∷ [])))
      (ap (within_limit name) here ∙ within)

  by_command : (format : Format) → length bytes ≤ MAX_FILE_BYTES
      → P (command_outcome ((name, bytes) ∷ []) (Schedule (plain_command name format)))
  by_command format short =
      subst (λ (texts : Result (List (List ℕ)) Refusal).
      P (texts >>= answer_of (Schedule (plain_command name format)))) (sym (fetched short))
      (by_answer format)

  by_options : (said : Option Options) → IfSome said (IsPlain name) → IsSome said
      → length bytes ≤ MAX_FILE_BYTES → P (options_outcome ((name, bytes) ∷ []) said)
  by_options None plain some short = absurd cc
  by_options (Some options) plain some short =
      subst (λ (o : Options). P (command_outcome ((name, bytes) ∷ []) o.command)) (sym plain.1)
      (by_command plain.0 short)

  -- the words say that it is scheduled
  pub alone_cases : IsPlainName name → length bytes ≤ MAX_FILE_BYTES
      → P (alone ((name, bytes) ∷ []) name)
  alone_cases plain short =
      by_options (options_of (plain_words name)) (plain_words_say name) plain short

-- the ways in which it can end
pub alone_ends : (name bytes : List ℕ) → IsPlainName name → length bytes ≤ MAX_FILE_BYTES
    → IsEnding (status_in (alone ((name, bytes) ∷ []) name))
alone_ends name bytes plain short =
    alone_cases (λ outcome. IsEnding (status_in outcome)) name bytes (λ format fault read. tt)
    (λ format project ring read is. tt) (λ format project misfit read is. tt)
    (λ format project read acyclic none. tt) plain short
