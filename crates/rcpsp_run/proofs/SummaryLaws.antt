-- The summary of the schedule of an instance that is made, and the sum of its starts.
use Rattle.std.proofs.Common.{◌≡◌, ℕ, ◌+◌, ◌-◌, ◌≤◌, List, take, length, sum, ap, ◌∙◌, arith}
use Rattle.std.proofs.lemmas.List.Sums.{sum_by_more}
use Rattle.rc_instance.specs.Project.{Project}
use Rattle.rc_instance.specs.Schedule.{start_at, serial_schedule}
use Rattle.activity_net.specs.Network.{Network, Listing}
use Rattle.priority_rules.specs.Rules.{rule_list}
use Rattle.rcpsp_words.specs.declared.commands.trial.TrialCommand.{TrialCommand}
use Rattle.rcpsp_run.specs.Commands.Trial.{project_made, summary, trial_text}

-- one start more
pub starts-more : (starts : List ℕ) (a : ℕ) → 1 ≤ a → a ≤ length starts
    → sum (take a starts) ≡ sum (take (a - 1) starts) + start_at starts a
unfolding start_at
starts-more starts a some within =
    let before : (a - 1) + 1 ≡ a = omega arith in
    let more = sum_by_more (λ n. n) starts (a - 1) 0 (omega arith) in
    rw before at more

-- the summary of the serial schedule of the rule's list is what the command prints
pub summary-made : (command : TrialCommand) (network windows : Network) (list : Listing)
    (starts : List ℕ) → network.project ≡ project_made command → windows ≡ network
    → list ≡ record { network = network; order = rule_list network.project command.rule }
    → starts ≡ serial_schedule list.network.project list.order
    → summary command.number windows.project starts ≡ trial_text command
summary-made command network windows list starts made same listed scheduled =
    let number = command.number in
    let rule = command.rule in
    let project : windows.project ≡ project_made command =
    ap (λ (n : Network). n.project) same ∙ made in
    let order : starts ≡ serial_schedule (project_made command) (rule_list (project_made command) rule) =
    scheduled
    ∙ (ap (λ (l : Listing). serial_schedule l.network.project l.order) listed
    ∙ ap (λ (p : Project). serial_schedule p (rule_list p rule)) made) in
    ap (λ (p : Project). summary number p starts) project
    ∙ ap (summary number (project_made command)) order
