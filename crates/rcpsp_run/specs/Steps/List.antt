-- The list that a schedule follows.
use Rattle.std.specs.Prelude.{ℕ, List, [], ◌∷◌, Option, None, Some, Result, Ok, Err}
use Rattle.rc_instance.specs.Project.{Project}
use Rattle.patterson_read.specs.ListFile.{read_list}
use Rattle.activity_net.specs.declared.fault.ListFault.{ListFault}
use Rattle.activity_net.specs.ListFault.{first_list_fault}
use Rattle.priority_rules.specs.Rules.{rule_list}
use Rattle.rcpsp_words.specs.declared.values.order.Order.{Order}
use Rattle.rcpsp_words.specs.declared.values.order.Order.TheVariants as order
use Rattle.rcpsp_run.specs.declared.refusal.Refusal.{Refusal}
use Rattle.rcpsp_run.specs.declared.refusal.Refusal.TheVariants.{BadList}
use Rattle.rcpsp_run.specs.Steps.Text.{text_at, in_text}

-- the name of the list file, where the list comes from one
abbrev pub order_names : Order → List (List ℕ)
order_names (order.Rule rule) = []
order_names (order.List name) = name ∷ []

-- the numbers of a list file, which is the second text; a rule has none
abbrev pub numbers_in : Order → List (List ℕ) → Result (List ℕ) Refusal
numbers_in (order.Rule rule) texts = Ok []
numbers_in (order.List name) texts = in_text name (read_list (text_at texts 1))

-- these numbers as a list, or its first fault
abbrev pub without_list_fault : List ℕ → Option ListFault → Result (List ℕ) Refusal
without_list_fault numbers None = Ok numbers
without_list_fault numbers (Some fault) = Err (BadList fault)

-- the list that a schedule follows: that of the rule, or the numbers of a file, where they are feasible
abbrev pub list_by : Project → Order → List ℕ → Result (List ℕ) Refusal
list_by project (order.Rule rule) numbers = Ok (rule_list project rule)
list_by project (order.List name) numbers =
    without_list_fault numbers (first_list_fault project numbers)
