-- Where the list of a schedule comes from.
use Rattle.std.specs.Prelude.{ℕ, List, Option, None, Some}
use Rattle.priority_rules.specs.declared.rule.Rule.{Rule}
use Rattle.priority_rules.specs.declared.rule.Rule.TheVariants.{Number}
use Rattle.rcpsp_words.specs.declared.values.order.Order.{Order}
use Rattle.rcpsp_words.specs.declared.values.order.Order.TheVariants as order

-- where the list comes from: a rule or a file, not both; the rule by number, where neither is given
abbrev pub order_of : Option Rule → Option (List ℕ) → Option Order
order_of (Some rule) (Some list) = None
order_of (Some rule) None = Some (order.Rule rule)
order_of None (Some list) = Some (order.List list)
order_of None None = Some (order.Rule Number)
