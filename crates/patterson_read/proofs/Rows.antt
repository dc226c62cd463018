-- Worked rows: what the definition says of small texts.
use Rattle.std.proofs.Common.{◌≡◌, ℕ, List, [], ◌∷◌, ◌++◌, Ok, Err, codes, refl}
use Rattle.std.specs.Prelude.{Result}
use Rattle.std.specs.Fmt.{digits}
use Rattle.rc_instance.specs.declared.change.Change.{Change}
use Rattle.rc_instance.specs.Project as project
use Rattle.rc_instance.specs.Project.{Project}
use Rattle.rc_instance.specs.Parts.{made}
use Rattle.rc_instance.specs.declared.parts.InstanceFault.TheVariants.{NoActivity, CapacityTooLarge, TooLong, SuccessorOutOfRange}
use Rattle.rc_edge.specs.declared.text_fault.TextFault.{TextFault}
use Rattle.rc_edge.specs.declared.text_fault.TextKind.{TextKind}
use Rattle.rc_edge.specs.declared.text_fault.TextKind.TheVariants.{NotANumber, NumberTooLarge, Trailing, Ended, TooManyChanges, ResourceOutOfRange, PeriodOutOfRange, NotRising, Instance}
use Rattle.rc_edge.specs.Tokens.{is_white, tokens_from}
use Rattle.rc_edge.specs.Grammar as grammar
use Rattle.rc_edge.specs.Grammar.{more}
use Rattle.rc_edge.specs.Source.{capacity_due, demand_due, duration_due, successor_due}
use Rattle.rc_edge.specs.Entries as entries
use Rattle.patterson_read.specs.Left.{number_due}
use Rattle.patterson_read.specs.Rcp.{head_due, activity_due, text_due, read_instance}
use Rattle.patterson_read.specs.Written.{line, activity_numbers, rcp_lines, rcp_text}
use Rattle.patterson_read.specs.ListFile.{numbers_in, read_list}
use Rattle.patterson_read.specs.Calendar.{count_due, resource_due, period_due, change_due, changes_due, read_calendar}

abbrev refused : TextKind → ℕ → Result Project TextFault
refused kind at = Err (record { kind = kind; at = at })

abbrev refused_calendar : TextKind → ℕ → Result (List Change) TextFault
refused_calendar kind at = Err (record { kind = kind; at = at })

abbrev change : ℕ → ℕ → ℕ → Change
change resource period capacity =
    record { resource = resource; period = period; capacity = capacity }

six : List ℕ
six = codes "6 1\n2\n0 0 3 2 3 4\n3 2 1 5\n2 1 1 6\n2 1 1 6\n1 1 1 6\n0 0 0\n"

-- what is read of texts
record ReadTexts : Type 0 where
  whole : read_instance six ≡ Ok (made (2 ∷ []) (0 ∷ 3 ∷ 2 ∷ 2 ∷ 1 ∷ 0 ∷ [])
      (0 ∷ 2 ∷ 1 ∷ 1 ∷ 1 ∷ 0 ∷ []) ((2 ∷ 3 ∷ 4 ∷ []) ∷ (5 ∷ []) ∷ (6 ∷ []) ∷ (6 ∷ []) ∷ (6 ∷ [])
      ∷ [] ∷ []))
  one_more : read_instance (six ++ codes "7") ≡ refused Trailing 56
  empty : read_instance (codes "") ≡ refused Ended 0
  no_activity : read_instance (codes "0 0") ≡ refused (Instance NoActivity) 0
  longest : read_instance (codes "1 0\n65535 0") ≡ Ok (made [] (65535 ∷ []) [] ([] ∷ []))
  too_long : read_instance (codes "1 0\n65536 0") ≡ refused (Instance (TooLong 65536)) 4
  too_long_in_sum : read_instance (codes "2 0\n1 1 2 65535 0")
      ≡ refused (Instance (TooLong 65536)) 10
  one : read_instance (codes "1 0 5 0") ≡ Ok (made [] (5 ∷ []) [] ([] ∷ []))
  backward : read_instance (codes "2 0 1 0 1 1 1") ≡ Ok
      (made [] (1 ∷ 1 ∷ []) [] ([] ∷ (1 ∷ []) ∷ []))
  to_itself : read_instance (codes "1 0 1 1 1") ≡ Ok (made [] (1 ∷ []) [] ((1 ∷ []) ∷ []))
  out_of_range : read_instance (codes "2 0 1 1 3 1 0") ≡ refused
      (Instance (SuccessorOutOfRange 1 3)) 8
  zero : read_instance (codes "2 0 1 1 0 1 0") ≡ refused (Instance (SuccessorOutOfRange 1 0)) 8
  not_a_number : read_instance (codes "1 x") ≡ refused NotANumber 2
  too_large : read_instance (codes "4294967296") ≡ refused NumberTooLarge 0
  ended : read_instance (codes "1 0 5 2 ") ≡ refused Ended 8
  trailing : read_instance (codes "1 0 5 0 7") ≡ refused Trailing 8

read_texts : ReadTexts
unfolding activity_due capacity_due demand_due duration_due entries.activity_count entries.capacity
    entries.duration entries.resource_count entries.successor grammar.number_due head_due is_white
    made more number_due read_instance six successor_due text_due tokens_from
read_texts = record {
  whole = refl;
  one_more = refl;
  empty = refl;
  no_activity = refl;
  longest = refl;
  too_long = refl;
  too_long_in_sum = refl;
  one = refl;
  backward = refl;
  to_itself = refl;
  out_of_range = refl;
  zero = refl;
  not_a_number = refl;
  too_large = refl;
  ended = refl;
  trailing = refl;
}

-- what is read of lists
record ReadLists : Type 0 where
  list : read_list (codes "1 3 2") ≡ Ok (1 ∷ 3 ∷ 2 ∷ [])
  not_in_a_list : read_list (codes "1 x") ≡ Err (record { kind = NotANumber; at = 2 })

read_lists : ReadLists
unfolding is_white numbers_in read_list tokens_from
read_lists = record {
  list = refl;
  not_in_a_list = refl;
}

-- what is written of instances
record WrittenTexts : Type 0 where
  six_text : rcp_text (made (2 ∷ []) (0 ∷ 3 ∷ 2 ∷ 2 ∷ 1 ∷ 0 ∷ []) (0 ∷ 2 ∷ 1 ∷ 1 ∷ 1 ∷ 0 ∷ [])
      ((4 ∷ 2 ∷ 3 ∷ 2 ∷ []) ∷ (5 ∷ []) ∷ (6 ∷ []) ∷ (6 ∷ []) ∷ (6 ∷ []) ∷ [] ∷ [])) ≡ six
  -- without resources the second line is empty
  one_text : rcp_text (made [] (5 ∷ []) [] ([] ∷ [])) ≡ codes "1 0\n\n5 0\n"

written_texts : WrittenTexts
unfolding activity_numbers digits line made project.demand project.duration project.successors_of
    rcp_lines rcp_text six
written_texts = record {
  six_text = refl;
  one_text = refl;
}

-- what is read of calendars
record ReadCalendars : Type 0 where
  no_change : read_calendar 0 (codes "0") ≡ Ok []
  two_changes : read_calendar 1 (codes "2 1 1 0 1 3 2") ≡ Ok (change 1 1 0 ∷ change 1 3 2 ∷ [])
  no_such_resource : read_calendar 1 (codes "1 2 1 0") ≡ refused_calendar ResourceOutOfRange 2
  period_0 : read_calendar 1 (codes "1 1 0 5") ≡ refused_calendar PeriodOutOfRange 4
  same_period : read_calendar 1 (codes "2 1 3 0 1 3 2") ≡ refused_calendar NotRising 10
  lower_resource : read_calendar 2 (codes "2 2 1 0 1 5 0") ≡ refused_calendar NotRising 10
  range_before_order : read_calendar 1 (codes "2 1 3 0 1 0 2")
      ≡ refused_calendar PeriodOutOfRange 10
  large_capacity : read_calendar 1 (codes "1 1 1 65536") ≡ refused_calendar
      (Instance (CapacityTooLarge 1 65536)) 6
  too_many : read_calendar 1 (codes "1001") ≡ refused_calendar TooManyChanges 0
  nothing_there : read_calendar 1 (codes "") ≡ refused_calendar Ended 0
  rest_after : read_calendar 1 (codes "0 7") ≡ refused_calendar Trailing 2

read_calendars : ReadCalendars
unfolding capacity_due change_due changes_due count_due entries.capacity grammar.number_due is_white
    more number_due period_due resource_due tokens_from
read_calendars = record {
  no_change = refl;
  two_changes = refl;
  no_such_resource = refl;
  period_0 = refl;
  same_period = refl;
  lower_resource = refl;
  range_before_order = refl;
  large_capacity = refl;
  too_many = refl;
  nothing_there = refl;
  rest_after = refl;
}
