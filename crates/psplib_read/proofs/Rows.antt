-- Worked rows: what the definition says of small texts.
use Rattle.std.proofs.Common.{◌≡◌, ℕ, List, [], ◌∷◌, ◌++◌, take, Ok, Err, codes, refl}
use Rattle.std.specs.Prelude.{Result}
use Rattle.rc_instance.specs.Project.{Project}
use Rattle.rc_instance.specs.Parts.{made}
use Rattle.rc_instance.specs.declared.parts.InstanceFault.TheVariants.{SuccessorOutOfRange, NoActivity, TooManyResources}
use Rattle.rc_edge.specs.declared.text_fault.TextFault.{TextFault}
use Rattle.rc_edge.specs.declared.text_fault.TextKind.{TextKind}
use Rattle.rc_edge.specs.declared.text_fault.TextKind.TheVariants.{Expected, NotANumber, WrongJobNumber, MultiMode, NotRenewable, ManyProjects, Ended, Instance}
use Rattle.rc_edge.specs.declared.text_fault.Item.TheVariants.{Jobs, Renewable, Requests, Availabilities}
use Rattle.rc_edge.specs.Tokens.{is_white, tokens_from}
use Rattle.rc_edge.specs.Grammar.{more}
use Rattle.rc_edge.specs.Entries as entries
use Rattle.psplib_read.specs.Lines.{line_text, lines_from, is_silent, begins_with, says, first_at, begins_with_digit, tokens_in, values_in}
use Rattle.psplib_read.specs.Left.{next_line, next_in_line, next_token, past_line}
use Rattle.psplib_read.specs.Preamble.{token_number, value_of, topic_of, was_read, with_value, with_topic, with_line, preamble_in}
use Rattle.rc_edge.specs.Source.{capacity_due, demand_due, duration_due, successor_due}
use Rattle.psplib_read.specs.Sm.{number_due, same_due, job_due, successors, request, past_title, section_due, text_due, read_instance}

abbrev refused : TextKind → ℕ → Result Project TextFault
refused kind at = Err (record { kind = kind; at = at })

-- one job of duration 0, and no resource
one : List ℕ
one = codes "jobs:1\n- renewable:0\nPRECEDENCE RELATIONS\n1 1 0\nREQUESTS/DURATIONS\n1 1 0\nRESOURCEAVAILABILITIES\n"

-- six jobs and one resource, in the layout of the usual generator
six : List ℕ
six =
    codes "************************************************************************\n"
    ++ codes "file with basedata            : e1.bas\n"
    ++ codes "initial value random generator: 1\n"
    ++ codes "************************************************************************\n"
    ++ codes "projects                      :  1\n"
    ++ codes "jobs (incl. supersource/sink ):  6\n"
    ++ codes "horizon                       :  8\n"
    ++ codes "RESOURCES\n"
    ++ codes "  - renewable                 :  1   R\n"
    ++ codes "  - nonrenewable              :  0   N\n"
    ++ codes "  - doubly constrained        :  0   D\n"
    ++ codes "************************************************************************\n"
    ++ codes "PROJECT INFORMATION:\n"
    ++ codes "pronr.  #jobs rel.date duedate tardcost  MPM-Time\n"
    ++ codes "    1      4      0        4        0        4\n"
    ++ codes "************************************************************************\n"
    ++ codes "PRECEDENCE RELATIONS:\n"
    ++ codes "jobnr.    #modes  #successors   successors\n"
    ++ codes "   1        1          3           2   3   4\n"
    ++ codes "   2        1          1           5\n"
    ++ codes "   3        1          1           6\n"
    ++ codes "   4        1          1           6\n"
    ++ codes "   5        1          1           6\n"
    ++ codes "   6        1          0\n"
    ++ codes "************************************************************************\n"
    ++ codes "REQUESTS/DURATIONS:\n"
    ++ codes "jobnr. mode duration  R 1\n"
    ++ codes "------------------------------------------------------------------------\n"
    ++ codes "  1      1     0       0\n"
    ++ codes "  2      1     3       2\n"
    ++ codes "  3      1     2       1\n"
    ++ codes "  4      1     2       1\n"
    ++ codes "  5      1     1       1\n"
    ++ codes "  6      1     0       0\n"
    ++ codes "************************************************************************\n"
    ++ codes "RESOURCEAVAILABILITIES:\n"
    ++ codes "  R 1\n"
    ++ codes "    2\n"
    ++ codes "************************************************************************\n"

-- what is read of texts
record ReadTexts : Type 0 where
  generated : read_instance six ≡ Ok (made (2 ∷ []) (0 ∷ 3 ∷ 2 ∷ 2 ∷ 1 ∷ 0 ∷ [])
      (0 ∷ 2 ∷ 1 ∷ 1 ∷ 1 ∷ 0 ∷ []) ((2 ∷ 3 ∷ 4 ∷ []) ∷ (5 ∷ []) ∷ (6 ∷ []) ∷ (6 ∷ []) ∷ (6 ∷ [])
      ∷ [] ∷ []))
  whole : read_instance (one) ≡ Ok (made [] (0 ∷ []) [] ([] ∷ []))
  cut_at_the_value : read_instance (take 5 one) ≡ refused NotANumber 5
  cut_at_another_value : read_instance (take 19 one) ≡ refused NotANumber 19
  cut_in_the_preamble : read_instance (take 40 one) ≡ refused Ended 40
  cut_at_a_head : read_instance (take 41 one) ≡ refused Ended 41
  cut_in_a_section : read_instance (take 45 one) ≡ refused Ended 45
  other_line_for_requests : read_instance (take 65 one) ≡ refused (Expected Requests) 48
  cut_at_the_requests : read_instance (take 66 one) ≡ refused Ended 66
  cut_after_the_requests : read_instance (take 73 one) ≡ refused Ended 73
  other_line_for_availabilities : read_instance (take 94 one) ≡ refused (Expected Availabilities) 73
  cut_at_the_end : read_instance (take 95 one) ≡ Ok (made [] (0 ∷ []) [] ([] ∷ []))
  return_belongs_to_no_end : read_instance (codes "jobs:\r") ≡ refused NotANumber 6
  return_belongs_to_the_end : read_instance (codes "jobs:\r\n") ≡ refused NotANumber 5
  two_modes : read_instance (codes "jobs:1\n- renewable:0\nPRECEDENCE RELATIONS\n1 2 0")
      ≡ refused MultiMode 44
  not_renewable : read_instance (codes "jobs:1\n- renewable:0\n- nonrenewable:1\n")
      ≡ refused NotRenewable 36
  many_projects : read_instance (codes "Projects : 2 of 3") ≡ refused ManyProjects 11
  no_jobs : read_instance (codes "\n ***\n Precedence Relations: none") ≡ refused (Expected Jobs) 7
  no_resources : read_instance (codes "jobs:1\njobs:x\nprecedencerelations")
      ≡ refused (Expected Renewable) 14
  no_activity : read_instance (codes "jobs : 0") ≡ refused (Instance NoActivity) 7
  many_resources : read_instance (codes "-renewable:17") ≡ refused (Instance (TooManyResources 17))
      11
  wrong_job : read_instance
      (codes "jobs:2\n-renewable:0\nprecedencerelations\n\njobnr\n---\n1 1 0 1")
      ≡ refused WrongJobNumber 57
  out_of_range : read_instance (codes "jobs:2\n-renewable:0\nprecedencerelations\n1 1 1 3")
      ≡ refused (Instance (SuccessorOutOfRange 1 3)) 46

read_texts : ReadTexts
unfolding begins_with begins_with_digit capacity_due demand_due duration_due entries.activity_count
    entries.capacity entries.duration entries.resource_count entries.successor first_at is_silent
    is_white job_due line_text lines_from made more next_in_line next_line next_token number_due one
    past_line past_title preamble_in read_instance request same_due says section_due six
    successor_due successors text_due token_number tokens_from tokens_in topic_of value_of values_in
    was_read with_line with_topic with_value
read_texts = record {
  generated = refl;
  whole = refl;
  cut_at_the_value = refl;
  cut_at_another_value = refl;
  cut_in_the_preamble = refl;
  cut_at_a_head = refl;
  cut_in_a_section = refl;
  other_line_for_requests = refl;
  cut_at_the_requests = refl;
  cut_after_the_requests = refl;
  other_line_for_availabilities = refl;
  cut_at_the_end = refl;
  return_belongs_to_no_end = refl;
  return_belongs_to_the_end = refl;
  two_modes = refl;
  not_renewable = refl;
  many_projects = refl;
  no_jobs = refl;
  no_resources = refl;
  no_activity = refl;
  many_resources = refl;
  wrong_job = refl;
  out_of_range = refl;
}
