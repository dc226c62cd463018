-- A whole text, section by section.
use Rattle.std.proofs.Common.{◌≡◌, ◌⊎◌, inl, inr, ℕ, List, [], Result, Ok, Err, codes, refl, ◌∙◌}
use Rattle.rc_edge.specs.declared.text_fault.TextFault.{TextFault}
use Rattle.rc_edge.specs.declared.text_fault.Item.TheVariants.{Requests, Availabilities}
use Rattle.rc_edge.specs.Grammar.{◌>>=◌, more, out_of_memory}
use Rattle.rc_edge.specs.Source.{next_capacity}
use Rattle.psplib_read.specs.declared.preamble.Head.{Head}
use Rattle.psplib_read.specs.Left.{Left}
use Rattle.psplib_read.specs.Preamble.{head_due}
use Rattle.psplib_read.specs.Sm.{Request, Text, number_due, next_successors, next_request, past_title, section_due, nothing, text_due}

-- what was read up to the head of the availabilities, and what is left after it
pub record HasSections (left : Left) (head : Head) (successors : List (List ℕ))
    (requests : List Request) (last : Left) : Type 0 where
  pub begun : Left
  pub listed : Left
  pub turned : Left
  pub worked : Left
  pub head_is : head_due left ≡ Ok (head, begun)
  pub successors_are : more (next_successors head) head.jobs [] (past_title begun)
      ≡ Ok (successors, listed)
  pub requests_begin : section_due (codes "requests/durations") Requests listed ≡ Ok turned
  pub requests_are : more (next_request head) head.jobs [] turned ≡ Ok (requests, worked)
  pub capacities_begin : section_due (codes "resourceavailabilities") Availabilities worked
      ≡ Ok last

-- the last section and the end of the text
abbrev rest_due : List (List ℕ) → List Request → Result (List ℕ × Left) TextFault
    → Result Text TextFault
rest_due successors requests read = do
  capacities ← read
  end ← nothing capacities.1
  Ok (record { capacities = capacities.0; requests = requests; successors = successors })

only_rest : (left : Left) (head : Head) (successors : List (List ℕ)) (requests : List Request)
    (last : Left) → HasSections left head successors requests last
    → text_due left ≡ rest_due successors requests
    (more (next_capacity number_due) head.resources [] last)
unfolding text_due
only_rest left head successors requests last has =
    rw (has.head_is, has.successors_are, has.requests_begin, has.requests_are, has.capacities_begin)
    refl

-- the text is refused where its rest is, as far as memory lasts
pub capacities_refused : (left : Left) (head : Head) (successors : List (List ℕ))
    (requests : List Request) (last : Left) (fault : TextFault)
    → HasSections left head successors requests last
    → (more (next_capacity number_due) head.resources [] last ≡ Err fault) ⊎ (fault ≡ out_of_memory)
    → (text_due left ≡ Err fault) ⊎ (fault ≡ out_of_memory)
capacities_refused left head successors requests last fault has (inl refused) = inl
    (only_rest left head successors requests last has ∙ rw refused refl)
capacities_refused left head successors requests last fault has (inr memory) = inr memory

pub end_refused : (left : Left) (head : Head) (successors : List (List ℕ)) (requests : List Request)
    (last after : Left) (capacities : List ℕ) (fault : TextFault)
    → HasSections left head successors requests last → more (next_capacity number_due)
    head.resources [] last ≡ Ok (capacities, after) → Err fault ≡ nothing after
    → text_due left ≡ Err fault
end_refused left head successors requests last after capacities fault has read refused =
    only_rest left head successors requests last has ∙ rw (read, ← refused) refl

pub text_read : (left : Left) (head : Head) (successors : List (List ℕ)) (requests : List Request)
    (last after : Left) (capacities : List ℕ)
    → HasSections left head successors requests last → more (next_capacity number_due)
    head.resources [] last ≡ Ok (capacities, after) → Ok tt ≡ nothing after
    → text_due left ≡ Ok
    (record { capacities = capacities; requests = requests; successors = successors })
text_read left head successors requests last after capacities has read end =
    only_rest left head successors requests last has ∙ rw (read, ← end) refl
