-- The kinds of faults that the `.rcp` format has.
use Rattle.std.proofs.Common.{◌≡◌, ◌⊎◌, inl, inr, ℕ, ◌+◌, List, [], ◌∷◌, length, Ok, Err, subst, sym, ap}
use Rattle.std.specs.List.{sum_by}
use Rattle.rc_edge.specs.declared.text_fault.TextFault.{TextFault}
use Rattle.rc_edge.specs.declared.text_fault.TextKind.{TextKind}
use Rattle.rc_edge.specs.declared.text_fault.TextKind.TheVariants.{NotANumber, NumberTooLarge, Trailing, Ended}
use Rattle.rc_edge.specs.Tokens.{Token}
use Rattle.rc_edge.specs.Grammar.{more, out_of_memory}
use Rattle.rc_edge.proofs.FaultLaws.{EachFault, EachFault-ok, EachFault-err, EachFault-bind, EachFault-more, EachFault-number_due, AllowsLimits, EachFault-activity_count, EachFault-resource_count}
use Rattle.rc_edge.proofs.SourceLaws.{EachFault-capacities, EachFault-demands, EachFault-duration_due, EachFault-successors}
use Rattle.patterson_read.specs.declared.head.Head.{Head}
use Rattle.patterson_read.specs.Left.{Left, whole, number_due, none_of, nothing}
use Rattle.patterson_read.specs.Rcp.{head_due, activity_due, next_activity, text_due, read_instance, project_of, IsKind}

-- P holds of each fault that a number can have
pub record AllowsNumbers (P : TextFault → Type 0) : Type 0 where
  pub ended : (at : ℕ) → P (record { kind = Ended; at = at })
  pub wrong : (at : ℕ) → P (record { kind = NotANumber; at = at })
  pub large : (at : ℕ) → P (record { kind = NumberTooLarge; at = at })

-- a number that is due has these faults alone
pub EachFault-number : (P : TextFault → Type 0) → AllowsNumbers P → (left : Left)
    → EachFault P (number_due left)
unfolding number_due
EachFault-number P numbers left =
    let due = EachFault-number_due P left.size left.tokens numbers.ended numbers.wrong
    numbers.large in
    EachFault-bind P _ _ due (λ number. EachFault-ok P _)

-- the end of a text has one
pub EachFault-nothing : (P : TextFault → Type 0)
    → ((at : ℕ) → P (record { kind = Trailing; at = at })) → (left : Left)
    → EachFault P (nothing left)
EachFault-nothing P trailing left = by_tokens left.tokens
  where
    by_tokens : (tokens : List Token) → EachFault P (none_of tokens)
    by_tokens [] = EachFault-ok P tt
    by_tokens (token ∷ rest) = EachFault-err P _ (trailing token.at)

-- the faults of a text of this format
abbrev IsFault : TextFault → Type 0
IsFault fault = IsKind fault.kind

number : (left : Left) → EachFault IsFault (number_due left)
number left =
    EachFault-number IsFault
    (record { ended = λ at. tt; wrong = λ at. tt; large = λ at. tt }) left

limits : AllowsLimits IsFault
limits fault at is = is

head_faults : (left : Left) → EachFault IsFault (head_due left)
unfolding head_due
head_faults left =
    EachFault-bind IsFault _ _ (number left) (λ first.
    EachFault-bind IsFault _ _ (EachFault-activity_count IsFault limits first.0) (λ activities.
    EachFault-bind IsFault _ _ (number first.1) (λ second.
    EachFault-bind IsFault _ _ (EachFault-resource_count IsFault limits second.0) (λ resources.
    EachFault-ok IsFault _))))

activity_faults : (head : Head) (place before : ℕ) (left : Left)
    → EachFault IsFault (activity_due head place before left)
unfolding activity_due
activity_faults head place before left =
    let n = head.activities in
    let duration = EachFault-duration_due IsFault number_due number limits before left in
    let demands = EachFault-demands IsFault number_due number head.resources in
    let successors = EachFault-successors IsFault number_due number limits n place in
    EachFault-bind IsFault _ _ duration (λ d.
    EachFault-bind IsFault _ _ (demands d.1) (λ ds.
    EachFault-bind IsFault _ _ (number ds.1) (λ count.
    EachFault-bind IsFault _ _ (successors count.0.value count.1) (λ bs. EachFault-ok IsFault _))))

activities_faults : (head : Head) (left : Left)
    → EachFault IsFault (more (next_activity head) head.activities [] left)
activities_faults head left =
    EachFault-more IsFault (next_activity head)
    (λ found rest. activity_faults head (length found + 1) (sum_by (λ a. a.duration) found) rest)
    head.activities [] left

text_faults : (left : Left) → EachFault IsFault (text_due left)
unfolding text_due
text_faults left =
    let capacities = EachFault-capacities IsFault number_due number limits in
    let end = EachFault-nothing IsFault (λ at. tt) in
    EachFault-bind IsFault _ _ (head_faults left) (λ head.
    EachFault-bind IsFault _ _ (capacities head.0.resources head.1) (λ cs.
    EachFault-bind IsFault _ _ (activities_faults head.0 cs.1) (λ activities.
    EachFault-bind IsFault _ _ (end activities.1) (λ end. EachFault-ok IsFault _))))

-- a fault of a text, or want of memory, is of one of these kinds
pub kind_is : (bytes : List ℕ) (fault : TextFault)
    → (read_instance bytes ≡ Err fault) ⊎ (fault ≡ out_of_memory) → IsKind fault.kind
unfolding read_instance
kind_is bytes fault (inl read) =
    EachFault-bind IsFault (text_due (whole bytes)) (λ text. Ok (project_of text))
    (text_faults (whole bytes)) (λ text. EachFault-ok IsFault (project_of text)) fault read
kind_is bytes fault (inr memory) =
    subst (λ (kind : TextKind). IsKind kind) (sym (ap (λ (f : TextFault). f.kind) memory)) tt
