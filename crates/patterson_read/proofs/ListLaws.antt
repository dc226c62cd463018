-- A list file, read as a loop does, and the kinds of its faults.
use Rattle.std.proofs.Common.{◌≡◌, ◌⊎◌, ◌↔◌, inl, inr, ℕ, ◌+◌, Bool, false, IsTrue, List, [], ◌∷◌, ◌++◌, length, Result, Ok, Err, refl, sym, subst, ap, ◌∙◌, arith}
use Rattle.std.proofs.lemmas.List.{append-nil, append_assoc}
use Rattle.rc_edge.specs.declared.text_number.Number.{Number}
use Rattle.rc_edge.specs.declared.number.NumberFault.{NumberFault}
use Rattle.rc_edge.specs.declared.number.NumberFault.TheVariants as numbers
use Rattle.rc_edge.specs.declared.text_fault.TextFault.{TextFault}
use Rattle.rc_edge.specs.declared.text_fault.TextKind.{TextKind}
use Rattle.rc_edge.specs.Numbers.{number_of}
use Rattle.rc_edge.specs.Tokens.{Token, tokens_of}
use Rattle.rc_edge.specs.Grammar as grammar
use Rattle.rc_edge.specs.Grammar.{◌>>=◌, number_in, out_of_memory}
use Rattle.rc_edge.proofs.GrammarLaws.{bind_ok, ok_is}
use Rattle.rc_edge.proofs.FaultLaws.{EachFault, EachFault-ok, EachFault-err, EachFault-bind}
use Rattle.patterson_read.specs.Left.{Left, number_due}
use Rattle.patterson_read.specs.ListFile.{numbers_in, read_list, IsListKind}

-- the numbers found, and those that are left
abbrev pub after : List ℕ → Result (List ℕ) TextFault → Result (List ℕ) TextFault
after found (Ok left) = Ok (found ++ left)
after found (Err fault) = Err fault

-- before the first number
pub list_begins : (bytes : List ℕ) → after [] (numbers_in (tokens_of bytes)) ≡ read_list bytes
unfolding read_list
list_begins bytes = none_found (numbers_in (tokens_of bytes))
  where
    none_found : (left : Result (List ℕ) TextFault) → after [] left ≡ left
    none_found (Ok left) = refl
    none_found (Err fault) = refl

-- after a number the tokens after its own are left
rest_is : (token : Token) (rest : List Token) (value : Result ℕ NumberFault)
    (number : Number × List Token) → number_in token rest value ≡ Ok number → number.1 ≡ rest
rest_is token rest (Ok value) number read =
    sym (ap (λ (x : Number × List Token). x.1) (ok_is _ number read))
rest_is token rest (Err numbers.NotANumber) number read = absurd cc
rest_is token rest (Err numbers.NumberTooLarge) number read = absurd cc

-- what a loop keeps once a number was read of these tokens, and the tokens `rest` are left
abbrev GoesOn : List Token → List ℕ → Result (List ℕ) TextFault → ℕ → List Token → Type 0
GoesOn tokens found total value rest =
    (after (found ++ value ∷ []) (numbers_in rest) ≡ total)
    × (length tokens ≡ length rest + 1)

token_read : (size : ℕ) (tokens : List Token) (found : List ℕ) (number : Number × List Token)
    (total : Result (List ℕ) TextFault) → (tokens ≡ [] → ⊥)
    → grammar.number_due size tokens ≡ Ok number → after found (numbers_in tokens) ≡ total
    → GoesOn tokens found total number.0.value number.1
unfolding grammar.number_due numbers_in
token_read size [] found number total some read so_far = absurd (some refl)
token_read size (token ∷ rest) found number total some read so_far =
    let value = number.0.value in
    let left = rest_is token rest (number_of token.text) number read in
    subst (GoesOn (token ∷ rest) found total value) (sym left)
    (joined value (numbers_in rest) ∙ (rw read at so_far), omega arith)
  where
    joined : (value : ℕ) (left : Result (List ℕ) TextFault)
        → after (found ++ value ∷ []) left
        ≡ after found (left >>= λ others. Ok (value ∷ others))
    joined value (Ok left) = ap Ok (append_assoc found (value ∷ []) left)
    joined value (Err fault) = refl

-- one number was read, and the loop goes on, with a token less
pub list_goes_on : (left : Left) (found : List ℕ) (number : Number) (rest : Left)
    (total : Result (List ℕ) TextFault) → (left.tokens ≡ [] → ⊥)
    → number_due left ≡ Ok (number, rest) → after found (numbers_in left.tokens) ≡ total
    → GoesOn left.tokens found total number.value rest.tokens
unfolding number_due
list_goes_on left found number rest total some read so_far =
    let first = bind_ok (grammar.number_due left.size left.tokens) _ (number, rest) read in
    subst (λ (x : Number × Left). GoesOn left.tokens found total x.0.value x.1.tokens)
    (ok_is _ (number, rest) first.2)
    (token_read left.size left.tokens found first.0 total some first.1 so_far)

-- a token was refused, and so is the list
token_fails : (size : ℕ) (tokens : List Token) (found : List ℕ) (fault : TextFault)
    (total : Result (List ℕ) TextFault) → (tokens ≡ [] → ⊥)
    → grammar.number_due size tokens ≡ Err fault → after found (numbers_in tokens) ≡ total
    → total ≡ Err fault
unfolding grammar.number_due numbers_in
token_fails size [] found fault total some refused so_far = absurd (some refl)
token_fails size (token ∷ rest) found fault total some refused so_far =
    sym (rw refused at so_far)

-- a number, and what is left of a text after it
abbrev with_tokens : Left → Number × List Token → Result (Number × Left) TextFault
with_tokens left number = Ok (number.0, record left { tokens = number.1 })

pub list_fails : (left : Left) (found : List ℕ) (fault : TextFault)
    (total : Result (List ℕ) TextFault) → (left.tokens ≡ [] → ⊥)
    → number_due left ≡ Err fault → after found (numbers_in left.tokens) ≡ total
    → total ≡ Err fault
unfolding number_due
list_fails left found fault total some refused so_far =
    let due = grammar.number_due left.size left.tokens in
    token_fails left.size left.tokens found fault total some (by_number due refused) so_far
  where
    by_number : (due : Result (Number × List Token) TextFault)
        → (due >>= with_tokens left) ≡ Err fault
        → due ≡ Err fault
    by_number (Ok number) refused = absurd cc
    by_number (Err fault) refused = cc

-- all numbers were read
pub list_ends : (found : List ℕ) (tokens : List Token) (total : Result (List ℕ) TextFault)
    → tokens ≡ [] → after found (numbers_in tokens) ≡ total → total ≡ Ok found
unfolding numbers_in
list_ends found tokens total end so_far =
    let all = rw end at so_far in
    sym all ∙ ap Ok (append-nil found)

-- the faults of a list file
abbrev IsFault : TextFault → Type 0
IsFault fault = IsListKind fault.kind

-- those of one token
token_faults : (token : Token) (rest : List Token) (number : Result ℕ NumberFault)
    → EachFault IsFault (number_in token rest number)
token_faults token rest (Ok value) = EachFault-ok IsFault _
token_faults token rest (Err numbers.NotANumber) = EachFault-err IsFault _ tt
token_faults token rest (Err numbers.NumberTooLarge) = EachFault-err IsFault _ tt

list_faults : (tokens : List Token) → EachFault IsFault (numbers_in tokens)
unfolding numbers_in
list_faults [] = EachFault-ok IsFault []
list_faults (token ∷ rest) =
    EachFault-bind IsFault _ _ (token_faults token rest (number_of token.text)) (λ number.
    EachFault-bind IsFault _ _ (list_faults rest) (λ others. EachFault-ok IsFault _))

-- a fault of a list file, or want of memory, is of one of these kinds
pub list_kind_is : (bytes : List ℕ) (fault : TextFault)
    → (read_list bytes ≡ Err fault) ⊎ (fault ≡ out_of_memory) → IsListKind fault.kind
unfolding read_list
list_kind_is bytes fault (inl read) = list_faults (tokens_of bytes) fault read
list_kind_is bytes fault (inr memory) =
    subst (λ (kind : TextKind). IsListKind kind)
    (sym (ap (λ (f : TextFault). f.kind) memory)) tt

-- a loop goes on where no end was seen
pub not_at_end : (P : Type 0) (test : Bool) → (IsTrue test ↔ P) → test ≡ false → P → ⊥
not_at_end P test is goes_on p = let seen = is.1 p in cc
