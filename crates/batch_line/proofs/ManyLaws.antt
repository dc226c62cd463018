-- What the words of the batch program give.
use Rattle.std.proofs.Common.{◌≡◌, ℕ, ◌<◌, ◌≤◌, true, List, [], ◌∷◌, length, Option, None, Some, unwrap_or, nat_le, All, subst, arith}
use Rattle.std.specs.Prelude.{◌&&◌, codes, if◌then◌else◌}
use Rattle.std.specs.List.{list_all}
use Rattle.std.specs.Cmp.{first_so, second_so}
use Rattle.std.proofs.lemmas.Bool.Decides.{nat_tests}
use Rattle.std.proofs.lemmas.Option.{cond_some}
use Rattle.std.proofs.lemmas.List.Elements.{All-nil, All-cons}
use Rattle.rcpsp_words.specs.Reading.{◌>>=◌}
use Rattle.rcpsp_words.specs.Part.{parts_after}
use Rattle.rcpsp_words.specs.Gathered.{Given, given_of, number_given}
use Rattle.rcpsp_words.specs.Many.{Many, is_plain_name, many_given, many_of}
use Rattle.batch_line.specs.Batch.{IsPlainName}

-- from 1 to 100 names, each of which can be scheduled alone, and from 1 to 64 workers
pub record IsMany (many : Many) : Type 0 where
  pub some : 0 < length many.names
  pub few : length many.names ≤ 100
  pub plain : All IsPlainName many.names
  pub worker : 0 < many.workers
  pub workers : many.workers ≤ 64

-- names that are all plain
plain_names : (names : List (List ℕ)) → list_all is_plain_name names ≡ true → All IsPlainName names
plain_names [] all = All-nil IsPlainName
plain_names (name ∷ names) all =
    All-cons IsPlainName name names
    (first_so (is_plain_name name) (list_all is_plain_name names) all)
    (plain_names names (second_so (is_plain_name name) (list_all is_plain_name names) all))

le_of : (a b : ℕ) → nat_le a b ≡ true → a ≤ b
le_of a b is = grind (arith, nat_tests)

-- what the test of the names and the workers says
tested : (names : List (List ℕ)) (workers : ℕ)
    → ((nat_le 1 workers && nat_le workers 64)
    && (nat_le 1 (length names) && nat_le (length names) 100)
    && list_all is_plain_name names) ≡ true
    → IsMany (record { names = names; workers = workers })
tested names workers all =
    let is_count = nat_le 1 workers && nat_le workers 64 in
    let is_many = nat_le 1 (length names) && nat_le (length names) 100 in
    let numbers = first_so (is_count && is_many) (list_all is_plain_name names) all in
    let count = first_so is_count is_many numbers in
    let many = second_so is_count is_many numbers in
    let least = first_so (nat_le 1 (length names)) (nat_le (length names) 100) many in
    let most = second_so (nat_le 1 (length names)) (nat_le (length names) 100) many in
    let plain = second_so (is_count && is_many) (list_all is_plain_name names) all in
    record {
      some = omega (arith, le_of 1 (length names) least);
      few = le_of (length names) 100 most;
      plain = plain_names names plain;
      worker = omega (
        arith,
        le_of 1 workers (first_so (nat_le 1 workers) (nat_le workers 64) count),
      );
      workers = le_of workers 64 (second_so (nat_le 1 workers) (nat_le workers 64) count);
    }

by_number : (given : Given) (many : Many) (said : Option (Option ℕ))
    → (said >>= (λ said. if (nat_le 1 (unwrap_or said 4) && nat_le (unwrap_or said 4) 64)
    && (nat_le 1 (length given.positional) && nat_le (length given.positional) 100)
    && list_all is_plain_name given.positional
    then Some (record { names = given.positional; workers = unwrap_or said 4 })
    else None)) ≡ Some many → IsMany many
by_number given many None is = absurd cc
by_number given many (Some said) is =
    let workers = unwrap_or said 4 in
    let made : Many = record { names = given.positional; workers = workers } in
    let both = cond_some ((nat_le 1 workers && nat_le workers 64)
    && (nat_le 1 (length given.positional) && nat_le (length given.positional) 100)
    && list_all is_plain_name given.positional) made many is in
    subst IsMany both.1 (tested given.positional workers both.0)

by_given : (many : Many) (given : Option Given) → (given >>= many_given) ≡ Some many → IsMany many
unfolding many_given
by_given many None is = absurd cc
by_given many (Some given) is = by_number given many (number_given given (codes "workers")) is

-- what the words say is so
pub many_within : (words : List (List ℕ)) (many : Many) → many_of words ≡ Some many → IsMany many
unfolding many_of
many_within words many is = by_given many (given_of (parts_after [] [] words)) is
