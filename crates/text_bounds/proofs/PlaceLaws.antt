-- Where tokens begin.
use Rattle.std.proofs.Common.{inl, inr, ℕ, suc, ◌+◌, ◌<◌, Bool, true, false, List, [], ◌∷◌, length, sym, subst, arith, All}
use Rattle.std.specs.Prelude.{if◌then◌else◌}
use Rattle.std.specs.List.{before_first}
use Rattle.std.proofs.lemmas.Bool.{cases_Bool, cond-true, cond-false}
use Rattle.std.proofs.lemmas.List.Elements.{All-nil, All-cons, All-weaker}
use Rattle.rc_edge.specs.Tokens.{is_white, Token, tokens_from}

-- tokens begin among their bytes
pub tokens_within : (inside : Bool) (at : ℕ) (bytes : List ℕ)
    → All (λ token. token.at < at + length bytes) (tokens_from inside at bytes)
unfolding tokens_from
tokens_within inside at [] = All-nil (λ (token : Token). token.at < at + length {A = ℕ} [])
tokens_within inside at (byte ∷ rest) =
    let others = tokens_from true (suc at) rest in
    let first : Token = record { text = before_first is_white (byte ∷ rest); at = at } in
    let white_rest = tokens_from false (suc at) rest in
    let black_rest = if inside then others else first ∷ others in
    let AreWithin : List Token → Type 0 =
    λ tokens. All (λ token. token.at < at + length (byte ∷ rest)) tokens in
    elim (cases_Bool (is_white byte)) [
      | inl white ↦
          subst AreWithin (sym (cond-true (is_white byte) white_rest black_rest white))
          (wider false (tokens_within false (suc at) rest))
      | inr black ↦
          subst AreWithin (sym (cond-false (is_white byte) white_rest black_rest black))
          (by_place inside (wider true (tokens_within true (suc at) rest)))
    ]
  where
    wider : (inside : Bool)
        → All (λ token. token.at < suc at + length rest) (tokens_from inside (suc at) rest)
        → All (λ token. token.at < at + length (byte ∷ rest)) (tokens_from inside (suc at) rest)
    wider inside all =
        All-weaker (λ (t : Token). t.at < suc at + length rest)
        (λ (t : Token). t.at < at + length (byte ∷ rest)) (λ t below. omega (arith, below))
        (tokens_from inside (suc at) rest) all

    by_place : (inside : Bool)
        → All (λ token. token.at < at + length (byte ∷ rest)) (tokens_from true (suc at) rest)
        → All (λ token. token.at < at + length (byte ∷ rest))
        (if inside then tokens_from true (suc at) rest
        else record { text = before_first is_white (byte ∷ rest); at = at }
        ∷ tokens_from true (suc at) rest)
    by_place true all = all
    by_place false all =
        All-cons (λ (t : Token). t.at < at + length (byte ∷ rest))
        (record { text = before_first is_white (byte ∷ rest); at = at })
        (tokens_from true (suc at) rest) (omega arith) all
