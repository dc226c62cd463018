use Rattle.std.proofs.Common.{◌≡◌, ◌↔◌, ℕ, ◌-◌, List, length, take, drop, map, ap, ◌∙◌, subst, arith, length-drop, Bool}
use Rattle.std.specs.Bool.{IsTrue}
use Rattle.std.specs.Char.{to_ascii_lowercase}
use Rattle.std.proofs.lemmas.Bool.Decides.{same_from_decides}
use Rattle.std.proofs.lemmas.Slice.Eq.{bytes_eq-Decides}
use Rattle.std.proofs.lemmas.List.{take_all}
use Rattle.rcpsp_words.specs.Values.Format.{ends_in}
use Rattle.rcpsp_words.proofs.values.format.ends_in.Goals as goal

-- a test of the last letters of a name tells whether it ends in them
ends_in-is : (test : Bool) (name ending last : List ℕ)
    → last ≡ drop (length name - length ending) name
    → (IsTrue test ↔ (map to_ascii_lowercase last ≡ map to_ascii_lowercase ending))
    → test ≡ ends_in name ending
ends_in-is test name ending last is tells =
    let lower = map to_ascii_lowercase in
    same_from_decides test (ends_in name ending)
    (subst (λ xs. IsTrue test ↔ (map to_ascii_lowercase xs ≡ map to_ascii_lowercase ending)) is
    tells)
    (bytes_eq-Decides _ _)

pub returns : goal.returns
returns c =
    let name = c.as_bytes-name.result.now in
    let from = c.saturating_sub-from.result in
    let rest : take (length name - from) (drop from name) ≡ drop from name
    = take_all _ _ (omega (arith, length-drop from name)) in
    let ending = c.args.ending.now in
    let last = rest ∙ ap (λ (i : ℕ). drop i name) c.saturating_sub-from.ensures
    ∙ ap (λ (xs : List ℕ). drop (length xs - length ending) xs) c.as_bytes-name.ensures.value in
    ends_in-is _ c.args.name.now ending _ last
    (subst (λ (xs : List ℕ). IsTrue c.eq_ignore_ascii_case.result
    ↔ (map to_ascii_lowercase (take (length name - from) (drop from name)) ≡ map
    to_ascii_lowercase xs))
    c.as_bytes.ensures.value c.eq_ignore_ascii_case.ensures.test)
