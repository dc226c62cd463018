-- Things of a text, read one after the other as a loop does.
use Rattle.std.proofs.Common.{◌≡◌, ◌⊎◌, inl, inr, ℕ, zero, suc, ◌-◌, ◌+◌, ◌≤◌, ◌<◌, List, [], ◌∷◌, ◌++◌, length, Result, Ok, Err, refl, sym, subst, ◌∙◌, arith}
use Rattle.std.proofs.lemmas.List.{length_push}
use Rattle.rc_edge.specs.declared.text_fault.TextFault.{TextFault}
use Rattle.rc_edge.specs.Grammar.{◌>>=◌, more, out_of_memory}

-- a reader of one thing from what is left of a text, which sees those before it
abbrev pub Reader : Type 0 → Type 0 → Type 0
Reader Left X = List X → Left → Result (X × Left) TextFault

-- one thing was read, and the loop goes on
pub goes_on : {X Left : Type 0} (one : Reader Left X) (count i : ℕ) (found : List X) (tokens : Left) (x : X) (rest : Left) (total : Result (List X × Left) TextFault)
    → i < count → one found tokens ≡ Ok (x, rest) → more one (count - i) found tokens ≡ total
    → more one (count - (i + 1)) (found ++ x ∷ []) rest ≡ total
unfolding more
goes_on one count i found tokens x rest total left read so_far =
    let next : count - i ≡ suc (count - (i + 1)) = omega arith in
    let step : more one (count - i) found tokens ≡ more one (count - (i + 1)) (found ++ x ∷ []) rest = rw (next, read) refl in
    sym step ∙ so_far

-- one thing was refused, and so are all
pub fails : {X Left : Type 0} (one : Reader Left X) (count i : ℕ) (found : List X) (tokens : Left) (fault : TextFault) (total : Result (List X × Left) TextFault)
    → i < count → more one (count - i) found tokens ≡ total → one found tokens ≡ Err fault → total ≡ Err fault
unfolding more
fails one count i found tokens fault total left so_far refused =
    let next : count - i ≡ suc (count - (i + 1)) = omega arith in
    let step : more one (count - i) found tokens ≡ Err fault = rw (next, refused) refl in
    sym so_far ∙ step

-- all things were read
pub ends : {X Left : Type 0} (one : Reader Left X) (count i : ℕ) (found : List X) (tokens : Left) (total : Result (List X × Left) TextFault)
    → count ≤ i → more one (count - i) found tokens ≡ total → total ≡ Ok (found, tokens)
unfolding more
ends one count i found tokens total end so_far =
    let none : count - i ≡ 0 = omega arith in
    let step : more one (count - i) found tokens ≡ Ok (found, tokens) = rw none refl in
    sym so_far ∙ step

-- what refuses a step of a loop refuses the loop, as far as memory lasts
pub refused-more : {X Left : Type 0} (one : Reader Left X) (count i : ℕ) (found : List X) (tokens : Left) (fault : TextFault) (total : Result (List X × Left) TextFault)
    → i < count → more one (count - i) found tokens ≡ total → (one found tokens ≡ Err fault) ⊎ (fault ≡ out_of_memory)
    → (total ≡ Err fault) ⊎ (fault ≡ out_of_memory)
refused-more one count i found tokens fault total left so_far (inl refused) = inl (fails one count i found tokens fault total left so_far refused)
refused-more one count i found tokens fault total left so_far (inr memory) = inr memory

-- the value of a step that was not refused
pub bind_ok : {A B : Type 0} (read : Result A TextFault) (f : A → Result B TextFault) (y : B) → (read >>= f) ≡ Ok y
    → (x : A) × (read ≡ Ok x) × (f x ≡ Ok y)
bind_ok (Ok x) f y e = (x, refl, e)
bind_ok (Err fault) f y e = absurd cc

abbrev done : {A : Type 0} → A → Result A TextFault
done x = Ok x

pub ok_is : {A : Type 0} (x y : A) → done x ≡ done y → x ≡ y
ok_is x y e = cc

-- a property of what was read that each thing keeps holds of all
pub more_keeps : {X Left : Type 0} (P : List X → Type 0) (one : Reader Left X)
    → ((found : List X) (tokens : Left) (x : X) (rest : Left) → P found → one found tokens ≡ Ok (x, rest) → P (found ++ x ∷ []))
    → (count : ℕ) (found : List X) (tokens : Left) (all : List X × Left) → P found → more one count found tokens ≡ Ok all → P all.0
unfolding more
more_keeps {X = X} {Left = Left} P one keeps zero found tokens all holds read =
    subst (λ (x : List X × Left). P x.0) (ok_is (found, tokens) all read) holds
more_keeps {X = X} {Left = Left} P one keeps (suc count) found tokens all holds read =
    let first = bind_ok (one found tokens) (λ next. more one count (found ++ next.0 ∷ []) next.1) all read in
    more_keeps P one keeps count (found ++ first.0.0 ∷ []) first.0.1 all (keeps found tokens first.0.0 first.0.1 holds first.1) first.2

-- so many things were read
pub more-length : {X Left : Type 0} (one : Reader Left X) (count : ℕ) (found : List X) (tokens : Left) (all : List X × Left)
    → more one count found tokens ≡ Ok all → length all.0 ≡ length found + count
unfolding more
more-length {X = X} {Left = Left} one zero found tokens all read =
    subst (λ (x : List X × Left). length x.0 ≡ length found + 0) (ok_is (found, tokens) all read) (omega arith)
more-length {X = X} {Left = Left} one (suc count) found tokens all read =
    let first = bind_ok (one found tokens) (λ next. more one count (found ++ next.0 ∷ []) next.1) all read in
    let others = more-length one count (found ++ first.0.0 ∷ []) first.0.1 all first.2 in
    omega (arith, others, length_push found first.0.0)
