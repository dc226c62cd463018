-- Gains one after the other.
use Rattle.std.proofs.Common.{◌≡◌, ◌∙◌, ap, subst, ℕ, ◌+◌, ◌-◌, arith}
use Rattle.std.proofs.Common.{Option, Some, None, IfSome}
use Rattle.std.proofs.Common.{List, ◌++◌, length, take, drop, append_assoc, length-drop}
use Rattle.std.proofs.lemmas.List.{take_all}
use Rattle.std.proofs.Math.Seq.{take-add}
use Rattle.rc_edge.specs.Sink.{Gains}

-- what gained these and then those has gained both
pub Gains-append : (old mid new : Option (List ℕ)) (xs ys : List ℕ) →
    Gains old mid xs → Gains mid new ys → Gains old new (xs ++ ys)
Gains-append None mid new xs ys first second = tt
Gains-append (Some held) mid new xs ys first second =
    let P : Option (List ℕ) → Type 0 = λ o. IfSome o (λ bytes. new ≡ Some (bytes ++ ys)) in
    let e : new ≡ Some ((held ++ xs) ++ ys) = subst P first second in
    e ∙ ap Some (append_assoc held xs ys)

-- a prefix gained, and then a prefix of what is left, is a longer prefix gained
pub Gains-take : (old mid new : Option (List ℕ)) (bytes : List ℕ) (done k : ℕ) →
    Gains old mid (take done bytes) →
    Gains mid new (take k (take (length bytes - done) (drop done bytes))) →
    Gains old new (take (done + k) bytes)
Gains-take old mid new bytes done k first second =
    let rest : take (length bytes - done) (drop done bytes) ≡ drop done bytes =
    take_all _ _ (omega (arith, length-drop done bytes)) in
    let P : List ℕ → Type 0 = λ piece. Gains mid new (take k piece) in
    let both = Gains-append old mid new _ (take k (drop done bytes)) first (subst P rest second) in
    rw (take-add done k bytes) both
