-- Numbers that stand right in so many places.
use Rattle.std.proofs.Common.{◌≡◌, ◌≢◌, ℕ, zero, suc, ◌<◌, [], ◌∷◌, replicate, refl, ap, arith, ne_eqb}
use Rattle.std.proofs.lemmas.List.{append-nil}
use Rattle.std.proofs.Math.Nat.{sub-zero, sub_self}
use Rattle.std.specs.List.{repeat}
use Rattle.std.specs.Fmt.{styled_decimal, format_spec, padded_integral, char_count}
use lib.Utf8.{encode}
use Rattle.rc_edge.specs.Written.{placed}

-- a list of one element, so many times
repeat_one : (n x : ℕ) → repeat n (x ∷ []) ≡ replicate n x
repeat_one zero x = refl
repeat_one (suc n) x = ap (λ xs. x ∷ xs) (repeat_one n x)

-- what a hole such as `{n:>8}` writes is the number right in so many places
pub styled_decimal-placed : (places n : ℕ) → 0 < places
    → styled_decimal (format_spec 32 3 0 places 18446744073709551615) n ≡ placed places n
unfolding padded_integral char_count encode
styled_decimal-placed places n some =
    let positive : places ≢ 0 = λ e. omega arith in
    rw (ne_eqb places 0 positive) (simp (sub-zero, sub_self, append-nil, repeat_one))
