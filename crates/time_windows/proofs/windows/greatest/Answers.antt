use Rattle.std.proofs.Common.{◌≡◌, ℕ, max, ap, arith, rules}
use Rattle.std.specs.List.{fold}
use Rattle.std.proofs.lemmas.List.{map-id}
use Rattle.rc_instance.specs.Lists.{greatest}
use Rattle.rc_instance.proofs.LimitLaws.{fold_max-is}
use Rattle.time_windows.proofs.windows.greatest.Goals as goal

pub returns : goal.returns
returns c =
    let folded : c.fold.result ≡ fold (λ a x. max a x) 0 c.args.times.now = search rules in
    omega (
      arith,
      fold_max-is (λ (x : ℕ). x) 0 c.args.times.now,
      ap greatest (map-id c.args.times.now),
    )
