-- How the successors of a listed activity are released.
use Rattle.std.proofs.Common.{◌≡◌, ◌≢◌, ℕ, ◌+◌, ◌-◌, ◌<◌, ◌≤◌, List, [], ◌∷◌, ◌++◌, length, take, get_or, set, sym, ◌∙◌, subst, append_assoc, arith, length-append}
use Rattle.std.specs.List.{All}
use Rattle.std.specs.List.Sorted.{IsPermutation}
use Rattle.std.proofs.lemmas.List.{length-set, length-take-le}
use Rattle.std.proofs.lemmas.List.Sorted.{IsPermutation-append_right}
use Rattle.rc_instance.specs.Lists.{IsUpTo}
use Rattle.rc_instance.specs.Calendar.{AreSuccessors}
use Rattle.activity_net.specs.Tables.{IsReleased}
use Rattle.activity_net.proofs.TableLaws.{IsReleased-more, still_waits}
use Rattle.priority_rules.specs.Choosing.{AreFree, IsPile}
use Rattle.priority_rules.proofs.FreeLaws.{AreFree-waits, AreFree-push, AreFree-permutation, length-free-lt}
use Rattle.priority_rules.proofs.PileLaws.{all_behind}

-- with some listed ones, the first of a pile are all that wait for nothing
abbrev pub StayFree : List ℕ → List ℕ → ℕ → Type 0
StayFree waiting pile free =
    (listed : List ℕ) × AreFree (length waiting) waiting (listed ++ take free pile)

-- what the tables keep while the first successors are released
pub record IsReleasing (successors keys before waiting piled pile : List ℕ) (first free : ℕ) : Type 0 where
  pub long : (length waiting ≡ length before) × (length pile ≡ length before)
  pub released : IsReleased successors before waiting
  pub within : free ≤ length pile
  pub are_free : (listed : List ℕ) → AreFree (length before) before (listed ++ take first piled)
      → AreFree (length before) waiting (listed ++ take free pile)
  pub falling : IsPile keys pile free

-- an activity that is to be released waits, so there is room for one more free one
pub releasing_room : (xs keys before waiting piled pile : List ℕ) (first free i : ℕ)
    → AreSuccessors (length before) xs
    → All (λ b. 0 < get_or before (b - 1) 0) xs → i < length xs → StayFree before piled first
    → IsReleasing (take i xs) keys before waiting piled pile first free → free < length pile
releasing_room xs keys before waiting piled pile first free i are some within free_at_first releasing =
    let x = get_or xs i 0 in
    let waits = still_waits xs before waiting i are within some releasing.released in
    let listed = free_at_first.0 in
    let room = length-free-lt (length before) waiting (listed ++ take free pile) x
    (releasing.are_free listed free_at_first.1) (are.within i 0 within) waits in
    omega (
      arith,
      length-append listed (take free pile),
      length-take-le free pile releasing.within,
      releasing.long.1,
    )

-- the piled ones are numbers of activities
pub releasing_numbers : (xs keys before waiting piled pile : List ℕ) (first free : ℕ)
    → StayFree before piled first → length keys ≡ length before
    → IsReleasing xs keys before waiting piled pile first free
    → All (IsUpTo (length keys)) (take free pile)
releasing_numbers xs keys before waiting piled pile first free free_at_first long releasing =
    subst (λ n. All (IsUpTo n) (take free pile)) (sym long)
    (all_behind (IsUpTo (length before)) free_at_first.0 (take free pile)
    (releasing.are_free free_at_first.0 free_at_first.1).within)

-- a released activity that waits on
pub releasing_waits : (xs keys before waiting piled pile : List ℕ) (first free i v : ℕ)
    → AreSuccessors (length before) xs
    → All (λ b. 0 < get_or before (b - 1) 0) xs → i < length xs
    → IsReleasing (take i xs) keys before waiting piled pile first free
    → v ≡ get_or waiting (get_or xs i 0 - 1) 0 - 1 → v ≢ 0
    → IsReleasing (take (i + 1) xs) keys before (set waiting (get_or xs i 0 - 1) v) piled pile first
    free
releasing_waits xs keys before waiting piled pile first free i v are some within releasing less more =
    let x = get_or xs i 0 in
    let is = are.within i 0 within in
    let waits = still_waits xs before waiting i are within some releasing.released in
    let long = releasing.long in
    record {
      long = (length-set waiting (x - 1) v ∙ long.0, long.1);
      released = subst (λ (w : ℕ). IsReleased (take (i + 1) xs) before (set waiting (x - 1) w))
          (sym less)
          (IsReleased-more xs before waiting i are within long.0 waits releasing.released);
      within = releasing.within;
      are_free = λ listed free_at_first. AreFree-waits (length before) waiting
          (listed ++ take free pile) x v (releasing.are_free listed free_at_first) is
          (omega (arith, is.1, long.0)) waits more;
      falling = releasing.falling;
    }

-- a released activity that waits for nothing any more is added to the pile
pub releasing_frees : (xs keys before waiting piled pile pile' : List ℕ) (first free i v : ℕ)
    → AreSuccessors (length before) xs
    → All (λ b. 0 < get_or before (b - 1) 0) xs → i < length xs
    → IsReleasing (take i xs) keys before waiting piled pile first free
    → v ≡ get_or waiting (get_or xs i 0 - 1) 0 - 1 → v ≡ 0 → free < length pile
    → length pile' ≡ length pile
    → IsPermutation (take free pile ++ get_or xs i 0 ∷ []) (take (free + 1) pile')
    → IsPile keys pile' (free + 1)
    → IsReleasing (take (i + 1) xs) keys before (set waiting (get_or xs i 0 - 1) v) piled pile' first
    (free + 1)
releasing_frees xs keys before waiting piled pile pile' first free i v are some within releasing less
    none room same added falling =
    let x = get_or xs i 0 in
    let is = are.within i 0 within in
    let waits = still_waits xs before waiting i are within some releasing.released in
    let long = releasing.long in
    record {
      long = (length-set waiting (x - 1) v ∙ long.0, same ∙ long.1);
      released = subst (λ (w : ℕ). IsReleased (take (i + 1) xs) before (set waiting (x - 1) w))
          (sym less)
          (IsReleased-more xs before waiting i are within long.0 waits releasing.released);
      within = omega arith;
      are_free = λ listed free_at_first.
          AreFree-permutation (length before) (set waiting (x - 1) v)
          (listed ++ (take free pile ++ x ∷ [])) (listed ++ take (free + 1) pile')
          (IsPermutation-append_right listed (take free pile ++ x ∷ []) (take (free + 1) pile') added)
          (subst (AreFree (length before) (set waiting (x - 1) v))
          (append_assoc listed (take free pile) (x ∷ []))
          (AreFree-push (length before) waiting (listed ++ take free pile) x v
          (releasing.are_free listed free_at_first) is (omega (arith, is.1, long.0)) waits none));
      falling = falling;
    }
