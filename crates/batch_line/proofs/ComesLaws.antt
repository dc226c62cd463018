-- What comes of the files of a batch, by what comes of their fetches.
use Rattle.std.proofs.Common.{◌≡◌, ℕ, List, length, map, Option, None, Some, IfSome, Result, Ok, Err, refl, ap, subst}
use Rattle.std.specs.declared.vec.Vec.{Vec}
use Rattle.std.specs.declared.alloc.Global.{Global}
use Rattle.rc_edge.specs.Faults.{counted_on}
use Rattle.rc_instance.specs.Results.{◌>>=◌}
use Rattle.rcpsp_run.specs.declared.refusal.Refusal.{Refusal}
use Rattle.rcpsp_run.specs.declared.refusal.Refusal.TheVariants.{Words, CannotRead, TooLarge, BadText, BadPlan, Cycle, BadList, Misfit, Memory}
use Rattle.rcpsp_run.specs.Causes.{FilesAt, FetchesAtMost, HasCause, Explains, Comes}
use Rattle.rcpsp_run.specs.Outcome.{contents}
use Rattle.rcpsp_run.proofs.FetchCounts.{fetches-none}
use Rattle.rcpsp_run.proofs.RunLaws.{IfSome-implied}
use Rattle.batch_line.specs.Batch.{batch_outcome}
use Rattle.batch_line.specs.Runs.{IsJoinedOf, joined_view}
use Rattle.batch_line.specs.declared.joined.Joined.{Joined as Made}

-- the texts that were fetched
abbrev pub texts_in : Vec (Vec ℕ Global) Global → List (List ℕ)
texts_in texts = map (λ text. text.items) texts.items

-- a refusal of the first step is one of both
explains_later : {X Y : Type 0} (refusal : Refusal) (given : Result X Refusal)
    (next : X → Result Y Refusal) → Explains refusal given → Explains refusal (given >>= next)
explains_later Words given next is = ap (λ g. g >>= next) is
explains_later (CannotRead name) given next is = tt
explains_later (TooLarge name) given next is = ap (λ g. g >>= next) is
explains_later (BadText name fault) given next is = ap (λ g. g >>= next) is
explains_later (BadPlan name fault) given next is = ap (λ g. g >>= next) is
explains_later (Cycle ring) given next is = ap (λ g. g >>= next) is
explains_later (BadList fault) given next is = ap (λ g. g >>= next) is
explains_later (Misfit misfit) given next is = ap (λ g. g >>= next) is
explains_later Memory given next is = tt

-- anything that is told is so
told_any : {X : Type 0} (told : Option X) → IfSome told (λ _. Unit {0})
told_any None = tt
told_any (Some x) = tt

-- memory runs out before any fetch
pub comes_early : (names : List (List ℕ)) (now : FilesAt)
    → Comes joined_view names (λ pairs. batch_outcome pairs names) now now (Err Memory)
comes_early names now = record {
  told = refl;
  failing = refl;
  stand = tt;
  cause = tt;
  most = fetches-none (length names) now now refl;
  all = tt;
  gives = told_any now.told;
}

module _ (names others : List (List ℕ)) (same : others ≡ names) (before after : FilesAt) where
  -- the contents of the files
  abbrev Fetched : Result (Vec (Vec ℕ Global) Global) Refusal → Type 0
  Fetched result = Comes texts_in others (λ pairs. contents pairs others) before after result

  -- a file is refused
  pub comes_refused : (refusal : Refusal) → Fetched (Err refusal)
      → Comes joined_view names (λ pairs. batch_outcome pairs names) before after (Err refusal)
  comes_refused refusal fetched = record {
    told = fetched.told;
    failing = fetched.failing;
    stand = tt;
    cause = subst (λ (n : List (List ℕ)). HasCause n before after refusal) same fetched.cause;
    most = subst (λ (n : List (List ℕ)). FetchesAtMost (length n) before after) same fetched.most;
    all = tt;
    gives = IfSome-implied before.told (λ pairs. Explains refusal (contents pairs others))
        (λ pairs. Explains refusal (batch_outcome pairs names))
        (λ pairs is. explains_later refusal (contents pairs names) _
        (subst (λ (n : List (List ℕ)). Explains refusal (contents pairs n)) same is)) fetched.gives;
  }

  -- all were fetched, and then memory ran out
  pub comes_short : (texts : Vec (Vec ℕ Global) Global) → Fetched (Ok texts)
      → Comes joined_view names (λ pairs. batch_outcome pairs names) before after (Err Memory)
  comes_short texts fetched = record {
    told = fetched.told;
    failing = fetched.failing;
    stand = tt;
    cause = tt;
    most = subst (λ (n : List (List ℕ)). FetchesAtMost (length n) before after) same fetched.most;
    all = tt;
    gives = told_any before.told;
  }

  -- all were fetched, scheduled and joined
  pub comes_joined : (texts : Vec (Vec ℕ Global) Global) (joined : Made) → Fetched (Ok texts)
      → IsJoinedOf names texts.items (joined_view joined)
      → Comes joined_view names (λ pairs. batch_outcome pairs names) before after (Ok joined)
  comes_joined texts joined fetched is = record {
    told = fetched.told;
    failing = fetched.failing;
    stand = fetched.stand;
    cause = tt;
    most = subst (λ (n : List (List ℕ)). FetchesAtMost (length n) before after) same fetched.most;
    all = subst (λ (n : List (List ℕ)). after.fetches ≡ counted_on before.fetches (length n)) same
        fetched.all;
    gives = IfSome-implied before.told (λ pairs. contents pairs others ≡ Ok (texts_in texts))
        (λ pairs. batch_outcome pairs names ≡ Ok (joined_view joined))
        (λ pairs all. is pairs
        (subst (λ (n : List (List ℕ)). contents pairs n ≡ Ok (texts_in texts)) same all))
        fetched.gives;
  }
