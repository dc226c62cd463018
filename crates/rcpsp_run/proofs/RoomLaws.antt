-- A note in memory that is empty, and has room for all its lines, takes them.
use Rattle.std.proofs.Common.{◌≡◌, inl, inr, ℕ, ◌+◌, ◌<◌, ◌≤◌, List, [], ◌∷◌, ◌++◌, length, take, Option, None, Some, IfSome, IsSome, arith, refl, sym, subst, ap, ◌∙◌}
use Rattle.std.proofs.lemmas.List.{length-append, length-take}
use Rattle.rc_edge.specs.Sink.{Gains, GainsPrefix}
use Rattle.worker_run.specs.Lines.{report_lines}
use Rattle.rcpsp_run.specs.declared.answer.LiveLines.{LiveLines}
use Rattle.rcpsp_run.specs.Live.{AreAsked, TakesAfter, HasRoomFor}
use Rattle.rcpsp_run.specs.Refusal.{write_line}
use Rattle.rcpsp_run.specs.Run.{LiveRose}
use Rattle.rcpsp_run.specs.Sinks.{SinkAt}

-- equal contents of two options
pub some_same : {X : Type 0} (x y : X) → Some x ≡ Some y → x ≡ y
some_same x y same = cc

-- nothing is not something
none-is_not_some : IsSome {T = ℕ} None → ⊥
none-is_not_some some = absurd cc

-- what a sink gains that has taken these bytes
gained-by : (old new : Option (List ℕ)) (held held' text : List ℕ) → old ≡ Some held
    → new ≡ Some held' → Gains old new text → held' ≡ held ++ text
gained-by old new held held' text was is gains =
    let gained = subst (λ (o : Option (List ℕ)). IfSome o (λ h. new ≡ Some (h ++ text))) was gains in
    some_same held' (held ++ text) (sym is ∙ gained)

-- a prefix of a text is no longer than it
pub gained-few : (old new : Option (List ℕ)) (held held' text : List ℕ) → old ≡ Some held
    → new ≡ Some held' → GainsPrefix old new text → length held' ≤ length held + length text
gained-few old new held held' text was is part =
    let same = gained-by old new held held' (take part.0 text) was is part.2 in
    omega (arith, ap length same, length-append held (take part.0 text), length-take part.0 text)

-- what is taken whole is told
told-whole : (old new : Option (List ℕ)) (held text : List ℕ) → old ≡ Some held
    → Gains old new text → new ≡ Some (held ++ text)
told-whole old new held text was gains =
    subst (λ (o : Option (List ℕ)). IfSome o (λ h. new ≡ Some (h ++ text))) was gains

-- no put of its lines, and of the line after them, can fail
pub room-keeps : (asked : Option ℕ) (lines : Option LiveLines) (before after : SinkAt)
    (held' : List ℕ) (room : ℕ) → LiveRose asked before after → AreAsked asked lines
    → HasRoomFor lines room → TakesAfter lines before after write_line
    → before.held ≡ Some [] → after.held ≡ Some held'
    → (0 < after.faults → length held' ≡ room) → ⊥
room-keeps asked None before after held' room live same fits takes old new full =
    none-is_not_some (subst (λ (o : Option ℕ). IsSome o) (sym same) live.0)
room-keeps asked (Some lines) before after held' room live same fits (inl takes) old new full =
    let text = report_lines lines.positions (takes.counts ++ lines.positions ∷ []) in
    let few = gained-few before.held after.held [] held' text old new (takes.taken.part refl).1 in
    let more = fits takes.counts takes.rising in
    let risen : 0 < after.faults = omega (arith, live.1) in
    absurd (omega (arith, few, more, full risen))
room-keeps asked (Some lines) before after held' room live same fits (inr told) old new full =
    let mid = told.0 in
    let takes = told.1 in
    let text = report_lines lines.positions (takes.counts ++ lines.positions ∷ []) in
    let whole = told-whole before.held mid.held [] text old (takes.taken.whole refl).1 in
    let few = gained-few mid.held after.held text held' write_line whole new told.2.part in
    let more = fits takes.counts takes.rising in
    let risen : 0 < after.faults = omega (arith, live.1) in
    absurd (omega (arith, few, more, full risen))
