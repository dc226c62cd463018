-- What the readers of `Windows` read from its tables.
use Rattle.std.proofs.Common.{◌≡◌, ℕ, ◌+◌, ◌-◌, ◌≤◌, List, length, get_or, map, sym, ap, ◌∙◌, subst, arith}
use Rattle.std.proofs.lemmas.List.FromFn.{length-map-range_with_len, get_or-map-range_with_len}
use Rattle.rc_instance.specs.declared.limits.TheConstants.{MAX_DURATION_SUM}
use Rattle.rc_instance.specs.Lists.{greatest, numbers}
use Rattle.rc_instance.specs.Calendar.{IsWithinLimits}
use Rattle.rc_instance.specs.Order.{IsFeasibleList}
use Rattle.rc_instance.specs.Project.{Project, activity_count, IsActivity}
use Rattle.activity_net.specs.Network.{Network}
use Rattle.time_windows.specs.declared.windows.Windows.TheInside.{Inside}
use Rattle.time_windows.specs.CapacityBound.{capacity_bound_of}
use Rattle.time_windows.specs.Windows.{IsEarliest, IsTail, IsCritical, earliest_of, tail_of, critical_of, latest_of}
use Rattle.time_windows.specs.WindowsView.{AreWindows, KeepsWindows}
use Rattle.time_windows.proofs.BoundLaws.{capacity_bound-le-durations}
use Rattle.time_windows.proofs.LongestLaws.{critical_of-is}
use Rattle.time_windows.proofs.WindowLaws.{critical-le, windows_fit}

-- the fields are windows of what the net is seen as
pub kept : (inside : Inside) (network : Network) → inside.net.now ≡ network → KeepsWindows inside
    → AreWindows network inside.earliest.items inside.tails.items inside.critical
    inside.capacity_bound
kept inside network same keeps =
    subst (λ (seen : Network). AreWindows seen inside.earliest.items inside.tails.items
    inside.critical inside.capacity_bound) same keeps

-- the tables have a place for each activity
pub count_kept : (inside : Inside) (network : Network) → inside.net.now ≡ network
    → KeepsWindows inside
    → (length inside.earliest.items ≡ activity_count network.project)
    × (length inside.tails.items ≡ activity_count network.project)
count_kept inside network same keeps =
    let are = kept inside network same keeps in
    let n = activity_count network.project in (
      ap length are.earliest ∙ length-map-range_with_len (earliest_of network.project) 1 n,
      ap length are.tail ∙ length-map-range_with_len (tail_of network.project) 1 n,
    )

-- and at it the time of the activity
table_at : (f : ℕ → ℕ) (table : List ℕ) (n a x : ℕ) → table ≡ map f (numbers n)
    → 1 ≤ a → a ≤ n → x ≡ get_or table (a - 1) x → x ≡ f a
table_at f table n a x same from upto read =
    read ∙ (ap (λ xs. get_or xs (a - 1) x) same
    ∙ get_or-map-range_with_len f 1 n (a - 1) a x (omega arith) (omega arith))

-- what is read of earliest starts
pub record IsReadEarliest (project : Project) (a t : ℕ) : Type 0 where
  pub value : t ≡ earliest_of project a
  pub longest : IsEarliest project a t
  pub within : t ≤ MAX_DURATION_SUM

pub earliest_read : (inside : Inside) (network : Network) (a t : ℕ) → inside.net.now ≡ network
    → KeepsWindows inside → IsActivity network.project a
    → t ≡ get_or inside.earliest.items (a - 1) t → IsReadEarliest network.project a t
earliest_read inside network a t same keeps activity read =
    let are = kept inside network same keeps in
    let project = network.project in
    let value = table_at (earliest_of project) inside.earliest.items (activity_count project) a t
    are.earliest activity.0 activity.1 read in
    let fit = windows_fit project network.order a are.limits are.order activity in
    record {
      value = value;
      longest = subst (IsEarliest project a) (sym value) fit.earliest;
      within = omega (arith, fit.together, fit.within);
    }

-- what is read of tails
pub record IsReadTail (project : Project) (a t : ℕ) : Type 0 where
  pub value : t ≡ tail_of project a
  pub longest : IsTail project a t
  pub within : t ≤ MAX_DURATION_SUM

pub tail_read : (inside : Inside) (network : Network) (a t : ℕ) → inside.net.now ≡ network
    → KeepsWindows inside → IsActivity network.project a
    → t ≡ get_or inside.tails.items (a - 1) t → IsReadTail network.project a t
tail_read inside network a t same keeps activity read =
    let are = kept inside network same keeps in
    let project = network.project in
    let value = table_at (tail_of project) inside.tails.items (activity_count project) a t
    are.tail activity.0 activity.1 read in
    let fit = windows_fit project network.order a are.limits are.order activity in
    record {
      value = value;
      longest = subst (IsTail project a) (sym value) fit.tail;
      within = omega (arith, fit.together, fit.within);
    }

-- what is read of the critical length
pub record IsReadCritical (project : Project) (t : ℕ) : Type 0 where
  pub value : t ≡ critical_of project
  pub longest : IsCritical project t
  pub within : t ≤ MAX_DURATION_SUM

pub critical_read : (inside : Inside) (network : Network) → inside.net.now ≡ network
    → KeepsWindows inside → IsReadCritical network.project inside.critical
critical_read inside network same keeps =
    let are = kept inside network same keeps in
    let project = network.project in
    let critical = critical_of-is project network.order are.limits are.order in
    record {
      value = are.longest;
      longest = subst (IsCritical project) (sym are.longest) critical;
      within = omega (
        arith,
        are.longest,
        critical-le project network.order (critical_of project) are.order critical,
        are.limits.durations,
      );
    }

-- what a tail leaves of the critical length
pub record IsReadLatest (project : Project) (a critical tail : ℕ) : Type 0 where
  pub inside : tail ≤ critical
  pub value : critical - tail ≡ latest_of project a
  pub window : earliest_of project a ≤ critical - tail
  pub ends : critical - tail + tail_of project a ≡ critical_of project
  pub within : critical - tail ≤ MAX_DURATION_SUM

pub latest_read : (inside : Inside) (network : Network) (a t : ℕ) → inside.net.now ≡ network
    → KeepsWindows inside → IsActivity network.project a
    → t ≡ get_or inside.tails.items (a - 1) t
    → IsReadLatest network.project a inside.critical t
latest_read inside network a t same keeps activity read =
    let are = kept inside network same keeps in
    let project = network.project in
    let tail = tail_read inside network a t same keeps activity read in
    let fit = windows_fit project network.order a are.limits are.order activity in
    let end : inside.critical ≡ critical_of project = are.longest in
    record {
      inside = omega (arith, tail.value, fit.together);
      value = omega (arith, tail.value);
      window = omega (arith, tail.value, fit.together);
      ends = omega (arith, tail.value, fit.together);
      within = omega (arith, fit.within);
    }

-- what is computed are the windows of a network
pub windows_made : (network : Network) (starts tails : List ℕ) (critical bound : ℕ)
    → IsWithinLimits network.project → IsFeasibleList network.project network.order
    → starts ≡ map (earliest_of network.project) (numbers (activity_count network.project))
    → tails ≡ map (tail_of network.project) (numbers (activity_count network.project))
    → critical ≡ greatest tails → bound ≡ capacity_bound_of network.project
    → AreWindows network starts tails critical bound
unfolding critical_of
windows_made network starts tails critical bound limits order first last longest work = record {
  limits = limits;
  order = order;
  earliest = first;
  tail = last;
  longest = longest ∙ ap greatest last;
  work = work;
}

-- what is read of the capacity bound
pub bound_read : (inside : Inside) (network : Network) → inside.net.now ≡ network
    → KeepsWindows inside
    → (inside.capacity_bound ≡ capacity_bound_of network.project)
    × (inside.capacity_bound ≤ MAX_DURATION_SUM)
bound_read inside network same keeps =
    let are = kept inside network same keeps in (
      are.work,
      omega (
        arith,
        are.work,
        capacity_bound-le-durations network.project,
        are.limits.durations,
      ),
    )
