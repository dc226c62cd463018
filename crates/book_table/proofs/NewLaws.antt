-- The numbers of a new book.
use Rattle.std.proofs.Common.{◌≡◌, ℕ, ◌+◌, ◌/◌, sym, ap, ◌∙◌}
use Rattle.rc_instance.specs.Project.{Project, activity_count, resource_count, horizon}
use Rattle.rc_instance.specs.Order.{IsFeasibleList}
use Rattle.activity_net.specs.Network.{Listing}
use Rattle.book_rule.specs.Listed.{count, width, horizon_of, project_of}
use Rattle.book_rule.specs.Layout.{place, blocks, word_count}

-- how many words a period has, by the resources of its instance
pub width_is : (list : Listing) (project : Project) (resources : ℕ) → project ≡ project_of list
    → resources ≡ resource_count project → (resources + 3) / 4 ≡ width list
unfolding width
width_is list project resources same is = ap (λ k. (k + 3) / 4) (is ∙ ap resource_count same)

-- they are those of its list
pub record AreNumbers (list : Listing) (positions words periods : ℕ) : Type 0 where
  pub count_is : positions ≡ count list
  pub width_is : words ≡ width list
  pub horizon_is : periods ≡ horizon_of list

pub numbers_are : (list : Listing) (project : Project) (positions resources periods : ℕ)
    → IsFeasibleList (project_of list) list.order → project ≡ project_of list
    → positions ≡ activity_count project → resources ≡ resource_count project
    → periods ≡ horizon project → AreNumbers list positions ((resources + 3) / 4) periods
unfolding horizon_of
numbers_are list project positions resources periods feasible same count_is resources_are
    horizon_is = record {
      count_is = count_is ∙ (ap activity_count same ∙ sym feasible.count);
      width_is = width_is list project resources same resources_are;
      horizon_is = horizon_is ∙ ap horizon same;
    }

-- and so is how many words it has
pub total_is : (list : Listing) (n w h total : ℕ) → AreNumbers list n w h
    → total ≡ 32 + (n + (n + (place w h 0 + place w ((h + 31) / 32) 0))) → total ≡ word_count list
unfolding blocks
total_is list n w h total are is =
    let columns = are.width_is in
    let positions = are.count_is in
    let rows = are.horizon_is in
    is ∙ (λ k. 32 + (positions k + (positions k
    + (place (columns k) (rows k) 0 + place (columns k) ((rows k + 31) / 32) 0))))
