-- Reading the start of one predecessor more.
use Rattle.std.proofs.Common.{◌≡◌, ℕ, ◌+◌, ◌<◌, ◌≤◌, inl, inr, true, refl, sym, ap, subst, ◌∙◌, arith}
use Rattle.std.proofs.lemmas.Bool.{cond-true}
use Rattle.std.proofs.lemmas.Bool.Decides.{nat_tests}
use Rattle.activity_net.specs.Network.{Listing}
use Rattle.book_rule.specs.declared.view.Search.{Search}
use Rattle.book_rule.specs.declared.view.View.{View}
use Rattle.book_rule.specs.Listed.{activity_at, begins, lasts, before_count, before, horizon_of}
use Rattle.book_rule.specs.Reaches.{none_reached}
use Rattle.book_rule.specs.Searches.{reads_next}
use Rattle.book_rule.specs.Views.{after_start_word}
use Rattle.book_rule.specs.Told.{IsStartWord}
use Rattle.book_rule.proofs.SearchCases.{least_after, least_after-from, least_after-most}
use Rattle.book_search.specs.Sought.{HasOnlyRead}
use Rattle.book_search.specs.Steps.{IsReading}
use Rattle.book_search.proofs.SoughtLaws.{sought_none, sought_more}

-- nothing was read yet
pub reads_none : (list : Listing) (v : View) → HasOnlyRead list 0 v.search → IsReading list 0 v v
reads_none list v only = record { sought = sought_none v; loaded = refl; search = only }

-- the start of the next predecessor was read: it has ended by the horizon
pub reads_more : (list : Listing) (u v w : View) (seen k j x : ℕ) → IsReading list k u v
    → k < before_count list v.search.position
    → activity_at list j ≡ before list v.search.position k
    → IsStartWord list seen j x → begins list j + lasts list j ≤ horizon_of list
    → w ≡ after_start_word list v j x → IsReading list (k + 1) u w
reads_more list u v w seen k j x reading more same word ends is =
    let s : Search = v.search in
    let at : s.read ≡ k = reading.search.predecessors in
    let below : s.read < before_count list s.position = omega arith in
    let next : activity_at list j ≡ before list s.position s.read =
    same ∙ ap (before list s.position) (sym at) in
    let reads : reads_next list j s ≡ true = grind (arith, nat_tests) in
    let later : Search = record s {
      read = s.read + 1;
      free = none_reached;
      least = least_after s.least x (lasts list j);
    } in
    let within : 0 < x → x + lasts list j ≤ horizon_of list + 1 = λ some. elim word.value [
      | inl none ↦ omega arith
      | inr start ↦ omega arith
    ] in
    let all : IsReading list (k + 1) u (record v { search = later }) = record {
      sought = sought_more u v (record v { search = later }) reading.sought (record {
        only = refl;
        position = refl;
        ahead = refl;
        begun = refl;
        later = least_after-from s.least x (lasts list j);
      });
      loaded = reading.loaded;
      search = record {
        predecessors = ap (λ n. n + 1) at;
        free = refl;
        within = least_after-most s.least x (lasts list j) (horizon_of list) reading.search.within
            (λ some. let high = within some in omega arith);
      };
    } in
    subst (λ (z : View). IsReading list (k + 1) u z) (sym is)
    (subst (λ (t : Search). IsReading list (k + 1) u (record v { search = t }))
    (sym (cond-true (reads_next list j s) later s reads)) all)
