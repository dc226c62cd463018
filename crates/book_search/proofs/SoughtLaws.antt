-- A search that goes on twice goes on, and what all of it has loaded.
use Rattle.std.proofs.Common.{◌≡◌, ℕ, ◌+◌, ◌*◌, ◌≤◌, inl, inr, refl, ap, ◌∙◌, arith}
use Rattle.std.proofs.lemmas.Bool.{cases_lt}
use Rattle.std.proofs.Math.Nat.{mul-le-mul_left}
use Rattle.activity_net.specs.Network.{Listing}
use Rattle.book_rule.specs.declared.view.Reach.{Reach}
use Rattle.book_rule.specs.declared.view.Search.{Search}
use Rattle.book_rule.specs.declared.view.View.{View}
use Rattle.book_rule.specs.Listed.{lasts, before_count, width, horizon_of}
use Rattle.book_search.specs.Sought.{HasOnlyRead, searched, IsSought, LoadsFew}
use Rattle.book_search.specs.Steps.{IsReading, IsUnderWay, words_before, SearchesOn}

pub sought_none : (v : View) → IsSought v v
sought_none v = record {
  only = refl;
  position = refl;
  ahead = refl;
  begun = refl;
  later = omega arith;
}

pub sought_more : (u v w : View) → IsSought u v → IsSought v w → IsSought u w
sought_more u v w first second = record {
  only = second.only ∙ ap (λ (z : View). searched z w) first.only;
  position = second.position ∙ first.position;
  ahead = second.ahead ∙ first.ahead;
  begun = second.begun ∙ first.begun;
  later = omega (arith, first.later, second.later);
}

module _ (list : Listing) where
  pub on_none : (v : View) → SearchesOn list v v
  on_none v = record {
    sought = sought_none v;
    rises = omega arith;
    loads = omega arith;
    none = λ _. refl;
  }

  pub on_more : (u v w : View) → SearchesOn list u v → SearchesOn list v w → SearchesOn list u w
  on_more u v w first second = record {
    sought = sought_more u v w first.sought second.sought;
    rises = omega (arith, first.rises, second.rises);
    loads = omega (arith, first.loads, second.loads);
    none = λ still.
        second.none (ap (lasts list) first.sought.position ∙ still) ∙ first.none still;
  }

  -- a search that has read all predecessors and no word is under way
  pub under_way : (s : Search) → HasOnlyRead list (before_count list s.position) s
      → IsUnderWay list s
  under_way s only =
      let periods : s.free.periods ≡ 0 = ap (λ (r : Reach). r.periods) only.free in
      let words : s.free.words ≡ 0 = ap (λ (r : Reach). r.words) only.free in
      let within = only.within in
      record {
        read = only.predecessors;
        within = omega arith;
        some = omega arith;
        more = λ h. omega arith;
        inside = λ h. omega arith;
        ends = λ h. omega arith;
      }

  -- no more words stand before the next one than up to the end of the activity, and than up to the horizon
  pub words-within : (s : Search) → IsUnderWay list s
      → words_before list s ≤ width list * (s.least + lasts list s.position)
  words-within s under = elim (cases_lt 0 s.free.words) [
    | inl some ↦
        let more = under.more some in
        let inside = under.inside some in
        let step : s.least + s.free.periods + 1 ≤ s.least + lasts list s.position = omega arith in
        omega (arith, mul-le-mul_left (width list) step)
    | inr none ↦
        let some = under.some in
        let step : s.least + s.free.periods ≤ s.least + lasts list s.position = omega arith in
        omega (arith, mul-le-mul_left (width list) step)
  ]

  pub words-by : (s : Search) → IsUnderWay list s
      → words_before list s ≤ width list * horizon_of list
  words-by s under = elim (cases_lt 0 s.free.words) [
    | inl some ↦
        let more = under.more some in
        let inside = under.inside some in
        let ends = under.ends some in
        let step : s.least + s.free.periods + 1 ≤ horizon_of list = omega arith in
        omega (arith, mul-le-mul_left (width list) step)
    | inr none ↦ omega (arith, mul-le-mul_left (width list) under.within)
  ]

  -- what a whole search has loaded: first the predecessors, then the words
  pub whole_loads : (k : ℕ) (u v w : View) → IsReading list k u v → SearchesOn list v w
      → IsUnderWay list w.search → LoadsFew list u w
  whole_loads k u v w reading on under =
      let loaded = reading.loaded in
      let later = reading.sought.later in
      let loads = on.loads in
      let periods : v.search.free.periods ≡ 0 = ap (λ (r : Reach). r.periods) reading.search.free in
      let words : v.search.free.words ≡ 0 = ap (λ (r : Reach). r.words) reading.search.free in
      let same : lasts list w.search.position ≡ lasts list u.search.position =
      ap (lasts list) (on.sought.position ∙ reading.sought.position) in
      let first : v.search.least + v.search.free.periods ≤ v.search.least = omega arith in
      let from = mul-le-mul_left (width list) first in
      let low = mul-le-mul_left (width list) later in
      let row : width list * (w.search.least + lasts list w.search.position)
      ≡ width list * (w.search.least + lasts list u.search.position) =
      ap (λ n. width list * (w.search.least + n)) same in
      let end = words-within w.search under in
      let last = words-by w.search under in
      record {
        rises = omega (arith, on.rises);
        within = omega arith;
        all = omega arith;
        none = λ still. on.none (ap (lasts list) reading.sought.position ∙ still) ∙ loaded;
      }
