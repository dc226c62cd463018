-- The passes of a closing book, taken in one after the other.
use Rattle.std.proofs.Common.{◌≡◌, ℕ, ◌+◌, ◌<◌, true, false, List, [], ◌∷◌, ◌++◌, length, take, slice_set, Option, None, Some, IsSome, IfSome, refl, sym, ap, subst, ◌∙◌, arith}
use Rattle.std.proofs.lemmas.List.{length_push, length-map, take_more_set, map-append}
use Rattle.atomic_table.specs.Seated.{TableId}
use Rattle.book_rule.specs.declared.view.View.{View}
use Rattle.book_rule.specs.Views.{after_join}
use Rattle.book_rule.proofs.SeatLaws.{joined_own}
use Rattle.book_table.specs.Passes.{RunningBook, PassToken, IsPassOf}
use Rattle.book_table.specs.Taken.{counts_of, IsChief}

none_there : (X : Type 0) → IsSome {T = X} None → ⊥
none_there X is = let no : false ≡ true = is in cc

module _ (book : RunningBook) where
  -- pass 0 alone
  pub chief-first : (pass : PassToken) → IsPassOf book pass → pass.view.number ≡ 0
      → pass.view.resting ≡ true → IsChief book (pass ∷ []) pass.table pass.view
  chief-first pass own number rests = record {
    same = own.same;
    own = own.own;
    number = number;
    rests = rests;
    made = own.chief number;
    counts = ap (λ g. pass.view.mine ∷ g) own.alone;
  }

  -- and once it has taken in one more
  pub chief_push : (done : List PassToken) (table : TableId) (v : View) (pass : PassToken)
      → IsChief book done table v → IsChief book (done ++ pass ∷ []) table (after_join v pass.view)
  chief_push done table v pass is = record {
    same = is.same;
    own = joined_own book.listing v pass.view is.own;
    number = is.number;
    rests = is.rests;
    made = is.made;
    counts = ap (λ c. c ++ pass.view.mine ∷ []) is.counts
        ∙ sym (map-append (λ (p : PassToken). p.view.mine) done (pass ∷ []));
  }

  -- so many has it taken in
  pub chief-long : (done : List PassToken) (table : TableId) (v : View) → IsChief book done table v
      → length v.gathered + 1 ≡ length done
  chief-long done table v is =
      let long = ap length is.counts ∙ length-map done (λ (p : PassToken). p.view.mine) in
      omega (arith, long)

  -- a seat that is the chief's, and holds no slot
  abbrev pub IsChiefAt : {S : Type 0} → List PassToken → TableId → View × List S → Type 0
  IsChiefAt done table me = IsChief book done table me.0 × (me.1 ≡ [])

  -- the seat that is kept once one more pass was taken in
  pub seat_push : {X S : Type 0} (at : X → TableId) (me : X → View × List S) (done : List PassToken)
      (pass : PassToken)
      (old new : Option X) → IsPassOf book pass → pass.view.number ≡ length done
      → pass.view.resting ≡ true
      → (0 < length done → IsSome old) → IfSome old (λ s. IsChiefAt done (at s) (me s)) → IsSome new
      → (old ≡ None → IfSome new (λ s. (at s ≡ pass.table) × (me s ≡ (pass.view, [])))) → IfSome old
      (λ o. IfSome new (λ s. (at s ≡ at o) × (me s ≡ (after_join (me o).0 pass.view, (me o).1))))
      → IfSome new (λ s. IsChiefAt (done ++ pass ∷ []) (at s) (me s))
  seat_push {X = X} at me done pass old None own number rests some chief is first joined =
      absurd (none_there X is)
  seat_push {X = X} at me (x ∷ xs) pass None (Some s) own number rests some chief is first joined =
      absurd (none_there X (some (omega arith)))
  seat_push at me [] pass None (Some s) own number rests some chief is first joined =
      let (same, held) = first refl in (
        subst (λ t. IsChief book (pass ∷ []) t (me s).0) (sym same)
            (subst (λ v. IsChief book (pass ∷ []) pass.table v) (sym (ap (λ m. m.0) held))
            (chief-first pass own number rests)),
        ap (λ m. m.1) held,
      )
  seat_push at me done pass (Some o) (Some s) own number rests some chief is first joined =
      let (same, held) = joined in (
        subst (λ t. IsChief book (done ++ pass ∷ []) t (me s).0) (sym same)
            (subst (λ v. IsChief book (done ++ pass ∷ []) (at o) v) (sym (ap (λ m. m.0) held))
            (chief_push done (at o) (me o).0 pass chief.0)),
        ap (λ m. m.1) held ∙ chief.1,
      )

  -- and the counts
  pub counts_push : (done : List PassToken) (pass : PassToken) (counts : List ℕ)
      → length done < length counts
      → pass.view.number ≡ length done → take (length done) counts ≡ counts_of done
      → take (length (done ++ pass ∷ [])) (slice_set counts pass.view.number pass.view.mine)
      ≡ counts_of (done ++ pass ∷ [])
  counts_push done pass counts room number so =
      ap (λ n. take n (slice_set counts pass.view.number pass.view.mine)) (length_push done pass)
      ∙ (ap (λ n. take (length done + 1) (slice_set counts n pass.view.mine)) number
      ∙ (take_more_set counts (length done) pass.view.mine room
      ∙ (ap (λ c. c ++ pass.view.mine ∷ []) so
      ∙ sym (map-append (λ (p : PassToken). p.view.mine) done (pass ∷ [])))))
