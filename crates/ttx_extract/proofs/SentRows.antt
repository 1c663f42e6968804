-- Rows 1 to 24 of a page, as they are sent first.
use Rattle.std.proofs.Common.{◌≡◌, ℕ, suc, ◌+◌, ◌<◌, List, [], ◌∷◌, ◌++◌, length, take, set, get_or, sym, ap, ◌∙◌, subst, arith}
use Rattle.std.specs.List.{range_with_len}
use Rattle.std.proofs.Math.Seq.{take-suc, take-suc-set}
use Rattle.std.proofs.lemmas.List.{length-map}
use Rattle.std.proofs.lemmas.List.FromFn.{get_or-map-range_with_len, length-range_with_len}
use Rattle.ttx_header.specs.Ids.{Id}
use Rattle.ttx_page.specs.declared.item.Item.TheVariants.{Row as TheRow}
use Rattle.ttx_extract.specs.FirstSent.{first_sent, row_of}
use Rattle.ttx_extract.specs.Drafts.{said_rows}

module _ (slots : List (List ℕ)) (lines : ℕ) (id : Id) where
  pub row_at : (i : ℕ) (d : List ℕ) → i < 24 → get_or (said_rows slots lines id) i d ≡ row_of (first_sent slots lines id (TheRow (i + 1)))
  unfolding said_rows
  row_at i d lt = get_or-map-range_with_len (λ n. row_of (first_sent slots lines id (TheRow n))) 1 24 i (i + 1) d lt (omega arith)

  pub rows_count : length (said_rows slots lines id) ≡ 24
  unfolding said_rows
  rows_count = length-map (range_with_len 1 24) (λ n. row_of (first_sent slots lines id (TheRow n))) ∙ length-range_with_len 1 24

-- a list that is filled place by place with the elements of another
pub filled_as : {A : Type 0} (xs ys : List A) (i : ℕ) (v d : A) → length ys ≡ length xs → i < length xs → take i ys ≡ take i xs →
    v ≡ get_or xs i d → take (i + 1) (set ys i v) ≡ take (i + 1) xs
filled_as xs ys i v d same lt before is =
    let one : suc i ≡ i + 1 = omega arith in
    subst (λ n. take n (set ys i v) ≡ take n xs) one
    (take-suc-set ys i v (omega arith) ∙ ap (λ z. z ++ v ∷ []) before ∙ ap (λ z. take i xs ++ z ∷ []) is ∙ sym (take-suc xs i d lt))
