-- No form of a View has control characters except line feeds and, for terminals, ESC.
use Rattle.std.proofs.Common.{◌≡◌, ◌∙◌, ℕ, ◌≤◌, Bool, true, false, not, ◌||◌, ◌&&◌, ◌==◌, nat_lt, if◌then◌else◌, List, [], ◌∷◌, ◌++◌, codes, fold}
use Rattle.std.proofs.Common.{encode_utf8, Option, Some, None, refl, sym, ap, arith}
use Rattle.std.proofs.lemmas.Bool.{eqb-true, ltb-false}
use Rattle.std.proofs.lemmas.Bool.Decides.{nat_tests}
use Rattle.std.proofs.lemmas.List.Folds.{list_all-append}
use Rattle.std.specs.List.{list_all}
use Rattle.ttx_header.specs.Ids.{Id}
use Rattle.ttx_render.specs.declared.cells.Cell.{Cell}
use Rattle.ttx_render.specs.Cells.{space_cell}
use Rattle.ttx_render.specs.Laws.{ArePrinted}
use Rattle.ttx_picture.specs.Ansi.{sgr, foreground, background, blink, change, changes, cells_ansi, row_ansi, rows_ansi}
use Rattle.ttx_picture.specs.Laws.{FormsHaveNoControls}
use Rattle.ttx_picture.specs.Links.{link_name, link_names}
use Rattle.ttx_picture.specs.Shown.{char_of, char_with, are_blank}
use Rattle.ttx_picture.specs.declared.shown.Mosaics.{Mosaics}
use Rattle.ttx_picture.specs.declared.shown.Mosaics.TheVariants.{Sextants, Quadrants}
use Rattle.ttx_picture.specs.Svg.{svg_of}
use Rattle.ttx_picture.specs.Html.{html_of}
use Rattle.ttx_picture.specs.Tags.{is_ruled, InText, Nowhere, Reading, reading_at, read, IsNested}
use Rattle.ttx_picture.specs.Text.{cells_text, rows_text}
use Rattle.ttx_picture.proofs.Quiet.{quiet, IsQuiet, calm, both_true, decimal_quiet, id_quiet, utf8_all, char_low, char_with_low}
use Rattle.ttx_picture.proofs.Nested.{Printed, tags_are_nested_lem}

---- a nested text has none

same_if : {X : Type 0} (b : Bool) (x : X) → (if b then x else x) ≡ x
same_if true x = refl
same_if false x = refl

-- from Nowhere no byte leads back
lost : (bytes : List ℕ) (w : List (List ℕ)) → (fold read (reading_at Nowhere w) bytes).place ≡ Nowhere
lost [] w = refl
lost (b ∷ bytes) w = ap (λ (r : Reading). (fold read r bytes).place) (same_if (is_ruled b) (reading_at Nowhere w)) ∙ lost bytes w

nested_all : (bytes : List ℕ) (r : Reading) → (fold read r bytes).place ≡ InText → list_all (λ b. not (is_ruled b)) bytes ≡ true
nested_all [] r h = refl
nested_all (b ∷ bytes) r h = by_test (nested_all bytes (read r b) h) (is_ruled b) refl
  where
    by_test : list_all (λ b. not (is_ruled b)) bytes ≡ true → (t : Bool) → is_ruled b ≡ t → list_all (λ b. not (is_ruled b)) (b ∷ bytes) ≡ true
    by_test rest false e = both_true (not (is_ruled b)) (list_all (λ b. not (is_ruled b)) bytes) (ap not e) rest
    by_test rest true e =
        let away : read r b ≡ reading_at Nowhere r.within = rw e refl in
        let clash : InText ≡ Nowhere = sym h ∙ ap (λ (x : Reading). (fold read x bytes).place) away ∙ lost bytes r.within in cc

nested_is_calm : (bytes : List ℕ) → IsNested bytes → list_all (λ b. not (is_ruled b)) bytes ≡ true
nested_is_calm bytes h = nested_all bytes (reading_at InText []) (ap (λ (r : Reading). r.place) h)

-- ---- texts, and codes of a terminal

module _ (p : ℕ → Bool) where
  record IsAll (bytes : List ℕ) : Type 0 where
    is : list_all p bytes ≡ true

  all_of : {bytes : List ℕ} → list_all p bytes ≡ true → IsAll bytes
  all_of e = record { is = e }

  with_all : {a b : List ℕ} → IsAll a → IsAll b → IsAll (a ++ b)
  with_all {a} {b} e f = all_of (list_all-append p a b ∙ both_true (list_all p a) (list_all p b) e.is f.is)

  either_all : {a b : List ℕ} (t : Bool) → IsAll a → IsAll b → IsAll (if t then a else b)
  either_all true e f = e
  either_all false e f = f

  quiet_all : ((b : ℕ) → quiet b ≡ true → p b ≡ true) → (bytes : List ℕ) → list_all quiet bytes ≡ true → list_all p bytes ≡ true
  quiet_all h [] e = refl
  quiet_all h (b ∷ bytes) e = both_true (p b) (list_all p bytes) (h b (left (quiet b) (list_all quiet bytes) e))
      (quiet_all h bytes (right (quiet b) (list_all quiet bytes) e))
    where
      left : (x y : Bool) → x && y ≡ true → x ≡ true
      left true y e = refl
      left false y e = cc

      right : (x y : Bool) → x && y ≡ true → y ≡ true
      right true y e = e
      right false y e = cc

record Admits (p : ℕ → Bool) : Type 0 where
  high : (b : ℕ) → 32 ≤ b → p b ≡ true
  feed : p 10 ≡ true

module _ (p : ℕ → Bool) (admits : Admits p) where
  from_quiet : {bytes : List ℕ} → IsQuiet bytes → IsAll p bytes
  from_quiet {bytes} h = all_of p (quiet_all p (λ b e. quiet_one b e) bytes h.is)
    where
      at_least : (b : ℕ) → quiet b ≡ true → (b == 10) ≡ false → 32 ≤ b
      at_least b e f = grind (arith, nat_tests)

      by_test : (b : ℕ) → quiet b ≡ true → (t : Bool) → (b == 10) ≡ t → p b ≡ true
      by_test b e true f = let is : b ≡ 10 = eqb-true b 10 f in ap p is ∙ admits.feed
      by_test b e false f = admits.high b (at_least b e f)

      quiet_one : (b : ℕ) → quiet b ≡ true → p b ≡ true
      quiet_one b e = by_test b e (b == 10) refl

  utf8 : (c : ℕ) → nat_lt c 32 ≡ false → IsAll p (encode_utf8 c)
  utf8 c low = all_of p (utf8_all p c (admits.high c (ltb-false c 32 low)) (λ b h. admits.high b (omega (arith, h))))

  link_all : (link : Option Id) → IsAll p (link_name link)
  link_all None = from_quiet (calm refl)
  link_all (Some id) = with_all p {a = 32 ∷ []} (from_quiet (calm refl)) (from_quiet (id_quiet id))

  links_all : (links : List (Option Id)) → IsAll p (link_names links)
  links_all [] = all_of p refl
  links_all (link ∷ links) = with_all p (link_all link) (links_all links)

  ending_all : {text : List ℕ} (links : List (Option Id)) → IsAll p text → IsAll p (text ++ codes "links" ++ link_names links ++ 10 ∷ [])
  ending_all links h = with_all p {b = 10 ∷ []}
      (with_all p (with_all p {b = codes "links"} h (from_quiet (calm refl))) (links_all links)) (from_quiet (calm refl))

  module _ (reveal : Bool) where
    cells_all : (cells : List Cell) → Printed cells → IsAll p (cells_text false reveal cells)
    cells_all [] h = all_of p refl
    cells_all (cell ∷ cells) h =
        either_all p (are_blank reveal (cell ∷ cells)) (all_of p refl)
        (with_all p (utf8 (char_of reveal cell) (char_low reveal cell h.0)) (cells_all cells h.1))

    rows_all : (rows : List (List Cell)) → ArePrinted rows → IsAll p (rows_text false reveal rows)
    rows_all [] h = all_of p refl
    rows_all (cells ∷ rows) h = with_all p (with_all p {b = 10 ∷ []} (cells_all cells h.0) (from_quiet (calm refl))) (rows_all rows h.1)

    module _ (code : p 27 ≡ true) (mosaics : Mosaics) where
      sgr_all : (n : ℕ) → IsAll p (sgr n)
      sgr_all n = with_all p {b = 109 ∷ []} (with_all p {a = 27 ∷ 91 ∷ []} start (from_quiet (decimal_quiet n))) (from_quiet (calm refl))
        where
          start : IsAll p (27 ∷ 91 ∷ [])
          start = all_of p (both_true (p 27) (p 91 && true) code (both_true (p 91) true (admits.high 91 (omega arith)) refl))

      change_all : (before now : ℕ) → IsAll p (change before now)
      change_all before now = either_all p (before == now) (all_of p refl) (sgr_all now)

      changes_all : (before cell : Cell) → IsAll p (changes before cell)
      changes_all before cell = with_all p
          (with_all p (change_all (foreground before) (foreground cell)) (change_all (background before) (background cell)))
          (change_all (blink before) (blink cell))

      ansi_all : (before : Cell) (cells : List Cell) → Printed cells → IsAll p (cells_ansi mosaics reveal before cells)
      ansi_all before [] h = all_of p refl
      ansi_all before (cell ∷ cells) h = with_all p
          (with_all p (changes_all before cell) (utf8 (char_with mosaics reveal cell) (char_with_low mosaics reveal cell h.0))) (ansi_all cell cells h.1)

      row_all : (cells : List Cell) → Printed cells → IsAll p (row_ansi mosaics reveal cells)
      row_all cells h = with_all p {b = 10 ∷ []}
          (with_all p (with_all p (with_all p (sgr_all 37) (sgr_all 40)) (ansi_all space_cell cells h)) (sgr_all 0))
          (from_quiet (calm refl))

      rows_ansi_all : (rows : List (List Cell)) → ArePrinted rows → IsAll p (rows_ansi mosaics reveal rows)
      rows_ansi_all [] h = all_of p refl
      rows_ansi_all (cells ∷ rows) h = with_all p (row_all cells h.0) (rows_ansi_all rows h.1)

calm_text : Admits (λ b. not (is_ruled b))
calm_text = record { high = λ b l. grind (arith, nat_tests); feed = refl }

calm_codes : Admits (λ b. not (is_ruled b) || (b == 27))
calm_codes = record { high = λ b l. grind (arith, nat_tests); feed = refl }

pub forms_have_no_controls_lem : FormsHaveNoControls
forms_have_no_controls_lem reveal view h = (
  (ending_all _ calm_text view.links (rows_all _ calm_text reveal view.cells h)).is,
  (ending_all _ calm_codes view.links (rows_ansi_all _ calm_codes reveal refl Sextants view.cells h)).is,
  (ending_all _ calm_codes view.links (rows_ansi_all _ calm_codes reveal refl Quadrants view.cells h)).is,
  nested_is_calm (svg_of reveal view) (tags_are_nested_lem reveal view h).0,
  nested_is_calm (html_of reveal view) (tags_are_nested_lem reveal view h).1,
)
