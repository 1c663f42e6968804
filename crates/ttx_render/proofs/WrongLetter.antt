-- A letter in place of another character of a needed item is seen.
use Rattle.std.proofs.Common.{◌≡◌, ℕ, zero, suc, ◌<◌, ◌≤◌, Bool, true, false, not, ◌&&◌, ◌||◌, ◌==◌, if◌then◌else◌, nat_le, refl, ap, ◌∙◌, arith, inl}
use Rattle.std.proofs.Common.{inr}
use Rattle.std.proofs.lemmas.Bool.{eqb-true}
use Rattle.ttx_charset.specs.Laws.{LettersStandAlone}
use Rattle.ttx_header.specs.Control.{c10}
use Rattle.ttx_page.specs.Memories.{Memory, memory_row, memory_of_page}
use Rattle.ttx_page.specs.Pages.{is_hidden, Page, page_row, needed}
use Rattle.ttx_page.specs.declared.item.Item.TheVariants.{Row as TheRow}
use Rattle.ttx_render.specs.Comparison.{IsCompared}
use Rattle.ttx_render.specs.Laws.{IsLetter, IsOwn, row_item, ShowsBut, WrongLetterIsSeen}
use Rattle.ttx_render.specs.View.{is_shown, is_below}
use Rattle.ttx_render.proofs.ShownRows.{is_shown-suc}
use Rattle.ttx_render.proofs.Showing.{hidden-same, is_shown-same, is_below-same}
use Rattle.ttx_render.proofs.LetterCells.{letter_is_seen_lem}

-- a needed row is shown and not hidden
uninhibited-from : (a le shows last s hid : Bool) → a && le && shows && (if last then s else not hid) ≡ true → shows ≡ true
uninhibited-from true true true last s hid e = refl
uninhibited-from true true false last s hid e = cc
uninhibited-from true false shows last s hid e = cc
uninhibited-from false le shows last s hid e = cc

shown-from : (a le shows last s hid : Bool) → a && le && shows && (if last then s else not hid) ≡ true → shows && (not last || s) ≡ true
shown-from true true true true s hid e = e
shown-from true true true false s hid e = refl
shown-from true true false last s hid e = cc
shown-from true false shows last s hid e = cc
shown-from false le shows last s hid e = cc

seen-from : (a le shows last s hid : Bool) → a && le && shows && (if last then s else not hid) ≡ true → last ≡ false → hid ≡ false
seen-from true true true false s true e f = cc
seen-from true true true false s false e f = refl
seen-from true true true true s hid e f = cc
seen-from true true false last s hid e f = cc
seen-from true false shows last s hid e f = cc
seen-from false le shows last s hid e f = cc

module _ (p : Page) where
  needed-shown : (number : ℕ) → needed p (row_item number) ≡ true → is_shown (memory_of_page p) number ≡ true
  needed-shown zero n = n
  needed-shown (suc d) n =
      is_shown-suc (memory_of_page p) d
      ∙ shown-from (nat_le 1 (suc d)) (nat_le (suc d) 24) (not (c10 p.control)) (suc d == 24) p.links.show24 (is_hidden (page_row p) (suc d)) n

  last-seen : is_below (memory_of_page p) 24 ≡ false
  last-seen = refl

  below-by : (d : ℕ) (last : Bool) → (suc d == 24) ≡ last → needed p (TheRow (suc d)) ≡ true → is_below (memory_of_page p) (suc d) ≡ false
  below-by d true e n = ap (is_below (memory_of_page p)) (eqb-true (suc d) 24 e) ∙ last-seen
  below-by d false e n =
      hidden-same p (suc d) (uninhibited-from (nat_le 1 (suc d)) (nat_le (suc d) 24) (not (c10 p.control)) (suc d == 24) p.links.show24
      (is_hidden (page_row p) (suc d)) n)
      ∙ seen-from (nat_le 1 (suc d)) (nat_le (suc d) 24) (not (c10 p.control)) (suc d == 24) p.links.show24 (is_hidden (page_row p) (suc d)) n e

  needed-seen : (number : ℕ) → needed p (row_item number) ≡ true → is_below (memory_of_page p) number ≡ false
  needed-seen zero n = refl
  needed-seen (suc d) n = below-by d (suc d == 24) refl n

  -- the needed rows above the one that is not held
  rows-above : (m : Memory) (number : ℕ) → ShowsBut p m (row_item number) → (k : ℕ) → k < number → needed p (TheRow k) ≡ true →
      memory_row m k ≡ page_row p k
  rows-above m zero but k l n = absurd (omega arith)
  rows-above m (suc d) but k l n = but.items (TheRow k) (λ e. let same : k ≡ suc d = cc in absurd (omega arith)) n

  pub own-page : (number c : ℕ) → IsCompared number c → needed p (row_item number) ≡ true → IsOwn (memory_of_page p) number c
  own-page number c is n = (is, needed-shown number n, needed-seen number n)

  pub own-memory : (m : Memory) (number c : ℕ) → IsCompared number c → needed p (row_item number) ≡ true →
      ShowsBut p m (row_item number) → IsOwn m number c
  own-memory m number c is n but =
      let fits : number ≤ 25 = let low : number < 25 = is.0 in omega arith in
      let rows = rows-above m number but in (
        is,
        is_shown-same p m but.control but.links number fits rows number ∙ needed-shown number n,
        is_below-same p m but.control but.links number fits rows number (omega arith) ∙ needed-seen number n,
      )

letter-low : (letter : ℕ) → IsLetter letter → letter < 128
letter-low letter (inl a) = omega arith
letter-low letter (inr b) = omega arith

pub wrong_letter_is_seen_lem : LettersStandAlone → WrongLetterIsSeen
wrong_letter_is_seen_lem alone p m number c letter is compared n but there low elsewhere =
    letter_is_seen_lem alone m (memory_of_page p) number c letter is (own-memory p m number c compared n but) (own-page p number c compared n)
    (rw there (letter-low letter is)) low there elsewhere
