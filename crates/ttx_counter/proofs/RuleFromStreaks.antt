-- The rule of k, from the streaks of a run.
use Rattle.std.proofs.Common.{◌≡◌, ℕ, zero, suc, ◌<◌, ◌≤◌, ℤ, pos, ◌+ℤ◌, Bool, true, false, ◌&&◌, ◌==◌, eqb-true, List, [], ◌∷◌, length, Option, refl}
use Rattle.std.proofs.Common.{sym, ap, ◌∙◌, arith}
use Rattle.std.specs.List.{AllByRecursion}
use Rattle.std.specs.List.Sorted.{IsNonDecreasing}
use Rattle.std.proofs.lemmas.Bool.Decides.{nat_tests}
use Rattle.std.proofs.lemmas.Bool.{both_ways}
use Rattle.ttx_packet.specs.Laws.{RowsAreNumbered}
use Rattle.ttx_header.specs.Ids.{Id}
use Rattle.ttx_page.specs.Packets.{Packet, Empty, Unreadable, Header, Row, Links, Info, Other, packet_of}
use Rattle.ttx_page.specs.declared.item.Item.{Item}
use Rattle.ttx_page.specs.declared.item.Item.TheVariants.{Head as TheHead, Row as TheRow, Links as TheLinks}
use Rattle.ttx_page.specs.Streams.{Stream, carries, IsTransmission, AreSuccessive}
use Rattle.ttx_page.specs.Receptions.{IsTextByte, OneIs}
use Rattle.ttx_counter.specs.Keys.{is_hit, AreSlotKeys}
use Rattle.ttx_counter.specs.Streaks.{IsSentAmong, IsInside, IsRightAmong, StreaksDecide}
use Rattle.ttx_counter.specs.Listening.{row_sent, row_from, mine_from, item_of}
use Rattle.ttx_counter.specs.Cells.{is_text, is_row, TellsSlot, AreStreaks, IsBroken}
use Rattle.ttx_counter.specs.Rule.{IsCursor, sends_row, KeepsRule}
use Rattle.ttx_counter.specs.declared.streaks.Streak.{Streak}
use Rattle.ttx_counter.proofs.SentRows.{IsMine, IsNumbered, numbered, mine_right, sent_right}
use Rattle.ttx_counter.proofs.KeyCursors.{hit_here, not_hit}

-- what one slot sends and which of its bytes are wrong
pub tells : (keys : List ℕ) → IsNonDecreasing keys → (n from to : ℕ) → IsCursor keys n from → AreSlotKeys keys n from to →
    (page : Id) (s : Stream) (tau : ℤ) (mine : Bool) (row : Option ℕ) → row ≡ row_from page s tau mine n →
    TellsSlot (sends_row page s tau mine) (is_hit keys) row keys from to n
tells keys sorted n from to c a page s tau mine row e = record {
  sent_is = λ r lt. ap (is_row r) (sym e);
  hit = λ i low high. hit_here keys sorted n from to c a i low high;
  other = λ x lt none. not_hit keys sorted n from to c a x (omega arith) none;
}

text_of : (r x : ℕ) → is_text r x ≡ true → IsTextByte (item_of r) x
text_of zero x h = (grind (arith, nat_tests), grind (arith, nat_tests))
text_of (suc r) x h = (grind (arith, nat_tests), grind (arith, nat_tests))

text_head : (x : ℕ) → 10 ≤ x → x < 34 → is_text 0 x ≡ true
text_head x a b = grind (arith, nat_tests)

text_row : (r x : ℕ) → 2 ≤ x → x < 42 → is_text (suc r) x ≡ true
text_row r x a b = grind (arith, nat_tests)

module _ (law : RowsAreNumbered) (decide : StreaksDecide) (s : Stream) (page : Id) (start slots k : ℕ) (some : 1 ≤ k) (keys : List ℕ)
    (mine : Bool) (known : IsMine s page (pos start) mine) where
  abbrev pub sent : ℕ → ℕ → Bool
  sent = sends_row page s (pos start) mine

  told : (r : ℕ) → IsSentAmong s page (item_of r) (pos start) slots (sent r)
  told r i lt = sent_right s page (pos start +ℤ pos i) (mine_from page s (pos start) mine i)
      (mine_right s page (pos start) mine known i) (numbered law (s (pos start +ℤ pos i))) r

  -- no packet carries a row whose number is out of range
  carries_number : (r : ℕ) (p : Packet) → IsNumbered p → carries page.mag (TheRow r) p ≡ true → (1 ≤ r) × (r ≤ 24)
  carries_number r (Row m number text) a h = let e : number ≡ r = eqb-true number r (use_and (m == page.mag) (number == r) h)
      in (let b = a.0 in omega arith, let b = a.1 in omega arith)
    where
      use_and : (a b : Bool) → (a && b) ≡ true → b ≡ true
      use_and true b h = h
      use_and false b h = absurd (both_ways _ refl h)
  carries_number r Empty a h = absurd (both_ways _ refl h)
  carries_number r Unreadable a h = absurd (both_ways _ refl h)
  carries_number r (Header id control text) a h = absurd (both_ways _ refl h)
  carries_number r (Links m content) a h = absurd (both_ways _ refl h)
  carries_number r Info a h = absurd (both_ways _ refl h)
  carries_number r Other a h = absurd (both_ways _ refl h)

  first : (item : Item) (list : List ℤ) → length list ≡ k → AreSuccessive s page item list → (j : ℤ) × IsTransmission s page item j
  first item [] len a = absurd (omega arith)
  first item (j ∷ []) len a = (j, a)
  first item (j ∷ i ∷ list) len a = (j, a.0)

  module _ (latest : List ℕ) (cells : List Streak) (a : AreStreaks sent (is_hit keys) k slots latest cells) where
    row_keeps : (r x : ℕ) → r < 25 → is_text r x ≡ true → (list : List ℤ) → length list ≡ k → AreSuccessive s page (item_of r) list →
        AllByRecursion (IsInside (pos start) slots) list →
        OneIs (IsRightAmong (pos start) slots (is_hit keys x)) list
    row_keeps r x lt text = (decide s page (item_of r) (pos start) (sent r) (is_hit keys x) k slots some (told r)).0
        (λ m le. a.below r x m lt text le)

    pub keeps : KeepsRule s page start slots k keys
    keeps TheHead x text list len succ inside = row_keeps 0 x (omega arith) (text_head x text.0 text.1) list len succ inside
    keeps (TheRow zero) x text list len succ inside =
        let t = first (TheRow zero) list len succ in
        absurd (let b = carries_number 0 (packet_of (s t.0)) (numbered law (s t.0)) t.1.owned.2 in let z = b.0 in omega arith)
    keeps (TheRow (suc r)) x text list len succ inside =
        let t = first (TheRow (suc r)) list len succ in
        let b = carries_number (suc r) (packet_of (s t.0)) (numbered law (s t.0)) t.1.owned.2 in
        row_keeps (suc r) x (let z = b.1 in omega arith) (text_row r x text.0 text.1) list len succ inside
    keeps TheLinks x text list len succ inside = absurd text

  pub breaks : (n : ℕ) → n ≤ slots → IsBroken sent (is_hit keys) k n → KeepsRule s page start slots k keys → ⊥
  breaks n le b rule =
      let low = (decide s page (item_of b.row) (pos start) (sent b.row) (is_hit keys b.byte) k slots some (told b.row)).1
      (rule (item_of b.row) b.byte (text_of b.row b.byte b.text)) n le in
      absurd (let h = b.long in omega arith)

pub row_is : (page : Id) (s : Stream) (tau : ℤ) (mine now : Bool) (n : ℕ) (slot : List ℕ) (row : Option ℕ) → now
    ≡ mine_from page s tau mine n → s (tau +ℤ pos n) ≡ slot → row ≡ row_sent page (packet_of slot) now →
    row ≡ row_from page s tau mine n
row_is page s tau mine now n slot row a b e = e ∙ ap (λ x. row_sent page (packet_of x) now) (sym b)
    ∙ ap (row_sent page (packet_of (s (tau +ℤ pos n)))) a
