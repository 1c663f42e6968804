-- The state of a monitor decides whether a feed is within the rule.
use Rattle.std.proofs.Common.{◌≡◌, ◌↔◌, ℕ, zero, suc, ◌+◌, ◌%◌, ◌<◌, ◌≤◌, ℤ, pos, ◌+ℤ◌, ◌-ℤ◌, Bool, true, false, not, ◌&&◌, ◌==◌}
use Rattle.std.proofs.Common.{List, [], ◌∷◌, ◌++◌, length, get_or, slice_get, Option, Some, None, refl, sym, ap, ◌∙◌, subst, inl, inr, arith, eqb-true, eq-eqb}
use Rattle.std.specs.List.{AllByRecursion}
use Rattle.std.proofs.lemmas.Int.{ints}
use Rattle.std.proofs.lemmas.Bool.Decides.{nat_tests}
use Rattle.std.proofs.lemmas.Bool.{both_ways, cases_Bool, cases_lt}
use Rattle.std.proofs.lemmas.Option.{slice_get_within, slice_get_cases}
use Rattle.std.proofs.lemmas.List.{get_or_append_left, get_or_push, length_push}
use Rattle.ttx_packet.specs.Laws.{RowsAreNumbered}
use Rattle.ttx_packet.specs.Receptions.{MayBeReceivedAs}
use Rattle.ttx_header.specs.Ids.{Id}
use Rattle.ttx_page.specs.Laws.{EachSlotTurns, StreamsMove}
use Rattle.ttx_page.specs.Packets.{Packet, Empty, Unreadable, Header, Row, Links, Info, Other, packet_of}
use Rattle.ttx_page.specs.Pages.{Page}
use Rattle.ttx_page.specs.declared.item.Item.{Item}
use Rattle.ttx_page.specs.declared.item.Item.TheVariants.{Head as TheHead, Row as TheRow, Links as TheLinks}
use Rattle.ttx_page.specs.Streams.{Stream, repeated, carries, IsTransmission, AreSuccessive}
use Rattle.ttx_page.specs.Receptions.{IsTextByte, IsRight, OneIs}
use Rattle.ttx_counter.specs.Streaks.{streak_to, IsInside, IsRightAmong, StreaksDecide}
use Rattle.ttx_counter.specs.Listening.{item_of}
use Rattle.ttx_counter.specs.Cells.{is_text}
use Rattle.ttx_monitor.specs.Watching.{Watched, sent_at, KeepsByte, IsWithin, wrong_at}
use Rattle.ttx_monitor.specs.Places.{IsTable}
use Rattle.ttx_monitor.specs.Streaks.{sends_at, streak, IsNoted}
use Rattle.ttx_monitor.specs.Breaches.{IsRepeatedWrong, IsUnrepeated}
use Rattle.ttx_monitor.specs.MostWrong.{SendsItem}
use Rattle.ttx_monitor.specs.Standing.{IsKept}
use Rattle.ttx_monitor.specs.declared.places.RowPlace.{RowPlace}
use Rattle.ttx_monitor.specs.declared.breach.TextByte.{TextByte}
use Rattle.ttx_counter.proofs.SentRows.{IsNumbered, numbered}
use Rattle.ttx_monitor.proofs.FeedStreaks.{same, unsent, sent_ext}

one_of : (P Q : ℤ → Type 0) (list : List ℤ) (R : ℤ → Type 0) → AllByRecursion R list → ((j : ℤ) → R j → P j → Q j) → OneIs P list → OneIs Q list
one_of P Q [] R a f h = h
one_of P Q (j ∷ list) R a f (inl h) = inl (f j a.0 h)
one_of P Q (j ∷ list) R a f (inr h) = inr (one_of P Q list R a.1 f h)

text_of : (r x : ℕ) → is_text r x ≡ true → IsTextByte (item_of r) x
text_of zero x h = (grind (arith, nat_tests), grind (arith, nat_tests))
text_of (suc r) x h = (grind (arith, nat_tests), grind (arith, nat_tests))

text_head : (x : ℕ) → 10 ≤ x → x < 34 → is_text 0 x ≡ true
text_head x a b = grind (arith, nat_tests)

text_row : (r x : ℕ) → 2 ≤ x → x < 42 → is_text (suc r) x ≡ true
text_row r x a b = grind (arith, nat_tests)

use_and : (a b : Bool) → (a && b) ≡ true → b ≡ true
use_and true b h = h
use_and false b h = absurd (both_ways _ refl h)

carries_number : (mag r : ℕ) (p : Packet) → IsNumbered p → carries mag (TheRow r) p ≡ true → (1 ≤ r) × (r ≤ 24)
carries_number mag r (Row m number text) a h = let e : number ≡ r = eqb-true number r (use_and (m == mag) (number == r) h)
    in (let b = a.0 in omega arith, let b = a.1 in omega arith)
carries_number mag r Empty a h = absurd (both_ways _ refl h)
carries_number mag r Unreadable a h = absurd (both_ways _ refl h)
carries_number mag r (Header id control text) a h = absurd (both_ways _ refl h)
carries_number mag r (Links m content) a h = absurd (both_ways _ refl h)
carries_number mag r Info a h = absurd (both_ways _ refl h)
carries_number mag r Other a h = absurd (both_ways _ refl h)

first : (s : Stream) (page : Id) (k : ℕ) → 1 ≤ k → (item : Item) (list : List ℤ) → length list ≡ k → AreSuccessive s page item list →
    (j : ℤ) × IsTransmission s page item j
first s page k some item [] len a = absurd (omega arith)
first s page k some item (j ∷ []) len a = (j, a)
first s page k some item (j ∷ i ∷ list) len a = (j, a.0)

pub page_here : (pages : List Page) (i : ℕ) → i < length pages → (p : Page) × (slice_get pages i ≡ Some p)
page_here pages i lt = elim (slice_get_cases pages i).1 as (λ _. (p : Page) × (slice_get pages i ≡ Some p)) [
  | inl w ↦ (w.0, w.2)
  | inr past ↦ absurd (let p = past.0 in omega arith)
]

-- a transmission of a slot is one of its place in the cycle
placed : EachSlotTurns → StreamsMove → (cycle : List (List ℕ)) → 0 < length cycle → (page : Id) (item : Item) (m : ℕ) →
    IsTransmission (repeated cycle) page item (pos (m % length cycle)) ↔ IsTransmission (repeated cycle) page item (pos m)
placed turns move cycle some page item m =
    let t = turns (length cycle) (pos m) some in
    let same_on : (i : ℤ) → repeated cycle (i +ℤ t.by) ≡ repeated cycle i = λ i. ap (λ z. get_or cycle z []) (t.same i) in
    let there = move (repeated cycle) t.by same_on in
    let back = move (repeated cycle) (pos 0 -ℤ t.by) there.back in (
      (λ a. subst (IsTransmission (repeated cycle) page item) (sym t.place) (there.transmission page item (pos (m % length cycle)) a)),
      (λ a. let e : pos m +ℤ (pos 0 -ℤ t.by) ≡ pos (m % length cycle) = let p = t.place in omega (arith, ints)
          in subst (IsTransmission (repeated cycle) page item) e (back.transmission page item (pos m) a)),
    )

module _ (numbers : RowsAreNumbered) (turns : EachSlotTurns) (move : StreamsMove) (decide : StreaksDecide) (w : Watched)
    (cyc : 0 < length w.cycle) (some : 1 ≤ w.repeat) (table : List (Option RowPlace)) (t : IsTable w.cycle w.pages table) where
  -- the transmissions are those of the table
  pub told : (i r : ℕ) (p : Page) → slice_get w.pages i ≡ Some p → r < 25 → (m : ℕ) →
      (sends_at w table i r m ≡ true) ↔ IsTransmission (repeated w.cycle) p.id (item_of r) (pos w.start +ℤ pos m)
  told i r p is low m =
      let inside : (w.start + m) % length w.cycle < length w.cycle = omega arith in
      let here = (t.each ((w.start + m) % length w.cycle) inside).told i p r is low in
      let moved = placed turns move w.cycle cyc p.id (item_of r) (w.start + m) in
      let e : pos (w.start + m) ≡ pos w.start +ℤ pos m = omega (arith, ints) in (
        (λ h. subst (IsTransmission (repeated w.cycle) p.id (item_of r)) e (moved.0 (here.0 h))),
        (λ a. here.1 (moved.1 (subst (IsTransmission (repeated w.cycle) p.id (item_of r)) (sym e) a))),
      )

  -- each test that says which slots send the row counts the streaks of the table
  pub streak_as : (feed : List (List ℕ)) (i r x : ℕ) (p : Page) → slice_get w.pages i ≡ Some p → r < 25 → (sent : ℕ → Bool) →
      SendsItem w feed p r sent → (n : ℕ) → n ≤ length feed → streak_to sent (wrong_at w feed x) n ≡ streak w table feed i r x n
  streak_as feed i r x p is low sent sends n le =
      sent_ext sent (sends_at w table i r) (wrong_at w feed x) n (λ m lt. same_test (sent m) (sends_at w table i r m)
      (sends m (omega arith)) (told i r p is low m))
    where
      same_test : {T : Type 0} (a b : Bool) → (a ≡ true) ↔ T → (b ≡ true) ↔ T → a ≡ b
      same_test true true f g = refl
      same_test true false f g = sym (g.1 (f.0 refl))
      same_test false true f g = f.1 (g.0 refl)
      same_test false false f g = refl

  module _ (feed : List (List ℕ)) where
    right_at : (x m : ℕ) → wrong_at w feed x m ≡ false → get_or (get_or feed m []) x 0 ≡ get_or (sent_at w m) x 0
    right_at x m h = eqb-true _ _ (not_no (get_or (get_or feed m []) x 0 == get_or (sent_at w m) x 0) h)
      where
        not_no : (b : Bool) → not b ≡ false → b ≡ true
        not_no true h = refl
        not_no false h = absurd (both_ways _ h refl)

    is_right : (x m : ℕ) → get_or (get_or feed m []) x 0 ≡ get_or (sent_at w m) x 0 → wrong_at w feed x m ≡ false
    is_right x m e = ap not (eq-eqb _ _ e)

    -- streaks below k are equivalent to the rule for the byte
    pub byte_decides : (i r x : ℕ) (p : Page) → slice_get w.pages i ≡ Some p → r < 25 →
        ((m : ℕ) → m ≤ length feed → streak w table feed i r x m < w.repeat) ↔ KeepsByte w feed p.id (item_of r) x
    byte_decides i r x p is low =
        let d = decide (repeated w.cycle) p.id (item_of r) (pos w.start) (sends_at w table i r) (wrong_at w feed x) w.repeat (length feed) some
        (λ m lt. told i r p is low m) in (
          (λ below slots len succ inside. one_of (IsRightAmong (pos w.start) (length feed) (wrong_at w feed x))
              (IsRight (repeated w.cycle) (pos w.start) feed x) slots (IsInside (pos w.start) (length feed)) inside
              (λ j a g. record {
                index = g.index;
                place = g.place;
                right = subst (λ y. get_or (get_or feed g.index []) x 0 ≡ get_or (repeated w.cycle y) x 0) (sym g.place) (right_at x g.index g.told);
              })
              (d.0 below slots len succ inside)),
          (λ keeps. d.1 (λ slots len succ inside. one_of (IsRight (repeated w.cycle) (pos w.start) feed x)
              (IsRightAmong (pos w.start) (length feed) (wrong_at w feed x)) slots (IsInside (pos w.start) (length feed)) inside
              (λ j a g.
              let at = g.place in
              record {
                index = g.index;
                below = let b = a.1 in omega (arith, ints);
                place = at;
                told = is_right x g.index (subst (λ y. get_or (get_or feed g.index []) x 0 ≡ get_or (repeated w.cycle y) x 0) at g.right);
              })
              (keeps slots len succ inside))),
        )

    pub kept_within : IsKept w table feed → IsWithin w feed
    kept_within k = record {
      each = k.each;
      pages = λ i p is. record { each = k.each; one_right = λ item x text. rule i p is item x text };
    }
      where
        keeps : (i : ℕ) (p : Page) → slice_get w.pages i ≡ Some p → (r x : ℕ) → r < 25 → is_text r x ≡ true → KeepsByte w feed p.id (item_of r) x
        keeps i p is r x low text = (byte_decides i r x p is low).0 (λ m le. k.below i r x m (slice_get_within w.pages i p is) low text le)

        rule : (i : ℕ) (p : Page) → slice_get w.pages i ≡ Some p → (item : Item) (x : ℕ) → IsTextByte item x → KeepsByte w feed p.id item x
        rule i p is TheHead x text = keeps i p is 0 x (omega arith) (text_head x text.0 text.1)
        rule i p is (TheRow zero) x text = λ slots len succ inside.
            let a = first (repeated w.cycle) p.id w.repeat some (TheRow zero) slots len succ in
            absurd (let b = carries_number p.id.mag 0 (packet_of (repeated w.cycle a.0)) (numbered numbers (repeated w.cycle a.0)) a.1.owned.2
            in let z = b.0 in omega arith)
        rule i p is (TheRow (suc r)) x text = λ slots len succ inside.
            let a = first (repeated w.cycle) p.id w.repeat some (TheRow (suc r)) slots len succ in
            let b = carries_number p.id.mag (suc r) (packet_of (repeated w.cycle a.0)) (numbered numbers (repeated w.cycle a.0)) a.1.owned.2 in
            keeps i p is (suc r) x (let z = b.1 in omega arith) (text_row r x text.0 text.1) slots len succ inside
        rule i p is TheLinks x text = absurd text

    pub within_kept : IsWithin w feed → IsKept w table feed
    within_kept in_rule = record {
      each = in_rule.each;
      below = λ i r x m lt low text le.
          let here = page_here w.pages i lt in
          (byte_decides i r x here.0 here.1 low).1 (λ slots. (in_rule.pages i here.0 here.1).one_right (item_of r) x (text_of r x text) slots) m le;
    }

  -- one more slot
  module _ (feed : List (List ℕ)) (slot : List ℕ) where
    pub kept_on : IsKept w table feed → MayBeReceivedAs (sent_at w (length feed)) slot → IsNoted w table (feed ++ slot ∷ []) (length feed) None →
        IsKept w table (feed ++ slot ∷ [])
    kept_on k may none = record {
      each = λ n lt.
          let g = length_push feed slot in
          elim (cases_lt n (length feed)) as (λ _. MayBeReceivedAs (sent_at w n) (get_or (feed ++ slot ∷ []) n [])) [
            | inl before ↦ subst (MayBeReceivedAs (sent_at w n)) (sym (get_or_append_left feed (slot ∷ []) [] n before)) (k.each n before)
            | inr after ↦
                let e : length feed ≡ n = omega arith in
                subst (λ m. MayBeReceivedAs (sent_at w m) (get_or (feed ++ slot ∷ []) m [])) e
                (subst (MayBeReceivedAs (sent_at w (length feed))) (sym (get_or_push feed slot [] (length feed) refl)) may)
          ];
      below = λ i r x m lt low text le.
          let g = length_push feed slot in
          elim (cases_lt (length feed) m) as (λ _. streak w table (feed ++ slot ∷ []) i r x m < w.repeat) [
            | inr before ↦ (let s = same w table feed slot i r x m before in let b = k.below i r x m lt low text before in omega arith)
            | inl after ↦
                let e : length feed + 1 ≡ m = omega arith in
                subst (λ z. streak w table (feed ++ slot ∷ []) i r x z < w.repeat) e
                (elim (cases_Bool (sends_at w table i r (length feed))) as
                (λ _. streak w table (feed ++ slot ∷ []) i r x (length feed + 1) < w.repeat) [
                  | inl h ↦ none i r x lt low text h
                  | inr h ↦ (let s = unsent w table feed slot i r x h in let b = k.below i r x (length feed) lt low text (omega arith) in omega arith)
                ])
          ];
    }

    pub kept_before : IsKept w table (feed ++ slot ∷ []) → IsKept w table feed
    kept_before k = record {
      each = λ n lt. subst (MayBeReceivedAs (sent_at w n)) (get_or_append_left feed (slot ∷ []) [] n lt)
          (k.each n (let g = length_push feed slot in omega arith));
      below = λ i r x m lt low text le.
          let s = same w table feed slot i r x m le in
          let b = k.below i r x m lt low text (let g = length_push feed slot in omega arith) in omega arith;
    }

    pub kept_here : IsKept w table (feed ++ slot ∷ []) → MayBeReceivedAs (sent_at w (length feed)) slot
    kept_here k = subst (MayBeReceivedAs (sent_at w (length feed))) (get_or_push feed slot [] (length feed) refl)
        (k.each (length feed) (let g = length_push feed slot in omega arith))

    pub none_reached : IsKept w table (feed ++ slot ∷ []) → (b : TextByte) → IsNoted w table (feed ++ slot ∷ []) (length feed) (Some b) → ⊥
    none_reached k b r = absurd (let below = k.below b.page b.row b.byte (length feed + 1) r.page r.row r.text
        (let g = length_push feed slot in omega arith) in let long = r.long in omega arith)

    pub unrepeated : IsNoted w table (feed ++ slot ∷ []) (length feed) None → IsUnrepeated w feed slot
    unrepeated none i r x p is low text sends_it sent sends =
        let g = length_push feed slot in
        let e = streak_as (feed ++ slot ∷ []) i r x p is low sent sends (length (feed ++ slot ∷ [])) (omega arith) in
        let a = ap (streak w table (feed ++ slot ∷ []) i r x) g in
        let l = none i r x (slice_get_within w.pages i p is) low text ((told i r p is low (length feed)).1 sends_it) in omega arith

    pub repeats : (b : TextByte) → IsNoted w table (feed ++ slot ∷ []) (length feed) (Some b) → IsRepeatedWrong w feed slot b
    repeats b r = record {
      page = r.page;
      row = r.row;
      text = r.text;
      wrong = λ e. both_ways _ (is_right (feed ++ slot ∷ []) b.byte (length feed)
          (ap (λ z. get_or z b.byte 0) (get_or_push feed slot [] (length feed) refl) ∙ e)) r.wrong;
      sent = λ p is. (told b.page b.row p is r.row (length feed)).0 r.sent;
      long = λ p is sent sends.
          let g = length_push feed slot in
          let e = streak_as (feed ++ slot ∷ []) b.page b.row b.byte p is r.row sent sends (length (feed ++ slot ∷ [])) (omega arith) in
          let a = ap (streak w table (feed ++ slot ∷ []) b.page b.row b.byte) g in
          let l = r.long in omega arith;
      shorter = λ p is y lt text sent sends.
          let g = length_push feed slot in
          let e = streak_as (feed ++ slot ∷ []) b.page b.row y p is r.row sent sends (length (feed ++ slot ∷ [])) (omega arith) in
          let a = ap (streak w table (feed ++ slot ∷ []) b.page b.row y) g in
          let l = r.first y lt text in omega arith;
      broken = λ p is keeps. absurd (let below = (byte_decides (feed ++ slot ∷ []) b.page b.row b.byte p is r.row).1 keeps (length feed + 1)
          (let g = length_push feed slot in omega arith) in let long = r.long in omega arith);
      first = λ within p is y lt text. (byte_decides (feed ++ slot ∷ []) b.page b.row y p is r.row).0
          (λ m le. let g = length_push feed slot in
          elim (cases_lt (length feed) m) as (λ _. streak w table (feed ++ slot ∷ []) b.page b.row y m < w.repeat) [
            | inr before ↦
                let s = same w table feed slot b.page b.row y m before in
                let k = (within_kept feed within).below b.page b.row y m r.page r.row text before in omega arith
            | inl after ↦
                let e : length feed + 1 ≡ m = omega arith in
                subst (λ z. streak w table (feed ++ slot ∷ []) b.page b.row y z < w.repeat) e (r.first y lt text)
          ]);
    }
