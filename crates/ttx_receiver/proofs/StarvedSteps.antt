-- What one slot changes of a character or of the links, and when a receiver that takes every choice is storing after it.
use Rattle.std.proofs.Common.{◌≡◌, ◌≢◌, ◌⊎◌, ℕ, ◌-◌, ◌<◌, ◌≤◌, Bool, true, false, not, ◌&&◌, ◌==◌, List, [], ◌++◌, Some, None, length, get_or, take}
use Rattle.std.proofs.Common.{drop, set, refl, sym, ap, ◌∙◌, subst, inl, inr, arith, eqb-true, eq-eqb, nat_le, get_or-set_same, get_or-set_other}
use Rattle.std.proofs.Common.{length-drop, get_or-drop}
use Rattle.std.proofs.lemmas.Bool.{and_from, cases_Bool, and_parts, cond_both, both_ways}
use Rattle.ttx_code.specs.Words.{is_odd}
use Rattle.ttx_header.specs.Control.{c4, c11}
use Rattle.ttx_page.specs.Packets.{Packet, Header, Row, Links}
use Rattle.ttx_page.specs.Pages.{Page, selected_mag, matches}
use Rattle.ttx_page.specs.declared.selection.Selection.{Selection}
use Rattle.ttx_page.specs.declared.item.Item.TheVariants.{Head as TheHead, Row as TheRow, Links as TheLinks}
use Rattle.ttx_page.specs.declared.class.Class.TheVariants.{Any}
use Rattle.ttx_page.specs.Memories.{Memory, char_at}
use Rattle.ttx_page.specs.Receivers.{stored_row, with_row, with_storing, erased, begun, with_links, erases, misses, after}
use Rattle.ttx_page.specs.Streams.{heads, heads_matched, ends_serial, carries}
use Rattle.ttx_receiver.specs.Starving.{is_bound, takes}
use Rattle.ttx_receiver.proofs.StoredRows.{stored_row_at}
use Rattle.ttx_receiver.proofs.StepsOverPage.{Shape, IsHeadOf, erased_first, shape_erased}
use Rattle.ttx_receiver.proofs.TakenAndKept.{erases_not, head_char}

-- the first byte of the text has even parity
abbrev pub IsFirstEven : Packet → Type 0
IsFirstEven (Header id control text) = is_odd (get_or text 0 0) ≡ false
IsFirstEven (Row mag number text) = is_odd (get_or text 0 0) ≡ false
IsFirstEven (Links mag content) = Unit {0}
IsFirstEven _ = Unit {0}

even_kept : (row text : List ℕ) → 0 < length row → is_odd (get_or text 0 0) ≡ false → get_or (stored_row row text) 0 0 ≡ get_or row 0 0
even_kept row text lt even = elim (stored_row_at row text 0 lt) as (λ _. get_or (stored_row row text) 0 0 ≡ get_or row 0 0)
    [ inl e ↦ e | inr t ↦ absurd (both_ways _ even t.good) ]

and_false : (a b : Bool) → a ≡ true → (a && b) ≡ false → b ≡ false
and_false true b h k = k
and_false false b h k = cc

-- the receiver is still storing: it was storing before, and the packet does not end this
pub record HasGoneOn (m new : Memory) (sel : Selection) (pkt : Packet) : Type 0 where
  pub was : m.storing ≡ true
  pub no_header : heads (selected_mag sel) pkt ≡ false
  pub no_end : ends_serial (selected_mag sel) pkt ≡ false
  pub same_age : new.age ≡ m.age

abbrev pub StoresSince : Memory → Memory → Selection → Packet → Type 0
StoresSince m new sel pkt = ((heads_matched sel pkt ≡ true) × (new.age ≡ 0)) ⊎ HasGoneOn m new sel pkt

module _ (lines : ℕ) (sel : Selection) where
  pub stores_since : (m : Memory) (pkt : Packet) → (after Any lines sel true m pkt).storing ≡ true →
      StoresSince m (after Any lines sel true m pkt) sel pkt
  stores_since m (Header id control text) st =
      cond_both (matches sel id) _ _ (λ (new : Memory). new.storing ≡ true → StoresSince m new sel (Header id control text))
      (λ e _. inl (e, refl))
      (λ _. cond_both (id.mag == selected_mag sel) _ _ (λ (new : Memory). new.storing ≡ true → StoresSince m new sel (Header id control text))
      (λ _ h. absurd (both_ways false refl h))
      (λ e. cond_both (c11 control && true) (with_storing m false) m
      (λ (new : Memory). new.storing ≡ true → StoresSince m new sel (Header id control text))
      (λ _ h. absurd (both_ways false refl h))
      (λ k h. inr (record { was = h; no_header = e; no_end = no_taint (id.mag == selected_mag sel) (c11 control) k; same_age = refl })))) st
    where
      no_taint : (a b : Bool) → (b && true) ≡ false → (not a && b) ≡ false
      no_taint true b k = refl
      no_taint false true k = k
      no_taint false false k = refl
  stores_since m (Row mag number text) st =
      cond_both ((mag == selected_mag sel) && m.storing && not (misses lines true m))
      (with_row m number (stored_row (get_or m.rows number []) text)) m
      (λ (new : Memory). new.storing ≡ true → StoresSince m new sel (Row mag number text))
      (λ _ h. inr (record { was = h; no_header = refl; no_end = refl; same_age = refl }))
      (λ _ h. inr (record { was = h; no_header = refl; no_end = refl; same_age = refl })) st
  stores_since m (Links mag None) st =
      cond_both ((mag == selected_mag sel) && m.storing && not (misses lines true m)) m m
      (λ (new : Memory). new.storing ≡ true → StoresSince m new sel (Links mag None))
      (λ _ h. inr (record { was = h; no_header = refl; no_end = refl; same_age = refl }))
      (λ _ h. inr (record { was = h; no_header = refl; no_end = refl; same_age = refl })) st
  stores_since m (Links mag (Some content)) st =
      cond_both ((mag == selected_mag sel) && m.storing && not (misses lines true m)) (with_links m (Some content)) m
      (λ (new : Memory). new.storing ≡ true → StoresSince m new sel (Links mag (Some content)))
      (λ _ h. inr (record { was = h; no_header = refl; no_end = refl; same_age = refl }))
      (λ _ h. inr (record { was = h; no_header = refl; no_end = refl; same_age = refl })) st
  stores_since m _ h = inr (record { was = h; no_header = refl; no_end = refl; same_age = refl })

  abbrev taken_by : Memory → ℕ → Bool
  taken_by m mag = (mag == selected_mag sel) && m.storing && not (misses lines true m)

  taken_is : (m : Memory) (mag r number : ℕ) → taken_by m mag ≡ true → (number == r) ≡ true → takes lines sel (TheRow r) m (Row mag number []) ≡ true
  taken_is m mag r number e q =
      and_from ((mag == selected_mag sel) && (number == r)) (is_bound lines m)
      (and_from (mag == selected_mag sel) (number == r) ((and_parts _ _ (and_parts _ _ e).0).0) q)
      (and_from m.storing (not (nat_le m.age lines)) ((and_parts _ _ (and_parts _ _ e).0).1) ((and_parts _ _ e).1))

  -- the first character of row r does not change if each row r that is taken has a wrong first byte
  pub wrong_row : (r : ℕ) → 1 ≤ r → r < 25 → (p : Page) → c4 p.control ≡ false → (m : Memory) (pkt : Packet) → Shape m → m.fresh ≡ false →
      (heads_matched sel pkt ≡ true → IsHeadOf p pkt) → (takes lines sel (TheRow r) m pkt ≡ true → IsFirstEven pkt) →
      char_at (after Any lines sel true m pkt) r 0 ≡ char_at m r 0
  wrong_row r low high p k4 m (Header id control text) s f hh even =
      let P : Memory → Type 0 = λ new. char_at new r 0 ≡ char_at m r 0 in
      cond_both {A = Memory} (matches sel id) _ _ P
      (λ e.
      let k : c4 control ≡ false = ap c4 (hh e).0 ∙ k4 in
      let ne : r ≢ 0 = omega arith in
      cond_both {A = Memory} (erases Any true m control) (erased m) m (λ x. P (begun x control text))
      (λ q. absurd (both_ways _ (erases_not Any true m control k f) q))
      (λ _. ap (λ row. get_or row 0 0) (get_or-set_other m.rows 0 r _ [] ne)))
      (λ _. cond_both {A = Memory} (id.mag == selected_mag sel) _ _ P (λ _. refl)
      (λ _. cond_both {A = Memory} (c11 control && true) (with_storing m false) m P (λ _. refl) (λ _. refl)))
  wrong_row r low high p k4 m (Row mag number text) s f hh even =
      let P : Memory → Type 0 = λ new. char_at new r 0 ≡ char_at m r 0 in
      let row = stored_row (get_or m.rows number []) text in
      cond_both {A = Memory} (taken_by m mag) (with_row m number row) m P
      (λ e. elim (cases_Bool (number == r)) as (λ _. P (with_row m number row)) [
        | inl q ↦
            let same : number ≡ r = eqb-true number r q in
            let lt : number < length m.rows = omega (arith, s.count) in
            let w : 0 < length (get_or m.rows number []) = omega (arith, s.width number (omega arith)) in
            subst (λ x. get_or (get_or (set m.rows number row) x []) 0 0 ≡ get_or (get_or m.rows x []) 0 0) same
            (ap (λ z. get_or z 0 0) (get_or-set_same m.rows number row [] lt)
            ∙ even_kept (get_or m.rows number []) text w (even (taken_is m mag r number e q)))
        | inr q ↦
            let ne : r ≢ number = λ z. both_ways _ q (eq-eqb number r (sym z)) in
            ap (λ z. get_or z 0 0) (get_or-set_other m.rows number r row [] ne)
      ])
      (λ _. refl)
  wrong_row r low high p k4 m (Links mag None) s f hh even =
      cond_both {A = Memory} (taken_by m mag) m m (λ new. char_at new r 0 ≡ char_at m r 0) (λ _. refl) (λ _. refl)
  wrong_row r low high p k4 m (Links mag (Some content)) s f hh even =
      cond_both {A = Memory} (taken_by m mag) (with_links m (Some content)) m (λ new. char_at new r 0 ≡ char_at m r 0) (λ _. refl) (λ _. refl)
  wrong_row r low high p k4 m _ s f hh even = refl

  -- nor does column 8 of row 0 if each matching header has a wrong first byte
  pub wrong_head : (m : Memory) (pkt : Packet) → Shape m → (takes lines sel TheHead m pkt ≡ true → IsFirstEven pkt) →
      carries (selected_mag sel) (TheRow 0) pkt ≡ false →
      char_at (after Any lines sel true m pkt) 0 8 ≡ char_at m 0 8
  wrong_head m (Header id control text) s even none =
      let P : Memory → Type 0 = λ new. char_at new 0 8 ≡ char_at m 0 8 in
      cond_both {A = Memory} (matches sel id) _ _ P
      (λ e. cond_both {A = Memory} (erases Any true m control) (erased m) m (λ x. P (begun x control text))
      (λ _. begun_keeps (erased m) (shape_erased m s) (even e) ∙ ap (λ row. get_or row 8 0) (erased_first m.rows s.count))
      (λ _. begun_keeps m s (even e)))
      (λ _. cond_both {A = Memory} (id.mag == selected_mag sel) _ _ P (λ _. refl)
      (λ _. cond_both {A = Memory} (c11 control && true) (with_storing m false) m P (λ _. refl) (λ _. refl)))
    where
      begun_keeps : (x : Memory) → Shape x → is_odd (get_or text 0 0) ≡ false → char_at (begun x control text) 0 8 ≡ char_at x 0 8
      begun_keeps x s ev =
          let row = get_or x.rows 0 [] in
          let new : List ℕ = take 8 row ++ stored_row (drop 8 row) text in
          let lt : 0 < length x.rows = omega (arith, s.count) in
          let w : length row ≡ 40 = s.width 0 (omega arith) in
          let w' : length (drop 8 row) ≡ 32 = length-drop 8 row ∙ ap (λ n. n - 8) w in
          ap (λ z. get_or z 8 0) (get_or-set_same x.rows 0 new [] lt) ∙ head_char row text 0 w
          ∙ even_kept (drop 8 row) text (omega arith) ev ∙ get_or-drop 8 row 0 0
  wrong_head m (Row mag number text) s even none =
      let P : Memory → Type 0 = λ new. char_at new 0 8 ≡ char_at m 0 8 in
      let row = stored_row (get_or m.rows number []) text in
      cond_both {A = Memory} (taken_by m mag) (with_row m number row) m P
      (λ e.
      let ne : 0 ≢ number = λ z. both_ways _ none (and_from _ _ ((and_parts _ _ (and_parts _ _ e).0).0) (eq-eqb number 0 (sym z))) in
      ap (λ z. get_or z 8 0) (get_or-set_other m.rows number 0 row [] ne))
      (λ _. refl)
  wrong_head m (Links mag None) s even none =
      cond_both {A = Memory} (taken_by m mag) m m (λ new. char_at new 0 8 ≡ char_at m 0 8) (λ _. refl) (λ _. refl)
  wrong_head m (Links mag (Some content)) s even none =
      cond_both {A = Memory} (taken_by m mag) (with_links m (Some content)) m (λ new. char_at new 0 8 ≡ char_at m 0 8) (λ _. refl) (λ _. refl)
  wrong_head m _ s even none = refl

  -- nor do the links if no links are taken
  pub wrong_links : (p : Page) → c4 p.control ≡ false → (m : Memory) (pkt : Packet) → m.fresh ≡ false →
      (heads_matched sel pkt ≡ true → IsHeadOf p pkt) →
      (takes lines sel TheLinks m pkt ≡ true → ⊥) → (after Any lines sel true m pkt).links ≡ m.links
  wrong_links p k4 m (Header id control text) f hh none =
      let P : Memory → Type 0 = λ new. new.links ≡ m.links in
      cond_both {A = Memory} (matches sel id) _ _ P
      (λ e.
      let k : c4 control ≡ false = ap c4 (hh e).0 ∙ k4 in
      cond_both {A = Memory} (erases Any true m control) (erased m) m (λ x. P (begun x control text))
      (λ q. absurd (both_ways _ (erases_not Any true m control k f) q)) (λ _. refl))
      (λ _. cond_both {A = Memory} (id.mag == selected_mag sel) _ _ P (λ _. refl)
      (λ _. cond_both {A = Memory} (c11 control && true) (with_storing m false) m P (λ _. refl) (λ _. refl)))
  wrong_links p k4 m (Row mag number text) f hh none =
      cond_both {A = Memory} (taken_by m mag) (with_row m number (stored_row (get_or m.rows number []) text)) m
      (λ new. new.links ≡ m.links) (λ _. refl) (λ _. refl)
  wrong_links p k4 m (Links mag content) f hh none =
      cond_both {A = Memory} (taken_by m mag) (with_links m content) m (λ new. new.links ≡ m.links)
      (λ e. absurd (none (and_from (mag == selected_mag sel) (is_bound lines m) ((and_parts _ _ (and_parts _ _ e).0).0)
      (and_from m.storing (not (nat_le m.age lines)) ((and_parts _ _ (and_parts _ _ e).0).1) ((and_parts _ _ e).1)))))
      (λ _. refl)
  wrong_links p k4 m _ f hh none = refl
