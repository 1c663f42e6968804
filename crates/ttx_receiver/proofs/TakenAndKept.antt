-- What a receiver takes from a slot, and what it keeps.
use Rattle.std.proofs.Common.{◌≡◌, ◌≢◌, ℕ, ◌+◌, ◌-◌, ◌%◌, ◌<◌, ◌≤◌, Bool, true, false, not, ◌&&◌, ◌==◌, List, [], ◌++◌, Some, None, length, get_or}
use Rattle.std.proofs.Common.{take, drop, set, refl, sym, ap, ◌∙◌, subst, inl, inr, arith, eqb-true, eq-eqb, nat_le, get_or-set_same}
use Rattle.std.proofs.Common.{get_or-set_other, length-take-le, length-drop, get_or-drop, get_or-append-add}
use Rattle.std.proofs.lemmas.Bool.{and_from, cases_Bool, not_from_false, or_from, and_parts, cond_both, both_ways, lt-leb}
use Rattle.ttx_code.specs.Words.{is_odd}
use Rattle.ttx_page.specs.Packets.{Packet, Empty, Unreadable, Header, Row, Links}
use Rattle.ttx_page.specs.Pages.{Page, selected_mag, matches, page_row}
use Rattle.ttx_page.specs.declared.selection.Selection.{Selection}
use Rattle.ttx_page.specs.declared.item.Item.TheVariants.{Row as TheRow, Links as TheLinks}
use Rattle.ttx_page.specs.declared.class.Class.{Class}
use Rattle.ttx_page.specs.declared.class.Class.TheVariants.{Any, Clearing}
use Rattle.ttx_header.specs.Control.{c4, c11}
use Rattle.ttx_page.specs.Memories.{Memory, char_at}
use Rattle.ttx_page.specs.Receivers.{stored_row, with_row, with_storing, erased, begun, with_links, erases, misses, after}
use Rattle.ttx_page.specs.Streams.{heads_matched, carries}
use Rattle.ttx_receiver.proofs.StoredRows.{stored_row_at, stored_row_good}
use Rattle.ttx_receiver.proofs.StepsOverPage.{Shape, GoodText, IsHeadOf, IsRowOf, AreLinksOf, erased_first, shape_erased}

pub erases_not : (class : Class) (choice : Bool) (m : Memory) (control : ℕ) → c4 control ≡ false → m.fresh ≡ false →
    erases class choice m control ≡ false
erases_not Any choice m control k f = or_from (c4 control) (m.fresh && choice) k (subst (λ b. (b && choice) ≡ false) (sym f) refl)
erases_not Clearing choice m control k f = or_from (c4 control) m.fresh k f

-- a stored row keeps its right characters if every byte with odd parity is right
kept_char : (old text chars : List ℕ) (c n : ℕ) → length old ≡ n → c < n → GoodText chars n text → get_or old c 0 ≡ get_or chars c 0 →
    get_or (stored_row old text) c 0 ≡ get_or chars c 0
kept_char old text chars c n w h good was = elim (stored_row_at old text c (omega arith)) as
    (λ _. get_or (stored_row old text) c 0 ≡ get_or chars c 0)
    [ inl e ↦ e ∙ was | inr t ↦ t.is ∙ good c h t.good ]

-- column 8 + c of row 0
pub head_char : (row text : List ℕ) (c : ℕ) → length row ≡ 40 → get_or (take 8 row ++ stored_row (drop 8 row) text) (8 + c) 0
    ≡ get_or (stored_row (drop 8 row) text) c 0
head_char row text c w =
    let k : length (take 8 row) ≡ 8 = length-take-le 8 row (omega arith) in
    ap (λ n. get_or (take 8 row ++ stored_row (drop 8 row) text) (n + c) 0) (sym k)
    ∙ get_or-append-add (take 8 row) (stored_row (drop 8 row) text) c 0

-- byte c of the text is the right character
pub record IsRightAt (chars text : List ℕ) (c : ℕ) : Type 0 where
  pub within : c < length text
  pub good : is_odd (get_or text c 0) ≡ true
  pub right : get_or text c 0 % 128 ≡ get_or chars c 0

abbrev pub HeadRightAt : Page → ℕ → Packet → Type 0
HeadRightAt p c (Header id control text) = IsRightAt p.head text c
HeadRightAt p c Empty = ⊥
HeadRightAt p c Unreadable = ⊥
HeadRightAt p c (Row mag number text) = ⊥
HeadRightAt p c (Links mag content) = ⊥
HeadRightAt p c _ = ⊥

abbrev pub RowRightAt : Page → ℕ → ℕ → Packet → Type 0
RowRightAt p r c (Row mag number text) = IsRightAt (page_row p r) text c
RowRightAt p r c Empty = ⊥
RowRightAt p r c Unreadable = ⊥
RowRightAt p r c (Header id control text) = ⊥
RowRightAt p r c (Links mag content) = ⊥
RowRightAt p r c _ = ⊥

module _ (class : Class) (lines : ℕ) (sel : Selection) (p : Page) where
  abbrev takes : Bool → Memory → ℕ → Bool
  takes choice m mag = (mag == selected_mag sel) && m.storing && not (misses lines choice m)

  -- a character of row r stays right
  pub keep_row : c4 p.control ≡ false → (r c : ℕ) → 1 ≤ r → r < 25 → c < 40 → (choice : Bool) (m : Memory) (pkt : Packet) → Shape m →
      m.fresh ≡ false →
      (heads_matched sel pkt ≡ true → IsHeadOf p pkt) → (m.storing ≡ true → carries (selected_mag sel) (TheRow r) pkt ≡ true → IsRowOf p r pkt) →
      char_at m r c ≡ get_or (page_row p r) c 0 → char_at (after class lines sel choice m pkt) r c ≡ get_or (page_row p r) c 0
  keep_row k4 r c low high col choice m (Header id control text) s f hh hr was =
      let P : Memory → Type 0 = λ new. char_at new r c ≡ get_or (page_row p r) c 0 in
      cond_both {A = Memory} (matches sel id) _ _ P
      (λ e.
      let k : c4 control ≡ false = ap c4 (hh e).0 ∙ k4 in
      let ne : r ≢ 0 = omega arith in
      cond_both {A = Memory} (erases class choice m control) (erased m) m (λ x. P (begun x control text))
      (λ q. absurd (both_ways _ (erases_not class choice m control k f) q))
      (λ _. ap (λ row. get_or row c 0) (get_or-set_other m.rows 0 r _ [] ne) ∙ was))
      (λ _. cond_both {A = Memory} (id.mag == selected_mag sel) _ _ P (λ _. was)
      (λ _. cond_both {A = Memory} (c11 control && choice) (with_storing m false) m P (λ _. was) (λ _. was)))
  keep_row k4 r c low high col choice m (Row mag number text) s f hh hr was =
      let P : Memory → Type 0 = λ new. char_at new r c ≡ get_or (page_row p r) c 0 in
      let row = stored_row (get_or m.rows number []) text in
      cond_both {A = Memory} (takes choice m mag) (with_row m number row) m P
      (λ e. elim (cases_Bool (number == r)) as (λ _. P (with_row m number row)) [
        | inl q ↦
            let same : r ≡ number = sym (eqb-true number r q) in
            let lt : number < length m.rows = omega (arith, s.count) in
            let good = hr ((and_parts _ _ (and_parts _ _ e).0).1) (and_from _ _ ((and_parts _ _ (and_parts _ _ e).0).0) q) in
            subst (λ x. get_or (get_or (set m.rows number row) x []) c 0 ≡ get_or (page_row p r) c 0) (sym same)
            (ap (λ z. get_or z c 0) (get_or-set_same m.rows number row [] lt)
            ∙ kept_char (get_or m.rows number []) text (page_row p r) c 40 (s.width number (omega arith)) col good
            (subst (λ x. get_or (get_or m.rows x []) c 0 ≡ get_or (page_row p r) c 0) same was))
        | inr q ↦
            let ne : r ≢ number = λ z. both_ways _ q (eq-eqb number r (sym z)) in
            ap (λ z. get_or z c 0) (get_or-set_other m.rows number r row [] ne) ∙ was
      ])
      (λ _. was)
  keep_row k4 r c low high col choice m (Links mag None) s f hh hr was =
      cond_both {A = Memory} (takes choice m mag) m m (λ new. char_at new r c ≡ get_or (page_row p r) c 0) (λ _. was) (λ _. was)
  keep_row k4 r c low high col choice m (Links mag (Some content)) s f hh hr was =
      cond_both {A = Memory} (takes choice m mag) (with_links m (Some content)) m (λ new. char_at new r c ≡ get_or (page_row p r) c 0)
      (λ _. was) (λ _. was)
  keep_row k4 r c low high col choice m _ s f hh hr was = was

  -- a character of row 0 stays right
  pub keep_head : (c : ℕ) → c < 24 → (choice : Bool) (m : Memory) (pkt : Packet) → Shape m →
      (heads_matched sel pkt ≡ true → IsHeadOf p pkt) → carries (selected_mag sel) (TheRow 0) pkt ≡ false →
      char_at m 0 (8 + c) ≡ get_or p.head c 0 → char_at (after class lines sel choice m pkt) 0 (8 + c) ≡ get_or p.head c 0
  keep_head c col choice m (Header id control text) s hh none was =
      let P : Memory → Type 0 = λ new. char_at new 0 (8 + c) ≡ get_or p.head c 0 in
      cond_both {A = Memory} (matches sel id) _ _ P
      (λ e. cond_both {A = Memory} (erases class choice m control) (erased m) m (λ x. P (begun x control text))
      (λ _. begun_keeps (erased m) control text (shape_erased m s) (hh e).1 (ap (λ row. get_or row (8 + c) 0) (erased_first m.rows s.count) ∙ was))
      (λ _. begun_keeps m control text s (hh e).1 was))
      (λ _. cond_both {A = Memory} (id.mag == selected_mag sel) _ _ P (λ _. was)
      (λ _. cond_both {A = Memory} (c11 control && choice) (with_storing m false) m P (λ _. was) (λ _. was)))
    where
      begun_keeps : (m : Memory) (control : ℕ) (text : List ℕ) → Shape m → GoodText p.head 24 text → char_at m 0 (8 + c) ≡ get_or p.head c 0 →
          char_at (begun m control text) 0 (8 + c) ≡ get_or p.head c 0
      begun_keeps m control text s good was =
          let row = get_or m.rows 0 [] in
          let new : List ℕ = take 8 row ++ stored_row (drop 8 row) text in
          let lt : 0 < length m.rows = omega (arith, s.count) in
          let w : length row ≡ 40 = s.width 0 (omega arith) in
          let w' : length (drop 8 row) ≡ 32 = length-drop 8 row ∙ ap (λ n. n - 8) w in
          ap (λ z. get_or z (8 + c) 0) (get_or-set_same m.rows 0 new [] lt) ∙ head_char row text c w
          ∙ elim (stored_row_at (drop 8 row) text c (omega arith)) as (λ _. get_or (stored_row (drop 8 row) text) c 0 ≡ get_or p.head c 0)
          [ inl e ↦ e ∙ get_or-drop 8 row c 0 ∙ was | inr t ↦ t.is ∙ good c col t.good ]
  keep_head c col choice m (Row mag number text) s hh none was =
      let P : Memory → Type 0 = λ new. char_at new 0 (8 + c) ≡ get_or p.head c 0 in
      let row = stored_row (get_or m.rows number []) text in
      cond_both {A = Memory} (takes choice m mag) (with_row m number row) m P
      (λ e.
      let ne : 0 ≢ number = λ z. both_ways _ none (and_from _ _ ((and_parts _ _ (and_parts _ _ e).0).0) (eq-eqb number 0 (sym z))) in
      ap (λ z. get_or z (8 + c) 0) (get_or-set_other m.rows number 0 row [] ne) ∙ was)
      (λ _. was)
  keep_head c col choice m (Links mag None) s hh none was =
      cond_both {A = Memory} (takes choice m mag) m m (λ new. char_at new 0 (8 + c) ≡ get_or p.head c 0) (λ _. was) (λ _. was)
  keep_head c col choice m (Links mag (Some content)) s hh none was =
      cond_both {A = Memory} (takes choice m mag) (with_links m (Some content)) m (λ new. char_at new 0 (8 + c) ≡ get_or p.head c 0)
      (λ _. was) (λ _. was)
  keep_head c col choice m _ s hh none was = was

  -- the links stay right
  pub keep_links : c4 p.control ≡ false → (choice : Bool) (m : Memory) (pkt : Packet) → m.fresh ≡ false →
      (heads_matched sel pkt ≡ true → IsHeadOf p pkt) → (m.storing ≡ true → carries (selected_mag sel) TheLinks pkt ≡ true → AreLinksOf p pkt) →
      m.links ≡ p.links → (after class lines sel choice m pkt).links ≡ p.links
  keep_links k4 choice m (Header id control text) f hh hl was =
      let P : Memory → Type 0 = λ new. new.links ≡ p.links in
      cond_both {A = Memory} (matches sel id) _ _ P
      (λ e.
      let k : c4 control ≡ false = ap c4 (hh e).0 ∙ k4 in
      cond_both {A = Memory} (erases class choice m control) (erased m) m (λ x. P (begun x control text))
      (λ q. absurd (both_ways _ (erases_not class choice m control k f) q)) (λ _. was))
      (λ _. cond_both {A = Memory} (id.mag == selected_mag sel) _ _ P (λ _. was)
      (λ _. cond_both {A = Memory} (c11 control && choice) (with_storing m false) m P (λ _. was) (λ _. was)))
  keep_links k4 choice m (Row mag number text) f hh hl was =
      cond_both {A = Memory} (takes choice m mag) (with_row m number (stored_row (get_or m.rows number []) text)) m
      (λ new. new.links ≡ p.links) (λ _. was) (λ _. was)
  keep_links k4 choice m (Links mag None) f hh hl was =
      cond_both {A = Memory} (takes choice m mag) m m (λ new. new.links ≡ p.links) (λ _. was) (λ _. was)
  keep_links k4 choice m (Links mag (Some content)) f hh hl was =
      cond_both {A = Memory} (takes choice m mag) (with_links m (Some content)) m (λ new. new.links ≡ p.links)
      (λ e. let q = hl ((and_parts _ _ (and_parts _ _ e).0).1) ((and_parts _ _ (and_parts _ _ e).0).0) in cc) (λ _. was)
  keep_links k4 choice m _ f hh hl was = was

  ready_takes : (choice : Bool) (m : Memory) (mag : ℕ) → m.storing ≡ true → lines < m.age → (mag == selected_mag sel) ≡ true →
      takes choice m mag ≡ true
  ready_takes choice m mag st old here =
      and_from _ _ (and_from _ _ here st) (not_from_false _ (misses_not choice))
    where
      misses_not : (choice : Bool) → (choice && nat_le m.age lines) ≡ false
      misses_not true = lt-leb m.age lines old
      misses_not false = refl

  -- a byte that is received right is stored
  pub take_row : (r c : ℕ) → r < 25 → c < 40 → (choice : Bool) (m : Memory) (pkt : Packet) → Shape m → m.storing ≡ true → lines < m.age →
      carries (selected_mag sel) (TheRow r) pkt ≡ true → RowRightAt p r c pkt → char_at (after class lines sel choice m pkt) r c
      ≡ get_or (page_row p r) c 0
  take_row r c high col choice m (Row mag number text) s st old here right =
      let row = stored_row (get_or m.rows number []) text in
      let same : number ≡ r = eqb-true number r ((and_parts _ _ here).1) in
      let lt : number < length m.rows = omega (arith, s.count) in
      cond_both {A = Memory} (takes choice m mag) (with_row m number row) m (λ new. char_at new r c ≡ get_or (page_row p r) c 0)
      (λ _. subst (λ x. get_or (get_or (set m.rows number row) x []) c 0 ≡ get_or (page_row p r) c 0) same
      (ap (λ z. get_or z c 0) (get_or-set_same m.rows number row [] lt)
      ∙ stored_row_good (get_or m.rows number []) text c (omega (arith, s.width number (omega arith))) right.within right.good ∙ right.right))
      (λ e. absurd (both_ways _ e (ready_takes choice m mag st old ((and_parts _ _ here).0))))
  take_row r c high col choice m (Links mag content) s st old here right = absurd right
  take_row r c high col choice m (Header id control text) s st old here right = absurd right
  take_row r c high col choice m _ s st old here right = absurd right

  pub take_links : (choice : Bool) (m : Memory) (pkt : Packet) → m.storing ≡ true → lines < m.age →
      carries (selected_mag sel) TheLinks pkt ≡ true → AreLinksOf p pkt → (after class lines sel choice m pkt).links ≡ p.links
  take_links choice m (Links mag None) st old here right = cc
  take_links choice m (Links mag (Some content)) st old here right =
      cond_both {A = Memory} (takes choice m mag) (with_links m (Some content)) m (λ new. new.links ≡ p.links)
      (λ _. cc) (λ e. absurd (both_ways _ e (ready_takes choice m mag st old here)))
  take_links choice m (Row mag number text) st old here right = absurd (both_ways _ refl here)
  take_links choice m (Header id control text) st old here right = absurd (both_ways _ refl here)
  take_links choice m _ st old here right = absurd (both_ways _ refl here)

  pub take_head : (c : ℕ) → c < 24 → (choice : Bool) (m : Memory) (pkt : Packet) → Shape m → heads_matched sel pkt ≡ true → HeadRightAt p c pkt →
      char_at (after class lines sel choice m pkt) 0 (8 + c) ≡ get_or p.head c 0
  take_head c col choice m (Header id control text) s here right =
      cond_both {A = Memory} (matches sel id) _ _ (λ new. char_at new 0 (8 + c) ≡ get_or p.head c 0)
      (λ e. cond_both {A = Memory} (erases class choice m control) (erased m) m (λ x. char_at (begun x control text) 0 (8 + c) ≡ get_or p.head c 0)
      (λ _. begun_takes (erased m) control text (shape_erased m s) right) (λ _. begun_takes m control text s right))
      (λ e. absurd (both_ways _ e here))
    where
      begun_takes : (m : Memory) (control : ℕ) (text : List ℕ) → Shape m → IsRightAt p.head text c →
          char_at (begun m control text) 0 (8 + c) ≡ get_or p.head c 0
      begun_takes m control text s right =
          let row = get_or m.rows 0 [] in
          let new : List ℕ = take 8 row ++ stored_row (drop 8 row) text in
          let lt : 0 < length m.rows = omega (arith, s.count) in
          let w : length row ≡ 40 = s.width 0 (omega arith) in
          let w' : length (drop 8 row) ≡ 32 = length-drop 8 row ∙ ap (λ n. n - 8) w in
          ap (λ z. get_or z (8 + c) 0) (get_or-set_same m.rows 0 new [] lt) ∙ head_char row text c w
          ∙ stored_row_good (drop 8 row) text c (omega arith) right.within right.good ∙ right.right
  take_head c col choice m (Row mag number text) s here right = absurd right
  take_head c col choice m (Links mag content) s here right = absurd right
  take_head c col choice m _ s here right = absurd right
