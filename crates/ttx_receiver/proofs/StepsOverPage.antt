-- A receiver over the packets of a page.
use Rattle.std.proofs.Common.{◌≡◌, ◌⊎◌, ℕ, zero, suc, ◌%◌, ◌<◌, Bool, true, false, not, ◌&&◌, ◌==◌, ◌≢◌, List, [], ◌∷◌, ◌++◌, Some, None, length}
use Rattle.std.proofs.Common.{get_or, take, drop, set, replicate, refl, sym, ap, ◌∙◌, subst, inl, inr, arith, eqb-true, eq-eqb, length-set}
use Rattle.std.proofs.Common.{get_or-set_same, get_or-set_other, length-append, length-take-le, length-drop}
use Rattle.std.proofs.lemmas.Bool.{cases_lt, and_from, cases_Bool, not_from_false, and_parts, cond_both, both_ways}
use Rattle.std.proofs.lemmas.List.{get_or-replicate}
use Rattle.ttx_page.proofs.Decisions.{eq_sym}
use Rattle.ttx_code.specs.Words.{is_odd}
use Rattle.ttx_header.specs.Ids.{Id}
use Rattle.ttx_page.specs.Packets.{Packet, Empty, Unreadable, Header, Row, Links}
use Rattle.ttx_page.specs.Pages.{Page, selected_mag, matches, page_row, blank_row}
use Rattle.ttx_page.specs.declared.selection.Selection.{Selection}
use Rattle.ttx_page.specs.declared.selection.Selection.TheVariants.{Exact, AnySub}
use Rattle.ttx_page.specs.declared.class.Class.{Class}
use Rattle.ttx_header.specs.Control.{c11}
use Rattle.ttx_page.specs.Memories.{Memory}
use Rattle.ttx_page.specs.Receivers.{stored_row, with_row, with_storing, erased, begun, with_links, erases, misses, after}
use Rattle.ttx_page.specs.Streams.{heads, heads_matched, ends_serial}
use Rattle.ttx_receiver.proofs.StoredRows.{length-stored_row}

matches_mag : (sel : Selection) (id : Id) → matches sel id ≡ true → (id.mag == selected_mag sel) ≡ true
matches_mag (Exact own) id h = eq_sym own.mag id.mag ((and_parts _ _ (and_parts _ _ h).0).0)
matches_mag (AnySub mag page) id h = eq_sym mag id.mag ((and_parts _ _ h).0)

-- each byte of odd parity holds the right character
abbrev pub GoodText : List ℕ → ℕ → List ℕ → Type 0
GoodText chars n text = (c : ℕ) → c < n → is_odd (get_or text c 0) ≡ true → get_or text c 0 % 128 ≡ get_or chars c 0

abbrev pub IsHeadOf : Page → Packet → Type 0
IsHeadOf p (Header id control text) = (control ≡ p.control) × GoodText p.head 24 text
IsHeadOf p Empty = Unit {0}
IsHeadOf p Unreadable = Unit {0}
IsHeadOf p (Row mag number text) = Unit {0}
IsHeadOf p (Links mag content) = Unit {0}
IsHeadOf p _ = Unit {0}

abbrev pub IsRowOf : Page → ℕ → Packet → Type 0
IsRowOf p r (Row mag number text) = GoodText (page_row p r) 40 text
IsRowOf p r Empty = Unit {0}
IsRowOf p r Unreadable = Unit {0}
IsRowOf p r (Header id control text) = Unit {0}
IsRowOf p r (Links mag content) = Unit {0}
IsRowOf p r _ = Unit {0}

abbrev pub AreLinksOf : Page → Packet → Type 0
AreLinksOf p (Links mag content) = content ≡ Some p.links
AreLinksOf p Empty = Unit {0}
AreLinksOf p Unreadable = Unit {0}
AreLinksOf p (Header id control text) = Unit {0}
AreLinksOf p (Row mag number text) = Unit {0}
AreLinksOf p _ = Unit {0}

-- the rows of a memory have the right lengths
pub record Shape (m : Memory) : Type 0 where
  pub count : length m.rows ≡ 25
  pub width : (r : ℕ) → r < 25 → length (get_or m.rows r []) ≡ 40

shape_set : (rows : List (List ℕ)) (n : ℕ) (row : List ℕ) → length row ≡ 40 → length rows ≡ 25 → ((r : ℕ) → r < 25 → length (get_or rows r []) ≡ 40) →
    (r : ℕ) → r < 25 → length (get_or (set rows n row) r []) ≡ 40
shape_set rows n row w k f r h = elim (cases_Bool (r == n)) as (λ _. length (get_or (set rows n row) r []) ≡ 40) [
  | inl e ↦ let same : r ≡ n = eqb-true r n e in
      let lt : n < length rows = omega arith in
      subst (λ x. length (get_or (set rows n row) x []) ≡ 40) (sym same) (ap length (get_or-set_same rows n row [] lt) ∙ w)
  | inr e ↦ let ne : r ≢ n = λ q. both_ways (r == n) e (eq-eqb r n q) in
      ap length (get_or-set_other rows n r row [] ne) ∙ f r h
]

shape_row : (m : Memory) (n : ℕ) (row : List ℕ) → Shape m → (n < 25 → length row ≡ 40) → Shape (with_row m n row)
shape_row m n row s w = elim (cases_lt n 25) as (λ _. Shape (with_row m n row)) [
  | inl lt ↦ record { count = length-set m.rows n row ∙ s.count; width = shape_set m.rows n row (w lt) s.count s.width }
  | inr ge ↦ record {
    count = length-set m.rows n row ∙ s.count;
    width = λ r h. let ne : r ≢ n = omega arith in ap length (get_or-set_other m.rows n r row [] ne) ∙ s.width r h;
  }
]

-- row 0 and the 24 others
pub erased_row : (rows : List (List ℕ)) (r : ℕ) → length rows ≡ 25 → r < 24 → get_or (take 1 rows ++ replicate 24 blank_row) (suc r) [] ≡ blank_row
erased_row [] r k h = absurd (omega arith)
erased_row (row ∷ rows) r k h = get_or-replicate 24 r blank_row [] h

pub erased_first : (rows : List (List ℕ)) → length rows ≡ 25 → get_or (take 1 rows ++ replicate 24 blank_row) 0 [] ≡ get_or rows 0 []
erased_first [] k = absurd (omega arith)
erased_first (row ∷ rows) k = refl

erased_count : (rows : List (List ℕ)) → length rows ≡ 25 → length (take 1 rows ++ replicate 24 blank_row) ≡ 25
erased_count [] k = absurd (omega arith)
erased_count (row ∷ rows) k = refl

pub shape_erased : (m : Memory) → Shape m → Shape (erased m)
shape_erased m s = record { count = erased_count m.rows s.count; width = width_at }
  where
    width_at : (r : ℕ) → r < 25 → length (get_or (take 1 m.rows ++ replicate 24 blank_row) r []) ≡ 40
    width_at zero h = ap length (erased_first m.rows s.count) ∙ s.width 0 h
    width_at (suc r) h = ap length (erased_row m.rows r s.count (omega arith))

head_width : (row text : List ℕ) → length row ≡ 40 → length (take 8 row ++ stored_row (drop 8 row) text) ≡ 40
head_width row text w =
    length-append (take 8 row) (stored_row (drop 8 row) text)
    ∙ omega (arith, length-take-le 8 row (omega arith), length-stored_row (drop 8 row) text, length-drop 8 row)

shape_begun : (m : Memory) (control : ℕ) (text : List ℕ) → Shape m → Shape (begun m control text)
shape_begun m control text s =
    let row = get_or m.rows 0 [] in
    let new : List ℕ = take 8 row ++ stored_row (drop 8 row) text in
    let w : length new ≡ 40 = head_width row text (s.width 0 (omega arith)) in
    record { count = length-set m.rows 0 new ∙ s.count; width = shape_set m.rows 0 new w s.count s.width }

shape_same : (m n : Memory) → m.rows ≡ n.rows → Shape m → Shape n
shape_same m n e s = record {
  count = ap length (sym e) ∙ s.count;
  width = λ r h. ap (λ rows. length (get_or rows r [])) (sym e) ∙ s.width r h;
}

module _ (class : Class) (lines : ℕ) (sel : Selection) where
  pub shape_after : (choice : Bool) (m : Memory) (pkt : Packet) → Shape m → Shape (after class lines sel choice m pkt)
  shape_after choice m (Header id control text) s =
      cond_both {A = Memory} (matches sel id) _ _ Shape
      (λ _. shape_begun _ control text (cond_both {A = Memory} (erases class choice m control) (erased m) m Shape (λ _. shape_erased m s) (λ _. s)))
      (λ _. cond_both {A = Memory} (id.mag == selected_mag sel) _ _ Shape (λ _. shape_same m (with_storing m false) refl s)
      (λ _. cond_both {A = Memory} (c11 control && choice) (with_storing m false) m Shape (λ _. shape_same m (with_storing m false) refl s) (λ _. s)))
  shape_after choice m (Row mag number text) s =
      cond_both {A = Memory} ((mag == selected_mag sel) && m.storing && not (misses lines choice m)) _ m Shape
      (λ _. shape_row m number (stored_row (get_or m.rows number []) text) s
      (λ lt. length-stored_row (get_or m.rows number []) text ∙ s.width number lt)) (λ _. s)
  shape_after choice m (Links mag None) s =
      cond_both {A = Memory} ((mag == selected_mag sel) && m.storing && not (misses lines choice m)) m m Shape (λ _. s) (λ _. s)
  shape_after choice m (Links mag (Some content)) s =
      cond_both {A = Memory} ((mag == selected_mag sel) && m.storing && not (misses lines choice m)) (with_links m (Some content)) m Shape
      (λ _. shape_same m (with_links m (Some content)) refl s) (λ _. s)
  shape_after choice m _ s = s

  -- a receiver is storing after a slot only if the slot is a matching header, or if it was storing and the slot is not a header of the magazine
  pub after_storing : (choice : Bool) (m : Memory) (pkt : Packet) → (after class lines sel choice m pkt).storing ≡ true →
      (heads_matched sel pkt ≡ true) ⊎ ((m.storing ≡ true) × (heads (selected_mag sel) pkt ≡ false))
  after_storing choice m (Header id control text) st =
      cond_both (matches sel id) _ _
      (λ (new : Memory). new.storing ≡ true → (matches sel id ≡ true)
      ⊎ ((m.storing ≡ true) × ((id.mag == selected_mag sel) ≡ false)))
      (λ e _. inl e)
      (λ _. cond_both (id.mag == selected_mag sel) _ _
      (λ (new : Memory). new.storing ≡ true → (matches sel id ≡ true)
      ⊎ ((m.storing ≡ true) × ((id.mag == selected_mag sel) ≡ false))) (λ _ h. absurd (both_ways false refl h))
      (λ e. cond_both (c11 control && choice) (with_storing m false) m
      (λ (new : Memory). new.storing ≡ true → (matches sel id ≡ true)
      ⊎ ((m.storing ≡ true) × ((id.mag == selected_mag sel) ≡ false))) (λ _ h. absurd (both_ways false refl h))
      (λ _ h. inr (h, e)))) st
  after_storing choice m (Row mag number text) st =
      cond_both ((mag == selected_mag sel) && m.storing && not (misses lines choice m))
      (with_row m number (stored_row (get_or m.rows number []) text)) m
      (λ (new : Memory). new.storing ≡ true → (false ≡ true) ⊎ ((m.storing ≡ true) × (false ≡ false))) (λ _ h. inr (h, refl))
      (λ _ h. inr (h, refl)) st
  after_storing choice m (Links mag None) st =
      cond_both ((mag == selected_mag sel) && m.storing && not (misses lines choice m)) m m
      (λ (new : Memory). new.storing ≡ true → (false ≡ true) ⊎ ((m.storing ≡ true) × (false ≡ false))) (λ _ h. inr (h, refl))
      (λ _ h. inr (h, refl)) st
  after_storing choice m (Links mag (Some content)) st =
      cond_both ((mag == selected_mag sel) && m.storing && not (misses lines choice m)) (with_links m (Some content)) m
      (λ (new : Memory). new.storing ≡ true → (false ≡ true) ⊎ ((m.storing ≡ true) × (false ≡ false))) (λ _ h. inr (h, refl))
      (λ _ h. inr (h, refl)) st
  after_storing choice m _ h = inr (h, refl)

  -- without a header of the magazine, and without an end in serial transmission, the receiver continues to store
  pub after_ready : (choice : Bool) (m : Memory) (pkt : Packet) → heads (selected_mag sel) pkt ≡ false → ends_serial (selected_mag sel) pkt ≡ false →
      m.storing ≡ true → ((after class lines sel choice m pkt).storing ≡ true) × ((after class lines sel choice m pkt).age ≡ m.age)
  after_ready choice m (Header id control text) other on st =
      cond_both (matches sel id) _ _ (λ (new : Memory). (new.storing ≡ true) × (new.age ≡ m.age))
      (λ e. absurd (both_ways _ other (matches_mag sel id e)))
      (λ _. cond_both (id.mag == selected_mag sel) _ _ (λ (new : Memory). (new.storing ≡ true) × (new.age ≡ m.age))
      (λ e. absurd (both_ways _ other e))
      (λ e. cond_both (c11 control && choice) (with_storing m false) m (λ (new : Memory). (new.storing ≡ true) × (new.age ≡ m.age))
      (λ c. absurd (both_ways _ on (and_from _ _ (not_from_false _ e) ((and_parts _ _ c).0)))) (λ _. (st, refl))))
  after_ready choice m (Row mag number text) other on st =
      cond_both ((mag == selected_mag sel) && m.storing && not (misses lines choice m))
      (with_row m number (stored_row (get_or m.rows number []) text)) m
      (λ (new : Memory). (new.storing ≡ true) × (new.age ≡ m.age)) (λ _. (st, refl)) (λ _. (st, refl))
  after_ready choice m (Links mag None) other on st =
      cond_both ((mag == selected_mag sel) && m.storing && not (misses lines choice m)) m m
      (λ (new : Memory). (new.storing ≡ true) × (new.age ≡ m.age)) (λ _. (st, refl)) (λ _. (st, refl))
  after_ready choice m (Links mag (Some content)) other on st =
      cond_both ((mag == selected_mag sel) && m.storing && not (misses lines choice m)) (with_links m (Some content)) m
      (λ (new : Memory). (new.storing ≡ true) × (new.age ≡ m.age)) (λ _. (st, refl)) (λ _. (st, refl))
  after_ready choice m _ other on st = (st, refl)

module _ (class : Class) (lines : ℕ) (sel : Selection) (p : Page) where
  -- the memory after a matching header
  pub after_begin : (choice : Bool) (m : Memory) (pkt : Packet) → heads_matched sel pkt ≡ true → IsHeadOf p pkt →
      let new = after class lines sel choice m pkt in
      (new.storing ≡ true) × (new.age ≡ 0) × (new.fresh ≡ false) × (new.control ≡ p.control)
  after_begin choice m (Header id control text) h r =
      cond_both (matches sel id) _ _ (λ (new : Memory). (new.storing ≡ true) × (new.age ≡ 0) × (new.fresh ≡ false) × (new.control ≡ p.control))
      (λ e. (refl, refl, refl, r.0)) (λ e. absurd (both_ways (matches sel id) e h))
  after_begin choice m Empty h r = absurd (both_ways false refl h)
  after_begin choice m Unreadable h r = absurd (both_ways false refl h)
  after_begin choice m (Row mag number text) h r = absurd (both_ways false refl h)
  after_begin choice m (Links mag content) h r = absurd (both_ways false refl h)
  after_begin choice m _ h r = absurd (both_ways false refl h)

  -- a receiver that is not fresh keeps the page's control bits
  pub after_settled : (choice : Bool) (m : Memory) (pkt : Packet) → (heads_matched sel pkt ≡ true → IsHeadOf p pkt) →
      m.fresh ≡ false → m.control ≡ p.control → ((after class lines sel choice m pkt).fresh ≡ false)
      × ((after class lines sel choice m pkt).control ≡ p.control)
  after_settled choice m (Header id control text) r f k =
      cond_both (matches sel id) _ _ (λ (new : Memory). (new.fresh ≡ false) × (new.control ≡ p.control))
      (λ e. (refl, (r e).0))
      (λ _. cond_both (id.mag == selected_mag sel) _ _ (λ (new : Memory). (new.fresh ≡ false) × (new.control ≡ p.control)) (λ _. (f, k))
      (λ _. cond_both (c11 control && choice) (with_storing m false) m
      (λ (new : Memory). (new.fresh ≡ false) × (new.control ≡ p.control)) (λ _. (f, k)) (λ _. (f, k))))
  after_settled choice m (Row mag number text) r f k =
      cond_both ((mag == selected_mag sel) && m.storing && not (misses lines choice m))
      (with_row m number (stored_row (get_or m.rows number []) text)) m
      (λ (new : Memory). (new.fresh ≡ false) × (new.control ≡ p.control)) (λ _. (f, k)) (λ _. (f, k))
  after_settled choice m (Links mag None) r f k =
      cond_both ((mag == selected_mag sel) && m.storing && not (misses lines choice m)) m m
      (λ (new : Memory). (new.fresh ≡ false) × (new.control ≡ p.control)) (λ _. (f, k)) (λ _. (f, k))
  after_settled choice m (Links mag (Some content)) r f k =
      cond_both ((mag == selected_mag sel) && m.storing && not (misses lines choice m)) (with_links m (Some content)) m
      (λ (new : Memory). (new.fresh ≡ false) × (new.control ≡ p.control)) (λ _. (f, k)) (λ _. (f, k))
  after_settled choice m _ r f k = (f, k)
