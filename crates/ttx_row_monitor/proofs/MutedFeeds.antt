-- A feed is within the rule by rows if and only if the muted feed is within the rule by bytes.
use Rattle.std.proofs.Common.{◌≡◌, negsuc, ℕ, ◌+◌, ◌-◌, ◌<◌, ◌≤◌, ℤ, pos, ◌+ℤ◌, ◌<ℤ◌, ◌≤ℤ◌, true, false}
use Rattle.std.proofs.Common.{List, [], ◌∷◌, ◌++◌, length, get_or, slice_get, Some, refl, sym, ap, ◌∙◌, subst, inl, inr, arith}
use Rattle.std.specs.List.{AllByRecursion}
use Rattle.std.proofs.lemmas.Int.{ints}
use Rattle.std.proofs.lemmas.Bool.{cases_Bool, cases_lt}
use Rattle.std.proofs.lemmas.List.{get_or_append_left, get_or_push, length_push}
use Rattle.ttx_packet.specs.Receptions.{MayBeReceivedAs}
use Rattle.ttx_page.specs.Pages.{Page, needed}
use Rattle.ttx_page.specs.declared.item.Item.{Item}
use Rattle.ttx_page.specs.declared.item.Item.TheVariants.{Head as TheHead, Row as TheRow, Links as TheLinks}
use Rattle.ttx_page.specs.Streams.{repeated, IsTransmission, AreSuccessive}
use Rattle.ttx_page.specs.Receptions.{IsTextByte, IsRight, OneIs}
use Rattle.ttx_rows.specs.RowReceptions.{IsWhole, ArrivesWhole}
use Rattle.ttx_monitor.specs.Watching.{Watched, sent_at, KeepsByte, IsWithin}
use Rattle.ttx_row_monitor.specs.RowFeeds.{Arrives, KeepsRow, IsWithinByRows}
use Rattle.ttx_row_monitor.specs.Flags.{is_needed_row, IsText}
use Rattle.ttx_row_monitor.specs.Muting.{IsMutedSlot, AreMuted}

-- transmissions, all inside the feed
abbrev Inside : Watched → ℕ → Page → Item → ℤ → Type 0
Inside w n p item j = IsTransmission (repeated w.cycle) p.id item j × (pos w.start ≤ℤ j) × (j <ℤ (pos w.start +ℤ pos n))

all_sent : (w : Watched) (n : ℕ) (p : Page) (item : Item) (slots : List ℤ) → AreSuccessive (repeated w.cycle) p.id item slots →
    AllByRecursion (λ j. (pos w.start ≤ℤ j) × (j <ℤ (pos w.start +ℤ pos n))) slots → AllByRecursion (Inside w n p item) slots
all_sent w n p item [] succ inside = tt
all_sent w n p item (j ∷ []) succ inside = ((succ, inside.0.0, inside.0.1), tt)
all_sent w n p item (j ∷ i ∷ slots) succ inside = ((succ.0, inside.0.0, inside.0.1), all_sent w n p item (i ∷ slots) succ.3 inside.1)

one_of : (P Q : ℤ → Type 0) (list : List ℤ) (R : ℤ → Type 0) → AllByRecursion R list → ((j : ℤ) → R j → P j → Q j) → OneIs P list → OneIs Q list
one_of P Q [] R a f h = h
one_of P Q (j ∷ list) R a f (inl h) = inl (f j a.0 h)
one_of P Q (j ∷ list) R a f (inr h) = inr (one_of P Q list R a.1 f h)

first_of : (Q : ℤ → Type 0) (list : List ℤ) (R : ℤ → Type 0) → 1 ≤ length list → AllByRecursion R list → ((j : ℤ) → R j → Q j) → OneIs Q list
first_of Q [] R some a f = absurd (omega arith)
first_of Q (j ∷ list) R some a f = inl (f j a.0)

-- the place of such a slot in the feed
index_of : (w : Watched) (n : ℕ) (j : ℤ) → pos w.start ≤ℤ j → j <ℤ (pos w.start +ℤ pos n) → (m : ℕ) × (m < n) × (j ≡ pos w.start +ℤ pos m)
index_of w n (pos a) low high = (a - w.start, omega (arith, ints), omega (arith, ints))
index_of w n (negsuc a) low high = absurd (omega (arith, ints))

module _ (w : Watched) (some : 1 ≤ w.repeat) (feed muted : List (List ℕ)) (m : AreMuted w feed muted) where
  here : (p : Page) (item : Item) (j : ℤ) (index : ℕ) → Inside w (length feed) p item j → j ≡ pos w.start +ℤ pos index →
      (index < length feed) × IsTransmission (repeated w.cycle) p.id item (pos w.start +ℤ pos index)
  here p item j index inside place =
      (let b = inside.2 in let e = place in omega (arith, ints), subst (IsTransmission (repeated w.cycle) p.id item) place inside.0)

  pub row_kept : IsWithin w muted → (i : ℕ) (p : Page) → slice_get w.pages i ≡ Some p → (r : ℕ) → needed p (TheRow r) ≡ true → KeepsRow w feed p r
  row_kept within i p is r need slots len succ inside =
      one_of (IsRight (repeated w.cycle) (pos w.start) muted 2) (ArrivesWhole (repeated w.cycle) (pos w.start) feed) slots
      (Inside w (length feed) p (TheRow r)) (all_sent w (length feed) p (TheRow r) slots succ inside)
      (λ j a g.
      let at = here p (TheRow r) j g.index a g.place in
      let slot = m.each g.index at.0 in
      let arrives = slot.muted_as.arrives (within.each g.index (let l = m.size in let b = at.0 in omega arith)) in
      let flag = slot.flag_is i p (TheRow r) is tt at.1 ∙ need in
      record {
        index = g.index;
        place = g.place;
        whole = subst (λ z. IsWhole (repeated w.cycle z) (get_or feed g.index [])) (sym g.place)
            ((slot.muted_as.whole arrives flag 2 (omega arith) (omega arith)).0
            (subst (λ z. get_or (get_or muted g.index []) 2 0 ≡ get_or (repeated w.cycle z) 2 0) g.place g.right));
      })
      ((within.pages i p is).one_right (TheRow r) 2 (omega arith, omega arith) slots len succ
      (subst (λ n. AllByRecursion (λ j. (pos w.start ≤ℤ j) × (j <ℤ (pos w.start +ℤ pos n))) slots) (sym m.size) inside))

  pub within_by_rows : IsWithin w muted → IsWithinByRows w feed
  within_by_rows within = record {
    each = λ n lt. (m.each n lt).muted_as.arrives (within.each n (let l = m.size in omega arith));
    rows = λ i p is r need. row_kept within i p is r need;
  }

  -- where all slots arrive, a row that is kept has its bytes right in the muted feed
  pub byte_kept : ((n : ℕ) → n < length feed → Arrives w.pages (sent_at w n) (get_or feed n [])) → (i : ℕ) (p : Page) → slice_get w.pages i ≡ Some p →
      (r : ℕ) → KeepsRow w feed p r → needed p (TheRow r) ≡ true → (x : ℕ) → 2 ≤ x → x < 42 → KeepsByte w muted p.id (TheRow r) x
  byte_kept each i p is r keeps need x low high slots len succ inside =
      let in_feed = subst (λ n. AllByRecursion (λ j. (pos w.start ≤ℤ j) × (j <ℤ (pos w.start +ℤ pos n))) slots) m.size inside in
      one_of (ArrivesWhole (repeated w.cycle) (pos w.start) feed) (IsRight (repeated w.cycle) (pos w.start) muted x) slots
      (Inside w (length feed) p (TheRow r)) (all_sent w (length feed) p (TheRow r) slots succ in_feed)
      (λ j a g.
      let at = here p (TheRow r) j g.index a g.place in
      let slot = m.each g.index at.0 in
      let flag = slot.flag_is i p (TheRow r) is tt at.1 ∙ need in
      record {
        index = g.index;
        place = g.place;
        right = subst (λ z. get_or (get_or muted g.index []) x 0 ≡ get_or (repeated w.cycle z) x 0) (sym g.place)
            ((slot.muted_as.whole (each g.index at.0) flag x low high).1
            (subst (λ z. IsWhole (repeated w.cycle z) (get_or feed g.index [])) g.place g.whole));
      })
      (keeps slots len succ in_feed)

  -- any other text is right
  other_kept : ((n : ℕ) → n < length feed → Arrives w.pages (sent_at w n) (get_or feed n [])) → (i : ℕ) (p : Page) → slice_get w.pages i ≡ Some p →
      (item : Item) → IsText item → is_needed_row p item ≡ false → (x : ℕ) → x < 42 → KeepsByte w muted p.id item x
  other_kept each i p is item text other x high slots len succ inside =
      let in_feed = subst (λ n. AllByRecursion (λ j. (pos w.start ≤ℤ j) × (j <ℤ (pos w.start +ℤ pos n))) slots) m.size inside in
      first_of (IsRight (repeated w.cycle) (pos w.start) muted x) slots (Inside w (length feed) p item)
      (let l = len in let s = some in omega arith) (all_sent w (length feed) p item slots succ in_feed)
      (λ j a.
      let k = index_of w (length feed) j a.1 a.2 in
      let at = here p item j k.0 a k.2 in
      let slot = m.each k.0 at.0 in
      record {
        index = k.0;
        place = k.2;
        right = subst (λ z. get_or (get_or muted k.0 []) x 0 ≡ get_or (repeated w.cycle z) x 0) (sym k.2)
            (slot.muted_as.right (each k.0 at.0) (slot.flag_is i p item is text at.1 ∙ other) x high);
      })

  pub within_by_bytes : IsWithinByRows w feed → IsWithin w muted
  within_by_bytes within = record {
    each = λ n lt. may n (let l = m.size in omega arith);
    pages = λ i p is. record {
      each = λ n lt. may n (let l = m.size in omega arith);
      one_right = λ item x text. rule i p is item x text;
    };
  }
    where
      may : (n : ℕ) → n < length feed → MayBeReceivedAs (sent_at w n) (get_or muted n [])
      may n lt = (m.each n lt).muted_as.may (within.each n lt)

      rule : (i : ℕ) (p : Page) → slice_get w.pages i ≡ Some p → (item : Item) (x : ℕ) → IsTextByte item x → KeepsByte w muted p.id item x
      rule i p is TheLinks x text = absurd text
      rule i p is TheHead x text = other_kept within.each i p is TheHead tt refl x (let b = text.1 in omega arith)
      rule i p is (TheRow r) x text = elim (cases_Bool (needed p (TheRow r))) as (λ _. KeepsByte w muted p.id (TheRow r) x) [
        | inl need ↦ byte_kept within.each i p is r (within.rows i p is r need) need x text.0 text.1
        | inr other ↦ other_kept within.each i p is (TheRow r) tt other x text.1
      ]

-- one more slot
pub muted_more : (w : Watched) (feed muted : List (List ℕ)) (slot more : List ℕ) → AreMuted w feed muted → IsMutedSlot w (length feed) slot more →
    AreMuted w (feed ++ slot ∷ []) (muted ++ more ∷ [])
muted_more w feed muted slot more m here = record {
  size = length_push muted more ∙ ap (λ n. n + 1) m.size ∙ sym (length_push feed slot);
  each = λ n lt.
      let g = length_push feed slot in
      elim (cases_lt n (length feed)) as (λ _. IsMutedSlot w n (get_or (feed ++ slot ∷ []) n []) (get_or (muted ++ more ∷ []) n [])) [
        | inl before ↦
            let b = subst (λ k. n < k) (sym m.size) before in
            subst (λ z. IsMutedSlot w n z (get_or (muted ++ more ∷ []) n [])) (sym (get_or_append_left feed (slot ∷ []) [] n before))
            (subst (IsMutedSlot w n (get_or feed n [])) (sym (get_or_append_left muted (more ∷ []) [] n b)) (m.each n before))
        | inr after ↦
            let e : length feed ≡ n = omega arith in
            subst (λ k. IsMutedSlot w k (get_or (feed ++ slot ∷ []) k []) (get_or (muted ++ more ∷ []) k [])) e
            (subst (λ z. IsMutedSlot w (length feed) z (get_or (muted ++ more ∷ []) (length feed) [])) (sym (get_or_push feed slot [] (length feed) refl))
            (subst (IsMutedSlot w (length feed) slot) (sym (get_or_push muted more [] (length feed) m.size)) here))
      ];
}
