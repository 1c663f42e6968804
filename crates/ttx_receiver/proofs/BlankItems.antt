-- Receivers that surely clear: blank items need not be sent.
use Rattle.std.proofs.Common.{◌≡◌, ◌≢◌, ◌⊎◌, ℕ, zero, suc, ◌+◌, ◌<◌, ◌≤◌, Bool, true, false, not, ◌&&◌, ◌||◌, ◌==◌, List, [], Some, None, length}
use Rattle.std.proofs.Common.{get_or, refl, sym, ap, ◌∙◌, subst, inl, inr, arith, get_or-set_other}
use Rattle.std.proofs.lemmas.Bool.{cases_lt, cases_Bool, cond_both, or_right, both_ways}
use Rattle.ttx_page.specs.Packets.{Packet, Header, Row, Links}
use Rattle.ttx_links.specs.Sets.{no_links}
use Rattle.ttx_page.specs.Pages.{Page, IsPage, selected_mag, needed, page_row, matches, blank_row}
use Rattle.ttx_page.specs.declared.selection.Selection.{Selection}
use Rattle.ttx_page.specs.declared.item.Item.TheVariants.{Row as TheRow}
use Rattle.ttx_page.specs.declared.class.Class.TheVariants.{Clearing}
use Rattle.ttx_header.specs.Control.{c4, c11}
use Rattle.ttx_page.specs.Memories.{Memory, char_at}
use Rattle.ttx_page.specs.Receivers.{older, after, Run, erased, begun, with_storing, with_row, with_links, erases, misses, stored_row}
use Rattle.ttx_page.specs.Streams.{heads_matched}
use Rattle.ttx_receiver.proofs.StepsOverPage.{Shape, shape_after, erased_row}
use Rattle.ttx_receiver.proofs.TakenAndKept.{keep_row, keep_links}
use Rattle.ttx_receiver.proofs.Runs.{packet_at, run_keeps, ReceivesPage, IsTuned, tuned_begin, tuned_next}
use Rattle.ttx_receiver.proofs.TakenItems.{needed_row}

module _ (lines : ℕ) (sel : Selection) where
  -- a receiver stays fresh until a matching header
  after_fresh : (choice : Bool) (m : Memory) (pkt : Packet) → heads_matched sel pkt ≡ false → (after Clearing lines sel choice m pkt).fresh ≡ m.fresh
  after_fresh choice m (Header id control text) h =
      cond_both (matches sel id) _ _ (λ (new : Memory). new.fresh ≡ m.fresh) (λ e. absurd (both_ways _ h e))
      (λ _. cond_both (id.mag == selected_mag sel) _ _ (λ (new : Memory). new.fresh ≡ m.fresh) (λ _. refl)
      (λ _. cond_both (c11 control && choice) (with_storing m false) m (λ (new : Memory). new.fresh ≡ m.fresh) (λ _. refl) (λ _. refl)))
  after_fresh choice m (Row mag number text) h =
      cond_both ((mag == selected_mag sel) && m.storing && not (misses lines choice m))
      (with_row m number (stored_row (get_or m.rows number []) text)) m (λ (new : Memory). new.fresh ≡ m.fresh) (λ _. refl)
      (λ _. refl)
  after_fresh choice m (Links mag None) h =
      cond_both ((mag == selected_mag sel) && m.storing && not (misses lines choice m)) m m (λ (new : Memory). new.fresh ≡ m.fresh)
      (λ _. refl) (λ _. refl)
  after_fresh choice m (Links mag (Some content)) h =
      cond_both ((mag == selected_mag sel) && m.storing && not (misses lines choice m)) (with_links m (Some content)) m
      (λ (new : Memory). new.fresh ≡ m.fresh) (λ _. refl) (λ _. refl)
  after_fresh choice m _ h = refl

  -- a matching header blanks the rows and links of a fresh receiver
  blanks_row : (r c : ℕ) → 1 ≤ r → r < 25 → c < 40 → (choice : Bool) (m : Memory) (pkt : Packet) → Shape m → m.fresh ≡ true →
      heads_matched sel pkt ≡ true →
      char_at (after Clearing lines sel choice m pkt) r c ≡ get_or blank_row c 0
  blanks_row zero c low high col choice m pkt s f h = absurd (omega arith)
  blanks_row (suc r) c low high col choice m (Header id control text) s f h =
      cond_both (matches sel id) _ _ (λ (new : Memory). char_at new (suc r) c ≡ get_or blank_row c 0)
      (λ _. cond_both {A = Memory} (erases Clearing choice m control) (erased m) m
      (λ x. char_at (begun x control text) (suc r) c ≡ get_or blank_row c 0)
      (λ _.
      let ne : suc r ≢ 0 = omega arith in
      let lt : r < 24 = omega arith in
      ap (λ row. get_or row c 0) (get_or-set_other (erased m).rows 0 (suc r) _ [] ne ∙ erased_row m.rows r s.count lt))
      (λ e. absurd (both_ways _ e (or_right (c4 control) m.fresh f))))
      (λ e. absurd (both_ways _ e h))
  blanks_row (suc r) c low high col choice m (Row mag number text) s f h = absurd (both_ways _ refl h)
  blanks_row (suc r) c low high col choice m (Links mag content) s f h = absurd (both_ways _ refl h)
  blanks_row (suc r) c low high col choice m _ s f h = absurd (both_ways _ refl h)

  blanks_links : (choice : Bool) (m : Memory) (pkt : Packet) → m.fresh ≡ true → heads_matched sel pkt ≡ true →
      (after Clearing lines sel choice m pkt).links ≡ no_links
  blanks_links choice m (Header id control text) f h =
      cond_both (matches sel id) _ _ (λ (new : Memory). new.links ≡ no_links)
      (λ _. cond_both {A = Memory} (erases Clearing choice m control) (erased m) m (λ x. (begun x control text).links ≡ no_links)
      (λ _. refl) (λ e. absurd (both_ways _ e (or_right (c4 control) m.fresh f))))
      (λ e. absurd (both_ways _ e h))
  blanks_links choice m (Row mag number text) f h = absurd (both_ways _ refl h)
  blanks_links choice m (Links mag content) f h = absurd (both_ways _ refl h)
  blanks_links choice m _ f h = absurd (both_ways _ refl h)

module _ (lines : ℕ) (sel : Selection) (p : Page) (page : IsPage p) (received : List (List ℕ))
    (receives_page : ReceivesPage sel p (packet_at received) (length received)) where
  abbrev g : ℕ → Packet
  g = packet_at received

  abbrev next : Bool → Memory → ℕ → Memory
  next choice m t = after Clearing lines sel choice (older m) (g t)

  -- what the first header brings to a fresh receiver, and each slot keeps, is there in the end
  blank_held : (Good : Memory → Type 0) (i : ℕ) → i < length received → heads_matched sel (g i) ≡ true →
      ((t : ℕ) → (choice : Bool) (m : Memory) → Shape m → m.fresh ≡ true → heads_matched sel (g t) ≡ true → Good (next choice m t)) →
      ((t : ℕ) → t < length received → (choice : Bool) (m : Memory) → Shape m → IsTuned sel p g t m → Good m → Good (next choice m t)) →
      (m new : Memory) → Shape m → m.fresh ≡ true → Run Clearing lines sel m received new → (new.control ≡ p.control) × Good new
  blank_held Good i inside here brings keeps m new shape fresh run =
      let last = run_keeps Clearing lines sel Inv received 0 step m new run (shape, inl fresh, (λ lt. absurd (omega arith))) in
      elim last.1 as (λ _. (new.control ≡ p.control) × Good new)
      [ inl f ↦ absurd (both_ways _ (last.2 (omega arith)) f) | inr w ↦ (w.0.control, w.1) ]
    where
      Inv : ℕ → Memory → Type 0
      Inv t x = Shape x × ((x.fresh ≡ true) ⊎ (IsTuned sel p g t x × Good x)) × (i < t → x.fresh ≡ false)

      stepped : (t : ℕ) → t < length received → (choice : Bool) (x : Memory) → Inv t x → Inv (suc t) (next choice x t)
      stepped t lt choice x v =
          let s = shape_after Clearing lines sel choice (older x) (g t) (record { count = v.0.count; width = v.0.width }) in
          elim v.1 as (λ _. Inv (suc t) (next choice x t)) [
            | inl f ↦ elim (cases_Bool (heads_matched sel (g t))) as (λ _. Inv (suc t) (next choice x t)) [
              | inl h ↦ let b = (tuned_begin Clearing lines sel p g (length received) receives_page t lt h choice x).0
                  in (s, inr (b, brings t choice x v.0 f h), (λ _. b.settled))
              | inr h ↦ let e = after_fresh lines sel choice (older x) (g t) h in (
                s,
                inl (e ∙ f),
                (λ le. elim (cases_lt i t) as (λ _. (next choice x t).fresh ≡ false) [
                  | inl less ↦ absurd (both_ways _ (v.2 less) f)
                  | inr ge ↦ let q : i ≡ t = omega arith in absurd (both_ways _ h (subst (λ z. heads_matched sel (g z) ≡ true) q here))
                ]),
              )
            ]
            | inr w ↦ let b = tuned_next Clearing lines sel p g (length received) receives_page t lt choice x w.0 in
                (s, inr (b, keeps t lt choice x v.0 w.0 w.1), (λ _. b.settled))
          ]

      step : (k : ℕ) → k < length received → (choice : Bool) (x : Memory) → Inv (0 + k) x →
          Inv (suc (0 + k)) (after Clearing lines sel choice (older x) (packet_at received k))
      step k lt choice x v =
          let e : k ≡ 0 + k = omega arith in
          subst (λ t. Inv (suc t) (after Clearing lines sel choice (older x) (packet_at received k))) e
          (stepped k lt choice x (subst (λ t. Inv t x) (sym e) v))

  pub blank_row_held : (r c : ℕ) → needed p (TheRow r) ≡ true → c < 40 → page_row p r ≡ blank_row → (i : ℕ) → i < length received →
      heads_matched sel (g i) ≡ true →
      (m new : Memory) → Shape m → m.fresh ≡ true → Run Clearing lines sel m received new → (new.control ≡ p.control)
      × (char_at new r c ≡ get_or (page_row p r) c 0)
  blank_row_held r c need col blank i inside here m new shape fresh run =
      let range = needed_row p r need in
      blank_held (λ x. char_at x r c ≡ get_or (page_row p r) c 0) i inside here
      (λ t choice x s f h.
      blanks_row lines sel r c range.0 (omega (arith, range.1)) col choice (older x) (g t)
      (record { count = s.count; width = s.width }) f h ∙ ap (λ row. get_or row c 0) (sym blank))
      (λ t lt choice x s tuned good.
      keep_row Clearing lines sel p page.no_erase r c range.0 (omega (arith, range.1)) col choice (older x) (g t)
      (record { count = s.count; width = s.width }) tuned.settled
      (receives_page.heads t lt) (λ st carry. receives_page.rows t lt (tuned.owned st) r need carry) good)
      m new shape fresh run

  pub blank_links_held : p.links ≡ no_links → (i : ℕ) → i < length received → heads_matched sel (g i) ≡ true →
      (m new : Memory) → Shape m → m.fresh ≡ true → Run Clearing lines sel m received new → (new.control ≡ p.control) × (new.links ≡ p.links)
  blank_links_held blank i inside here m new shape fresh run =
      blank_held (λ x. x.links ≡ p.links) i inside here
      (λ t choice x s f h. blanks_links lines sel choice (older x) (g t) f h ∙ sym blank)
      (λ t lt choice x s tuned good.
      keep_links Clearing lines sel p page.no_erase choice (older x) (g t) tuned.settled
      (receives_page.heads t lt) (λ st carry. receives_page.links t lt (tuned.owned st) carry) good)
      m new shape fresh run
