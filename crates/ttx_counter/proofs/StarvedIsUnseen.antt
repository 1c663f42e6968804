-- A receiver that is starved of an item does not have the page's View.
use Rattle.std.proofs.Common.{◌≡◌, ◌≢◌, ℕ, ◌≤◌, zero, suc, ◌<◌, Bool, true, false, ◌==◌, List, [], ◌∷◌, Option, Some, None, get_or, refl, sym, ap}
use Rattle.std.proofs.Common.{◌∙◌, subst, inl, inr, arith, eqb-true, eq-eqb, leb-true}
use Rattle.std.specs.Prelude.{◌&&◌}
use Rattle.std.proofs.lemmas.Bool.{and_parts, cond_both}
use Rattle.ttx_header.specs.Ids.{Id}
use Rattle.ttx_page.specs.Pages.{Page, needed, page_row}
use Rattle.ttx_page.specs.declared.item.Item.TheVariants.{Head as TheHead, Row as TheRow, Links as TheLinks}
use Rattle.ttx_page.specs.Memories.{char_at, memory_of_page}
use Rattle.ttx_page.specs.Laws.{PageIsShown}
use Rattle.ttx_receiver.specs.Starving.{other_letter, other_link, other_six}
use Rattle.ttx_render.specs.Laws.{WrongLetterIsSeen, IsLetter}
use Rattle.ttx_counter.specs.Completeness.{StarvedIsUnseen, CounterIsUnseen}

is_letter : (c : ℕ) → IsLetter (other_letter c)
is_letter c = cond_both (c == 0x41) 0x42 0x41 IsLetter (λ _. inr refl) (λ _. inl refl)

is_other : (c : ℕ) → c ≢ other_letter c
is_other c = cond_both (c == 0x41) 0x42 0x41 (λ x. c ≢ x)
    (λ e q. let k : c ≡ 0x41 = eqb-true c 0x41 e in omega arith)
    (λ e q. let k : (c == 0x41) ≡ true = eq-eqb c 0x41 q in cc)

other_link_is : (link : Option Id) → other_link link ≢ link
other_link_is None e = cc
other_link_is (Some id) e = cc

pub other_is : (six : List (Option Id)) → other_six six ≢ six
other_is [] e = cc
other_is (link ∷ rest) e = other_link_is link (let h : other_link link ≡ link = cc in h)

needed_row : (p : Page) (r : ℕ) → needed p (TheRow r) ≡ true → (0 < r) × (r < 25)
needed_row p r h =
    let a = (and_parts _ _ (and_parts _ _ (and_parts _ _ h).0).0).0 in
    let b = (and_parts _ _ (and_parts _ _ (and_parts _ _ h).0).0).1 in
    let few : r ≤ 24 = leb-true r 24 b in
    (leb-true 1 r a, omega (arith, few))

pub starved_is_unseen : PageIsShown → WrongLetterIsSeen → StarvedIsUnseen
starved_is_unseen shown seen s p sel lines repeat TheHead tau n former m received page need st view =
    let c : ℕ = get_or p.head 0 0 in
    let own : char_at (memory_of_page p) 0 8 ≡ c = (shown p page).items TheHead need 0 (omega arith) in
    seen p m 0 8 (other_letter c) (is_letter c) (omega arith, omega arith, (λ _. (omega arith, omega arith))) need
    (record { control = st.control; links = st.others TheLinks (λ e. cc) refl; items = λ item ne need'. st.others item ne need' })
    st.wrong (subst (λ x. x < 128) (sym own) (page.head_codes 0)) (λ e. is_other c (sym own ∙ e)) view
starved_is_unseen shown seen s p sel lines repeat (TheRow zero) tau n former m received page need st view = let range =
    needed_row p 0 need in absurd (let k = range.0 in omega arith)
starved_is_unseen shown seen s p sel lines repeat (TheRow (suc r)) tau n former m received page need st view =
    let range = needed_row p (suc r) need in
    let c : ℕ = get_or (page_row p (suc r)) 0 0 in
    let own : char_at (memory_of_page p) (suc r) 0 ≡ c = ap (λ x. get_or x 0 0) ((shown p page).items (TheRow (suc r)) need) in
    seen p m (suc r) 0 (other_letter c) (is_letter c) (range.1, omega arith, (λ e. absurd (omega arith))) need
    (record { control = st.control; links = st.others TheLinks (λ e. cc) refl; items = λ item ne need'. st.others item ne need' })
    st.wrong (subst (λ x. x < 128) (sym own) ((page.rows (suc r) (omega arith) (omega (arith, range.1))).codes 0))
    (λ e. is_other c (sym own ∙ e)) view
starved_is_unseen shown seen s p sel lines repeat TheLinks tau n former m received page need st view =
    other_is p.links.six (sym (ap (λ l. l.six) st.wrong) ∙ view.links)

-- a counter-run refutes that a page is seen
pub counter_is_unseen : CounterIsUnseen
counter_is_unseen cycle pages p w c seen =
    c.wrong (seen.shown c.sel c.fits c.tau c.former c.memory c.received c.is_former c.permitted (omega (arith, c.size)) c.run)
