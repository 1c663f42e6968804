-- The slots found one after another are those of the page that a pass over all slots would meet.
use Rattle.std.proofs.Common.{◌≡◌, ◌∙◌, ℕ, suc, ◌+◌, ◌<◌, ⊎_elim, ◌-◌, Bool, true, false, cond, ◌==◌, if◌then◌else◌, List, [], ◌∷◌, drop, get_or, set}
use Rattle.std.proofs.Common.{length, Some, None, unwrap_or, refl, sym, ap, arith, eqb-true, eq-eqb, add-one, Less, Equal, Greater, ◌≢◌, drop-cons}
use Rattle.std.proofs.Common.{drop-drop, get_or-drop, get_or-set_same, get_or-set_other, length-drop, length-set}
use Rattle.std.proofs.lemmas.Bool.{cases_eq, cases_order, ne_eqb}
use Rattle.std.specs.BTreeMap.{BTreeMap, get, is_at}
use Rattle.std.specs.Cmp.{nat_cmp_is}
use Rattle.std.specs.Ordering.{is_eq, nat_cmp}
use Rattle.ttx_page.specs.declared.class.Class.TheVariants.{Any}
use Rattle.ttx_receiver.specs.Tuning.{Tuned, stepped}
use Rattle.ttx_book.specs.Hearing.{hears}
use Rattle.ttx_book.specs.Placing.{gap, place_from, IsPlaceIndex}

gap_here : (key page : ℕ) (pages : List ℕ) → (page == key) ≡ true → gap key (page ∷ pages) ≡ 0
gap_here key page pages e = ap (λ b. if b then 0 else suc (gap key pages)) e

gap_later : (key page : ℕ) (pages : List ℕ) → (page == key) ≡ false → gap key (page ∷ pages) ≡ suc (gap key pages)
gap_later key page pages e = ap (λ b. if b then 0 else suc (gap key pages)) e

-- the slot that is found belongs to the page
hits : (key : ℕ) (pages : List ℕ) → gap key pages < length pages → get_or pages (gap key pages) 0 ≡ key
hits key [] h = absurd (omega arith)
hits key (page ∷ pages) h = by_test (hits key pages) (page == key) refl
  where
    by_test : (gap key pages < length pages → get_or pages (gap key pages) 0 ≡ key) → (b : Bool) → (page == key) ≡ b →
        get_or (page ∷ pages) (gap key (page ∷ pages)) 0 ≡ key
    by_test later true e = ap (λ n. get_or (page ∷ pages) n 0) (gap_here key page pages e) ∙ eqb-true page key e
    by_test later false e =
        let more : gap key (page ∷ pages) ≡ suc (gap key pages) = gap_later key page pages e in
        let within : gap key pages < length pages = omega (arith, h, more) in
        ap (λ n. get_or (page ∷ pages) n 0) more ∙ later within

-- no slot before it belongs to the page
skips : (key : ℕ) (t : Tuned) (slots : List (List ℕ)) (pages : List ℕ) → length pages ≡ length slots →
    hears key t (drop (gap key pages) slots) (drop (gap key pages) pages) ≡ hears key t slots pages
skips key t [] [] e = refl
skips key t (slot ∷ slots) [] e = refl
skips key t [] (page ∷ pages) e = absurd (omega (arith, e))
skips key t (slot ∷ slots) (page ∷ pages) e = by_test (skips key t slots pages (omega (arith, e))) (page == key) refl
  where
    by_test : hears key t (drop (gap key pages) slots) (drop (gap key pages) pages) ≡ hears key t slots pages → (b : Bool) → (page == key) ≡ b →
        hears key t (drop (gap key (page ∷ pages)) (slot ∷ slots)) (drop (gap key (page ∷ pages)) (page ∷ pages))
        ≡ hears key t (slot ∷ slots) (page ∷ pages)
    by_test later true is = ap (λ n. hears key t (drop n (slot ∷ slots)) (drop n (page ∷ pages))) (gap_here key page pages is)
    by_test later false is =
        ap (λ n. hears key t (drop n (slot ∷ slots)) (drop n (page ∷ pages))) (gap_later key page pages is)
        ∙ later
        ∙ sym (ap (λ b. hears key (if b then stepped Any false t slot else t) slots pages) is)

module _ (key : ℕ) (slots : List (List ℕ)) (pages : List ℕ) (size : length pages ≡ length slots) where
  -- from a slot on, the first slot of the page is the next one that matters
  pub from_first : (at : ℕ) (t : Tuned) → hears key t (drop (place_from at key pages) slots) (drop (place_from at key pages) pages)
      ≡ hears key t (drop at slots) (drop at pages)
  from_first at t =
      let g = gap key (drop at pages) in
      let left : length (drop at pages) ≡ length (drop at slots) = length-drop at pages ∙ ap (λ n. n - at) size ∙ sym (length-drop at slots) in
      ap (λ xs. hears key t xs (drop (at + g) pages)) (sym (drop-drop g at slots))
      ∙ ap (λ ps. hears key t (drop g (drop at slots)) ps) (sym (drop-drop g at pages))
      ∙ skips key t (drop at slots) (drop at pages) left

  -- and it belongs to the page
  pub place_hits : (at : ℕ) → place_from at key pages < length pages → get_or pages (place_from at key pages) 0 ≡ key
  place_hits at h =
      let g = gap key (drop at pages) in
      let within : g < length (drop at pages) = omega (arith, h, length-drop at pages) in
      sym (get_or-drop at pages g 0) ∙ hits key (drop at pages) within

  -- a slot of the page is taken, and then the next one
  pub one_heard : (at : ℕ) (t : Tuned) → at < length slots → get_or pages at 0 ≡ key →
      hears key (stepped Any false t (get_or slots at [])) (drop (place_from (at + 1) key pages) slots)
      (drop (place_from (at + 1) key pages) pages) ≡ hears key t (drop at slots) (drop at pages)
  one_heard at t l own =
      from_first (at + 1) (stepped Any false t slot)
      ∙ ap (λ n. hears key (stepped Any false t slot) (drop n slots) (drop n pages)) (add-one at) ∙ sym here
    where
      slot : List ℕ
      slot = get_or slots at []

      page : drop at pages ≡ key ∷ drop (suc at) pages
      page = drop-cons pages at 0 (omega (arith, l, size)) ∙ ap (λ p. p ∷ drop (suc at) pages) own

      here : hears key t (drop at slots) (drop at pages) ≡ hears key (stepped Any false t slot) (drop (suc at) slots) (drop (suc at) pages)
      here =
          ap (λ xs. hears key t xs (drop at pages)) (drop-cons slots at [] l) ∙ ap (λ ps. hears key t (slot ∷ drop (suc at) slots) ps) page
          ∙ ap (λ b. hears key (if b then stepped Any false t slot else t) (drop (suc at) slots) (drop (suc at) pages)) (eq-eqb key key refl)

-- ---- making an index

-- the map with one more key
abbrev pub Adds : BTreeMap ℕ ℕ → ℕ → ℕ → BTreeMap ℕ ℕ → Type 0
Adds old key at new = (q : ℕ) → get nat_cmp new q ≡ cond (is_at (nat_cmp key) q) (Some at) (get nat_cmp old q)

gap_none : (key : ℕ) (pages : List ℕ) → length pages ≡ 0 → gap key pages ≡ 0
gap_none key [] e = refl
gap_none key (page ∷ pages) e = absurd (omega (arith, e))

-- from the end on there are no slots
pub nothing_yet : (pages : List ℕ) (at : ℕ) (first : BTreeMap ℕ ℕ) (next : List ℕ) → at ≡ length pages → length next ≡ length pages →
    ((q : ℕ) → get nat_cmp first q ≡ None) → IsPlaceIndex pages at first next
nothing_yet pages at first next e size none = record {
  size = size;
  begins = λ key.
      let left : length (drop at pages) ≡ 0 = omega (arith, e, length-drop at pages) in
      let gap_is : gap key (drop at pages) ≡ 0 = gap_none key (drop at pages) left in
      let end : length pages ≡ place_from at key pages = omega (arith, e, gap_is) in
      ap (λ o. unwrap_or o (length pages)) (none key) ∙ end;
  goes_on = λ k low high. absurd (omega (arith, e, low, high));
}

at_same : (page key : ℕ) → page ≡ key → is_at (nat_cmp page) key ≡ true
at_same page key e = ap is_eq (sym (nat_cmp_is page key Equal e))

at_other : (page key : ℕ) → page ≢ key → is_at (nat_cmp page) key ≡ false
at_other page key ne =
    ⊎_elim (λ e. absurd (ne e))
    (λ apart. ⊎_elim (λ l. ap is_eq (sym (nat_cmp_is page key Less l))) (λ g. ap is_eq (sym (nat_cmp_is page key Greater g))) apart)
    (cases_order page key)

-- one slot before those that are noted
module _ (pages : List ℕ) (at : ℕ) (first new : BTreeMap ℕ ℕ) (next : List ℕ) (page : ℕ) where
  pub one_more : at < length pages → page ≡ get_or pages at 0 → IsPlaceIndex pages (at + 1) first next → Adds first page at new →
      IsPlaceIndex pages at new (set next at (unwrap_or (get nat_cmp first page) (length pages)))
  one_more l is old adds = record {
    size = length-set next at end ∙ old.size;
    begins = λ key. ⊎_elim (same key) (other key) (cases_eq page key);
    goes_on = λ k low high. ⊎_elim (here k) (λ ne. get_or-set_other next at k end 0 ne ∙ old.goes_on k (omega (arith, low, ne)) high) (cases_eq k at);
  }
    where
      end : ℕ
      end = unwrap_or (get nat_cmp first page) (length pages)

      cut : drop at pages ≡ page ∷ drop (suc at) pages
      cut = drop-cons pages at 0 l ∙ ap (λ p. p ∷ drop (suc at) pages) (sym is)

      same : (key : ℕ) → page ≡ key → unwrap_or (get nat_cmp new key) (length pages) ≡ place_from at key pages
      same key e =
          let none : gap key (drop at pages) ≡ 0 = ap (gap key) cut ∙ gap_here key page (drop (suc at) pages) (eq-eqb page key e) in
          let place : at ≡ place_from at key pages = omega (arith, none) in
          ap (λ o. unwrap_or o (length pages)) (adds key ∙ ap (λ b. cond b (Some at) (get nat_cmp first key)) (at_same page key e)) ∙ place

      other : (key : ℕ) → page ≢ key → unwrap_or (get nat_cmp new key) (length pages) ≡ place_from at key pages
      other key ne =
          let later : gap key (drop at pages) ≡ suc (gap key (drop (suc at) pages)) = ap (gap key) cut
          ∙ gap_later key page (drop (suc at) pages) (ne_eqb page key ne) in
          let plus : gap key (drop (at + 1) pages) ≡ gap key (drop (suc at) pages) = ap (λ n. gap key (drop n pages)) (add-one at) in
          let place : place_from (at + 1) key pages ≡ place_from at key pages = omega (arith, later, plus) in
          ap (λ o. unwrap_or o (length pages)) (adds key ∙ ap (λ b. cond b (Some at) (get nat_cmp first key)) (at_other page key ne))
          ∙ old.begins key ∙ place

      here : (k : ℕ) → k ≡ at → get_or (set next at end) k 0 ≡ place_from (k + 1) (get_or pages k 0) pages
      here k e =
          ap (λ j. get_or (set next at end) j 0) e ∙ get_or-set_same next at end 0 (omega (arith, l, old.size))
          ∙ old.begins page ∙ ap (λ p. place_from (at + 1) p pages) is ∙ ap (λ j. place_from (j + 1) (get_or pages j 0) pages) (sym e)
