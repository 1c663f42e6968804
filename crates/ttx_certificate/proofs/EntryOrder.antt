-- Entries in their order: each place has one entry, and a search finds it.
use Rattle.std.proofs.Common.{◌≡◌, ◌≢◌, ℕ, zero, suc, ◌+◌, ◌*◌, ◌<◌, ◌≤◌, ◌&&◌, Bool, true, false, List, [], ◌∷◌, length, get_or, Option, Some, None}
use Rattle.std.proofs.Common.{Result, Ok, Err, IfOk, IfErr, nat_lt, refl, sym, ap, ◌∙◌, subst, inl, inr, arith, eqb-true, eq-eqb}
use Rattle.std.specs.List.Sorted.{IsSearchInRange, IsBinarySearchResult, IsNonDecreasingBy}
use Rattle.std.specs.Ordering.{nat_cmp, ordering_index}
use Rattle.std.proofs.lemmas.Cmp.{ranked}
use Rattle.std.proofs.lemmas.Bool.Decides.{nat_tests}
use Rattle.std.proofs.lemmas.Bool.{cases_lt, and_from, cases_Bool}
use Rattle.ttx_header.specs.Ids.{Id, IsId, same_id}
use Rattle.ttx_page.specs.declared.item.Item.{Item}
use Rattle.ttx_page.specs.declared.item.Item.TheVariants.{Head as TheHead, Row as TheRow, Links as TheLinks}
use Rattle.ttx_certificate.specs.ItemPlaces.{item_number, key_of}
use Rattle.ttx_certificate.specs.Entries.{is_item, rises_above, place_of, entry_places, same_item, starts_in}
use Rattle.ttx_certificate.specs.EntryViews.{entries_of, place_in}
use Rattle.ttx_certificate.specs.declared.entries.Entry.{Entry}
use Rattle.std.proofs.lemmas.Bool.{and_parts}

item_below : (item : Item) → is_item item ≡ true → item_number item < 26
item_below TheHead is = omega arith
item_below (TheRow n) is = grind (arith, nat_tests)
item_below TheLinks is = omega arith

record Same (a b : Id) (m n : ℕ) : Type 0 where
  mag : a.mag ≡ b.mag
  page : a.page ≡ b.page
  sub : a.sub ≡ b.sub
  item : m ≡ n

same_parts : (a b : Id) (m n : ℕ) → IsId a → IsId b → m < 26 → n < 26 → key_of a * 26 + m ≡ key_of b * 26 + n → Same a b m n
same_parts a b m n x y p q e =
    let ap1 : a.page < 256 = x.page in let bp1 : b.page < 256 = y.page in
    let as1 : a.sub < 16384 = x.sub.top in let bs1 : b.sub < 16384 = y.sub.top in
    let item : m ≡ n = omega arith in
    let key : key_of a ≡ key_of b = omega arith in
    let sub : a.sub ≡ b.sub = omega arith in
    let both : a.mag * 256 + a.page ≡ b.mag * 256 + b.page = omega arith in
    let page : a.page ≡ b.page = omega arith in
    record { mag = omega arith; page = page; sub = sub; item = item }

-- the number at any place of a rising list is above what stands before it
above_low : (low : ℕ) (ns : List ℕ) (i d : ℕ) → rises_above (Some low) ns ≡ true → i < length ns → low < get_or ns i d
above_low low [] i d up lt = absurd (omega arith)
above_low low (n ∷ ns) zero d up lt = grind (arith, nat_tests)
above_low low (n ∷ ns) (suc i) d up lt =
    let here : nat_lt low n ≡ true = (and_parts _ _ up).0 in
    let more : n < get_or ns i d = above_low n ns i d ((and_parts _ _ up).1) (omega arith) in
    grind (arith, nat_tests)

-- each number of a rising list is below those after it
pub rising_pairs : (low : Option ℕ) (ns : List ℕ) (i j d : ℕ) → rises_above low ns ≡ true → i < j → j < length ns → get_or ns i d < get_or ns j d
rising_pairs low [] i j d up lt in_range = absurd (omega arith)
rising_pairs low (n ∷ ns) i zero d up lt in_range = absurd (omega arith)
rising_pairs low (n ∷ ns) zero (suc j) d up lt in_range = above_low n ns j d ((and_parts _ _ up).1) (omega arith)
rising_pairs low (n ∷ ns) (suc i) (suc j) d up lt in_range = rising_pairs (Some n) ns i j d ((and_parts _ _ up).1) (omega arith) (omega arith)

pub length_places : (es : List Entry) → length (entry_places (entries_of es)) ≡ length es
length_places [] = refl
length_places (e ∷ es) = ap suc (length_places es)

pub place_at : (es : List Entry) (i d : ℕ) (e : Entry) → i < length es → get_or (entry_places (entries_of es)) i d ≡ place_in (get_or es i e)
place_at [] i d e lt = absurd (omega arith)
place_at (x ∷ es) zero d e lt = refl
place_at (x ∷ es) (suc i) d e lt = place_at es i d e (omega arith)

-- the places of entries rise
entries_rise : (es : List Entry) → rises_above None (entry_places (entries_of es)) ≡ true → (i j : ℕ) (d : Entry) → i < j →
    j < length es → place_in (get_or es i d) < place_in (get_or es j d)
entries_rise es up i j d lt in_range =
    let n = length_places es in
    let pairs = rising_pairs None (entry_places (entries_of es)) i j 0 up lt (omega arith) in
    let a = place_at es i 0 d (omega arith) in
    let b = place_at es j 0 d in_range in
    omega arith

module _ (page : Id) (item : Item) (id : IsId page) (is : is_item item ≡ true) where
  abbrev is_for : Entry → Bool
  is_for e = same_id e.page page && same_item e.item item

  pub same_entry : (e : Entry) → place_in e ≡ place_of page item → is_for e ≡ true
  same_entry e same =
      let parts = same_parts e.page page (item_number e.item) (item_number item) e.kept.id id (item_below e.item e.kept.item)
      (item_below item is) same in
      and_from _ _ (and_from _ _ (and_from _ _ (eq-eqb _ _ parts.mag) (eq-eqb _ _ parts.page)) (eq-eqb _ _ parts.sub)) (eq-eqb _ _ parts.item)

  other_entry : (e : Entry) → place_in e ≢ place_of page item → is_for e ≡ false
  other_entry e other = elim (cases_Bool (is_for e)) [
    | inl is_it ↦
        let mag : e.page.mag ≡ page.mag = eqb-true _ _ ((and_parts _ _ ((and_parts _ _ ((and_parts _ _ is_it).0)).0)).0) in
        let number : e.page.page ≡ page.page = eqb-true _ _ ((and_parts _ _ ((and_parts _ _ ((and_parts _ _ is_it).0)).0)).1) in
        let sub : e.page.sub ≡ page.sub = eqb-true _ _ ((and_parts _ _ ((and_parts _ _ is_it).0)).1) in
        let part : item_number e.item ≡ item_number item = eqb-true _ _ ((and_parts _ _ is_it).1) in
        let same : place_in e ≡ place_of page item = omega arith in
        absurd (other same)
    | inr other_one ↦ other_one
  ]

  -- the entry at the item's place has its starts
  pub found : (es : List Entry) → rises_above None (entry_places (entries_of es)) ≡ true → (i : ℕ) (d : Entry) → i < length es →
      place_in (get_or es i d) ≡ place_of page item →
      starts_in (entries_of es) page item ≡ (get_or es i d).starts.items
  found es up = found_in es (entries_rise es up)
    where
      found_in : (es : List Entry) →
          ((i j : ℕ) (d : Entry) → i < j → j < length es → place_in (get_or es i d) < place_in (get_or es j d)) →
          (i : ℕ) (d : Entry) → i < length es → place_in (get_or es i d) ≡ place_of page item →
          starts_in (entries_of es) page item ≡ (get_or es i d).starts.items
      found_in [] up i d lt same = absurd (omega arith)
      found_in (e ∷ es) up zero d lt same = rw (same_entry e same) refl
      found_in (e ∷ es) up (suc i) d lt same =
          let below = up 0 (suc i) d (omega arith) lt in
          rw (other_entry e (λ eq. omega arith))
          (found_in es (λ i j d lt in_range. up (suc i) (suc j) d (omega arith) (omega arith)) i d (omega arith) same)

  absent : (es : List Entry) → ((j : ℕ) (d : Entry) → j < length es → place_in (get_or es j d) ≢ place_of page item) →
      starts_in (entries_of es) page item ≡ []
  absent [] other = refl
  absent (e ∷ es) other = rw (other_entry e (other 0 e (omega arith))) (absent es (λ j d lt. other (suc j) d (omega arith)))

  -- the answers of a search for the item's place rise along the entries
  answers_rise : (es : List Entry) → rises_above None (entry_places (entries_of es)) ≡ true →
      IsNonDecreasingBy (λ e. ordering_index (nat_cmp (place_in e) (place_of page item))) es
  answers_rise es up = λ i j d le lt.
      let all_up : place_in (get_or es i d) ≤ place_in (get_or es j d) =
      grind (arith, entries_rise es up i j d, λ (same : i ≡ j). ap (λ n. place_in (get_or es n d)) same) in
      grind (arith, nat_tests)

  -- what a search for the item's place says of its starts
  pub searched : (es : List Entry) → rises_above None (entry_places (entries_of es)) ≡ true → (r : Result ℕ ℕ) →
      IsSearchInRange r (length es) → IsBinarySearchResult (λ e. nat_cmp (place_in e) (place_of page item)) es r →
      record {
        found : IfOk r (λ i. (d : Entry) → starts_in (entries_of es) page item ≡ (get_or es i d).starts.items);
        absent : IfErr r (λ i. starts_in (entries_of es) page item ≡ []);
      }
  searched es up (Ok i) in_range equal = record
      { found = λ d. found es up i d in_range (ranked _ (place_of page item) _ (sym (equal d))); absent = tt }
  searched es up (Err i) in_range parted = record {
    found = tt;
    absent = absent es (λ j d lt. elim (cases_lt j i) [
      | inl before ↦ let below = ranked _ (place_of page item) _ (sym ((parted (answers_rise es up)).0 j d (omega arith) before)) in λ eq. omega arith
      | inr after ↦ let above = ranked _ (place_of page item) _ (sym ((parted (answers_rise es up)).1 j d after lt)) in λ eq. omega arith
    ]);
  }

-- the same, as a search for a number in a list that is lent
pub looked_up : (page : Id) (item : Item) → IsId page → is_item item ≡ true → (place : ℕ) → place ≡ place_of page item →
    (own lent : List Entry) → lent ≡ own → rises_above None (entry_places (entries_of own)) ≡ true →
    (r : Result ℕ ℕ) → IsSearchInRange r (length lent) → IsBinarySearchResult (λ e. nat_cmp (place_in e) place) lent r →
    record {
      found : (i : ℕ) (e : Entry) → r ≡ Ok i → e ≡ get_or lent i e → e.starts.items ≡ starts_in (entries_of own) page item;
      absent : (i : ℕ) → r ≡ Err i → [] ≡ starts_in (entries_of own) page item;
    }
looked_up page item id is place same own lent eq up r in_range result =
    let here = searched page item id is lent (subst (λ xs. rises_above None (entry_places (entries_of xs)) ≡ true) (sym eq) up) r
    in_range (subst (λ p. IsBinarySearchResult (λ e. nat_cmp (place_in e) p) lent r) same result) in
    record {
      found = λ i e is at. ap (λ (x : Entry). x.starts.items) at
          ∙ sym (subst (λ r. IfOk r (λ i. (d : Entry) → starts_in (entries_of lent) page item ≡ (get_or lent i d).starts.items))
          is here.found e) ∙ ap (λ xs. starts_in (entries_of xs) page item) eq;
      absent = λ i is. sym (subst (λ r. IfErr r (λ i. starts_in (entries_of lent) page item ≡ [])) is here.absent)
          ∙ ap (λ xs. starts_in (entries_of xs) page item) eq;
    }
