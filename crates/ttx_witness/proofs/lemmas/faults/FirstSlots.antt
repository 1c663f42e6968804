-- The first slots of a page among its transmissions that are taken.
use Rattle.std.proofs.Common.{◌≡◌, ◌⊎◌, ◌↔◌, ℕ, ◌+◌, ◌<◌, ◌≤◌, ℤ, pos, Bool, true, false, not, ◌&&◌, ◌||◌, ◌==◌, IsTrue, nat_le, if◌then◌else◌}
use Rattle.std.proofs.Common.{List, length, map, get_or, slice_get, option_map, Option, Some, None, refl, sym, ap, ◌∙◌, subst, inl, inr, arith}
use Rattle.std.proofs.lemmas.Bool.{cases_Bool, cases_lt, and_parts, cond_both, both_ways}
use Rattle.std.proofs.lemmas.Bool.Decides.{nat_tests}
use Rattle.std.proofs.lemmas.Option.{slice_get-map, slice_get-get_or}
use Rattle.ttx_header.specs.Ids.{Id}
use Rattle.ttx_header.specs.Control.{c10}
use Rattle.ttx_page.specs.declared.page.Page.{Page as PageValue}
use Rattle.ttx_page.specs.Views.{page_of}
use Rattle.ttx_page.specs.Packets.{packet_of}
use Rattle.ttx_page.specs.Pages.{Page, needed, page_row, is_hidden}
use Rattle.ttx_page.specs.declared.item.Item.{Item}
use Rattle.ttx_page.specs.declared.item.Item.TheVariants.{Head as TheHead, Row as TheRow, Links as TheLinks}
use Rattle.ttx_page.specs.Streams.{Stream, repeated, IsTransmission}
use Rattle.ttx_page.specs.Steady.{HasHeader, OtherSubpageAt, ErasedAt, HeadDiffersAt, RowDiffersAt, RowIsRight, LinksDifferAt}
use Rattle.ttx_witness.specs.sent.Collected.{IsItem}
use Rattle.ttx_witness.specs.sent.ItemTransmissions.{PageOwner, owner_scan}
use Rattle.ttx_witness.specs.faults.Comparing.{is_mine, sends, compared_item, IsWrong, WrongAt}
use Rattle.ttx_witness.specs.declared.faults.wrong_slots.Check.{Check}
use Rattle.ttx_witness.specs.declared.faults.wrong_slots.Check.TheVariants.{EraseBit, Head as CheckHead, Row as CheckRow, Links as CheckLinks}
use Rattle.ttx_witness.specs.faults.Faults.{Never, TellsFirst, AreFirst}
use Rattle.ttx_witness.specs.declared.faults.first_slots.FirstSlots.{FirstSlots}
use Rattle.ttx_witness.specs.faults.FirstSlots.{earlier, IsNoted, RowWrong, IsAfter, none_yet, IsLeastOf, TakesWrong, TakesWrongRow, AreFirstTaken, SentBelow}
use Rattle.ttx_witness.proofs.lemmas.faults.OverOnePeriod.{nowhere, never_wrong, never_heads, sent_down, sent_up, period, back}

-- a needed row is 1 to 24
pub row_is_item : (p : Page) (r : ℕ) → needed p (TheRow r) ≡ true → IsItem (TheRow r)
row_is_item p r e =
    let a : (nat_le 1 r && nat_le r 24) ≡ true =
    (and_parts _ (not (c10 p.control))
    (and_parts _ (if r == 24 then p.links.show24 else not (is_hidden (page_row p) r)) e).0).0 in
    let b : nat_le 1 r ≡ true = (and_parts _ (nat_le r 24) a).0 in
    let c : nat_le r 24 ≡ true = (and_parts (nat_le 1 r) (nat_le r 24) a).1 in
    (grind (arith, nat_tests), grind (arith, nat_tests))

-- the same for an equivalent property
pub tells_same : (cycle : List (List ℕ)) (P Q : ℤ → Type 0) → ((j : ℤ) → P j ↔ Q j) → (o : Option ℕ) → TellsFirst cycle P o → TellsFirst cycle Q o
tells_same cycle P Q same None f = λ j q. f j ((same j).1 q)
tells_same cycle P Q same (Some slot) f = record
    { within = f.within; here = (same (pos slot)).0 f.here; none_before = λ i lt q. f.none_before i lt ((same (pos i)).1 q) }

-- the first slot after slot j, where H holds or not
module _ (P Q : ℕ → Type 0) (H : Type 0) (j : ℕ) (same : (i : ℕ) → Q i ↔ (P i ⊎ ((i ≡ j) × H))) where
  before : (H → ⊥) → (i : ℕ) → Q i → P i
  before never i q = elim ((same i).0 q) as (λ _. P i) [ inl p ↦ p | inr h ↦ absurd (never h.1) ]

  more : (b : Bool) → ((b ≡ true) ↔ H) → (o : Option ℕ) → IsLeastOf P o → IsLeastOf Q (if b then Some (earlier o j) else o)
  more false e None f = λ i q. f i (before (λ h. let t : false ≡ true = e.1 h in cc) i q)
  more false e (Some k) f = ((same k).1 (inl f.0), (λ i lt q. f.1 i lt (before (λ h. let t : false ≡ true = e.1 h in cc) i q)))
  more true e None f = (
    (same j).1 (inr (refl, e.0 refl)),
    (λ i lt q. elim ((same i).0 q) as (λ _. ⊥) [ inl p ↦ f i p | inr h ↦ let k = h.0 in absurd (omega arith) ]),
  )
  more true e (Some k) f = cond_both (nat_le k j) k j (λ x. IsLeastOf Q (Some x))
      (λ le. (
        (same k).1 (inl f.0),
        (λ i lt q. elim ((same i).0 q) as (λ _. ⊥) [ inl p ↦ f.1 i lt p | inr h ↦ let e = h.0 in absurd (grind (arith, nat_tests)) ]),
      ))
      (λ gt. (
        (same j).1 (inr (refl, e.0 refl)),
        (λ i lt q. elim ((same i).0 q) as (λ _. ⊥) [
          | inl p ↦ let less : i < k = grind (arith, nat_tests) in f.1 i less p
          | inr h ↦ let k = h.0 in absurd (omega arith)
        ]),
      ))

  least_more : (old new : Option ℕ) → IsNoted H j old new → IsLeastOf P old → IsLeastOf Q new
  least_more old new n f = subst (IsLeastOf Q) (sym n.first) (more n.holds n.exact old f)

or_is : (a b : Bool) → ((a || b) ≡ true) ↔ ((a ≡ true) ⊎ (b ≡ true))
or_is true b = ((λ e. inl refl), (λ h. refl))
or_is false b = ((λ e. inr e), (λ h. elim h as (λ _. b ≡ true) [ inl e ↦ cc | inr e ↦ e ]))

-- a slot that sends nothing of the page
pub after_none : (p : Page) (sends : Item → Bool) (slot : List ℕ) (j : ℕ) (x : FirstSlots) → ((item : Item) → sends item ≡ false) →
    IsAfter p sends slot j x x
after_none p sends slot j x none = record {
  has_header = or_none x.has_header (sends TheHead) (none TheHead);
  erased = not_noted x.erased (λ h. both_ways _ (none TheHead) h.0);
  head = not_noted x.head (λ h. both_ways _ (none TheHead) h.0);
  row = not_noted x.row (λ h. both_ways _ (none _) h.sent);
  links = not_noted x.links (λ h. both_ways _ (none TheLinks) h.0);
}
  where
    or_none : (a b : Bool) → b ≡ false → a ≡ (a || b)
    or_none true b e = refl
    or_none false b e = sym e

    not_noted : {P : Type 0} (o : Option ℕ) → (P → ⊥) → IsNoted P j o o
    not_noted o not = record { holds = false; exact = ((λ e. cc), (λ h. absurd (not h))); first = refl }

-- one more slot is taken, perhaps of a stream that has grown
module _ (p : Page) (s t : Stream) (Old New : Item → ℕ → Type 0) (sent : Item → Bool) (j : ℕ)
    (same : (item : Item) → IsItem item → (i : ℕ) → New item i ↔ (Old item i ⊎ ((i ≡ j) × (sent item ≡ true))))
    (kept : (item : Item) (i : ℕ) → Old item i → s (pos i) ≡ t (pos i)) where
  abbrev Here : Check → Type 0
  Here check = (sent (compared_item check) ≡ true) × IsWrong p check (t (pos j))

  wrong_more : (check : Check) → IsItem (compared_item check) → (i : ℕ) →
      TakesWrong p t New check i ↔ (TakesWrong p s Old check i ⊎ ((i ≡ j) × Here check))
  wrong_more check it i = (
    (λ w. elim ((same (compared_item check) it i).0 w.taken) as (λ _. TakesWrong p s Old check i ⊎ ((i ≡ j) × Here check)) [
      | inl o ↦ inl (record { taken = o; wrong = subst (IsWrong p check) (sym (kept (compared_item check) i o)) w.wrong })
      | inr h ↦ inr (h.0, (h.1, subst (λ k. IsWrong p check (t (pos k))) h.0 w.wrong))
    ]),
    (λ w. elim w as (λ _. TakesWrong p t New check i) [
      | inl o ↦ record {
        taken = (same (compared_item check) it i).1 (inl o.taken);
        wrong = subst (IsWrong p check) (kept (compared_item check) i o.taken) o.wrong;
      }
      | inr h ↦ record {
        taken = (same (compared_item check) it i).1 (inr (h.0, h.1.0));
        wrong = subst (λ k. IsWrong p check (t (pos k))) (sym h.0) h.1.1;
      }
    ]),
  )

  row_more : (i : ℕ) → TakesWrongRow p t New i ↔ (TakesWrongRow p s Old i ⊎ ((i ≡ j) × RowWrong p sent (t (pos j))))
  row_more i = (
    (λ w. elim ((wrong_more (CheckRow w.row) (row_is_item p w.row w.needed) i).0 w.wrong) as
        (λ _. TakesWrongRow p s Old i ⊎ ((i ≡ j) × RowWrong p sent (t (pos j)))) [
          | inl o ↦ inl (record { row = w.row; needed = w.needed; wrong = o })
          | inr h ↦ inr (h.0, record { row = w.row; needed = w.needed; sent = h.1.0; wrong = h.1.1 })
        ]),
    (λ w. elim w as (λ _. TakesWrongRow p t New i) [
      | inl o ↦ record { row = o.row; needed = o.needed; wrong = (wrong_more (CheckRow o.row) (row_is_item p o.row o.needed) i).1 (inl o.wrong) }
      | inr h ↦ let r = h.1 in record {
        row = r.row;
        needed = r.needed;
        wrong = (wrong_more (CheckRow r.row) (row_is_item p r.row r.needed) i).1 (inr (h.0, (r.sent, r.wrong)));
      }
    ]),
  )

  pub taken_more : (old new : FirstSlots) → IsAfter p sent (t (pos j)) j old new → AreFirstTaken p s Old old → AreFirstTaken p t New new
  taken_more old new n f =
      let either = or_is old.has_header (sent TheHead) in
      record {
        has_header = (
          (λ t. elim (either.0 (sym n.has_header ∙ t)) as (λ _. (i : ℕ) × New TheHead i) [
            | inl e ↦ let h = f.has_header.0 e in (h.0, (same TheHead tt h.0).1 (inl h.1))
            | inr e ↦ (j, (same TheHead tt j).1 (inr (refl, e)))
          ]),
          (λ h. n.has_header ∙ either.1 (elim ((same TheHead tt h.0).0 h.1) as (λ _. (old.has_header ≡ true) ⊎ (sent TheHead ≡ true))
              [ inl o ↦ inl (f.has_header.1 (h.0, o)) | inr k ↦ inr k.1 ])),
        );
        erased = least_more _ _ _ j (wrong_more EraseBit tt) old.erased new.erased n.erased f.erased;
        head = least_more _ _ _ j (wrong_more CheckHead tt) old.head new.head n.head f.head;
        row = least_more _ _ _ j row_more old.row new.row n.row f.row;
        links = least_more _ _ _ j (wrong_more CheckLinks tt) old.links new.links n.links f.links;
      }

-- the same slots are taken
pub taken_same : (p : Page) (s : Stream) (A B : Item → ℕ → Type 0) → ((item : Item) → IsItem item → (j : ℕ) → A item j ↔ B item j) →
    (f : FirstSlots) → AreFirstTaken p s A f → AreFirstTaken p s B f
taken_same p s A B same f = taken_more p s s A B (λ item. false) 0
    (λ item it j. (
      (λ b. inl ((same item it j).1 b)),
      (λ h. elim h as (λ _. B item j) [ inl a ↦ (same item it j).0 a | inr e ↦ let never : false ≡ true = e.1 in cc ]),
    )) (λ item j a. refl) f f (after_none p (λ item. false) (s (pos 0)) 0 f (λ item. refl))

-- no slot is taken yet
pub none_taken : (p : Page) (s : Stream) (Taken : Item → ℕ → Type 0) → ((item : Item) (j : ℕ) → Taken item j → ⊥) →
    AreFirstTaken p s Taken none_yet
none_taken p s Taken none = record {
  has_header = ((λ t. let e : false ≡ true = t in cc), (λ h. absurd (none TheHead h.0 h.1)));
  erased = λ j w. none TheHead j w.taken;
  head = λ j w. none TheHead j w.taken;
  row = λ j w. none (TheRow w.row) j w.wrong.taken;
  links = λ j w. none TheLinks j w.taken;
}

-- the slots of a scan, after one more
pub sent_more : (page : Id) (s : Stream) (entry : Option PageOwner) (n m : ℕ) → m ≡ n + 1 → (sent : Item → Bool) →
    ((item : Item) → IsItem item → sent item ≡ sends page item (packet_of (s (pos n))) (is_mine (owner_scan page s entry n))) →
    (item : Item) → IsItem item → (i : ℕ) → SentBelow page s entry m item i ↔ (SentBelow page s entry n item i ⊎ ((i ≡ n) × (sent item ≡ true)))
sent_more page s entry n m e sent same item it i =
    let Sends : ℕ → Type 0 = λ k. sends page item (packet_of (s (pos k))) (is_mine (owner_scan page s entry k)) ≡ true in (
      (λ h. elim (cases_lt i n) as (λ _. SentBelow page s entry n item i ⊎ ((i ≡ n) × (sent item ≡ true))) [
        | inl lt ↦ inl (lt, h.1)
        | inr ge ↦ let lt = h.0 in let is : i ≡ n = omega arith in inr (is, same item it ∙ subst Sends is h.1)
      ]),
      (λ h. elim h as (λ _. SentBelow page s entry m item i) [
        | inl o ↦ (let lt = o.0 in omega arith, o.1)
        | inr k ↦ (let is = k.0 in omega arith, subst Sends (sym k.0) (sym (same item it) ∙ k.1))
      ]),
    )

-- all transmissions of a period are taken
module _ (cycle : List (List ℕ)) (some : 1 ≤ length cycle) (p : Page) (Taken : Item → ℕ → Type 0)
    (all : (item : Item) → IsItem item → (j : ℕ) → Taken item j ↔ ((j < length cycle) × IsTransmission (repeated cycle) p.id item (pos j))) where
  abbrev s : Stream
  s = repeated cycle

  first_of : (P : ℕ → Type 0) (Q : ℤ → Type 0) → ((j : ℕ) → P j ↔ ((j < length cycle) × Q (pos j))) →
      (((j : ℕ) → j < length cycle → Q (pos j) → ⊥) → Never Q) → (o : Option ℕ) → IsLeastOf P o → TellsFirst cycle Q o
  first_of P Q same never None f = never (λ j lt q. f j ((same j).1 (lt, q)))
  first_of P Q same never (Some i) f =
      let here = (same i).0 f.0 in
      record {
        within = here.0;
        here = here.1;
        none_before = λ j lt q. let l = here.0 in let less : j < length cycle = omega arith in f.1 j lt ((same j).1 (less, q));
      }

  first_wrong : (check : Check) → IsItem (compared_item check) → (o : Option ℕ) → IsLeastOf (TakesWrong p s Taken check) o →
      TellsFirst cycle (WrongAt s p check) o
  first_wrong check it = first_of (TakesWrong p s Taken check) (WrongAt s p check)
      (λ j. (
        (λ w. let t = (all (compared_item check) it j).0 w.taken in (t.0, record { sent = t.1; wrong = w.wrong })),
        (λ w. let v = w.1 in record { taken = (all (compared_item check) it j).1 (w.0, v.sent); wrong = v.wrong }),
      ))
      (never_wrong cycle some p check)

  first_row : (o : Option ℕ) → IsLeastOf (TakesWrongRow p s Taken) o → TellsFirst cycle (RowDiffersAt s p) o
  first_row = first_of (TakesWrongRow p s Taken) (RowDiffersAt s p)
      (λ j. (
        (λ w.
            let t = (all (TheRow w.row) (row_is_item p w.row w.needed) j).0 w.wrong.taken in
            (t.0, record { row = w.row; needed = w.needed; sent = t.1; differs = w.wrong.wrong })),
        (λ w. let d = w.1 in record {
          row = d.row;
          needed = d.needed;
          wrong = record { taken = (all (TheRow d.row) (row_is_item p d.row d.needed) j).1 (w.0, d.sent); wrong = d.differs };
        }),
      ))
      (nowhere cycle some (RowDiffersAt s p)
      (λ i d. record {
        row = d.row;
        needed = d.needed;
        sent = sent_down cycle some p.id (TheRow d.row) i d.sent;
        differs = subst (λ x. RowIsRight p d.row (packet_of x) → ⊥) (period cycle some i) d.differs;
      })
      (λ i d. record {
        row = d.row;
        needed = d.needed;
        sent = sent_up cycle some p.id (TheRow d.row) i d.sent;
        differs = subst (λ x. RowIsRight p d.row (packet_of x) → ⊥) (back cycle some i) d.differs;
      }))

  header_taken : (b : Bool) → (IsTrue b ↔ ((j : ℕ) × Taken TheHead j)) → IsTrue b ↔ HasHeader s p.id
  header_taken b h = (
    (λ t. let j = h.0 t in let sent = (all TheHead tt j.0).0 j.1 in record { slot = pos j.0; is_header = sent.1.owned.1 }),
    (λ header. elim (cases_Bool b) as (λ _. IsTrue b) [
      | inl e ↦ e
      | inr e ↦ absurd (never_heads cycle some p.id
          (λ j lt is. both_ways b e (h.1 (j, (all TheHead tt j).1 (lt, record { owner = pos j; owned = (refl, is) })))) header)
    ]),
  )

  pub first_slots : (pages : List Page) (other : Option ℕ) → TellsFirst cycle (OtherSubpageAt s pages p) other → (f : FirstSlots) →
      AreFirstTaken p s Taken f → AreFirst cycle pages p (record f { other_subpage = other })
  first_slots pages other told f a = record {
    has_header = header_taken f.has_header a.has_header;
    other_subpage = told;
    erased = tells_same cycle (WrongAt s p EraseBit) (ErasedAt s p)
        (λ j. (
          (λ w. record { header = w.sent.owned.1; erases = w.wrong }),
          (λ e. record { sent = record { owner = j; owned = (refl, e.header) }; wrong = e.erases }),
        )) f.erased (first_wrong EraseBit tt f.erased a.erased);
    head = tells_same cycle (WrongAt s p CheckHead) (HeadDiffersAt s p)
        (λ j. (
          (λ w. record { header = w.sent.owned.1; differs = w.wrong }),
          (λ e. record { sent = record { owner = j; owned = (refl, e.header) }; wrong = e.differs }),
        )) f.head (first_wrong CheckHead tt f.head a.head);
    row = first_row f.row a.row;
    links = tells_same cycle (WrongAt s p CheckLinks) (LinksDifferAt s p)
        (λ j. ((λ w. record { sent = w.sent; differs = w.wrong }), (λ e. record { sent = e.sent; wrong = e.differs })))
        f.links (first_wrong CheckLinks tt f.links a.links);
  }

-- the page at an index of the list
pub placed : {A : Type 0} (o : Option A) (p q : A) → o ≡ Some p → o ≡ Some q → p ≡ q
placed None p q e f = cc
placed (Some a) p q e f = cc

pub page_here : (pages : List PageValue) (i : ℕ) (q : PageValue) → i < length pages → q ≡ get_or pages i q →
    slice_get (map page_of pages) i ≡ Some (page_of q)
page_here pages i q lt e = slice_get-map page_of pages i ∙ ap (option_map page_of) (slice_get-get_or pages i q lt)
    ∙ ap (λ x. Some (page_of x)) (sym e)
