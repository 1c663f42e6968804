-- A certificate that is found names each slot of a cycle once at most, so that its text is short.
use Rattle.std.proofs.Common.{◌≡◌, ◌⊎◌, ℕ, zero, suc, ◌+◌, ◌*◌, ◌<◌, ◌≤◌, ℤ, pos, Bool, true, false, ◌&&◌, ◌==◌, nat_lt, nat_le}
use Rattle.std.proofs.Common.{List, [], ◌∷◌, ◌++◌, length, slice_get, Option, Some, None, refl, sym, ap, ◌∙◌, subst, inl, inr}
use Rattle.std.proofs.Common.{arith, eqb-true, eq-eqb}
use Rattle.std.specs.Prelude.{All, Contains}
use Rattle.std.specs.List.{AllByRecursion, IsDistinct, list_any}
use Rattle.std.proofs.Math.Dec.{eqb}
use Rattle.std.proofs.lemmas.Bool.{and_parts, and_from, both_ways, cases_Bool, ltb-true, leb-true, ne_eqb, or_cases, cond-true, cond-false}
use Rattle.std.proofs.lemmas.Int.{ints}
use Rattle.std.proofs.lemmas.List.Elements.{All-append, All-weaker, All-cons, All-head, All-tail, recursion_from_All}
use Rattle.std.proofs.lemmas.Map.Keys.{IsDistinct-head, IsDistinct-tail, IsDistinct-cons, IsDistinct-from_apart}
use Rattle.std.proofs.lemmas.Map.Steps.{length-le_from_distinct_below}
use Rattle.ttx_certificate.proofs.EntryOrder.{rising_pairs}
use Rattle.ttx_certificate.specs.CertificateTexts.{certificate_text}
use Rattle.ttx_certificate.specs.Entries.{EntryFields, CertificateFields, IsEntry, IsCertificateFields, is_item, rises}
use Rattle.ttx_certificate.specs.Entries.{rises_above, place_of, entry_places, same_item, starts_in}
use Rattle.ttx_certificate.specs.ItemPlaces.{IsItem, item_number, key_of}
use Rattle.ttx_certificate.specs.NamedStarts.{Certificate}
use Rattle.ttx_cycle.specs.Bounded.{most_bytes}
use Rattle.ttx_header.specs.Ids.{Id, same_id}
use Rattle.ttx_page.proofs.SlotDistances.{cases_ltz}
use Rattle.ttx_page.specs.Packets.{Packet, Header, Row, Links, packet_of}
use Rattle.ttx_page.specs.Pages.{Page}
use Rattle.ttx_page.specs.Streams.{Stream, repeated, heads_page, carries, IsLatestHeader, IsOwned, IsTransmission, AreSuccessive}
use Rattle.ttx_page.specs.declared.class.Class.{Class}
use Rattle.ttx_page.specs.declared.item.Item.{Item}
use Rattle.ttx_page.specs.declared.item.Item.TheVariants.{Head as TheHead, Row as TheRow, Links as TheLinks}
use Rattle.ttx_tool.proofs.CertificateLengths.{named_in, certificate_length}
use Rattle.ttx_witness.specs.Coverage.{IsSureStart}
use Rattle.ttx_witness.specs.search.Finding.{IsFoundFor}

-- ---- a slot sends one item of one page

same_one : (a b : Id) → same_id a b ≡ true → a ≡ b
same_one a b e =
    let l = (and_parts ((a.mag == b.mag) && (a.page == b.page)) (a.sub == b.sub) e).0 in
    let m : a.mag ≡ b.mag = eqb-true _ _ ((and_parts (a.mag == b.mag) (a.page == b.page) l).0) in
    let p : a.page ≡ b.page = eqb-true _ _ ((and_parts (a.mag == b.mag) (a.page == b.page) l).1) in
    let s : a.sub ≡ b.sub = eqb-true _ _ ((and_parts ((a.mag == b.mag) && (a.page == b.page)) (a.sub == b.sub) e).1) in
    λ i. record { mag = m i; page = p i; sub = s i }

one_page : (p q : Id) (packet : Packet) → heads_page p packet ≡ true → heads_page q packet ≡ true → p ≡ q
one_page p q (Header id control text) a b = same_one p id a ∙ sym (same_one q id b)
one_page p q _ a b = cc

head_is_alone : (p : Id) (mag : ℕ) (item : Item) (packet : Packet) → heads_page p packet ≡ true → carries mag item packet ≡ true → ⊥
head_is_alone p mag TheHead (Header id control text) h k = cc
head_is_alone p mag (TheRow r) (Header id control text) h k = cc
head_is_alone p mag TheLinks (Header id control text) h k = cc
head_is_alone p mag item _ h k = cc

one_row : (m n r t : ℕ) (packet : Packet) → carries m (TheRow r) packet ≡ true → carries n (TheRow t) packet ≡ true → (m ≡ n) × (r ≡ t)
one_row m n r t (Row mag number text) a b =
    let x = and_parts (mag == m) (number == r) a in
    let y = and_parts (mag == n) (number == t) b in
    (sym (eqb-true mag m x.0) ∙ eqb-true mag n y.0, sym (eqb-true number r x.1) ∙ eqb-true number t y.1)
one_row m n r t _ a b = cc

one_links : (m n : ℕ) (packet : Packet) → carries m TheLinks packet ≡ true → carries n TheLinks packet ≡ true → m ≡ n
one_links m n (Links mag content) a b = sym (eqb-true mag m a) ∙ eqb-true mag n b
one_links m n _ a b = cc

row_or_links : (m n r : ℕ) (packet : Packet) → carries m (TheRow r) packet ≡ true → carries n TheLinks packet ≡ true → ⊥
row_or_links m n r (Row mag number text) a b = cc
row_or_links m n r (Links mag content) a b = cc
row_or_links m n r _ a b = cc

one_header : (s : Stream) (mag : ℕ) (h k j : ℤ) → IsLatestHeader s mag h j → IsLatestHeader s mag k j → h ≡ k
one_header s mag h k j a b = elim (cases_ltz h k) as (λ _. h ≡ k) [
  | inl lt ↦ absurd (both_ways _ (a.none_between k lt b.earlier) b.is_header)
  | inr ge ↦ elim (cases_ltz k h) as (λ _. h ≡ k) [
    | inl lt ↦ absurd (both_ways _ (b.none_between h lt a.earlier) a.is_header)
    | inr le ↦ omega (arith, ints)
  ]
]

one_owner : (s : Stream) (p q : Id) (h k j : ℤ) → p.mag ≡ q.mag → IsLatestHeader s p.mag h j → IsLatestHeader s q.mag k j →
    heads_page p (packet_of (s h)) ≡ true → heads_page q (packet_of (s k)) ≡ true → p ≡ q
one_owner s p q h k j mag a b x y =
    let same : h ≡ k = one_header s p.mag h k j a (subst (λ m. IsLatestHeader s m k j) (sym mag) b) in
    one_page p q (packet_of (s h)) x (subst (λ i. heads_page q (packet_of (s i)) ≡ true) (sym same) y)

one_item : (s : Stream) (p q : Id) (x y : Item) (h k j : ℤ) → IsOwned s p x h j → IsOwned s q y k j → (p ≡ q) × (item_number x ≡ item_number y)
one_item s p q TheHead TheHead h k j a b = (one_page p q (packet_of (s j)) a.1 b.1, refl)
one_item s p q TheHead (TheRow r) h k j a b = absurd (head_is_alone p q.mag (TheRow r) (packet_of (s j)) a.1 b.2)
one_item s p q TheHead TheLinks h k j a b = absurd (head_is_alone p q.mag TheLinks (packet_of (s j)) a.1 b.2)
one_item s p q (TheRow r) TheHead h k j a b = absurd (head_is_alone q p.mag (TheRow r) (packet_of (s j)) b.1 a.2)
one_item s p q (TheRow r) (TheRow t) h k j a b =
    let same = one_row p.mag q.mag r t (packet_of (s j)) a.2 b.2 in
    (one_owner s p q h k j same.0 a.0 b.0 a.1 b.1, same.1)
one_item s p q (TheRow r) TheLinks h k j a b = absurd (row_or_links p.mag q.mag r (packet_of (s j)) a.2 b.2)
one_item s p q TheLinks TheHead h k j a b = absurd (head_is_alone q p.mag TheLinks (packet_of (s j)) b.1 a.2)
one_item s p q TheLinks (TheRow r) h k j a b = absurd (row_or_links q.mag p.mag r (packet_of (s j)) b.2 a.2)
one_item s p q TheLinks TheLinks h k j a b =
    (one_owner s p q h k j (one_links p.mag q.mag (packet_of (s j)) a.2 b.2) a.0 b.0 a.1 b.1, refl)

one_place : (s : Stream) (p q : Id) (x y : Item) (j : ℤ) → IsTransmission s p x j → IsTransmission s q y j → place_of p x ≡ place_of q y
one_place s p q x y j a b =
    let same = one_item s p q x y a.owner b.owner j a.owned b.owned in
    ap (λ id. key_of id * 26 + item_number x) same.0 ∙ ap (λ n. key_of q * 26 + n) same.1

-- ---- entries whose starts are slots of the cycle that send their items

pub record Sends (cycle : List (List ℕ)) (e : EntryFields) (start : ℕ) : Type 0 where
  pub inside : start < length cycle
  pub sent : IsTransmission (repeated cycle) e.page e.item (pos start)

-- a start of an entry above a place
record SendsAbove (cycle : List (List ℕ)) (low start : ℕ) : Type 0 where
  entry : EntryFields
  above : low < place_of entry.page entry.item
  sends : Sends cycle entry start

abbrev pub AllSend : List (List ℕ) → List EntryFields → Type 0
AllSend cycle es = AllByRecursion (λ e. All (Sends cycle e) e.starts) es

abbrev AllRise : List EntryFields → Type 0
AllRise es = AllByRecursion (λ e. rises e.starts ≡ true) es

module _ (cycle : List (List ℕ)) where
  higher : (low high start : ℕ) → low < high → SendsAbove cycle high start → SendsAbove cycle low start
  higher low high start lt s = let more = s.above in record { entry = s.entry; above = omega (arith, lt, more); sends = s.sends }

  all_above : (low : ℕ) (es : List EntryFields) → AllSend cycle es → rises_above (Some low) (entry_places es) ≡ true →
      All (SendsAbove cycle low) (named_in es)
  all_above low [] send up = λ k d lt. absurd (omega arith)
  all_above low (e ∷ es) send up =
      let place = place_of e.page e.item in
      let parts = and_parts (nat_lt low place) (rises_above (Some place) (entry_places es)) up in
      let lt : low < place = ltb-true low place parts.0 in
      let first : All (SendsAbove cycle low) e.starts = All-weaker (Sends cycle e) (SendsAbove cycle low)
      (λ start s. record { entry = e; above = lt; sends = s }) e.starts send.0 in
      let rest : All (SendsAbove cycle low) (named_in es) = All-weaker (SendsAbove cycle place) (SendsAbove cycle low)
      (λ start s. higher low place start lt s) (named_in es) (all_above place es send.1 parts.1) in
      All-append (SendsAbove cycle low) e.starts (named_in es) first rest

  -- a start of an entry isn't one of a later entry
  apart_from : (e : EntryFields) (start other : ℕ) → Sends cycle e start → SendsAbove cycle (place_of e.page e.item) other → eqb start other ≡ false
  apart_from e start other s o = ne_eqb start other (λ same.
      let sent = subst (λ n. IsTransmission (repeated cycle) e.page e.item (pos n)) same s.sent in
      let place = one_place (repeated cycle) e.page o.entry.page e.item o.entry.item (pos other) sent o.sends.sent in
      let above = o.above in
      omega (arith, place, above))

  distinct_join : (e : EntryFields) (starts others : List ℕ) → All (Sends cycle e) starts →
      All (SendsAbove cycle (place_of e.page e.item)) others → IsDistinct eqb starts → IsDistinct eqb others → IsDistinct eqb (starts ++ others)
  distinct_join e [] others a b x y = y
  distinct_join e (start ∷ starts) others a b x y =
      let here : Sends cycle e start = All-head (Sends cycle e) start starts a in
      let apart : All (λ n. eqb start n ≡ false) others =
      All-weaker (SendsAbove cycle (place_of e.page e.item)) (λ n. eqb start n ≡ false) (λ n o. apart_from e start n here o) others b in
      let rest : IsDistinct eqb (starts ++ others) =
      distinct_join e starts others (All-tail (Sends cycle e) start starts a) b (IsDistinct-tail eqb start starts x) y in
      IsDistinct-cons eqb start (starts ++ others)
      (apart_both starts (IsDistinct-head eqb start starts x) (recursion_from_All (λ n. eqb start n ≡ false) others apart)) rest
    where
      apart_both : (ns : List ℕ) → AllByRecursion (λ n. eqb start n ≡ false) ns → AllByRecursion (λ n. eqb start n ≡ false) others →
          AllByRecursion (λ n. eqb start n ≡ false) (ns ++ others)
      apart_both [] p q = q
      apart_both (n ∷ ns) p q = (p.0, apart_both ns p.1 q)

  rising_distinct : (starts : List ℕ) → rises starts ≡ true → IsDistinct eqb starts
  rising_distinct starts up = IsDistinct-from_apart eqb starts (λ i j d lt within. ne_eqb _ _ (λ same.
      let below = rising_pairs None starts i j d up lt within in omega (arith, below, same)))

  rising_later : (low : ℕ) (ns : List ℕ) → rises_above (Some low) ns ≡ true → rises ns ≡ true
  rising_later low [] up = refl
  rising_later low (n ∷ ns) up = (and_parts (nat_lt low n) (rises_above (Some n) ns) up).1

  named_distinct : (es : List EntryFields) → AllSend cycle es → AllRise es → rises (entry_places es) ≡ true → IsDistinct eqb (named_in es)
  named_distinct [] send rise up = IsDistinct-from_apart eqb [] (λ i j d lt within. absurd (omega arith))
  named_distinct (e ∷ es) send rise up =
      let place = place_of e.page e.item in
      distinct_join e e.starts (named_in es) send.0 (all_above place es send.1 up) (rising_distinct e.starts rise.0)
      (named_distinct es send.1 rise.1 (rising_later place (entry_places es) up))

  named_inside : (es : List EntryFields) → AllSend cycle es → All (λ n. n < length cycle) (named_in es)
  named_inside [] send = λ k d lt. absurd (omega arith)
  named_inside (e ∷ es) send = All-append (λ n. n < length cycle) e.starts (named_in es)
      (All-weaker (Sends cycle e) (λ n. n < length cycle) (λ n s. s.inside) e.starts send.0) (named_inside es send.1)

  below_any : (ns : List ℕ) → All (λ n. n < length cycle) ns → (q : ℕ) → list_any (eqb q) ns ≡ true → q < length cycle
  below_any [] all q any = absurd (both_ways false refl any)
  below_any (n ∷ ns) all q any = elim (or_cases (eqb q n) (list_any (eqb q) ns) any) as (λ _. q < length cycle) [
    | inl here ↦ subst (λ x. x < length cycle) (sym (eqb-true q n here)) (All-head (λ n. n < length cycle) n ns all)
    | inr later ↦ below_any ns (All-tail (λ n. n < length cycle) n ns all) q later
  ]

  -- so all starts are as many as the slots at most
  pub named_few : (es : List EntryFields) → AllSend cycle es → AllRise es → rises (entry_places es) ≡ true → length (named_in es) ≤ length cycle
  named_few es send rise up =
      length-le_from_distinct_below (named_in es) (length cycle) (named_distinct es send rise up) (below_any (named_in es) (named_inside es send))

-- ---- the starts of a certificate are those of its entries

abbrev OwnStarts : List EntryFields → List EntryFields → Type 0
OwnStarts all es = AllByRecursion (λ e. starts_in all e.page e.item ≡ e.starts) es

abbrev is_for : EntryFields → EntryFields → Bool
is_for e f = same_id e.page f.page && same_item e.item f.item

is_for_itself : (e : EntryFields) → is_for e e ≡ true
is_for_itself e = and_from _ _ (and_from _ _ (and_from _ _ (eq-eqb e.page.mag e.page.mag refl) (eq-eqb e.page.page e.page.page refl))
    (eq-eqb e.page.sub e.page.sub refl)) (eq-eqb (item_number e.item) (item_number e.item) refl)

for_one_place : (e f : EntryFields) → is_for e f ≡ true → place_of e.page e.item ≡ place_of f.page f.item
for_one_place e f is =
    let parts = and_parts (same_id e.page f.page) (same_item e.item f.item) is in
    ap (λ id. key_of id * 26 + item_number e.item) (same_one e.page f.page parts.0)
    ∙ ap (λ n. key_of f.page * 26 + n) (eqb-true (item_number e.item) (item_number f.item) parts.1)

passed : (e : EntryFields) (low : ℕ) (all es : List EntryFields) → place_of e.page e.item ≤ low → rises_above (Some low) (entry_places es) ≡ true →
    OwnStarts all es → OwnStarts (e ∷ all) es
passed e low all [] le up own = tt
passed e low all (f ∷ es) le up own =
    let place = place_of f.page f.item in
    let parts = and_parts (nat_lt low place) (rises_above (Some place) (entry_places es)) up in
    let lt : low < place = ltb-true low place parts.0 in
    let other : is_for e f ≡ false = elim (cases_Bool (is_for e f)) as (λ _. is_for e f ≡ false) [
      | inl is ↦ absurd (let same = for_one_place e f is in omega (arith, same, lt, le))
      | inr unlike ↦ unlike
    ] in
    let skipped : starts_in (e ∷ all) f.page f.item ≡ starts_in all f.page f.item =
    cond-false (is_for e f) e.starts (starts_in all f.page f.item) other in
    (skipped ∙ own.0, passed e place all es (omega (arith, le, lt)) parts.1 own.1)

own_starts : (es : List EntryFields) → rises (entry_places es) ≡ true → OwnStarts es es
own_starts [] up = tt
own_starts (e ∷ es) up =
    let place = place_of e.page e.item in
    let here : starts_in (e ∷ es) e.page e.item ≡ e.starts =
    cond-true (is_for e e) e.starts (starts_in es e.page e.item) (is_for_itself e) in
    (here, passed e place es es (omega arith) up (own_starts es (rising_later [] place (entry_places es) up)))

-- ---- the starts of the certificate that is found

is_the_item : (item : Item) → is_item item ≡ true → IsItem item
is_the_item TheHead is = tt
is_the_item (TheRow n) is =
    let parts = and_parts (nat_le 1 n) (nat_le n 24) is in (leb-true 1 n parts.0, leb-true n 24 parts.1)
is_the_item TheLinks is = tt

first_of : (s : Stream) (page : Id) (item : Item) (first : ℤ) (rest : List ℤ) → AreSuccessive s page item (first ∷ rest) →
    IsTransmission s page item first
first_of s page item first [] is = is
first_of s page item first (next ∷ rest) is = is.0

sends_of : (cycle : List (List ℕ)) (e : EntryFields) (page : Id) (lines repeat start : ℕ) → page ≡ e.page →
    IsSureStart cycle page lines repeat e.item start → Sends cycle e start
sends_of cycle e page lines repeat start same sure = record {
  inside = sure.0;
  sent = first_of (repeated cycle) e.page e.item (pos start) sure.1.rest
      (subst (λ id. AreSuccessive (repeated cycle) id e.item (pos start ∷ sure.1.rest)) same sure.1.run.successive);
}

-- a page of the list has the id, or none has
record IsListed (pages : List Page) (id : Id) : Type 0 where
  index : ℕ
  page : Page
  here : slice_get pages index ≡ Some page
  same : page.id ≡ id

abbrev IsUnlisted : List Page → Id → Type 0
IsUnlisted pages id = (n : ℕ) (p : Page) → slice_get pages n ≡ Some p → p.id ≡ id → ⊥

listed : (pages : List Page) (id : Id) → IsListed pages id ⊎ IsUnlisted pages id
listed [] id = inr (λ n p at same. let none : None ≡ Some p = at in cc)
listed (q ∷ pages) id = elim (cases_Bool (same_id q.id id)) as (λ _. IsListed (q ∷ pages) id ⊎ IsUnlisted (q ∷ pages) id) [
  | inl is ↦ inl (record { index = zero; page = q; here = refl; same = same_one q.id id is })
  | inr unlike ↦ elim (listed pages id) as (λ _. IsListed (q ∷ pages) id ⊎ IsUnlisted (q ∷ pages) id) [
    | inl l ↦ inl (record { index = suc l.index; page = l.page; here = l.here; same = l.same })
    | inr none ↦ inr (λ n p at same. not_there n p at same unlike none)
  ]
]
  where
    itself : (a b : Id) → a ≡ b → same_id a b ≡ true
    itself a b e = subst (λ x. same_id a x ≡ true) e
        (and_from _ _ (and_from _ _ (eq-eqb a.mag a.mag refl) (eq-eqb a.page a.page refl)) (eq-eqb a.sub a.sub refl))

    not_there : (n : ℕ) (p : Page) → slice_get (q ∷ pages) n ≡ Some p → p.id ≡ id → same_id q.id id ≡ false → IsUnlisted pages id → ⊥
    not_there zero p at same unlike none = let is : q ≡ p = cc in both_ways _ unlike (itself q.id id (ap (λ (x : Page). x.id) is ∙ same))
    not_there (suc n) p at same unlike none = none n p at same

all_contained : (P : ℕ → Type 0) (xs : List ℕ) → ((x : ℕ) → Contains xs x → P x) → All P xs
all_contained P [] f = λ k d lt. absurd (omega arith)
all_contained P (x ∷ xs) f = All-cons P x xs (f x (0, omega arith, refl))
    (all_contained P xs (λ y c. f y (suc c.0, (let lt = c.1 in omega (arith, lt)), c.2)))

module _ (cycle : List (List ℕ)) (pages : List Page) (repeat lines : ℕ) (class : Class) (other : Certificate) (deadline : Option ℕ)
    (found : IsFoundFor cycle pages repeat lines class other deadline) (w : CertificateFields) (same : starts_in w.entries ≡ other.starts) where
  entry_sends : (e : EntryFields) → IsEntry e → starts_in w.entries e.page e.item ≡ e.starts → All (Sends cycle e) e.starts
  entry_sends e is own = elim (listed pages e.page) as (λ _. All (Sends cycle e) e.starts) [
    | inl l ↦ all_contained (Sends cycle e) e.starts (λ start among.
        let mine : Contains (starts_in w.entries l.page.id e.item) start =
        subst (λ id. Contains (starts_in w.entries id e.item) start) (sym l.same) (subst (λ xs. Contains xs start) (sym own) among) in
        let there : Contains (other.starts l.page.id e.item) start = subst (λ starts. Contains (starts l.page.id e.item) start) same mine in
        let named = (found.named l.index l.page l.here e.item (is_the_item e.item is.item) start).0 there in
        sends_of cycle e l.page.id lines repeat start l.same named.1)
    | inr none ↦ subst (All (Sends cycle e)) (sym (found.no_others e.page none e.item) ∙ ap (λ starts. starts e.page e.item) (sym same) ∙ own) (λ k d lt. absurd (omega arith))
  ]

  all_send : (es : List EntryFields) → AllByRecursion IsEntry es → OwnStarts w.entries es → AllSend cycle es
  all_send [] are own = tt
  all_send (e ∷ es) are own = (entry_sends e are.0 own.0, all_send es are.1 own.1)

  all_rise : (es : List EntryFields) → AllByRecursion IsEntry es → AllRise es
  all_rise [] are = tt
  all_rise (e ∷ es) are = ((and_parts _ (rises e.starts) are.0.starts).1, all_rise es are.1)

  -- the text of one with these starts isn't too long
  pub found_is_short : IsCertificateFields w → length cycle ≤ 65536 → length (certificate_text w) ≤ most_bytes
  found_is_short is most =
      let send = all_send w.entries is.entries (own_starts w.entries is.rising) in
      let few : length (named_in w.entries) ≤ length cycle = named_few cycle w.entries send (all_rise w.entries is.entries) is.rising in
      let size : length (certificate_text w) ≤ 68 + 22 * length (named_in w.entries) = certificate_length w is in
      omega (arith, few, size, most)
