-- A number that each edition of a schedule sends whole, in all that is sent: each block is whole there, too.
use Rattle.std.proofs.Common.{◌≡◌, ℕ, zero, suc, ◌*◌, ◌<◌, ◌≤◌, ℤ, pos, negsuc, ◌+ℤ◌, ◌-ℤ◌, ◌<ℤ◌, ◌≤ℤ◌, Bool, true, false, ◌&&◌, not, eqb, List, [], ◌∷◌}
use Rattle.std.proofs.Common.{length, get_or, refl, sym, ap, ◌∙◌, subst, inl, inr, arith}
use Rattle.std.proofs.lemmas.Int.{ints}
use Rattle.std.proofs.lemmas.Bool.{both_ways}
use Rattle.ttx_packet.specs.Slots.{IsSlot, is_clean}
use Rattle.ttx_header.specs.Ids.{Id}
use Rattle.ttx_page.proofs.SlotDistances.{cases_ltz}
use Rattle.ttx_page.specs.Laws.{OwnersAreNear, OwnersComeFirst, CyclesRepeat}
use Rattle.ttx_page.specs.Packets.{Packet, Header, packet_of}
use Rattle.ttx_page.specs.Pages.{Page, IsPage, needed}
use Rattle.ttx_page.specs.declared.class.Class.TheVariants.{Any}
use Rattle.ttx_page.specs.declared.item.Item.{Item}
use Rattle.ttx_page.specs.declared.item.Item.TheVariants.{Head as TheHead, Row as TheRow, Links as TheLinks}
use Rattle.ttx_page.specs.declared.selection.Selection.TheVariants.{AnySub}
use Rattle.ttx_page.specs.Streams.{Stream, repeated, joined, heads, heads_page, heads_matched, IsOwned}
use Rattle.ttx_page.specs.Steady.{IsChecked, IsTrueTo}
use Rattle.ttx_page.specs.Followers.{IsFollowed, heads_another}
use Rattle.ttx_witness.specs.Coverage.{Accepts, limit}
use Rattle.ttx_subpages.specs.WholeBlocks.{IsSubpage, ComesUnder}
use Rattle.ttx_subpages.specs.ListsInForce.{SendsListed}
use Rattle.ttx_subpages.specs.Laws.{ListedBlocksAreSeen}
use Rattle.ttx_proof.specs.Splices.{Splice, NumbersAgree}
use Rattle.ttx_proof.specs.Laws.{IsSplice, BothAccepted}
use Rattle.ttx_proof.proofs.NamedStarts.{turned_back}
use Rattle.ttx_proof.proofs.StreamsOfSides.{StreamLaws}
use Rattle.ttx_proof.proofs.StreamsOfSides as S
use Rattle.ttx_proof.proofs.AgreeingStreams as A
use Rattle.ttx_proof.proofs.BridgedIsSeen as B
use Rattle.ttx_playout.specs.Schedules.{Edition, Showing, span, sent, change, IsEdition, AreEditions, IsHandedOn}
use Rattle.ttx_change.specs.OldOrNew.{lists_of, SendsNumber}
use Rattle.ttx_change.specs.Scheduled.{lists_through, HandsOverWhole, SchedulesAreWhole}
use Rattle.ttx_change.proofs.JoinedNumbers as J

-- what a schedule sends around its first change

before_change : (first : Edition) (later : List Showing) (i : ℤ) → i <ℤ pos 0 → sent first later i ≡ repeated first.cycle i
before_change first [] i lt = refl
before_change first (t ∷ later) (pos i) lt = absurd (omega (arith, ints))
before_change first (t ∷ later) (negsuc i) lt = refl

periods_back : (t : Showing) (i : ℤ) → repeated t.edition.cycle (i -ℤ pos (span t)) ≡ repeated t.edition.cycle i
periods_back t i = ap (λ n. get_or t.edition.cycle n []) (turned_back (length t.edition.cycle) t.periods i)

last_change : (first : Edition) (t : Showing) (i : ℤ) → sent first (t ∷ []) i ≡ joined first.cycle t.edition.cycle i
last_change first t (pos i) = periods_back t (pos i)
last_change first t (negsuc i) = refl

next_change : (first : Edition) (t : Showing) (later : List Showing) (i : ℤ) → i <ℤ pos (span t) →
    sent first (t ∷ later) i ≡ joined first.cycle t.edition.cycle i
next_change first t later (pos i) lt = before_change t.edition later (pos i -ℤ pos (span t)) (omega (arith, ints)) ∙ periods_back t (pos i)
next_change first t later (negsuc i) lt = refl

after_change : (first : Edition) (t : Showing) (later : List Showing) (i : ℤ) → pos 0 ≤ℤ i →
    sent first (t ∷ later) i ≡ sent t.edition later (i -ℤ pos (span t))
after_change first t later (pos i) le = refl
after_change first t later (negsuc i) le = absurd (omega (arith, ints))

above_is : (old new : List (List ℕ)) (i : ℤ) → pos 0 ≤ℤ i → joined old new i ≡ repeated new i
above_is old new (pos i) le = refl
above_is old new (negsuc i) le = absurd (omega (arith, ints))

-- headers

and_first : (a b : Bool) → (a && b) ≡ true → a ≡ true
and_first true b h = refl
and_first false b h = h

another_heads : (page : Id) (packet : Packet) → heads_another page packet ≡ true → heads page.mag packet ≡ true
another_heads page (Header id control text) h = and_first (eqb id.mag page.mag) (not (eqb id.page page.page)) h
another_heads page packet h = h

owner_heads : (s : Stream) (page : Id) (item : Item) (h j : ℤ) → IsOwned s page item h j → heads_page page (packet_of (s h)) ≡ true
owner_heads s page TheHead h j a = ap (λ i. heads_page page (packet_of (s i))) a.0 ∙ a.1
owner_heads s page (TheRow r) h j a = a.1
owner_heads s page TheLinks h j a = a.1

-- what a header owns comes before the next header of its magazine
owned_until : (s : Stream) (page : Id) (item : Item) (h j z : ℤ) → IsOwned s page item h j → h <ℤ z →
    heads page.mag (packet_of (s z)) ≡ true → j ≤ℤ z
owned_until s page TheHead h j z a lt head = let e = a.0 in omega (arith, ints)
owned_until s page (TheRow r) h j z a lt head = elim (cases_ltz z j) as (λ _. j ≤ℤ z) [
  | inr ge ↦ ge
  | inl below ↦ absurd (both_ways _ (a.0.none_between z lt below) head)
]
owned_until s page TheLinks h j z a lt head = elim (cases_ltz z j) as (λ _. j ≤ℤ z) [
  | inr ge ↦ ge
  | inl below ↦ absurd (both_ways _ (a.0.none_between z lt below) head)
]

-- A schedule is the joined stream of its first change up to some slot that is at least a period of the new cycle after it, and from the change
-- on the rest of the schedule.
module _ (first_owners : OwnersComeFirst) (again : CyclesRepeat) (first : Edition) (t : Showing) (later : List Showing)
    (some : 0 < length t.edition.cycle) (lines mag number : ℕ)
    (pair : SendsListed (joined first.cycle t.edition.cycle) (lists_of (change first t.edition)) lines mag number)
    (rest : SendsListed (sent t.edition later) (lists_through t.edition later) lines mag number)
    (until : ℤ) (long : pos (length t.edition.cycle) ≤ℤ until)
    (agrees : (i : ℤ) → i <ℤ until → sent first (t ∷ later) i ≡ joined first.cycle t.edition.cycle i) where
  abbrev s : Stream
  s = sent first (t ∷ later)

  abbrev two : Stream
  two = joined first.cycle t.edition.cycle

  abbrev then_on : Stream
  then_on = sent t.edition later

  abbrev d : ℤ
  d = pos (span t)

  abbrev Subpage : ℤ → Page → Type 0
  Subpage h p = IsSubpage (lists_through first (t ∷ later) h) mag number p

  abbrev IsNear : ℤ → Type 0
  IsNear i = i <ℤ until

  between : (h i j : ℤ) → IsNear h → IsNear j → h ≤ℤ i → i ≤ℤ j → IsNear i
  between h i j a b c e = omega (arith, ints)

  -- the next header of the magazine after an old one comes within the first period of the new cycle
  near : (k : ℕ) (page : Id) (f : IsFollowed two page (negsuc k)) → f.slot <ℤ until
  near k page f = elim (cases_ltz f.slot (pos (length t.edition.cycle))) as (λ _. f.slot <ℤ until) [
    | inl lt ↦ omega (arith, ints)
    | inr ge ↦
        let back = f.slot -ℤ pos (length t.edition.cycle) in
        let e : back +ℤ pos (length t.edition.cycle) ≡ f.slot = omega (arith, ints) in
        let same : two f.slot ≡ two back =
        above_is first.cycle t.edition.cycle f.slot (omega (arith, ints))
        ∙ ap (repeated t.edition.cycle) (sym e) ∙ again t.edition.cycle some back
        ∙ sym (above_is first.cycle t.edition.cycle back (omega (arith, ints))) in
        absurd (both_ways _ (f.next.none_between back (omega (arith, ints)) (omega (arith, ints)))
        (ap (λ x. heads page.mag (packet_of x)) (sym same) ∙ another_heads page (packet_of (two f.slot)) f.another))
  ]

  followed_old : (k : ℕ) (page : Id) → IsFollowed two page (negsuc k) → IsFollowed s page (negsuc k)
  followed_old k page f =
      let close = near k page f in
      record {
        slot = f.slot;
        next = record {
          earlier = f.next.earlier;
          is_header = f.next.is_header;
          none_between = λ i a b. ap (λ x. heads page.mag (packet_of x)) (agrees i (omega (arith, ints))) ∙ f.next.none_between i a b;
        };
        another = ap (λ x. heads_another page (packet_of x)) (agrees f.slot close) ∙ f.another;
      }

  -- from the change on, the schedule is its rest moved by d slots
  same_on : (h j : ℤ) → (pos 0 -ℤ d) ≤ℤ h → (i : ℤ) → h ≤ℤ i → i ≤ℤ j → s (i +ℤ d) ≡ then_on i
  same_on h j le i low high =
      let e : (i +ℤ d) -ℤ d ≡ i = omega (arith, ints) in
      after_change first t later (i +ℤ d) (omega (arith, ints)) ∙ ap then_on e

  own : (h : ℤ) → heads_matched (AnySub mag number) (packet_of (s h)) ≡ true → (p : Page) × Subpage h p × (heads_page p.id (packet_of (s h)) ≡ true)
  own (pos n) matched = rest.own (pos n -ℤ d) matched
  own (negsuc k) matched = pair.own (negsuc k) matched

  are_pages : (h : ℤ) (p : Page) → Subpage h p → IsPage p
  are_pages (pos n) p sub = rest.are_pages (pos n -ℤ d) p sub
  are_pages (negsuc k) p sub = pair.are_pages (negsuc k) p sub

  slots : (j : ℤ) → IsSlot (s j)
  slots (pos n) = rest.slots (pos n -ℤ d)
  slots (negsuc k) = pair.slots (negsuc k)

  clean : (j : ℤ) → is_clean (s j) ≡ true
  clean (pos n) = rest.clean (pos n -ℤ d)
  clean (negsuc k) = pair.clean (negsuc k)

  followed : (h : ℤ) (p : Page) → Subpage h p → heads_page p.id (packet_of (s h)) ≡ true → IsFollowed s p.id h
  followed (negsuc k) p sub head = followed_old k p.id (pair.followed (negsuc k) p sub head)
  followed (pos n) p sub head =
      let f = rest.followed (pos n -ℤ d) p sub head in
      let e : (pos n -ℤ d) +ℤ d ≡ pos n = omega (arith, ints) in
      let lt = f.next.earlier in
      subst (IsFollowed s p.id) e (record {
        slot = f.slot +ℤ d;
        next = A.latest_on then_on s d (pos n -ℤ d) f.slot (same_on (pos n -ℤ d) f.slot (omega (arith, ints))) p.id.mag f.next;
        another = ap (λ x. heads_another p.id (packet_of x))
            (same_on (pos n -ℤ d) f.slot (omega (arith, ints)) f.slot (omega (arith, ints)) (omega (arith, ints))) ∙ f.another;
      })

  items : (h : ℤ) (p : Page) → Subpage h p → (item : Item) → IsChecked p item → (j : ℤ) → IsOwned s p.id item h j → IsTrueTo p item (s j)
  items (negsuc k) p sub item checked j owned =
      let f = pair.followed (negsuc k) p sub (owner_heads s p.id item (negsuc k) j owned) in
      let close = near k p.id f in
      let le = owned_until s p.id item (negsuc k) j f.slot owned f.next.earlier
      (ap (λ x. heads p.id.mag (packet_of x)) (agrees f.slot close) ∙ another_heads p.id (packet_of (two f.slot)) f.another) in
      let here : IsNear j = omega (arith, ints) in
      let old : IsNear (negsuc k) = omega (arith, ints, f.next.earlier) in
      subst (IsTrueTo p item) (sym (agrees j here))
      (pair.items (negsuc k) p sub item checked j
      (S.owned_over s two IsNear between (λ i a. sym (agrees i a)) p.id item (negsuc k) j old here owned))
  items (pos n) p sub item checked j owned =
      let le = first_owners s p.id item (pos n) j owned in
      let e : pos n ≡ (pos n -ℤ d) +ℤ d = omega (arith, ints) in
      let at : j ≡ (j -ℤ d) +ℤ d = omega (arith, ints) in
      let moved = subst (λ i. IsOwned s p.id item i ((j -ℤ d) +ℤ d)) e (subst (IsOwned s p.id item (pos n)) at owned) in
      subst (IsTrueTo p item) (sym (after_change first t later j (omega (arith, ints))))
      (rest.items (pos n -ℤ d) p sub item checked (j -ℤ d)
      (A.owned_off then_on s d (pos n -ℤ d) (j -ℤ d) (same_on (pos n -ℤ d) (j -ℤ d) (omega (arith, ints))) p.id item moved))

  whole : (h : ℤ) (p : Page) → Subpage h p → heads_page p.id (packet_of (s h)) ≡ true → (item : Item) → needed p item ≡ true →
      ComesUnder s p lines item h
  whole (negsuc k) p sub head item need =
      let u = pair.whole (negsuc k) p sub head item need in
      let f = pair.followed (negsuc k) p sub head in
      let close = near k p.id f in
      let le = owned_until two p.id item (negsuc k) u.slot f.slot u.owned f.next.earlier (another_heads p.id (packet_of (two f.slot)) f.another) in
      let here : IsNear u.slot = omega (arith, ints) in
      let old : IsNear (negsuc k) = omega (arith, ints, f.next.earlier) in
      record {
        slot = u.slot;
        owned = S.owned_over two s IsNear between agrees p.id item (negsuc k) u.slot old here u.owned;
        sure = S.sure_over two s IsNear between agrees lines p.id.mag item (negsuc k) u.slot old here u.sure;
      }
  whole (pos n) p sub head item need =
      let u = rest.whole (pos n -ℤ d) p sub head item need in
      let e : (pos n -ℤ d) +ℤ d ≡ pos n = omega (arith, ints) in
      subst (ComesUnder s p lines item) e (record {
        slot = u.slot +ℤ d;
        owned = A.owned_on then_on s d (pos n -ℤ d) u.slot (same_on (pos n -ℤ d) u.slot (omega (arith, ints))) p.id item u.owned;
        sure = A.sure_on then_on s d (pos n -ℤ d) u.slot (same_on (pos n -ℤ d) u.slot (omega (arith, ints))) lines p.id.mag item u.sure;
      })

  goes_on : SendsListed s (lists_through first (t ∷ later)) lines mag number
  goes_on = record {
    slots = slots;
    clean = clean;
    are_pages = are_pages;
    own = own;
    items = items;
    whole = whole;
    followed = followed;
  }

-- a single edition

module _ (laws : StreamLaws) (e : Edition) (is : IsEdition e) (accepts : Accepts e.cycle e.pages e.certificate) (any : e.certificate.class ≡ Any)
    (mag number : ℕ) (sends : SendsNumber e.cycle e.pages e.certificate.lines mag number) where
  abbrev c : Splice
  c = change e e

  is_splice : IsSplice c
  is_splice = record {
    old = is.cycle;
    new = is.cycle;
    old_pages = is.pages;
    new_pages = is.pages;
    old_certificate = is.certificate;
    new_certificate = is.certificate;
  }

  both : BothAccepted c
  both = record { old = accepts; new = accepts }

  alike : NumbersAgree e.certificate e.certificate
  alike = record { lines = refl; repeat = refl; deadline = refl; old_class = any; new_class = any }

  each_clean : (j : ℤ) → IsSlot (repeated e.cycle j) × (is_clean (repeated e.cycle j) ≡ true)
  each_clean (pos n) = B.joined_clean laws c is_splice both alike (pos n)
  each_clean (negsuc k) = B.joined_clean laws c is_splice both alike (negsuc k)

  alone : SendsListed (sent e []) (lists_through e []) e.certificate.lines mag number
  alone = record {
    slots = λ j. (each_clean j).0;
    clean = λ j. (each_clean j).1;
    are_pages = λ h p sub. is.pages sub.index p sub.listed;
    own = λ h matched. (sends.whole h).own matched;
    items = λ h p sub item checked j owned. (B.own_new laws c is_splice both alike sub.index p sub.listed).items item checked h j owned;
    whole = λ h p sub head. (sends.whole h).whole p sub head;
    followed = λ h p sub head. sends.followed p sub h head;
  }

-- all editions

first_whole : (mag number : ℕ) (e : Edition) (later : List Showing) → HandsOverWhole mag number e later →
    SendsNumber e.cycle e.pages e.certificate.lines mag number
first_whole mag number e [] whole = whole
first_whole mag number e (t ∷ later) whole = whole.0

first_edition : (e : Edition) (later : List Showing) → AreEditions e later → IsEdition e
first_edition e [] are = are
first_edition e (t ∷ later) are = are.0

product : (m n : ℕ) → 1 ≤ m → 1 ≤ n → 1 ≤ m * n
product zero n a b = absurd (omega arith)
product (suc m) n a b = omega arith

-- what lasts as long as a deadline lasts as long as a period
one_period : (m n limit : ℕ) → 1 ≤ limit → limit ≤ m * n → n ≤ m * n
one_period zero n limit some le = absurd (omega arith)
one_period (suc m) n limit some le = omega arith

module _ (laws : StreamLaws) (nearby : OwnersAreNear) (again : CyclesRepeat) (mag number : ℕ) where
  abbrev SendsAll : Edition → List Showing → ℕ → Type 0
  SendsAll first later lines = SendsListed (sent first later) (lists_through first later) lines mag number

  splice_of : (first : Edition) (t : Showing) (later : List Showing) → AreEditions first (t ∷ later) → IsSplice (change first t.edition)
  splice_of first t later are =
      let old = are.0 in
      let new = first_edition t.edition later are.1 in
      record {
        old = old.cycle;
        new = new.cycle;
        old_pages = old.pages;
        new_pages = new.pages;
        old_certificate = old.certificate;
        new_certificate = new.certificate;
      }

  pair_of : (first : Edition) (t : Showing) (later : List Showing) → AreEditions first (t ∷ later) → IsHandedOn first (t ∷ later) →
      HandsOverWhole mag number first (t ∷ later) →
      SendsListed (joined first.cycle t.edition.cycle) (lists_of (change first t.edition)) t.edition.certificate.lines mag number
  pair_of first t later are handed whole =
      J.sends laws nearby again (change first t.edition) (splice_of first t later are) handed.0.0 handed.0.1 whole.1 mag number whole.0
      (first_whole mag number t.edition later whole.2)

  pub sends_all : (first : Edition) (later : List Showing) → AreEditions first later → IsHandedOn first later →
      HandsOverWhole mag number first later → SendsAll first later first.certificate.lines
  sends_all first [] are handed whole = alone laws first are handed.0 handed.1 mag number whole
  sends_all first (t ∷ []) are handed whole =
      subst (SendsAll first (t ∷ [])) (sym handed.0.1.lines)
      (goes_on laws.first again first t [] are.1.cycle.some t.edition.certificate.lines mag number (pair_of first t [] are handed whole)
      (sends_all t.edition [] are.1 handed.2 whole.2) (pos (length t.edition.cycle)) (omega (arith, ints)) (λ i lt. last_change first t i))
  sends_all first (t ∷ next ∷ later) are handed whole =
      let new = first_edition t.edition (next ∷ later) are.1 in
      let period = one_period t.periods (length t.edition.cycle) (limit t.edition.certificate)
      (product t.edition.certificate.deadline t.edition.certificate.lines new.certificate.some_fields new.certificate.some_lines) handed.1 in
      subst (SendsAll first (t ∷ next ∷ later)) (sym handed.0.1.lines)
      (goes_on laws.first again first t (next ∷ later) new.cycle.some t.edition.certificate.lines mag number
      (pair_of first t (next ∷ later) are handed whole) (sends_all t.edition (next ∷ later) are.1 handed.2 whole.2) (pos (span t))
      (omega (arith, ints)) (next_change first t (next ∷ later)))

pub schedules_are_whole : StreamLaws → OwnersAreNear → CyclesRepeat → ListedBlocksAreSeen → SchedulesAreWhole
schedules_are_whole laws nearby again listed first later are handed mag number whole class tau from former d received tunes le e =
    let s = sent first later in
    let lists = lists_through first later in
    let sends = sends_all laws nearby again mag number first later are handed whole in
    let o = sends.own e.header e.matched in
    let f = sends.followed e.header o.0 o.1 o.2 in
    let low = e.not_before in
    let high = e.before in
    let soon : f.slot ≤ℤ e.end = elim (cases_ltz e.end f.slot) as (λ _. f.slot ≤ℤ e.end) [
      | inr ge ↦ ge
      | inl lt ↦ absurd (both_ways _ (f.next.none_between e.end e.ends.0.earlier lt)
          (subst (λ m. heads m (packet_of (s e.end)) ≡ true) (sym o.1.mag_is) e.ends.1))
    ] in
    let shown = listed s lists class first.certificate.lines mag number (first_edition first later are).certificate.few_lines sends tau former d
    received tunes e.header o.0 o.1 o.2 (omega (arith, ints)) f (omega (arith, ints)) in
    let not_before = shown.not_before in
    record {
      place = shown.place;
      not_before = omega (arith, ints);
      before = shown.before;
      page = shown.page;
      subpage = shown.subpage;
      header = shown.header;
      view = shown.view;
    }
