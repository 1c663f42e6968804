-- Runs of a receiver that stores characters as they come: the stream sends what was stored, in the rows that do not matter to the page.
use Rattle.std.proofs.Common.{◌≡◌, ◌⊎◌, ℕ, zero, suc, ◌<◌, ◌≤◌, ℤ, pos, negsuc, ◌+ℤ◌, ◌-ℤ◌, ◌<ℤ◌, ◌≤ℤ◌, ◌==◌, ◌&&◌, not, Bool, true, false}
use Rattle.std.proofs.Common.{List, [], ◌∷◌, length, get_or, refl, sym, ap, ◌∙◌, subst, inl, inr, arith, eqb-true, eq-eqb}
use Rattle.std.proofs.lemmas.Bool.{cases_lt, both_ways, and_parts, and_from, not-true}
use Rattle.std.proofs.lemmas.Int.{ints}
use Rattle.ttx_packet.specs.Slots.{IsSlot, IsRow, kind_of, is_clean}
use Rattle.ttx_packet.specs.Receptions.{MayBeReceivedAs}
use Rattle.ttx_packet.specs.Laws.{RowsAreNumbered}
use Rattle.ttx_header.specs.Ids.{Id}
use Rattle.ttx_page.specs.Packets.{Packet, Row, packet_of}
use Rattle.ttx_page.specs.Pages.{Page, needed}
use Rattle.ttx_page.specs.declared.selection.Selection.{Selection}
use Rattle.ttx_page.specs.declared.item.Item.{Item}
use Rattle.ttx_page.specs.declared.item.Item.TheVariants.{Head as TheHead, Row as TheRow, Links as TheLinks}
use Rattle.ttx_page.specs.declared.class.Class.{Class}
use Rattle.ttx_page.specs.Memories.{Memory}
use Rattle.ttx_page.specs.Streams.{Stream, heads_page, carries, IsOwned, IsTransmission, AreSuccessive}
use Rattle.ttx_page.specs.Steady.{IsChecked}
use Rattle.ttx_late.specs.LateReceivers.{LateMemory, heads_number, TakesIn}
use Rattle.ttx_rows.specs.RowReceptions.{IsWhole, MayArriveAs, ArrivesWhole, ArrivesRight, AreAmong, RowsArrive, ReceivedByRows}
use Rattle.ttx_rows.specs.RowReceivers.{Manner, may_refuse, RowStep, RowRun, RowLateStep, RowLateRun}
use Rattle.ttx_rows.proofs.OneSlot.{LawsBelow, packet_at}
use Rattle.ttx_rows.proofs.OtherStream.{IsRetexted, HaveSameTests, tests_back, moved_successive}
use Rattle.ttx_rows.proofs.ManySlots.{all_sent, one_map}
use Rattle.ttx_rows.proofs.Owners.{is_under_since, since_found, since_known}
use Rattle.ttx_rows.proofs.Alike.{Alike, alike_self}
use Rattle.ttx_rows.proofs.Storing.{unstored, IsTorn, IsReread, Placed, stored_as, whole_is_taken}

-- the slots of a list are placed in the stream from slot tau on
abbrev pub AllPlaced : Selection → Id → (ℤ → Bool) → Stream → ℤ → List (List ℕ) → Type 0
AllPlaced sel page free s tau received = (n : ℕ) → n < length received →
    Placed sel page (free (tau +ℤ pos n)) (s (tau +ℤ pos n)) (get_or received n [])

placed_later : (sel : Selection) (page : Id) (free : ℤ → Bool) (s : Stream) (tau : ℤ) (slot : List ℕ) (received : List (List ℕ)) →
    AllPlaced sel page free s tau (slot ∷ received) → AllPlaced sel page free s (tau +ℤ pos 1) received
placed_later sel page free s tau slot received all n lt =
    let e : tau +ℤ pos (suc n) ≡ (tau +ℤ pos 1) +ℤ pos n = omega (arith, ints) in
    subst (λ j. Placed sel page (free j) (s j) (get_or received n [])) e (all (suc n) (omega arith))

abbrev pub AreReread : (ℤ → Bool) → Stream → ℤ → List (List ℕ) → List (List ℕ) → List (List ℕ) → Type 0
AreReread free s tau received sends came = (n : ℕ) → n < length received →
    IsReread (free (tau +ℤ pos n)) (s (tau +ℤ pos n)) (get_or received n []) (get_or sends n []) (get_or came n [])

reread_more : (free : ℤ → Bool) (s : Stream) (tau : ℤ) (slot h k : List ℕ) (received sends came : List (List ℕ)) →
    IsReread (free (tau +ℤ pos 0)) (s (tau +ℤ pos 0)) slot h k →
    AreReread free s (tau +ℤ pos 1) received sends came → AreReread free s tau (slot ∷ received) (h ∷ sends) (k ∷ came)
reread_more free s tau slot h k received sends came first rest zero lt = first
reread_more free s tau slot h k received sends came first rest (suc n) lt =
    let e : (tau +ℤ pos 1) +ℤ pos n ≡ tau +ℤ pos (suc n) = omega (arith, ints) in
    subst (λ j. IsReread (free j) (s j) (get_or received n []) (get_or sends n []) (get_or came n [])) e (rest n (omega arith))

pub record StoredRun (free : ℤ → Bool) (s : Stream) (tau : ℤ) (received : List (List ℕ)) (M : Type 0) (IsRunTo : List (List ℕ) → M → Type 0)
    (IsLike : M → Type 0) : Type 0 where
  pub sends : List (List ℕ)
  pub came : List (List ℕ)
  pub send_size : length sends ≡ length received
  pub size : length came ≡ length received
  pub are : AreReread free s tau received sends came
  pub left : M
  pub run : IsRunTo came left
  pub like : IsLike left

abbrev pub LateAlike : LateMemory → LateMemory → Type 0
LateAlike d e = Alike d.gathered e.gathered × Alike d.shown e.shown

module _ (laws : LawsBelow) (numbered : RowsAreNumbered) (class : Class) (lines : ℕ) (sel : Selection) (p : Page) (how : Manner)
    (free : ℤ → Bool) (s : Stream) where
  pub stored_run : (received : List (List ℕ)) (tau : ℤ) → AllPlaced sel p.id free s tau received → (m n new : Memory) → Alike m n →
      RowRun how class lines sel m received new →
      StoredRun free s tau received Memory (λ came left. RowRun (unstored how) class lines sel n came left) (λ left. Alike new left)
  stored_run [] tau placed m n new a run = record {
    sends = [];
    came = [];
    send_size = refl;
    size = refl;
    are = λ n lt. absurd (omega arith);
    left = n;
    run = refl;
    like = subst (λ x. Alike x n) (sym run) a;
  }
  stored_run (slot ∷ received) tau placed m n new a run =
      let j : ℤ = tau +ℤ pos 0 in
      let h = stored_as laws numbered class lines sel p how (free j) (s j) slot (placed 0 (omega arith)) m n run.0 a run.1 in
      let rest = stored_run received (tau +ℤ pos 1) (placed_later sel p.id free s tau slot received placed) run.0 h.left new h.alike
      run.2 in
      record {
        sends = h.sends ∷ rest.sends;
        came = h.came ∷ rest.came;
        send_size = ap suc rest.send_size;
        size = ap suc rest.size;
        are = reread_more free s tau slot h.sends h.came received rest.sends rest.came h.is rest.are;
        left = rest.left;
        run = (h.left, h.step, rest.run);
        like = rest.like;
      }

  -- one slot of a receiver that shows late
  record LateStored (j : ℤ) (slot : List ℕ) (e new : LateMemory) : Type 0 where
    sends : List ℕ
    came : List ℕ
    is : IsReread (free j) (s j) slot sends came
    left : LateMemory
    step : RowLateStep (unstored how) class lines sel e came left
    like : LateAlike new left

  late_stored : (j : ℤ) (slot : List ℕ) → Placed sel p.id (free j) (s j) slot → (d e new : LateMemory) → LateAlike d e →
      RowLateStep how class lines sel d slot new → LateStored j slot e new
  late_stored j slot placed d e new a r = elim r.from as (λ _. LateStored j slot e new) [
    | inl kept ↦ by e.gathered (subst (λ x. Alike x e.gathered) (sym kept) a.0) (λ came number. inl refl)
    | inr other ↦ by r.base (alike_self r.base) (λ came number. inr (
      subst (λ b. (e.gathered.storing && b) ≡ true) (sym number) (subst (λ b. (b && heads_number sel (packet_of slot)) ≡ true) a.0.storing other.0),
      other.1,
    ))
  ]
    where
      by : (base : Memory) → Alike r.base base →
          ((came : List ℕ) → heads_number sel (packet_of came) ≡ heads_number sel (packet_of slot) →
          TakesIn class sel e.gathered (packet_of came) base) →
          LateStored j slot e new
      by base like from =
          let h = stored_as laws numbered class lines sel p how (free j) (s j) slot placed r.base base new.gathered like r.step in
          show h.sends h.came h.is h.left h.step h.alike h.number (from h.came h.number)
        where
          show : (sends came : List ℕ) → IsReread (free j) (s j) slot sends came → (left : Memory) →
              RowStep (unstored how) class lines sel base came left → Alike new.gathered left →
              heads_number sel (packet_of came) ≡ heads_number sel (packet_of slot) →
              TakesIn class sel e.gathered (packet_of came) base → LateStored j slot e new
          show sends came is left step same_left number takes = elim r.shown as (λ _. LateStored j slot e new) [
            | inl old ↦ record {
              sends = sends;
              came = came;
              is = is;
              left = record { gathered = left; shown = e.gathered };
              step = record { base = base; from = takes; step = step; shown = inl refl };
              like = (same_left, subst (λ x. Alike x e.gathered) (sym old) a.0);
            }
            | inr more ↦ elim more as (λ _. LateStored j slot e new) [
              | inl now ↦ record {
                sends = sends;
                came = came;
                is = is;
                left = record { gathered = left; shown = left };
                step = record { base = base; from = takes; step = step; shown = inr (inl refl) };
                like = (same_left, subst (λ x. Alike x left) (sym now) same_left);
              }
              | inr stays ↦ record {
                sends = sends;
                came = came;
                is = is;
                left = record { gathered = left; shown = e.shown };
                step = record {
                  base = base;
                  from = takes;
                  step = step;
                  shown = inr (inr (
                    refl,
                    subst (λ b. (e.gathered.storing && not left.storing && not b) ≡ false) (sym number)
                        (subst (λ b. (e.gathered.storing && not b && not (heads_number sel (packet_of slot))) ≡ false) same_left.storing
                        (subst (λ b. (b && not new.gathered.storing && not (heads_number sel (packet_of slot))) ≡ false) a.0.storing stays.1)),
                  ));
                };
                like = (same_left, subst (λ x. Alike x e.shown) (sym stays.0) a.1);
              }
            ]
          ]

  pub stored_late : (received : List (List ℕ)) (tau : ℤ) → AllPlaced sel p.id free s tau received → (d e new : LateMemory) → LateAlike d e →
      RowLateRun how class lines sel d received new →
      StoredRun free s tau received LateMemory (λ came left. RowLateRun (unstored how) class lines sel e came left) (λ left. LateAlike new left)
  stored_late [] tau placed d e new a run = record {
    sends = [];
    came = [];
    send_size = refl;
    size = refl;
    are = λ n lt. absurd (omega arith);
    left = e;
    run = refl;
    like = subst (λ x. LateAlike x e) (sym run) a;
  }
  stored_late (slot ∷ received) tau placed d e new a run =
      let h = late_stored (tau +ℤ pos 0) slot (placed 0 (omega arith)) d e run.0 a run.1 in
      let rest = stored_late received (tau +ℤ pos 1) (placed_later sel p.id free s tau slot received placed) run.0 h.left new h.like run.2 in
      record {
        sends = h.sends ∷ rest.sends;
        came = h.came ∷ rest.came;
        send_size = ap suc rest.send_size;
        size = ap suc rest.size;
        are = reread_more free s tau slot h.sends h.came received rest.sends rest.came h.is rest.are;
        left = rest.left;
        run = (h.left, h.step, rest.run);
        like = rest.like;
      }

-- the free rows

-- a packet that is not a needed row of the page under a header of the page that came since
abbrev pub is_nothing : Page → Bool → Packet → Bool
is_nothing p under (Row mag number text) = not (under && ((mag == p.id.mag) && needed p (TheRow number)))
is_nothing p under _ = true

abbrev pub free_rows : Page → Stream → ℤ → ℤ → Bool
free_rows p s tau j = is_nothing p (is_under_since p.id s tau j) (packet_of (s j))

-- a row that is not free is a transmission of a row that the page needs
pub record IsNeededRow (p : Page) (s : Stream) (number : ℕ) (j : ℤ) : Type 0 where
  pub needs : needed p (TheRow number) ≡ true
  pub sent : IsTransmission s p.id (TheRow number) j

pub needed_row : (p : Page) (s : Stream) (tau j : ℤ) (mag number : ℕ) → kind_of (s j) ≡ IsRow mag number → free_rows p s tau j ≡ false →
    IsNeededRow p s number j
needed_row p s tau j mag number kind none =
    let packet = packet_at (s j) (IsRow mag number) kind in
    let all : (is_under_since p.id s tau j && ((mag == p.id.mag) && needed p (TheRow number))) ≡ true =
    from_not _ (ap (is_nothing p (is_under_since p.id s tau j)) (sym packet) ∙ none) in
    let parts = and_parts _ _ all in
    let row = and_parts _ _ parts.1 in
    let o = since_found p.id s tau j parts.0 in
    record {
      needs = row.1;
      sent = record {
        owner = o.slot;
        owned = (
          o.latest,
          o.is_page,
          ap (carries p.id.mag (TheRow number)) packet ∙ and_from _ _ row.0 (same_number number),
        );
      };
    }
  where
    from_not : (b : Bool) → not b ≡ false → b ≡ true
    from_not true h = refl
    from_not false h = absurd (both_ways true h refl)

    same_number : (number : ℕ) → (number == number) ≡ true
    same_number number = eq-eqb number number refl

-- what the page owns is not free
owned_is_needed : (p : Page) (s : Stream) (begin : ℤ) (item : Item) → IsChecked p item → (h j : ℤ) → begin ≤ℤ h → IsOwned s p.id item h j →
    (mag number : ℕ) (t : List ℕ) → packet_of (s j) ≡ Row mag number t → free_rows p s begin j ≡ true → ⊥
owned_is_needed p s begin TheHead checked h j low owned mag number t packet free = both_ways _ (ap (heads_page p.id) packet) owned.1
owned_is_needed p s begin TheLinks checked h j low owned mag number t packet free = both_ways _ (ap (carries p.id.mag TheLinks) packet) owned.2
owned_is_needed p s begin (TheRow r) checked h j low owned mag number t packet free =
    let parts = and_parts (mag == p.id.mag) _ (sym (ap (carries p.id.mag (TheRow r)) packet) ∙ owned.2) in
    let under = since_known p.id s begin j (record { slot = h; not_before = low; latest = owned.0; is_page = owned.1 }) in
    let same_number : number ≡ r = eqb-true number r parts.1 in
    let need : needed p (TheRow number) ≡ true = subst (λ k. needed p (TheRow k) ≡ true) (sym same_number) checked in
    both_ways _ (not-true _ (ap (is_nothing p (is_under_since p.id s begin j)) (sym packet) ∙ free)) (and_from _ _ under (and_from _ _ parts.0 need))

-- the stream

abbrev sends_at : List ℕ → List (List ℕ) → ℤ → List ℕ
sends_at sent sends (pos n) = get_or sends n sent
sends_at sent sends (negsuc n) = sent

abbrev pub sends_stream : Stream → ℤ → List (List ℕ) → Stream
sends_stream s tau sends j = sends_at (s j) sends (j -ℤ tau)

in_list : (xs : List (List ℕ)) (n : ℕ) (d e : List ℕ) → n < length xs → get_or xs n d ≡ get_or xs n e
in_list [] n d e lt = absurd (omega arith)
in_list (x ∷ xs) zero d e lt = refl
in_list (x ∷ xs) (suc n) d e lt = in_list xs n d e (omega arith)

past_list : (xs : List (List ℕ)) (n : ℕ) (d : List ℕ) → length xs ≤ n → get_or xs n d ≡ d
past_list [] n d le = refl
past_list (x ∷ xs) zero d le = absurd (omega arith)
past_list (x ∷ xs) (suc n) d le = past_list xs n d (omega arith)

module _ (p : Page) (s : Stream) (tau : ℤ) (received sends came : List (List ℕ)) (send_size : length sends ≡ length received)
    (size : length came ≡ length received) (are : AreReread (free_rows p s tau) s tau received sends came) where
  abbrev pub new_stream : Stream
  new_stream = sends_stream s tau sends

  -- a free row with another text
  pub record Differs (j : ℤ) : Type 0 where
    pub free : free_rows p s tau j ≡ true
    pub row : IsRetexted (s j) (new_stream j)
    pub slot : IsSlot (new_stream j)
    pub clean : is_clean (new_stream j) ≡ true

  at_place : (n : ℕ) → n < length sends → new_stream (tau +ℤ pos n) ≡ get_or sends n []
  at_place n lt =
      let e : (tau +ℤ pos n) -ℤ tau ≡ pos n = omega (arith, ints) in
      ap (sends_at (s (tau +ℤ pos n)) sends) e ∙ in_list sends n (s (tau +ℤ pos n)) [] lt

  torn_differs : (n : ℕ) → n < length sends → IsTorn (free_rows p s tau (tau +ℤ pos n)) (s (tau +ℤ pos n)) (get_or received n []) (get_or sends n [])
      (get_or came n []) → Differs (tau +ℤ pos n)
  torn_differs n lt torn =
      let e = sym (at_place n lt) in
      record {
        free = torn.free_row;
        row = subst (IsRetexted (s (tau +ℤ pos n))) e torn.row;
        slot = subst IsSlot e torn.slot;
        clean = subst (λ slot. is_clean slot ≡ true) e torn.clean;
      }

  pub may_differ : (j : ℤ) → (new_stream j ≡ s j) ⊎ Differs j
  may_differ j = go (j -ℤ tau) refl
    where
      go : (d : ℤ) → j -ℤ tau ≡ d → (new_stream j ≡ s j) ⊎ Differs j
      go (negsuc n) e = inl (ap (sends_at (s j) sends) e)
      go (pos n) e = elim (cases_lt n (length sends)) as (λ _. (new_stream j ≡ s j) ⊎ Differs j) [
        | inr past ↦ inl (ap (sends_at (s j) sends) e ∙ past_list sends n (s j) past)
        | inl lt ↦
            let at : tau +ℤ pos n ≡ j = omega (arith, ints) in
            subst (λ i. (new_stream i ≡ s i) ⊎ Differs i) at (elim (are n (omega (arith, send_size))) as
            (λ _. (new_stream (tau +ℤ pos n) ≡ s (tau +ℤ pos n)) ⊎ Differs (tau +ℤ pos n)) [
              | inl kept ↦ inl (at_place n lt ∙ kept.0)
              | inr torn ↦ inr (torn_differs n lt torn)
            ])
      ]

  pub differs_row : (j : ℤ) → Differs j → IsRetexted (s j) (new_stream j)
  differs_row j d = d.row

  pub differs_free : (item : Item) → IsChecked p item → (h j : ℤ) → tau ≤ℤ h → IsOwned s p.id item h j → Differs j → ⊥
  differs_free item checked h j low owned d =
      owned_is_needed p s tau item checked h j low owned d.row.mag d.row.number d.row.t d.row.was d.free

  pub new_good : ((j : ℤ) → tau ≤ℤ j → IsSlot (s j) × (is_clean (s j) ≡ true)) → (j : ℤ) → tau ≤ℤ j →
      IsSlot (new_stream j) × (is_clean (new_stream j) ≡ true)
  new_good good j low = elim (may_differ j) as (λ _. IsSlot (new_stream j) × (is_clean (new_stream j) ≡ true)) [
    | inl e ↦ subst (λ slot. IsSlot slot × (is_clean slot ≡ true)) (sym e) (good j low)
    | inr d ↦ (d.slot, d.clean)
  ]

  -- what came at a place
  pub came_as : (n : ℕ) → n < length received → ((new_stream (tau +ℤ pos n) ≡ s (tau +ℤ pos n)) × (get_or came n [] ≡ get_or received n []))
      ⊎ ((get_or came n [] ≡ new_stream (tau +ℤ pos n)) × (may_refuse (packet_of (get_or received n [])) ≡ true) × Differs (tau +ℤ pos n))
  came_as n lt =
      let here : n < length sends = omega (arith, send_size) in
      elim (are n lt) as (λ _. ((new_stream (tau +ℤ pos n) ≡ s (tau +ℤ pos n)) × (get_or came n [] ≡ get_or received n []))
      ⊎ ((get_or came n [] ≡ new_stream (tau +ℤ pos n)) × (may_refuse (packet_of (get_or received n [])) ≡ true) × Differs (tau +ℤ pos n))) [
        | inl kept ↦ inl (at_place n here ∙ kept.0, kept.1)
        | inr torn ↦ inr (torn.as_sent ∙ sym (at_place n here), torn.refusable, torn_differs n here torn)
      ]

  -- the rule

  module _ (laws : LawsBelow) (tests : HaveSameTests s new_stream) (how : Manner) (repeat : ℕ)
      (rule : ReceivedByRows how s p repeat tau received) where
    came_arrives : (n : ℕ) → n < length came → MayArriveAs p.id.mag (new_stream (tau +ℤ pos n)) (get_or came n [])
    came_arrives n lt =
        let inside : n < length received = omega (arith, size) in
        elim (came_as n inside) as (λ _. MayArriveAs p.id.mag (new_stream (tau +ℤ pos n)) (get_or came n [])) [
          | inl kept ↦ subst (λ sent. MayArriveAs p.id.mag sent (get_or came n [])) (sym kept.0)
              (subst (MayArriveAs p.id.mag (s (tau +ℤ pos n))) (sym kept.1) (rule.each n inside))
          | inr torn ↦ inl (subst (MayBeReceivedAs (new_stream (tau +ℤ pos n))) (sym torn.0) (laws.as_sent _ torn.2.slot))
        ]

    here : (j : ℤ) (index : ℕ) → j ≡ tau +ℤ pos index → (tau ≤ℤ j) × (j <ℤ (tau +ℤ pos (length received))) → index < length received
    here j index place among = let a = among.1 in omega (arith, ints)

    came_whole : (j : ℤ) → (tau ≤ℤ j) × (j <ℤ (tau +ℤ pos (length received))) → ArrivesWhole s tau received j → ArrivesWhole new_stream tau came j
    came_whole j among w = record {
      index = w.index;
      place = w.place;
      whole = subst (λ i. IsWhole (new_stream i) (get_or came w.index [])) (sym w.place)
          (elim (came_as w.index (here j w.index w.place among)) as (λ _. IsWhole (new_stream (tau +ℤ pos w.index)) (get_or came w.index [])) [
            | inl kept ↦ subst (λ sent. IsWhole sent (get_or came w.index [])) (sym kept.0)
                (subst (IsWhole (s (tau +ℤ pos w.index))) (sym kept.1)
                (subst (λ i. IsWhole (s i) (get_or received w.index [])) w.place w.whole))
            | inr torn ↦ absurd (whole_is_taken (s j) (get_or received w.index []) w.whole torn.1)
          ]);
    }

    came_right : (x : ℕ) (j : ℤ) → (tau ≤ℤ j) × (j <ℤ (tau +ℤ pos (length received))) → ArrivesRight s tau received x j →
        ArrivesRight new_stream tau came x j
    came_right x j among w =
        let both : MayBeReceivedAs (new_stream j) (get_or came w.index []) × (get_or (get_or came w.index []) x 0 ≡ get_or (new_stream j) x 0) =
        subst (λ i. MayBeReceivedAs (new_stream i) (get_or came w.index []) × (get_or (get_or came w.index []) x 0 ≡ get_or (new_stream i) x 0))
        (sym w.place) (by (subst (λ i. MayBeReceivedAs (s i) (get_or received w.index [])) w.place w.may)
        (w.right ∙ ap (λ i. get_or (s i) x 0) w.place)) in
        record { index = w.index; place = w.place; may = both.0; right = both.1 }
      where
        by : MayBeReceivedAs (s (tau +ℤ pos w.index)) (get_or received w.index []) →
            get_or (get_or received w.index []) x 0 ≡ get_or (s (tau +ℤ pos w.index)) x 0 →
            MayBeReceivedAs (new_stream (tau +ℤ pos w.index)) (get_or came w.index [])
            × (get_or (get_or came w.index []) x 0 ≡ get_or (new_stream (tau +ℤ pos w.index)) x 0)
        by may right = elim (came_as w.index (here j w.index w.place among)) as
            (λ _. MayBeReceivedAs (new_stream (tau +ℤ pos w.index)) (get_or came w.index [])
            × (get_or (get_or came w.index []) x 0 ≡ get_or (new_stream (tau +ℤ pos w.index)) x 0)) [
              | inl kept ↦ subst (λ sent. MayBeReceivedAs sent (get_or came w.index []) × (get_or (get_or came w.index []) x 0 ≡ get_or sent x 0))
                  (sym kept.0) (subst (λ got. MayBeReceivedAs (s (tau +ℤ pos w.index)) got × (get_or got x 0 ≡ get_or (s (tau +ℤ pos w.index)) x 0))
                  (sym kept.1) (may, right))
              | inr torn ↦ (
                subst (MayBeReceivedAs (new_stream (tau +ℤ pos w.index))) (sym torn.0) (laws.as_sent _ torn.2.slot),
                ap (λ slot. get_or slot x 0) torn.0,
              )
            ]

    was_among : (slots : List ℤ) → AreAmong tau (length came) slots → AreAmong tau (length received) slots
    was_among slots among = subst (λ n. AreAmong tau n slots) size among

    was_sent : (item : Item) (slots : List ℤ) → AreSuccessive new_stream p.id item slots → AreSuccessive s p.id item slots
    was_sent item slots run = moved_successive new_stream s (tests_back s new_stream tests) p.id item slots run

    came_rows : (b : Bool) → RowsArrive b s p repeat tau received → RowsArrive b new_stream p repeat tau came
    came_rows true rows = λ r need slots count run among.
        let was = was_sent (TheRow r) slots run in
        one_map (ArrivesWhole s tau received) (ArrivesWhole new_stream tau came) (λ j. (tau ≤ℤ j) × (j <ℤ (tau +ℤ pos (length received))))
        (IsTransmission s p.id (TheRow r)) (λ j a sent w. came_whole j a w) slots (was_among slots among) (all_sent s p.id (TheRow r) slots was)
        (rows r need slots count was (was_among slots among))
    came_rows false rows = λ r need x text slots count run among.
        let was = was_sent (TheRow r) slots run in
        one_map (ArrivesRight s tau received x) (ArrivesRight new_stream tau came x) (λ j. (tau ≤ℤ j) × (j <ℤ (tau +ℤ pos (length received))))
        (IsTransmission s p.id (TheRow r)) (λ j a sent w. came_right x j a w) slots (was_among slots among) (all_sent s p.id (TheRow r) slots was)
        (rows r need x text slots count was (was_among slots among))

    pub came_rule : ReceivedByRows (unstored how) new_stream p repeat tau came
    came_rule = record { each = came_arrives; rows = came_rows how.refuses rule.rows; untorn = tt }
