-- What one slot sends of the items of pages.
use Rattle.std.proofs.Common.{◌≡◌, ℕ, ◌-◌, ◌≤◌, ℤ, Bool, true, false, ◌&&◌, ◌==◌, if◌then◌else◌, Bor, List, [], ◌∷◌, ◌++◌, get_or, slice_get, Option}
use Rattle.std.proofs.Common.{Some, None, refl, sym, ap, ◌∙◌, subst, inl, inr, arith, eqb-true, eq-eqb}
use Rattle.std.proofs.lemmas.Bool.{cases_Bool, cond_both, both_ways, cond-true, cond-false}
use Rattle.std.proofs.lemmas.List.{append-nil}
use Rattle.ttx_packet.specs.Slots.{Kind, IsEmpty, IsUnreadable, IsHeader, IsRow, IsLinks, IsInfo, IsOther, kind_of}
use Rattle.ttx_packet.specs.Lent.{ShowsAs}
use Rattle.ttx_packet.specs.declared.place.Address.{Address}
use Rattle.ttx_packet.specs.declared.slots.Slot.{Slot}
use Rattle.ttx_packet.specs.declared.slots.Slot.TheVariants.{Empty as SEmpty, Unreadable as SUnreadable, Header as SHeader, Row as SRow}
use Rattle.ttx_packet.specs.declared.slots.Slot.TheVariants.{Links as SLinks, Info as SInfo, Other as SOther}
use Rattle.ttx_header.specs.Headers.{id_of}
use Rattle.ttx_header.specs.Ids.{Id, same_id}
use Rattle.ttx_links.specs.Sets.{LinkSet}
use Rattle.ttx_page.specs.Packets.{Row, Links, packet_of, packet_of_kind}
use Rattle.ttx_page.specs.declared.item.Item.{Item}
use Rattle.ttx_page.specs.declared.item.Item.TheVariants.{Head as TheHead, Row as TheRow, Links as TheLinks}
use Rattle.ttx_witness.specs.runs.Transmissions.{Transmission}
use Rattle.ttx_witness.specs.sent.ItemTransmissions.{PageOwner, sent_under, sent_at}
use Rattle.ttx_witness.specs.sent.Collected.{is_page, seen_by, Finds, owner_for, IsForeign, AreApart, IsItem, item_number}
use Rattle.ttx_witness.specs.declared.sent.owners.Owner.{Owner}
use Rattle.ttx_witness.proofs.lemmas.sent.OwnersAfterSlot.{packet_is, IsNoHeader}

not_equal : (a b : ℕ) → (a ≡ b → ⊥) → (a == b) ≡ false
not_equal a b d = elim (cases_Bool (a == b)) as (λ _. (a == b) ≡ false) [ inl e ↦ absurd (d (eqb-true a b e)) | inr e ↦ e ]

foreign : (lines i : ℕ) (j : ℤ) (o : Option Owner) → IsForeign i o → sent_under lines j (seen_by i o) ≡ []
foreign lines i j None f = refl
foreign lines i j (Some o) f = cond-false (is_page i o.page) _ _ f

module _ (ids : List Id) (lines : ℕ) (j : ℤ) (owners : List (Option Owner)) (apart : AreApart ids owners) (mag : ℕ) (from : 1 ≤ mag)
    (to : mag ≤ 8) (i : ℕ) (id : Id) (at : slice_get ids i ≡ Some id) where
  -- under the owner of its magazine
  under : sent_under lines j (seen_by i (get_or owners (mag - 1) None)) ≡ (if mag == id.mag then sent_under lines j (owner_for owners i id) else [])
  under = cond_both (mag == id.mag) _ _ (λ x. sent_under lines j (seen_by i (get_or owners (mag - 1) None)) ≡ x)
      (λ e. ap (λ m. sent_under lines j (seen_by i (get_or owners (m - 1) None))) (eqb-true mag id.mag e))
      (λ e. foreign lines i j (get_or owners (mag - 1) None)
      (apart (mag - 1) i id (omega arith) at
      (λ q. both_ways _ e (eq-eqb mag id.mag (let k : mag ≡ id.mag = omega arith in k)))))

  row_sent : (number : ℕ) (text : List ℕ) → 1 ≤ number → number ≤ 24 → (item : Item) → IsItem item →
      (if item_number item == number then sent_under lines j (seen_by i (get_or owners (mag - 1) None)) else [])
      ≡ sent_at id lines item j (Row mag number text) (owner_for owners i id)
  row_sent number text low high TheHead is = cond-false (0 == number) _ _ (not_equal 0 number (λ e. omega arith))
  row_sent number text low high TheLinks is = cond-false (25 == number) _ _ (not_equal 25 number (λ e. omega arith))
  row_sent number text low high (TheRow r) is = elim (cases_Bool (r == number)) as
      (λ _. (if r == number then sent_under lines j (seen_by i (get_or owners (mag - 1) None)) else [])
      ≡ sent_at id lines (TheRow r) j (Row mag number text) (owner_for owners i id)) [
        | inl e ↦ cond-true (r == number) _ _ e ∙ under
            ∙ both (mag == id.mag) (number == r) (sent_under lines j (owner_for owners i id))
            (eq-eqb number r (sym (eqb-true r number e)))
        | inr e ↦ cond-false (r == number) _ _ e ∙ sym
            (none (mag == id.mag) (number == r) (sent_under lines j (owner_for owners i id))
            (not_equal number r (λ q. both_ways _ e (eq-eqb r number (sym q)))))
      ]
    where
      both : (a b : Bool) (x : List Transmission) → b ≡ true → (if a then x else []) ≡ (if a && b then x else [])
      both true true x e = refl
      both true false x e = cc
      both false b x e = refl

      none : (a b : Bool) (x : List Transmission) → b ≡ false → (if a && b then x else []) ≡ []
      none true true x e = cc
      none true false x e = refl
      none false b x e = refl

  links_sent : (content : Option LinkSet) (item : Item) → IsItem item →
      (if item_number item == 25 then sent_under lines j (seen_by i (get_or owners (mag - 1) None)) else [])
      ≡ sent_at id lines item j (Links mag content) (owner_for owners i id)
  links_sent content TheHead is = refl
  links_sent content TheLinks is = under
  links_sent content (TheRow r) is = cond-false (r == 25) _ _ (not_equal r 25 (λ e. let h = is.1 in omega arith))

  pub row_slot_sent : (slot : List ℕ) (number : ℕ) → (1 ≤ number) × (number ≤ 24) → kind_of slot ≡ IsRow mag number →
      (m n : ℕ) (k : ℤ) → m ≡ mag → n ≡ number → k ≡ j → (item : Item) → IsItem item →
      (if item_number item == n then sent_under lines k (seen_by i (get_or owners (m - 1) None)) else [])
      ≡ sent_at id lines item j (packet_of slot) (owner_for owners i id)
  row_slot_sent slot number h kind m n k em en ek item is =
      ap (λ x. if item_number item == x then sent_under lines k (seen_by i (get_or owners (m - 1) None)) else []) en
      ∙ ap (λ x. if item_number item == number then sent_under lines x (seen_by i (get_or owners (m - 1) None)) else []) ek
      ∙ ap (λ x. if item_number item == number then sent_under lines j (seen_by i (get_or owners (x - 1) None)) else []) em
      ∙ row_sent number _ h.0 h.1 item is ∙ ap (λ p. sent_at id lines item j p (owner_for owners i id)) (sym (packet_is slot (IsRow mag number) kind))

  pub links_slot_sent : (slot : List ℕ) → kind_of slot ≡ IsLinks mag → (m : ℕ) (k : ℤ) → m ≡ mag → k ≡ j → (item : Item) → IsItem item →
      (if item_number item == 25 then sent_under lines k (seen_by i (get_or owners (m - 1) None)) else [])
      ≡ sent_at id lines item j (packet_of slot) (owner_for owners i id)
  links_slot_sent slot kind m k em ek item is =
      ap (λ x. if item_number item == 25 then sent_under lines x (seen_by i (get_or owners (m - 1) None)) else []) ek
      ∙ ap (λ x. if item_number item == 25 then sent_under lines j (seen_by i (get_or owners (x - 1) None)) else []) em
      ∙ links_sent _ item is ∙ ap (λ p. sent_at id lines item j p (owner_for owners i id)) (sym (packet_is slot (IsLinks mag) kind))

-- a header
pub head_slot_sent : (ids : List Id) (lines : ℕ) (j : ℤ) (o : Option PageOwner) (slot : List ℕ) (mag : ℕ) (hid : Id) (page : Option ℕ) →
    kind_of slot ≡ IsHeader mag → hid ≡ id_of slot → Finds ids hid page → (z : ℤ) → z ≡ j →
    (i : ℕ) (id : Id) → slice_get ids i ≡ Some id → (item : Item) → IsItem item →
    (if (item_number item == 0) && is_page i page then record { slot = z; owner = z; sure = true } ∷ [] else [])
    ≡ sent_at id lines item j (packet_of slot) o
head_slot_sent ids lines j o slot mag hid page k same finds z ez i id at item is =
    ap (λ x. if (item_number item == 0) && is_page i page then record { slot = x; owner = x; sure = true } ∷ [] else []) ez ∙ go item is
    ∙ ap (λ p. sent_at id lines item j p o) (sym (packet_is slot (IsHeader mag) k))
  where
    go : (item : Item) → IsItem item →
        (if (item_number item == 0) && is_page i page then record { slot = j; owner = j; sure = true } ∷ [] else [])
        ≡ sent_at id lines item j (packet_of_kind slot (IsHeader mag)) o
    go TheHead is = ap (λ b. if b then record { slot = j; owner = j; sure = true } ∷ [] else []) (finds i id at ∙ ap (same_id id) same)
    go (TheRow r) is = cond-false ((r == 0) && is_page i page) _ _ (first (not_equal r 0 (λ e. let h = is.0 in omega arith)))
      where
        first : (r == 0) ≡ false → ((r == 0) && is_page i page) ≡ false
        first e = ap (λ b. b && is_page i page) e
    go TheLinks is = refl

-- any other slot sends nothing
abbrev pub IsSilent : Kind → Type 0
IsSilent (IsHeader mag) = ⊥
IsSilent (IsRow mag number) = ⊥
IsSilent (IsLinks mag) = ⊥
IsSilent IsEmpty = Unit {0}
IsSilent IsUnreadable = Unit {0}
IsSilent IsInfo = Unit {0}
IsSilent (IsOther mag number) = Unit {0}

pub silent : (slot : List ℕ) (k : Kind) → kind_of slot ≡ k → IsSilent k →
    (ts : List Transmission) (id : Id) (lines : ℕ) (item : Item) (j : ℤ) (o : Option PageOwner) →
    ts ≡ ts ++ sent_at id lines item j (packet_of slot) o
silent slot k e s ts id lines item j o = sym (append-nil ts)
    ∙ ap (λ x. ts ++ x) (sym (go k s item) ∙ ap (λ p. sent_at id lines item j p o) (sym (packet_is slot k e)))
  where
    go : (k : Kind) → IsSilent k → (item : Item) → sent_at id lines item j (packet_of_kind slot k) o ≡ []
    go (IsHeader mag) s item = absurd s
    go (IsRow mag number) s item = absurd s
    go (IsLinks mag) s item = absurd s
    go IsEmpty s TheHead = refl
    go IsEmpty s (TheRow r) = refl
    go IsEmpty s TheLinks = refl
    go IsUnreadable s TheHead = refl
    go IsUnreadable s (TheRow r) = refl
    go IsUnreadable s TheLinks = refl
    go IsInfo s TheHead = refl
    go IsInfo s (TheRow r) = refl
    go IsInfo s TheLinks = refl
    go (IsOther mag number) s TheHead = refl
    go (IsOther mag number) s (TheRow r) = refl
    go (IsOther mag number) s TheLinks = refl

pub quiet : (s : Slot) (k : Kind) (bytes : List ℕ) → ShowsAs s k bytes → ((at : Address) (b : Bor (List ℕ)) → s ≡ SHeader at b → ⊥) →
    ((at : Address) (b : Bor (List ℕ)) → s ≡ SRow at b → ⊥) →
    ((at : Address) (b : Bor (List ℕ)) → s ≡ SLinks at b → ⊥) → IsSilent k
quiet SEmpty k bytes e h r l = subst IsSilent (sym e) tt
quiet SUnreadable k bytes e h r l = subst IsSilent (sym e) tt
quiet (SHeader at b) k bytes e h r l = absurd (h at b refl)
quiet (SRow at b) k bytes e h r l = absurd (r at b refl)
quiet (SLinks at b) k bytes e h r l = absurd (l at b refl)
quiet (SInfo at b) k bytes e h r l = subst IsSilent (sym e.0) tt
quiet (SOther at) k bytes e h r l = subst IsSilent (sym e) tt

-- a slot without a page header is not read as one
pub headless : (s : Slot) (k : Kind) (bytes : List ℕ) → ShowsAs s k bytes → IsNoHeader k → (at : Address) (b : Bor (List ℕ)) → s ≡ SHeader at b → ⊥
headless s k bytes e none at b is = subst IsNoHeader (subst (λ x. ShowsAs x k bytes) is e).0 none
