-- A list of slots that grows by one: what is known of its first slots stays the same.
use Rattle.std.proofs.Common.{◌≡◌, ◌↔◌, ℕ, zero, suc, ◌+◌, ◌<◌, ◌≤◌, ℤ, pos, Bool, true, false, List, [], ◌∷◌, ◌++◌, length, get_or, slice_index_or}
use Rattle.std.proofs.Common.{Option, Some, None, refl, sym, ap, ◌∙◌, subst, inl, inr, arith, mod-eq_of_lt, length-append}
use Rattle.std.proofs.lemmas.Bool.{cases_lt}
use Rattle.std.specs.List.{All}
use Rattle.ttx_header.specs.Ids.{Id}
use Rattle.ttx_page.specs.Packets.{packet_of}
use Rattle.ttx_page.specs.declared.item.Item.{Item}
use Rattle.ttx_page.specs.Streams.{Stream, repeated}
use Rattle.ttx_witness.specs.declared.runs.transmissions.Transmission.{Transmission}
use Rattle.ttx_witness.specs.sent.ItemTransmissions.{PageOwner, owner_after, owner_scan, sent_at, sent_scan}
use Rattle.ttx_witness.specs.faults.OtherSubpages.{TellsBelow, first_of, heads_other, HeadsOtherAt}
use Rattle.ttx_witness.specs.declared.faults.subcodes.Subcodes.{Subcodes}
use Rattle.ttx_witness.proofs.FirstFaults.{first_more}
use Rattle.ttx_certify.specs.walks.PageFacts.{FirstBelow}

abbrev pub SameBelow : Stream → Stream → ℕ → Type 0
SameBelow s t n = (j : ℕ) → j < n → s (pos j) ≡ t (pos j)

pub scan_same : (id : Id) (s t : Stream) (entry : Option PageOwner) (n : ℕ) → SameBelow s t n → owner_scan id s entry n ≡ owner_scan id t entry n
unfolding owner_scan
scan_same id s t entry zero same = refl
scan_same id s t entry (suc n) same =
    ap (λ x. owner_after id (pos n) (packet_of x) (owner_scan id s entry n)) (same n (omega arith))
    ∙ ap (owner_after id (pos n) (packet_of (t (pos n)))) (scan_same id s t entry n (λ j lt. same j (omega arith)))

pub sent_same : (id : Id) (lines : ℕ) (item : Item) (s t : Stream) (entry : Option PageOwner) (n : ℕ) → SameBelow s t n →
    sent_scan id lines item s entry n ≡ sent_scan id lines item t entry n
unfolding sent_scan
sent_same id lines item s t entry zero same = refl
sent_same id lines item s t entry (suc n) same =
    ap (λ x. sent_scan id lines item s entry n ++ sent_at id lines item (pos n) (packet_of x) (owner_scan id s entry n)) (same n (omega arith))
    ∙ ap (λ o. sent_scan id lines item s entry n ++ sent_at id lines item (pos n) (packet_of (t (pos n))) o)
    (scan_same id s t entry n (λ j lt. same j (omega arith)))
    ∙ ap (λ ts. ts ++ sent_at id lines item (pos n) (packet_of (t (pos n))) (owner_scan id t entry n))
    (sent_same id lines item s t entry n (λ j lt. same j (omega arith)))

get_before : (y : List (List ℕ)) (z d : List ℕ) (j : ℕ) → j < length y → get_or (y ++ z ∷ []) j d ≡ get_or y j d
get_before [] z d j lt = absurd (omega arith)
get_before (x ∷ y) z d zero lt = refl
get_before (x ∷ y) z d (suc j) lt = get_before y z d j (omega arith)

get_last : (y : List (List ℕ)) (z d : List ℕ) → get_or (y ++ z ∷ []) (length y) d ≡ z
get_last [] z d = refl
get_last (x ∷ y) z d = get_last y z d

module _ (y : List (List ℕ)) (z : List ℕ) where
  abbrev more : List (List ℕ)
  more = y ++ z ∷ []

  pub one_longer : length more ≡ suc (length y)
  one_longer = let l = length-append y (z ∷ []) in omega arith

  pub index_before : (j : ℕ) → j < length y → slice_index_or more j [] ≡ slice_index_or y j []
  index_before j lt = get_before y z [] j lt

  pub index_last : slice_index_or more (length y) [] ≡ z
  index_last = get_last y z []

  -- the streams agree before the end
  pub same_before : SameBelow (repeated more) (repeated y) (length y)
  same_before j lt =
      let l = one_longer in
      let in_more : j < length more = omega arith in
      ap (λ n. slice_index_or more n []) (mod-eq_of_lt in_more) ∙ get_before y z [] j lt ∙ ap (λ n. slice_index_or y n []) (sym (mod-eq_of_lt lt))

  -- the new slot is at the end
  pub here : repeated more (pos (length y)) ≡ z
  here = let l = one_longer in let in_more : length y < length more = omega arith
      in ap (λ n. slice_index_or more n []) (mod-eq_of_lt in_more) ∙ get_last y z []

  pub owner_before : (id : Id) (entry : Option PageOwner) (j : ℕ) → j ≤ length y → owner_scan id (repeated more) entry j
      ≡ owner_scan id (repeated y) entry j
  owner_before id entry j le = scan_same id (repeated more) (repeated y) entry j (λ i lt. same_before i (omega arith))

  -- the owner after the new slot
  pub owner_grown : (id : Id) (entry old new : Option PageOwner) (k : ℤ) → k ≡ pos (length y) → old
      ≡ owner_scan id (repeated y) entry (length y) → new ≡ owner_after id k (packet_of z) old →
      new ≡ owner_scan id (repeated more) entry (length more)
  unfolding owner_scan
  owner_grown id entry old new k e h g =
      g ∙ ap (λ i. owner_after id i (packet_of z) old) e
      ∙ ap (owner_after id (pos (length y)) (packet_of z)) (h ∙ sym (owner_before id entry (length y) (omega arith)))
      ∙ ap (λ x. owner_after id (pos (length y)) (packet_of x) (owner_scan id (repeated more) entry (length y))) (sym here)
      ∙ ap (owner_scan id (repeated more) entry) (sym one_longer)

  -- the transmissions after it
  pub sent_grown : (id : Id) (lines : ℕ) (item : Item) (entry old : Option PageOwner) (us : List Transmission) (k : ℤ) → k
      ≡ pos (length y) → old ≡ owner_scan id (repeated y) entry (length y) →
      us ≡ sent_at id lines item k (packet_of z) old → sent_scan id lines item (repeated y) entry (length y) ++ us
      ≡ sent_scan id lines item (repeated more) entry (length more)
  unfolding sent_scan
  sent_grown id lines item entry old us k e h g =
      ap (λ ts. sent_scan id lines item (repeated y) entry (length y) ++ ts) (g ∙ ap (λ i. sent_at id lines item i (packet_of z) old) e
      ∙ ap (sent_at id lines item (pos (length y)) (packet_of z)) (h ∙ sym (owner_before id entry (length y) (omega arith)))
      ∙ ap (λ x. sent_at id lines item (pos (length y)) (packet_of x) (owner_scan id (repeated more) entry (length y))) (sym here))
      ∙ ap (λ ts. ts ++ sent_at id lines item (pos (length y)) (packet_of (repeated more (pos (length y))))
      (owner_scan id (repeated more) entry (length y)))
      (sym (sent_same id lines item (repeated more) (repeated y) entry (length y) same_before))
      ∙ ap (sent_scan id lines item (repeated more) entry) (sym one_longer)

-- the first slot below n
pub below_same : (P Q : ℕ → Type 0) (n : ℕ) → ((j : ℕ) → j < n → P j ↔ Q j) → (o : Option ℕ) → FirstBelow P n o → FirstBelow Q n o
below_same P Q n same None f = λ j lt q. f j lt ((same j lt).1 q)
below_same P Q n same (Some i) f = (f.0, (same i f.0).0 f.1, (λ j lt q. let l = f.0 in f.2 j lt ((same j (omega arith)).1 q)))

pub below_more : (P : ℕ → Type 0) (n : ℕ) (is : Bool) → ((is ≡ true) ↔ P n) → (o : Option ℕ) → FirstBelow P n o →
    FirstBelow P (suc n) (first_of o is n)
below_more P n true e None f = (omega arith, e.0 refl, f)
below_more P n false e None f = λ j lt q. elim (cases_lt j n) as (λ _. ⊥)
    [ inl less ↦ f j less q | inr ge ↦ let s : j ≡ n = omega arith in let h : false ≡ true = e.1 (subst P s q) in cc ]
below_more P n is e (Some i) f = (let l = f.0 in omega arith, f.1, f.2)

pub tells_same : (P Q : ℤ → Type 0) (n : ℕ) → ((j : ℕ) → j < n → P (pos j) ↔ Q (pos j)) → (o : Option ℕ) → TellsBelow P n o → TellsBelow Q n o
tells_same P Q n same None f = λ j lt q. f j lt ((same j lt).1 q)
tells_same P Q n same (Some i) f = (f.0, (same i f.0).0 f.1, (λ j lt q. let l = f.0 in f.2 j lt ((same j (omega arith)).1 q)))

-- headers of other subpages
pub others_more : (table : List Subcodes) (mag number : ℕ) (y : List (List ℕ)) (z : List ℕ) (old new : Option ℕ) (j : ℕ) → j
    ≡ length y → new ≡ first_of old (heads_other table mag number (packet_of z)) j →
    TellsBelow (HeadsOtherAt table (repeated y) mag number) (length y) old →
    TellsBelow (HeadsOtherAt table (repeated (y ++ z ∷ [])) mag number) (length (y ++ z ∷ [])) new
others_more table mag number y z old new j e n t =
    let P : ℤ → Type 0 = HeadsOtherAt table (repeated (y ++ z ∷ [])) mag number in
    let at = ap (λ x. heads_other table mag number (packet_of x)) (here y z) in
    let l : length y + 1 ≡ length (y ++ z ∷ []) = (let k = one_longer y z in omega arith) in
    subst (λ m. TellsBelow P m new) l
    (subst (TellsBelow P (length y + 1)) (sym (n ∙ ap (first_of old (heads_other table mag number (packet_of z))) e))
    (first_more P (length y) (heads_other table mag number (packet_of z)) ((λ h. at ∙ h), (λ h. sym at ∙ h)) old
    (tells_same (HeadsOtherAt table (repeated y) mag number) P (length y)
    (λ i lt. let s = ap (λ x. heads_other table mag number (packet_of x)) (same_before y z i lt) in ((λ h. s ∙ h), (λ h. sym s ∙ h))) old t)))

pub all_more : (P : List ℕ → Type 0) (y : List (List ℕ)) (z : List ℕ) → All P y → P z → All P (y ++ z ∷ [])
all_more P [] z a p zero d lt = p
all_more P [] z a p (suc k) d lt = absurd (omega arith)
all_more P (x ∷ y) z a p zero d lt = a zero d (omega arith)
all_more P (x ∷ y) z a p (suc k) d lt = all_more P y z (λ i e less. a (suc i) e (omega arith)) p k d (omega arith)
