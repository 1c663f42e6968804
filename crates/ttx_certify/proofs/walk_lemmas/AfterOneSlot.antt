-- What is kept after one more slot.
use Rattle.std.proofs.Common.{◌≡◌, ◌⊎◌, ℕ, suc, ◌<◌, ℤ, pos, Bool, true, false, ◌&&◌, ◌==◌, if◌then◌else◌, List, [], ◌∷◌, ◌++◌}
use Rattle.std.proofs.Common.{length, Option, Some, None, refl, sym, ap, ◌∙◌, subst, inl, inr, arith}
use Rattle.ttx_page.specs.Packets.{packet_of}
use Rattle.ttx_page.specs.Pages.{Page}
use Rattle.ttx_page.specs.declared.item.Item.{Item}
use Rattle.ttx_page.specs.declared.item.Item.TheVariants.{Head as TheHead, Row as TheRow, Links as TheLinks}
use Rattle.ttx_page.specs.Streams.{repeated, run_length, heads_page}
use Rattle.ttx_witness.specs.declared.runs.transmissions.Transmission.{Transmission}
use Rattle.ttx_witness.specs.Coverage.{Certificate, IsCertificate, limit}
use Rattle.ttx_witness.specs.sent.ItemTransmissions.{PageOwner, owner_scan, sent_at, sent_scan}
use Rattle.ttx_witness.specs.sent.Collected.{IsItem, item_number}
use Rattle.ttx_witness.specs.faults.Comparing.{is_mine, sends}
use Rattle.ttx_witness.specs.faults.FirstSlots.{IsAfter, AreFirstTaken, SentBelow}
use Rattle.ttx_witness.specs.declared.faults.first_slots.FirstSlots.{FirstSlots}
use Rattle.ttx_certify.specs.declared.walks.page_facts.Facts.{Facts}
use Rattle.ttx_certify.specs.declared.walks.page_facts.Heads.{Heads}
use Rattle.ttx_witness.specs.declared.sent.one_slot.Sent.{Sent}
use Rattle.ttx_witness.specs.sent.OneSlot.{sent_of, is_sent}
use Rattle.ttx_certify.specs.walks.PageFacts.{Noted, heads_after, heads_of, AreFacts}
use Rattle.ttx_witness.proofs.FirstFaults.{taken_more, sent_more}
use Rattle.ttx_witness.proofs.SentItems.{some_of, sends_some}
use Rattle.ttx_certify.proofs.walk_lemmas.GrowingLists.{one_longer, here, same_before, owner_before, sent_grown}

-- a run has at most eight transmissions
pub short_run : (w : Certificate) → IsCertificate w → (item : Item) (k : ℕ) → run_length w.repeat item ≡ suc k → k < 8
short_run w is TheHead k e = let r = is.few_repeats in omega arith
short_run w is (TheRow r) k e = let r = is.few_repeats in omega arith
short_run w is TheLinks k e = omega arith

sent_some : (i : ℕ) (item : Item) (sent : Option Sent) → is_sent i item sent ≡ some_of (sent_of i item sent)
sent_some i item None = refl
sent_some i item (Some s) = go ((item_number item == s.number) && (s.page == i))
  where
    go : (b : Bool) → b ≡ some_of (if b then s.transmission ∷ [] else [])
    go true = refl
    go false = refl

-- the headers after one more
heads_more : (lim : ℕ) (h : Option Heads) (ts : List Transmission) (j : ℤ) (b : Bool) →
    heads_of lim h (ts ++ (if b then record { slot = j; owner = j; sure = true } ∷ [] else []))
    ≡ heads_after lim j b (heads_of lim h ts)
unfolding heads_of
heads_more lim h [] j true = refl
heads_more lim h [] j false = refl
heads_more lim h (t ∷ ts) j b = heads_more lim (heads_after lim t.slot true h) ts j b

module _ (w : Certificate) (is : IsCertificate w) (p : Page) (i : ℕ) (sent : Option Sent) (y : List (List ℕ)) (z : List ℕ)
    (entry owner : Option PageOwner) (k : ℤ) (at_end : k ≡ pos (length y))
    (right : owner ≡ owner_scan p.id (repeated y) entry (length y))
    (lines : ℕ) (same_lines : lines ≡ w.lines)
    (says : (item : Item) → IsItem item → sent_of i item sent ≡ sent_at p.id lines item k (packet_of z) owner) where
  told : (item : Item) → IsItem item → sent_of i item sent ≡ sent_at p.id w.lines item k (packet_of z) owner
  told item it = says item it ∙ ap (λ l. sent_at p.id l item k (packet_of z) owner) same_lines

  abbrev more : List (List ℕ)
  more = y ++ z ∷ []

  -- what the slots send of an item after one more slot
  pub grown : (item : Item) → IsItem item → sent_scan p.id w.lines item (repeated y) entry (length y) ++ sent_of i item sent
      ≡ sent_scan p.id w.lines item (repeated more) entry (length more)
  grown item it = sent_grown y z p.id w.lines item entry owner (sent_of i item sent) k at_end right (told item it)

  -- whether the slot sends an item
  sends_is : (item : Item) → IsItem item → is_sent i item sent
      ≡ sends p.id item (packet_of (repeated more (pos (length y)))) (is_mine (owner_scan p.id (repeated more) entry (length y)))
  sends_is item it =
      sent_some i item sent ∙ ap some_of (told item it) ∙ sends_some p.id w.lines item k (packet_of z) owner
      ∙ ap (λ x. sends p.id item (packet_of x) (is_mine owner)) (sym (here y z))
      ∙ ap (λ o. sends p.id item (packet_of (repeated more (pos (length y)))) (is_mine o))
      (right ∙ sym (owner_before y z p.id entry (length y) (omega arith)))

  -- the earlier slots send what they sent
  sends_before : (item : Item) (j : ℕ) → j < length y →
      sends p.id item (packet_of (repeated y (pos j))) (is_mine (owner_scan p.id (repeated y) entry j))
      ≡ sends p.id item (packet_of (repeated more (pos j))) (is_mine (owner_scan p.id (repeated more) entry j))
  sends_before item j lt = ap (λ x. sends p.id item (packet_of x) (is_mine (owner_scan p.id (repeated y) entry j))) (sym (same_before y z j lt))
      ∙ ap (λ o. sends p.id item (packet_of (repeated more (pos j))) (is_mine o)) (sym (owner_before y z p.id entry j (omega arith)))

  first_more : (j : ℕ) → j ≡ length y → (old new : FirstSlots) →
      AreFirstTaken p (repeated y) (SentBelow p.id (repeated y) entry (length y)) old → IsAfter p (λ item. is_sent i item sent) z j old new →
      AreFirstTaken p (repeated more) (SentBelow p.id (repeated more) entry (length more)) new
  first_more j e old new f n =
      let sends_more = sent_more p.id (repeated more) entry (length y) (length more) (let l = one_longer y z in omega arith)
      (λ item. is_sent i item sent) sends_is in
      taken_more p (repeated y) (repeated more) (SentBelow p.id (repeated y) entry (length y)) (SentBelow p.id (repeated more) entry (length more))
      (λ item. is_sent i item sent) (length y)
      (λ item it k. (
        (λ h. elim ((sends_more item it k).0 h) as (λ _. SentBelow p.id (repeated y) entry (length y) item k ⊎ ((k ≡ length y) × (is_sent i item sent ≡ true)))
            [ inl b ↦ inl (b.0, sends_before item k b.0 ∙ b.1) | inr n ↦ inr n ]),
        (λ h. (sends_more item it k).1 (elim h as
            (λ _. SentBelow p.id (repeated more) entry (length y) item k ⊎ ((k ≡ length y) × (is_sent i item sent ≡ true)))
            [ inl b ↦ inl (b.0, sym (sends_before item k b.0) ∙ b.1) | inr n ↦ inr n ])),
      )) (λ item k t. sym (same_before y z k t.0)) old new
      (subst (λ x. IsAfter p (λ item. is_sent i item sent) x (length y) old new) (sym (here y z))
      (subst (λ k. IsAfter p (λ item. is_sent i item sent) z k old new) e n)) f

  pub facts_more : (lim : ℕ) → lim ≡ limit w → (j : ℕ) → j ≡ length y → (old new : Facts) →
      AreFacts w p (repeated y) entry (length y) old → Noted lim p (λ item. is_sent i item sent) z j old new →
      AreFacts w p (repeated more) entry (length more) new
  facts_more lim e j ej old new f n = record {
    heads =
        n.heads ∙ ap (λ l. heads_after l (pos j) (is_sent i TheHead sent) old.heads) e
        ∙ ap (λ h. heads_after (limit w) (pos j) (is_sent i TheHead sent) h) f.heads
        ∙ ap (λ q. heads_after (limit w) q (is_sent i TheHead sent)
        (heads_of (limit w) None (sent_scan p.id w.lines TheHead (repeated y) entry (length y)))) (ap pos ej ∙ sym at_end)
        ∙ ap (λ b. heads_after (limit w) k b (heads_of (limit w) None (sent_scan p.id w.lines TheHead (repeated y) entry (length y))))
        (sent_some i TheHead sent ∙ ap some_of (told TheHead tt) ∙ sends_some p.id w.lines TheHead k (packet_of z) owner)
        ∙ sym (heads_more (limit w) None (sent_scan p.id w.lines TheHead (repeated y) entry (length y)) k (heads_page p.id (packet_of z)))
        ∙ ap (λ us. heads_of (limit w) None (sent_scan p.id w.lines TheHead (repeated y) entry (length y) ++ us)) (sym (told TheHead tt))
        ∙ ap (heads_of (limit w) None) (grown TheHead tt);
    first = first_more j ej old.first new.first f.first n.first;
  }
