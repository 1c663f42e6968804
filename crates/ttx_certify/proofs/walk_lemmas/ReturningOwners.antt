-- If a second pass ends with the owners with which it began, these are the list's own.
use Rattle.std.proofs.Common.{◌≡◌, ◌⊎◌, ℕ, zero, suc, ◌≤◌, ℤ, pos, ◌+ℤ◌, ◌-ℤ◌, Bool, true, false, if◌then◌else◌, List, length, slice_get}
use Rattle.std.proofs.Common.{Option, Some, None, refl, sym, ap, ◌∙◌, subst, inl, inr, arith}
use Rattle.std.proofs.lemmas.Int.{ints}
use Rattle.ttx_header.specs.Ids.{Id}
use Rattle.ttx_page.specs.Packets.{packet_of}
use Rattle.ttx_page.specs.Pages.{Page}
use Rattle.ttx_page.specs.Streams.{Stream, repeated, heads, heads_page, ends_serial}
use Rattle.ttx_witness.specs.sent.ItemTransmissions.{PageOwner, tainted_by, owner_scan, owner_moved, sent_scan, entry_owner}
use Rattle.ttx_witness.proofs.SentItems.{SameSlot, same_refl, same_tainted}
use Rattle.ttx_certify.specs.declared.walks.page_facts.Facts.{Facts}
use Rattle.ttx_witness.specs.Elements.{HoldsAt}
use Rattle.ttx_certify.specs.walks.PackedTracks.{IsTrackedAt}
use Rattle.ttx_certify.specs.walks.PageFacts.{AreFacts}
use Rattle.ttx_certify.specs.walks.Passing.{AreKept, walk_pages, walk_certificate}
use Rattle.ttx_certify.specs.declared.walks.passes.Walk.{Walk}

-- a scan has met a header and no longer depends on its entry, or has met none
abbrev Forgets : Option PageOwner → Option PageOwner → Option PageOwner → Type 0
Forgets entry from from_none = (from ≡ from_none) ⊎ (SameSlot entry from × (from_none ≡ None))

scan_forgets : (id : Id) (s : Stream) (entry : Option PageOwner) (n : ℕ) → Forgets entry (owner_scan id s entry n) (owner_scan id s None n)
unfolding owner_scan
scan_forgets id s entry zero = inr (same_refl entry, refl)
scan_forgets id s entry (suc n) = go (heads id.mag (packet_of (s (pos n)))) (scan_forgets id s entry n)
  where
    go : (b : Bool) → Forgets entry (owner_scan id s entry n) (owner_scan id s None n) →
        Forgets entry (if b then Some (record { slot = pos n; mine = heads_page id (packet_of (s (pos n))); tainted = false })
        else tainted_by (ends_serial id.mag (packet_of (s (pos n)))) (owner_scan id s entry n))
        (if b then Some (record { slot = pos n; mine = heads_page id (packet_of (s (pos n))); tainted = false })
        else tainted_by (ends_serial id.mag (packet_of (s (pos n)))) (owner_scan id s None n))
    go true f = inl refl
    go false (inl e) = inl (ap (tainted_by (ends_serial id.mag (packet_of (s (pos n))))) e)
    go false (inr h) = inr (same_tainted _ entry (owner_scan id s entry n) h.0, ap (tainted_by (ends_serial id.mag (packet_of (s (pos n))))) h.1)

abbrev slot_in : Option PageOwner → ℤ
slot_in None = pos 0
slot_in (Some q) = q.slot

-- a period later no slot is the same
not_later : (n : ℕ) → 1 ≤ n → (entry o : Option PageOwner) → SameSlot entry o → owner_moved (pos 0 -ℤ pos n) o ≡ entry → entry ≡ None
not_later n some None None h e = refl
not_later n some None (Some p) h e = absurd h
not_later n some (Some o) None h e = absurd h
not_later n some (Some o) (Some p) h e = let s : (p.slot +ℤ (pos 0 -ℤ pos n)) ≡ o.slot = ap slot_in e in absurd (omega (arith, ints))

-- an entry that a pass leaves unchanged is the list's own
pub steady_entry : (y : List (List ℕ)) → 1 ≤ length y → (id : Id) (entry : Option PageOwner) →
    owner_moved (pos 0 -ℤ pos (length y)) (owner_scan id (repeated y) entry (length y)) ≡ entry → entry ≡ entry_owner y id
steady_entry y some id entry steady = elim (scan_forgets id (repeated y) entry (length y)) as (λ _. entry ≡ entry_owner y id) [
  | inl e ↦ sym steady ∙ ap (owner_moved (pos 0 -ℤ pos (length y))) e
  | inr h ↦ not_later (length y) some entry (owner_scan id (repeated y) entry (length y)) h.0 steady
      ∙ sym (ap (owner_moved (pos 0 -ℤ pos (length y))) h.1)
]

-- and a pass leaves the list's own entry unchanged
pub own_entry : (y : List (List ℕ)) (id : Id) → owner_moved (pos 0 -ℤ pos (length y))
    (owner_scan id (repeated y) (entry_owner y id) (length y)) ≡ entry_owner y id
own_entry y id = elim (scan_forgets id (repeated y) (entry_owner y id) (length y)) as
    (λ _. owner_moved (pos 0 -ℤ pos (length y)) (owner_scan id (repeated y) (entry_owner y id) (length y)) ≡ entry_owner y id) [
      | inl e ↦ ap (owner_moved (pos 0 -ℤ pos (length y))) e
      | inr h ↦
          let none : entry_owner y id ≡ None = ap (owner_moved (pos 0 -ℤ pos (length y))) h.1 in
          ap (λ e. owner_moved (pos 0 -ℤ pos (length y)) (owner_scan id (repeated y) e (length y))) none
    ]

-- what is kept is the same for equal entries
pub kept_same : (walk : Walk) (a b : Id → Option PageOwner) (y : List (List ℕ)) →
    ((i : ℕ) (p : Page) → slice_get (walk_pages walk) i ≡ Some p → a p.id ≡ b p.id) → AreKept walk a y → AreKept walk b y
kept_same walk a b y same k = record {
  tracks = λ i p item at it.
      subst (λ e. IsTrackedAt (walk_certificate walk) p item (sent_scan p.id (walk_certificate walk).lines item (repeated y) e (length y)) i
      walk.tracks.each.items) (same i p at) (k.tracks i p item at it);
  facts = λ i p at. subst (λ e. HoldsAt Facts walk.facts.items i (AreFacts (walk_certificate walk) p (repeated y) e (length y)))
      (same i p at) (k.facts i p at);
  others = k.others;
}
