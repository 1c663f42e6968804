-- Packets whose address alone shows that they change nothing.
use Rattle.std.proofs.Common.{◌≡◌, ℕ, ◌==◌, ◌&&◌, nat_le, slice_index, Some, None, Bool, true, false, not, if◌then◌else◌, List, Option, drop, refl}
use Rattle.std.proofs.Common.{sym, subst, inl, inr}
use Rattle.std.proofs.lemmas.Bool.{cases_Bool}
use Rattle.ttx_links.specs.Sets.{LinkSet, links_of}
use Rattle.ttx_code.specs.Words.{reading}
use Rattle.ttx_packet.specs.Slots.{kind_of, packet_kind, addressed_kind, links_kind, magazine, packet_number, is_empty}
use Rattle.ttx_page.specs.Packets.{Row, Links, packet_of, packet_of_kind}
use Rattle.ttx_page.specs.Pages.{selected_mag}
use Rattle.ttx_page.specs.declared.class.Class.{Class}
use Rattle.ttx_page.specs.declared.selection.Selection.{Selection}
use Rattle.ttx_page.specs.Memories.{Memory, memory_row}
use Rattle.ttx_page.specs.Receivers.{after, misses, with_row, with_links, stored_row}
use Rattle.ttx_receiver.specs.Reading.{names_magazine, names_packet_0}

-- if no packet of the magazine is stored, then none that is not missed is
none_stored : (own storing wanted : Bool) → (storing && own) ≡ false → (own && storing && wanted) ≡ false
none_stored true true wanted e = cc
none_stored true false wanted e = refl
none_stored false storing wanted e = refl

-- a row or an X/27/0 that is not stored changes nothing
module _ (class : Class) (lines : ℕ) (sel : Selection) (choice : Bool) (m : Memory) where
  pub passed_row : (mag number : ℕ) (text : List ℕ) → (m.storing && (mag == selected_mag sel)) ≡ false → m
      ≡ after class lines sel choice m (Row mag number text)
  passed_row mag number text none =
      subst (λ b. m ≡ (if b then with_row m number (stored_row (memory_row m number) text) else m))
      (sym (none_stored (mag == selected_mag sel) m.storing (not (misses lines choice m)) none)) refl

  pub passed_links : (mag : ℕ) (content : Option LinkSet) → (m.storing && (mag == selected_mag sel)) ≡ false → m
      ≡ after class lines sel choice m (Links mag content)
  passed_links mag content none =
      subst (λ b. m ≡ (if b then with_links m content else m))
      (sym (none_stored (mag == selected_mag sel) m.storing (not (misses lines choice m)) none)) refl

  passed_designation : (slot : List ℕ) (mag : ℕ) (designation : Option ℕ) → (m.storing && (mag == selected_mag sel)) ≡ false
      → m ≡ after class lines sel choice m (packet_of_kind slot (links_kind mag designation))
  passed_designation slot mag None none = refl
  passed_designation slot mag (Some n) none = elim (cases_Bool (n == 0)) [
    | inl e ↦ rw e (passed_links mag (links_of mag slot) none)
    | inr e ↦ rw e refl
  ]

  -- nor does any other packet that is not a page header
  passed_packet : (slot : List ℕ) (mag number : ℕ) → (m.storing && (mag == selected_mag sel)) ≡ false → (number == 0) ≡ false
      → m ≡ after class lines sel choice m (packet_of_kind slot (packet_kind slot mag number))
  unfolding packet_kind
  passed_packet slot mag number none some = rw some (elim (cases_Bool (nat_le number 24)) [
    | inl e ↦ rw e (passed_row mag number (drop 2 slot) none)
    | inr e ↦ rw e (elim (cases_Bool (number == 27)) [
      | inl f ↦ rw f (passed_designation slot mag (reading (slice_index slot 2)) none)
      | inr f ↦ rw f (elim (cases_Bool ((number == 30) && (mag == 8))) [
        | inl g ↦ rw g refl
        | inr g ↦ rw g refl
      ])
    ])
  ])

  passed_address : (slot : List ℕ) (low high : Option ℕ) → names_packet_0 low high ≡ false →
      (m.storing && names_magazine (selected_mag sel) low) ≡ false
      → m ≡ after class lines sel choice m (packet_of_kind slot (addressed_kind slot low high))
  passed_address slot None high some none = refl
  passed_address slot (Some low) None some none = refl
  passed_address slot (Some low) (Some high) some none = passed_packet slot (magazine low) (packet_number low high) none some

  pub passed_slot : (slot : List ℕ) → names_packet_0 (reading (slice_index slot 0)) (reading (slice_index slot 1)) ≡ false
      → (m.storing && names_magazine (selected_mag sel) (reading (slice_index slot 0))) ≡ false → m ≡ after class lines sel choice m (packet_of slot)
  unfolding packet_of kind_of
  passed_slot slot some none = elim (cases_Bool (is_empty slot)) [
    | inl e ↦ rw e refl
    | inr e ↦ rw e (passed_address slot (reading (slice_index slot 0)) (reading (slice_index slot 1)) some none)
  ]
