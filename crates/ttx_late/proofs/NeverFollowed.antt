-- A page whose headers are never followed by another page number is never shown.
use Rattle.std.proofs.Common.{◌≡◌, ℕ, suc, ◌<◌, ℤ, pos, ◌+ℤ◌, ◌≤ℤ◌, true, false, List, [], ◌∷◌, length, get_or, refl, sym, ◌∙◌, subst, inl}
use Rattle.std.proofs.Common.{inr, arith}
use Rattle.std.proofs.lemmas.Int.{ints}
use Rattle.std.proofs.lemmas.Bool.{both_ways, cases_Bool}
use Rattle.ttx_packet.specs.Laws.{KindIsKept}
use Rattle.ttx_header.specs.Laws.{HeaderIsKept}
use Rattle.ttx_header.specs.Ids.{Id}
use Rattle.ttx_page.specs.Packets.{Packet, packet_of}
use Rattle.ttx_page.specs.Pages.{selected_mag, matches}
use Rattle.ttx_page.specs.declared.selection.Selection.{Selection}
use Rattle.ttx_page.specs.declared.class.Class.{Class}
use Rattle.ttx_page.specs.Memories.{Memory}
use Rattle.ttx_page.specs.Receivers.{older, after, Step}
use Rattle.ttx_page.specs.Streams.{Stream, heads, heads_page, heads_matched}
use Rattle.ttx_page.specs.Followers.{heads_another, IsNeverFollowed}
use Rattle.ttx_late.specs.LateReceivers.{LateMemory, heads_number, must_show, LateRun}
use Rattle.ttx_late.specs.Laws.{NeverFollowedIsUnshown}
use Rattle.ttx_late.proofs.KeptSlots.{SameTests, same_tests}
use Rattle.ttx_late.proofs.StoringSteps.{after_quiet}
use Rattle.ttx_late.proofs.GatheredMemories.{number_heads, matched_number, own_number}
use Rattle.ttx_late.proofs.UnderHeaders.{IsUnder, under_own, under_more, stores}

-- a slot does not make a receiver show the page if it is no header of the magazine, or one with the page's own number
silent : (class : Class) (lines : ℕ) (sel : Selection) (m : Memory) (pkt : Packet) →
    (m.storing ≡ true → heads (selected_mag sel) pkt ≡ true → heads_number sel pkt ≡ true) →
    must_show sel m (after class lines sel false (older m) pkt) pkt ≡ false
silent class lines sel m pkt own = grind (arith, after_quiet class lines sel (older m) pkt, number_heads, matched_number)

module _ (s : Stream) (page : Id) (sel : Selection) (fits : matches sel page ≡ true) (class : Class) (lines : ℕ) (begin : ℤ)
    (selected : (j : ℤ) → begin ≤ℤ j → heads_matched sel (packet_of (s j)) ≡ true → heads_page page (packet_of (s j)) ≡ true)
    (never : IsNeverFollowed s page) where
  -- under a header of the page the next header of the magazine has the page's own number
  own_next : (j : ℤ) (slot : List ℕ) → SameTests (s j) slot → IsUnder s page (λ h. begin ≤ℤ h) j → heads (selected_mag sel) (packet_of slot) ≡ true →
      heads_number sel (packet_of slot) ≡ true
  own_next j slot same u head = elim (cases_Bool (heads_another page (packet_of (s j)))) as (λ _. heads_number sel (packet_of slot) ≡ true) [
    | inl another ↦ absurd (never u.header u.own (record { slot = j; next = u.latest; another = another }))
    | inr other ↦ same.number sel ∙ own_number sel page fits (packet_of (s j)) (sym (same.heads (selected_mag sel)) ∙ head) other
  ]

  never_shows : (received : List (List ℕ)) (j : ℤ) → begin ≤ℤ j →
      ((i : ℕ) → i < length received → SameTests (s (j +ℤ pos i)) (get_or received i [])) →
      (d : LateMemory) → (d.gathered.storing ≡ true → IsUnder s page (λ h. begin ≤ℤ h) j) →
      (new : LateMemory) × LateRun class lines sel d received new × (new.shown ≡ d.shown)
  never_shows [] j low each d under = (d, refl, refl)
  never_shows (slot ∷ received) j low each d under =
      let mid : LateMemory = record { gathered = after class lines sel false (older d.gathered) (packet_of slot); shown = d.shown } in
      let step : Step class lines sel d.gathered slot mid.gathered = record { choice = false; is = refl } in
      let same = subst (λ z. SameTests (s z) slot) (let e : j +ℤ pos 0 ≡ j = omega (arith, ints) in e) (each 0 (omega arith)) in
      let rest = never_shows received (j +ℤ pos 1) (omega (arith, ints))
      (λ i lt. subst (λ z. SameTests (s z) (get_or received i []))
      (let e : j +ℤ pos (suc i) ≡ (j +ℤ pos 1) +ℤ pos i = omega (arith, ints) in e) (each (suc i) (omega arith)))
      mid (λ on. elim (stores s page sel fits j slot same class lines (selected j low) d.gathered mid.gathered step on) as
      (λ _. IsUnder s page (λ h. begin ≤ℤ h) (j +ℤ pos 1)) [
        | inl own ↦ under_own s page (λ h. begin ≤ℤ h) j (j +ℤ pos 1) refl low own
        | inr kept ↦ under_more s page (λ h. begin ≤ℤ h) j (j +ℤ pos 1) refl (under kept.0) kept.1
      ]) in
      let quiet = silent class lines sel d.gathered (packet_of slot) (λ on head. own_next j slot same (under on) head) in
      (rest.0, (mid, record { base = d.gathered; from = inl refl; step = step; shown = inr (inr (refl, quiet)) }, rest.1), rest.2)

pub never_followed_is_unshown : KindIsKept → HeaderIsKept → NeverFollowedIsUnshown
never_followed_is_unshown kind header s page sel class lines repeat begin fits clean own never former idle received r =
    never_shows s page sel fits class lines begin own never received begin (omega (arith, ints))
    (λ i lt. let low : begin ≤ℤ (begin +ℤ pos i) = omega (arith, ints) in let c = clean (begin +ℤ pos i) low in
    same_tests kind header (s (begin +ℤ pos i)) (get_or received i []) c.0 c.1 (r.each i lt)) former (λ on. absurd (both_ways _ idle on))
