use Rattle.std.proofs.Common.{◌≡◌, ℕ, ◌<◌, ℤ, pos, negsuc, List, [], length, ap, sym, ◌∙◌, subst, arith, slice_index_or}
use Rattle.std.proofs.lemmas.List.{get_or-map, length-map}
use Rattle.std.proofs.lemmas.List.Elements.{All-get_or}
use Rattle.ttx_packet.specs.Slots.{IsSlot}
use Rattle.ttx_header.specs.Ids.{Id}
use Rattle.ttx_header.specs.Laws.{HeadersHaveFields, HeadersAreHeaders}
use Rattle.ttx_cycle.specs.Files.{IsCycle}
use Rattle.ttx_page.specs.Streams.{repeated, turned}
use Rattle.ttx_partial.specs.Asides.{slot_aside, aside}
use Rattle.ttx_partial.proofs.SetAside.{Answers, answered}
use Rattle.ttx_partial.proofs.KeptPages.{Replaces, kept}
use Rattle.ttx_partial.proofs.laws.kept_pages_are_steady.Goals as goal

turned_below : (n : ℕ) (j : ℤ) → 0 < n → turned n j < n
turned_below n (pos i) some = omega arith
turned_below n (negsuc i) some = omega arith

slot_is : (slots : List (List ℕ)) → IsCycle slots → (k : ℕ) → k < length slots → IsSlot (slice_index_or slots k [])
slot_is slots is k below = All-get_or IsSlot slots k [] below is.each

replaced : HeadersHaveFields → HeadersAreHeaders → (slots : List (List ℕ)) → IsCycle slots → (id : Id) → Replaces id (repeated slots) (repeated (aside id slots))
replaced fields headers slots is id j =
    let k = turned (length slots) j in
    let below = turned_below (length slots) j is.some in
    let same_turn : turned (length (aside id slots)) j ≡ k = ap (λ n. turned n j) (length-map slots (slot_aside id)) in
    subst (Answers id (repeated slots j)) (sym (ap (λ i. slice_index_or (aside id slots) i []) same_turn ∙ get_or-map (slot_aside id) slots k [] [] below))
    (answered fields headers id (slice_index_or slots k []) (slot_is slots is k below))

pub returns : goal.returns
returns c slots is id pages p not_ff steady =
    kept id pages p (repeated slots) (repeated (aside id slots))
    (replaced c.headers_have_fields.ensures c.headers_are_headers.ensures slots is id) not_ff steady
