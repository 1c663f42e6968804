-- In a queue for receivers that show a page late, two successive headers never have the same page number, unless one is time-filling.
use Rattle.std.proofs.Common.{◌≡◌, ℕ, ◌<◌, Bool, true, false, cond, eqb, List, [], ◌∷◌, ◌++◌, map, refl, sym, ap, ◌∙◌, subst, inl, inr, append_assoc}
use Rattle.std.proofs.Common.{suc}
use Rattle.std.specs.Prelude.{flat_map}
use Rattle.std.specs.List.{AllByRecursion}
use Rattle.std.proofs.lemmas.Bool.{cond-true, cond-false, eq-eqb, eqb-true}
use Rattle.ttx_header.specs.Fields.{HeaderFields, IsHeaderFields}
use Rattle.ttx_header.specs.Headers.{header_bytes, time_filling}
use Rattle.ttx_page.specs.Packets as P
use Rattle.ttx_page.specs.Packets.{packet_of}
use Rattle.ttx_plan.specs.declared.packet.Packet.{Packet}
use Rattle.ttx_plan.specs.Blocks.{Block, header_packet, rest_packet, packets_of, latest, with_fillers, time_filling_packet}
use Rattle.ttx_plan.specs.Packets.{is_row_or_links}
use Rattle.ttx_plan.proofs.QueueBlocks.{Tails, Brings, rows_tail}
use Rattle.ttx_plan.proofs.ReadPackets.{LawsBelow, header_is, filling_fields}

-- the page number in a header, 255 for other packets
abbrev pub number_in : P.Packet → ℕ
number_in (P.Header id control text) = id.page
number_in _ = 255

abbrev pub number : List ℕ → ℕ
number bytes = number_in (packet_of bytes)

-- a header with another number
abbrev pub IsOther : ℕ → Packet → Type 0
IsOther n p = (is_row_or_links p.kind ≡ false) × (number p.bytes ≡ n → ⊥)

-- it is the next header after each header except time-filling ones
abbrev pub Alternates : List Packet → Type 0
Alternates ps = Tails (λ p qs. is_row_or_links p.kind ≡ false → (number p.bytes ≡ 255 → ⊥) → Brings (IsOther (number p.bytes)) qs) ps

-- the numbers of headers

pub header_number : LawsBelow → (h : HeaderFields) → IsHeaderFields h → number (header_bytes h) ≡ h.id.page
header_number laws h ranges = ap number_in (header_is laws h ranges)

filler_number : LawsBelow → (serial : Bool) (queue : ℕ) → queue < 8 → number (header_bytes (time_filling (suc queue) serial)) ≡ 255
filler_number laws serial queue lt = header_number laws (time_filling (suc queue) serial) (filling_fields serial queue lt)

apart : true ≡ false → ⊥
apart e = cc

rows_lead : (n : ℕ) (rows : List (List ℕ)) (ps : List Packet) → Brings (IsOther n) ps → Brings (IsOther n) (map rest_packet rows ++ ps)
rows_lead n [] ps l = l
rows_lead n (bytes ∷ rows) ps l = inr (refl, rows_lead n rows ps l)

-- a queue: each block's header has its number, and a time-filling header comes at the end if the queue has a block

abbrev pub IsNumbered : Block → Type 0
IsNumbered block = number block.header ≡ block.page

module _ (laws : LawsBelow) (serial : Bool) (queue : ℕ) (lt : queue < 8) (used : Bool) where
  abbrev filling : List Packet
  filling = cond used (time_filling_packet serial queue ∷ []) []

  abbrev own : Block → List Packet
  own block = cond (eqb block.queue queue) (packets_of serial block) []

  abbrev IsUsed : Block → Type 0
  IsUsed block = eqb block.queue queue ≡ true → used ≡ true

  filling_leads : (b : Bool) → b ≡ true → (n : ℕ) → (n ≡ 255 → ⊥) → Brings (IsOther n) (cond b (time_filling_packet serial queue ∷ []) [])
  filling_leads true e n ne = inl (refl, λ q. ne (sym q ∙ filler_number laws serial queue lt))
  filling_leads false e n ne = absurd (apart (sym e))

  -- the next header has another number than the latest one
  leads : (before blocks : List Block) → AllByRecursion IsNumbered blocks → used ≡ true → (latest queue before ≡ 255 → ⊥) →
      Brings (IsOther (latest queue before)) (flat_map own (with_fillers true before blocks) ++ filling)
  leads before [] all is_used ne = filling_leads used is_used (latest queue before) ne
  leads before (block ∷ blocks) all is_used ne = by (eqb block.queue queue) (eqb (latest block.queue before) block.page) refl refl
      (λ more. leads (block ∷ before) blocks all.1 is_used more)
    where
      by : (mine filler : Bool) → eqb block.queue queue ≡ mine → eqb (latest block.queue before) block.page ≡ filler →
          ((latest queue (block ∷ before) ≡ 255 → ⊥) → Brings (IsOther (latest queue (block ∷ before)))
          (flat_map own (with_fillers true (block ∷ before) blocks) ++ filling)) →
          Brings (IsOther (latest queue before)) ((cond mine
          (cond filler (time_filling_packet serial block.queue ∷ []) [] ++ header_packet block.header
          ∷ map rest_packet block.rest) [] ++ flat_map own (with_fillers true (block ∷ before) blocks)) ++ filling)
      by false filler e f again =
          let same : latest queue (block ∷ before) ≡ latest queue before = cond-false (eqb block.queue queue) block.page (latest queue before) e in
          subst (λ n. Brings (IsOther n) (flat_map own (with_fillers true (block ∷ before) blocks) ++ filling)) same (again (λ z. ne (sym same ∙ z)))
      by true true e f again =
          inl (refl, λ q. ne (sym q ∙ filler_number laws serial block.queue (subst (λ m. m < 8) (sym (eqb-true block.queue queue e)) lt)))
      by true false e f again = inl (
        refl,
        λ q.
            let is : latest block.queue before ≡ block.page = ap (λ m. latest m before) (eqb-true block.queue queue e) ∙ sym q ∙ all.0 in
            apart (sym (eq-eqb (latest block.queue before) block.page is) ∙ f),
      )

  pub alternates : (before blocks : List Block) → AllByRecursion IsNumbered blocks → AllByRecursion IsUsed blocks →
      Alternates (flat_map own (with_fillers true before blocks) ++ filling)
  alternates before [] all in_use = filling_alternates used
    where
      filling_alternates : (b : Bool) → Alternates (cond b (time_filling_packet serial queue ∷ []) [])
      filling_alternates true = (λ early ne. absurd (ne (filler_number laws serial queue lt)), tt)
      filling_alternates false = tt
  alternates before (block ∷ blocks) all in_use = by (eqb block.queue queue) (eqb (latest block.queue before) block.page) refl
      (alternates (block ∷ before) blocks all.1 in_use.1)
    where
      next : List Packet
      next = flat_map own (with_fillers true (block ∷ before) blocks) ++ filling

      page : eqb block.queue queue ≡ true → Alternates next →
          Alternates (header_packet block.header
          ∷ ((map rest_packet block.rest ++ flat_map own (with_fillers true (block ∷ before) blocks)) ++ filling))
      page e again = subst (λ z. Alternates (header_packet block.header ∷ z))
          (sym (append_assoc (map rest_packet block.rest) (flat_map own (with_fillers true (block ∷ before) blocks)) filling)) (
            λ early ne.
                let here : latest queue (block ∷ before) ≡ number block.header =
                cond-true (eqb block.queue queue) block.page (latest queue before) e ∙ sym all.0 in
                rows_lead (number block.header) block.rest next (subst (λ n. Brings (IsOther n) next) here
                (leads (block ∷ before) blocks all.1 (in_use.0 e) (λ z. ne (sym here ∙ z)))),
            rows_tail _ (λ x qs early. absurd (apart early)) block.rest next again,
          )

      by : (mine filler : Bool) → eqb block.queue queue ≡ mine → Alternates next →
          Alternates ((cond mine (cond filler (time_filling_packet serial block.queue ∷ []) [] ++ header_packet block.header
          ∷ map rest_packet block.rest) [] ++ flat_map own (with_fillers true (block ∷ before) blocks)) ++ filling)
      by false filler e again = again
      by true true e again = (
        λ early ne. absurd (ne (filler_number laws serial block.queue (subst (λ m. m < 8) (sym (eqb-true block.queue queue e)) lt))),
        page e again,
      )
      by true false e again = page e again
