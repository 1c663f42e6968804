-- The packets of a magazine's queue: after each header come the rows and X/27/0 of its own page, up to the next header.
use Rattle.std.proofs.Common.{◌≡◌, ◌⊎◌, ℕ, suc, ◌+◌, ◌-◌, Bool, true, false, cond, eqb, List, [], ◌∷◌, ◌++◌, map, Some, refl, sym, ap, ◌∙◌, subst}
use Rattle.std.proofs.Common.{inl, inr, arith, append_assoc}
use Rattle.std.specs.Prelude.{All, slice_get, flat_map}
use Rattle.std.specs.List.{AllByRecursion}
use Rattle.std.proofs.lemmas.Bool.{cond-true, eq-eqb, eqb-true}
use Rattle.ttx_page.specs.declared.class.Class.{Class}
use Rattle.ttx_source.specs.Services.{Authored, IsAuthored}
use Rattle.ttx_plan.specs.declared.packet.Packet.{Packet}
use Rattle.ttx_plan.specs.Blocks.{Block, header_packet, rest_packet, filler_of, page_packets, packets_of, placed, has_pages, time_filling_packet}
use Rattle.ttx_plan.specs.Blocks.{queue_packets}
use Rattle.ttx_plan.specs.Carries.{blocks_of, blocks_sent_at}
use Rattle.ttx_plan.specs.Contents.{page_header_bytes, rest_of}
use Rattle.ttx_plan.specs.Packets.{is_row_or_links}
use Rattle.ttx_plan.proofs.ListElements.{Has, has_left, has_right}
use Rattle.ttx_plan.proofs.PlacedBlocks.{placed_all}
use Rattle.ttx_plan.proofs.SentBlocks.{order_all}

-- the queue and the bytes of a block are those of a page of the list
pub record IsOfPage (pages : List Authored) (serial : Bool) (class : Class) (queue : ℕ) (header : List ℕ) (rest : List (List ℕ)) : Type 0 where
  pub index : ℕ
  pub authored : Authored
  pub listed : slice_get pages index ≡ Some authored
  pub kept : IsAuthored serial authored
  pub queue_is : queue ≡ authored.page.id.mag - 1
  pub header_is : header ≡ page_header_bytes authored.page
  pub rest_is : rest ≡ rest_of class authored.page

abbrev pub IsPageBlock : List Authored → Bool → Class → Block → Type 0
IsPageBlock pages serial class block = IsOfPage pages serial class block.queue block.header block.rest

page_blocks : (pages : List Authored) (serial : Bool) (class : Class) (some : List Authored) (at : ℕ) →
    ((k : ℕ) (p : Authored) → slice_get some k ≡ Some p → slice_get pages (at + k) ≡ Some p) → All (IsAuthored serial) some →
    AllByRecursion (IsPageBlock pages serial class) (blocks_of class some)
page_blocks pages serial class [] at listed a = tt
page_blocks pages serial class (p ∷ some) at listed a =
    let here : at + 0 ≡ at = omega arith in (
      record {
        index = at;
        authored = p;
        listed = ap (slice_get pages) (sym here) ∙ listed 0 p refl;
        kept = a 0 p (omega arith);
        queue_is = refl;
        header_is = refl;
        rest_is = refl;
      },
      page_blocks pages serial class some (suc at)
          (λ k q e. let next : suc at + k ≡ at + suc k = omega arith in ap (slice_get pages) next ∙ listed (suc k) q e)
          (λ k d lt. a (suc k) d (omega arith)),
    )

-- so is each block that is sent
pub sent_are_blocks : (serial : Bool) (spread : List ℕ) (late : Bool) (class : Class) (pages : List Authored) → All (IsAuthored serial) pages →
    AllByRecursion (IsPageBlock pages serial class) (blocks_sent_at spread late class pages)
sent_are_blocks serial spread late class pages a =
    order_all (IsPageBlock pages serial class) (λ filler block is. is) late (placed spread (blocks_of class pages))
    (placed_all (IsPageBlock pages serial class) (λ place block is. is) spread (blocks_of class pages)
    (page_blocks pages serial class pages 0 (λ k p e. let z : 0 + k ≡ k = omega arith in ap (slice_get pages) z ∙ e) a))

-- what time-filling headers and whole blocks in front keep holds for a queue
module _ (serial : Bool) (queue : ℕ) (P : Block → Type 0) (Good : List Packet → Type 0) (none : Good [])
    (filling : (m : ℕ) → m ≡ queue → (ps : List Packet) → Good ps → Good (time_filling_packet serial m ∷ ps))
    (whole : (block : Block) → P block → block.queue ≡ queue → (ps : List Packet) → Good ps →
    Good (header_packet block.header ∷ (map rest_packet block.rest ++ ps))) where
  abbrev own : Block → List Packet
  own block = cond (eqb block.queue queue) (packets_of serial block) []

  blocks_good : (sent : List Block) (tail : List Packet) → AllByRecursion P sent → Good tail → Good (flat_map own sent ++ tail)
  blocks_good [] tail all good = good
  blocks_good (block ∷ sent) tail all good = by (eqb block.queue queue) block.filler refl (blocks_good sent tail all.1 good)
    where
      page : eqb block.queue queue ≡ true → Good (flat_map own sent ++ tail) →
          Good (header_packet block.header ∷ ((map rest_packet block.rest ++ flat_map own sent) ++ tail))
      page e more = subst (λ z. Good (header_packet block.header ∷ z)) (sym (append_assoc (map rest_packet block.rest) (flat_map own sent) tail))
          (whole block all.0 (eqb-true block.queue queue e) (flat_map own sent ++ tail) more)

      by : (mine filler : Bool) → eqb block.queue queue ≡ mine → Good (flat_map own sent ++ tail) →
          Good ((cond mine (cond filler (time_filling_packet serial block.queue ∷ []) [] ++ header_packet block.header
          ∷ map rest_packet block.rest) [] ++ flat_map own sent) ++ tail)
      by false filler e more = more
      by true true e more = filling block.queue (eqb-true block.queue queue e) _ (page e more)
      by true false e more = page e more

  pub queue_good : (sent : List Block) → AllByRecursion P sent → Good (queue_packets serial sent queue)
  queue_good sent all = blocks_good sent (cond (has_pages sent queue) (time_filling_packet serial queue ∷ []) []) all (tail (has_pages sent queue))
    where
      tail : (b : Bool) → Good (cond b (time_filling_packet serial queue ∷ []) [])
      tail true = filling queue refl [] none
      tail false = none

-- what holds for each packet and those after it
abbrev pub Tails : (Packet → List Packet → Type 0) → List Packet → Type 0
Tails P [] = Unit {0}
Tails P (p ∷ ps) = P p ps × Tails P ps

pub tails_right : (P : Packet → List Packet → Type 0) (xs ys : List Packet) → Tails P (xs ++ ys) → Tails P ys
tails_right P [] ys a = a
tails_right P (x ∷ xs) ys a = tails_right P xs ys a.1

-- each row and X/27/0 before the first header
abbrev pub UpToHeader : (Packet → Type 0) → List Packet → Type 0
UpToHeader R [] = Unit {0}
UpToHeader R (p ∷ ps) = is_row_or_links p.kind ≡ true → R p × UpToHeader R ps

-- the first header, or a row or X/27/0 before it
abbrev pub Brings : (Packet → Type 0) → List Packet → Type 0
Brings Q [] = ⊥
Brings Q (p ∷ ps) = Q p ⊎ ((is_row_or_links p.kind ≡ true) × Brings Q ps)

-- after the header of a page, the packets of its block
pub record HeadsBlock (pages : List Authored) (serial : Bool) (class : Class) (queue : ℕ) (h : Packet) (ps : List Packet) : Type 0 where
  pub header : List ℕ
  pub rest : List (List ℕ)
  pub of_page : IsOfPage pages serial class queue header rest
  pub header_is : h ≡ header_packet header
  pub own : UpToHeader (λ p. Has p.bytes rest) ps
  pub brings : (bytes : List ℕ) → Has bytes rest → Brings (λ p. p.bytes ≡ bytes) ps

-- no row and no X/27/0 comes after a time-filling header
abbrev pub HeadsOwn : List Authored → Bool → Class → ℕ → Packet → List Packet → Type 0
HeadsOwn pages serial class queue h ps = is_row_or_links h.kind ≡ false →
    ((h ≡ time_filling_packet serial queue) × UpToHeader (λ p. ⊥) ps) ⊎ HeadsBlock pages serial class queue h ps

apart : true ≡ false → ⊥
apart e = cc

-- rows and X/27/0 in front
pub rows_tail : (P : Packet → List Packet → Type 0) → ((x : List ℕ) (ps : List Packet) → P (rest_packet x) ps) →
    (rows : List (List ℕ)) (ps : List Packet) →
    Tails P ps → Tails P (map rest_packet rows ++ ps)
rows_tail P row [] ps a = a
rows_tail P row (x ∷ rows) ps a = (row x (map rest_packet rows ++ ps), rows_tail P row rows ps a)

module _ (pages : List Authored) (serial : Bool) (class : Class) (queue : ℕ) where
  abbrev IsLed : List Packet → Type 0
  IsLed ps = UpToHeader (λ p. ⊥) ps × Tails (HeadsOwn pages serial class queue) ps

  rows_own : (whole rows : List (List ℕ)) (ps : List Packet) → ((x : List ℕ) → Has x rows → Has x whole) → UpToHeader (λ p. ⊥) ps →
      UpToHeader (λ p. Has p.bytes whole) (map rest_packet rows ++ ps)
  rows_own whole [] ps in_whole first = none_first ps first
    where
      none_first : (ps : List Packet) → UpToHeader (λ p. ⊥) ps → UpToHeader (λ p. Has p.bytes whole) ps
      none_first [] first = tt
      none_first (p ∷ ps) first = λ late. absurd (first late).0
  rows_own whole (x ∷ rows) ps in_whole first = λ late. (in_whole x (inl refl), rows_own whole rows ps (λ y h. in_whole y (inr h)) first)

  rows_brought : (bytes : List ℕ) (rows : List (List ℕ)) (ps : List Packet) → Has bytes rows →
      Brings (λ p. p.bytes ≡ bytes) (map rest_packet rows ++ ps)
  rows_brought bytes [] ps h = absurd h
  rows_brought bytes (x ∷ rows) ps (inl e) = inl (sym e)
  rows_brought bytes (x ∷ rows) ps (inr h) = inr (refl, rows_brought bytes rows ps h)

  pub queue_led : (sent : List Block) → AllByRecursion (IsPageBlock pages serial class) sent → IsLed (queue_packets serial sent queue)
  queue_led = queue_good serial queue (IsPageBlock pages serial class) IsLed (tt, tt)
      (λ m e ps more. (λ late. absurd (apart (sym late)), (λ early. inl (ap (time_filling_packet serial) e, more.0), more.1)))
      (λ block is e ps more. (
        λ late. absurd (apart (sym late)),
        (
          λ early. inr (record {
            header = block.header;
            rest = block.rest;
            of_page = subst (λ q. IsOfPage pages serial class q block.header block.rest) e is;
            header_is = refl;
            own = rows_own block.rest block.rest ps (λ x h. h) more.0;
            brings = λ bytes h. rows_brought bytes block.rest ps h;
          }),
          rows_tail (HeadsOwn pages serial class queue) (λ x ps early. absurd (apart early)) block.rest ps more.1,
        ),
      ))

-- the header of a block that is sent is in its queue
pub queue_has : (serial : Bool) (sent : List Block) (block : Block) → Has block sent →
    Has (header_packet block.header) (queue_packets serial sent block.queue)
queue_has serial sent block h = has_left (header_packet block.header) (flat_map mine sent) _ (there sent h)
  where
    mine : Block → List Packet
    mine b = cond (eqb b.queue block.queue) (packets_of serial b) []

    there : (sent : List Block) → Has block sent →
        Has (header_packet block.header) (flat_map (λ b. cond (eqb b.queue block.queue) (packets_of serial b) []) sent)
    there [] h = absurd h
    there (b ∷ sent) (inl e) =
        has_left (header_packet block.header) (mine b) (flat_map mine sent) (subst (λ x. Has (header_packet block.header) (mine x)) e
        (subst (Has (header_packet block.header)) (sym (cond-true (eqb block.queue block.queue) (packets_of serial block) [] (eq-eqb _ _ refl)))
        (has_right (header_packet block.header) (filler_of serial block) (page_packets block) (inl refl))))
    there (b ∷ sent) (inr h) = has_right (header_packet block.header) (mine b) (flat_map mine sent) (there sent h)
