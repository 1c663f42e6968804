-- The lines of packets whose fields are shown.
use Rattle.std.proofs.Common.{◌≡◌, ℕ, List, [], ◌∷◌, ◌++◌, codes, refl, sym, ap, ◌∙◌, rules, append_assoc}
use Rattle.std.specs.Fmt.{decimal}
use Rattle.ttx_packet.specs.Slots.{Kind, IsInfo, kind_of}
use Rattle.ttx_info.specs.Infos.{info_of}
use Rattle.ttx_lines.specs.Lines.{packet_text, slot_text, info_text, corrected_mark, packet_line, slot_line}

-- the parts of a line, joined in the order in which they are written
joined : (at name fields mark : List ℕ) → (((at ++ 32 ∷ name) ++ fields) ++ mark) ++ 10 ∷ [] ≡ (at ++ 32 ∷ ((name ++ fields) ++ mark)) ++ 10 ∷ []
joined at name fields mark = search (rules, append_assoc)

-- a packet with this number, kind and fields
pub field_line : (slot mag number : ℕ) (name fields s : List ℕ) (kind : Kind) (other : ℕ) →
    slot_text s kind ≡ packet_text mag other name ++ fields ++ corrected_mark s → kind_of s ≡ kind → number ≡ other →
    packet_line slot (packet_text mag number name) fields s ≡ slot_line slot s
field_line slot mag number name fields s kind other shows same is_other =
    joined (decimal slot) (packet_text mag number name) fields (corrected_mark s)
    ∙ ap (λ n. (decimal slot ++ 32 ∷ ((packet_text mag n name ++ fields) ++ corrected_mark s)) ++ 10 ∷ []) is_other
    ∙ ap (λ t. (decimal slot ++ 32 ∷ t) ++ 10 ∷ []) (sym shows ∙ ap (slot_text s) (sym same))

-- a packet 8/30
pub info_line : (slot mag number : ℕ) (s : List ℕ) → kind_of s ≡ IsInfo → mag ≡ 8 → number ≡ 30 →
    packet_line slot (packet_text mag number (codes "info")) (info_text (info_of s)) s ≡ slot_line slot s
info_line slot mag number s same is_mag is_number =
    ap (λ m. packet_line slot (packet_text m number (codes "info")) (info_text (info_of s)) s) is_mag
    ∙ field_line slot 8 number (codes "info") (info_text (info_of s)) s IsInfo 30 refl same is_number
