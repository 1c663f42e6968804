-- The starts that a certificate names for an item are slots, and rise.
use Rattle.std.proofs.Common.{ℕ, ◌<◌, not, ◌&&◌, nat_lt, List, [], ◌∷◌, length, slice_index_or, arith}
use Rattle.std.specs.List.{AllByRecursion}
use Rattle.std.proofs.lemmas.Bool.{and_parts, cond_both, ltb-true}
use Rattle.std.proofs.lemmas.List.Sums.{AllPass-from_list_all}
use Rattle.ttx_header.specs.Ids.{Id, same_id}
use Rattle.ttx_page.specs.declared.item.Item.{Item}
use Rattle.ttx_certificate.specs.CertificateLaws.{CertificatesKeepTheirRules}
use Rattle.ttx_certificate.specs.Certificates.{certificate_of}
use Rattle.ttx_certificate.specs.Entries.{EntryFields, IsEntry, are_none, are_slots, rises, same_item, starts_in}
use Rattle.ttx_certificate.specs.declared.certificates.Certificate.{Certificate as CertificateValue}
use Rattle.ttx_certify.specs.walks.PackedTracks.{AreSlots}

abbrev AreSmall : List ℕ → Type 0
AreSmall starts = (i : ℕ) → i < length starts → slice_index_or starts i 0 < 65536

entry_small : (e : EntryFields) → IsEntry e → AreSmall e.starts
entry_small e is i lt =
    let front = and_parts (not (are_none e.starts) && are_slots e.starts) (rises e.starts) is.starts in
    let slots = and_parts (not (are_none e.starts)) (are_slots e.starts) front.0 in
    ltb-true (slice_index_or e.starts i 0) 65536 (AllPass-from_list_all (λ n. nat_lt n 65536) e.starts slots.1 i 0 lt)

starts_small : (es : List EntryFields) → AllByRecursion IsEntry es → (page : Id) (item : Item) → AreSmall (starts_in es page item)
starts_small [] all page item = λ i lt. absurd (omega arith)
starts_small (e ∷ es) all page item =
    cond_both (same_id e.page page && same_item e.item item) e.starts (starts_in es page item) AreSmall
    (λ _. entry_small e all.0) (λ _. starts_small es all.1 page item)

pub named_slots : CertificatesKeepTheirRules → (w : CertificateValue) (page : Id) (item : Item) → AreSlots ((certificate_of w).starts page item)
named_slots rules w page item = record {
  rising = (rules w).1.rising page item;
  small = starts_small _ (rules w).0.entries page item;
}
