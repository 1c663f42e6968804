-- Two pages with one id that say what a cycle sends first are the same page.
use Rattle.std.proofs.Common.{◌≡◌, ℕ, ◌+◌, ◌-◌, ◌/◌, ◌%◌, ◌^◌, ◌<◌, Bool, true, false, eqb, List, [], get_or, Option, Some, None, refl, sym, ap, ◌∙◌}
use Rattle.std.proofs.Common.{subst, arith, eqb-true}
use Rattle.std.proofs.lemmas.Bool.{eqb-false}
use Rattle.std.proofs.lemmas.List.{ext_get_or}
use Rattle.ttx_header.specs.Control.{c4, c11}
use Rattle.ttx_page.specs.Packets.{Packet, Empty, Unreadable, Header, Row, Links, Info, Other, packet_of}
use Rattle.ttx_page.specs.Pages.{Page, IsPage}
use Rattle.ttx_page.specs.declared.item.Item.TheVariants.{Head as TheHead, Row as TheRow, Links as TheLinks}
use Rattle.ttx_extract.specs.FirstSent.{HeadSays, HeadIsSent, IsSentPage, first_sent, row_of, links_of_slot, links_of_page}

record SameHead (p q : Page) : Type 0 where
  pub lower : p.control / 2 % 64 ≡ q.control / 2 % 64
  pub upper : p.control / 256 ≡ q.control / 256
  pub head : p.head ≡ q.head

both_say : (packet : Packet) (p q : Page) → HeadSays p packet → HeadSays q packet → SameHead p q
both_say Empty p q a b = absurd a
both_say Unreadable p q a b = absurd a
both_say (Header id control text) p q a b = record { lower = a.0 ∙ sym b.0; upper = a.1 ∙ sym b.1; head = a.2 ∙ sym b.2 }
both_say (Row mag number text) p q a b = absurd a
both_say (Links mag content) p q a b = absurd a
both_say Info p q a b = absurd a
both_say Other p q a b = absurd a

same_head : (o : Option (List ℕ)) (p q : Page) → HeadIsSent p o → HeadIsSent q o → SameHead p q
same_head None p q a b = absurd a
same_head (Some slot) p q a b = both_say (packet_of slot) p q a b

low_bit : (x : ℕ) → c4 x ≡ false → x % 2 ≡ 0
low_bit x e = let h = eqb-false (x / 2 ^ 0 % 2) 1 e in omega arith

by_test : (a b : ℕ) (s t : Bool) → eqb a 1 ≡ s → eqb b 1 ≡ t → s ≡ t → a < 2 → b < 2 → a ≡ b
by_test a b true true ea eb e la lb = eqb-true a 1 ea ∙ sym (eqb-true b 1 eb)
by_test a b true false ea eb e la lb = absurd (let h : true ≡ false = e in cc)
by_test a b false true ea eb e la lb = absurd (let h : false ≡ true = e in cc)
by_test a b false false ea eb e la lb = let x = eqb-false a 1 ea in let y = eqb-false b 1 eb in omega arith

same_bit : (x y : ℕ) → c11 x ≡ c11 y → x / 128 % 2 ≡ y / 128 % 2
same_bit x y e = by_test (x / 128 % 2) (y / 128 % 2) (eqb (x / 128 % 2) 1) (eqb (y / 128 % 2) 1) refl refl e (omega arith) (omega arith)

pub same_control : (x y : ℕ) → x % 2 ≡ 0 → y % 2 ≡ 0 → x / 128 % 2 ≡ y / 128 % 2 → x / 2 % 64 ≡ y / 2 % 64 → x / 256 ≡ y / 256 → x ≡ y
same_control x y a b c d e = omega arith

module _ (slots : List (List ℕ)) (lines : ℕ) (p q : Page) (is_p : IsPage p) (is_q : IsPage q) (same : p.id ≡ q.id) where
  module _ (sent_p : IsSentPage slots lines p) (sent_q : IsSentPage slots lines q) where
    heads : SameHead p q
    heads = same_head (first_sent slots lines p.id TheHead) p q sent_p.head
        (subst (λ id. HeadIsSent q (first_sent slots lines id TheHead)) (sym same) sent_q.head)

    controls : c11 p.control ≡ c11 q.control → p.control ≡ q.control
    controls e = same_control p.control q.control (low_bit p.control is_p.no_erase) (low_bit q.control is_q.no_erase)
        (same_bit p.control q.control e) heads.lower heads.upper

    row_at : (i : ℕ) → i < 24 → get_or p.rows i [] ≡ get_or q.rows i []
    row_at i lt =
        let there : i + 1 - 1 ≡ i = omega arith in
        let a = sent_p.rows (i + 1) (omega arith) (omega arith) in
        let b = sent_q.rows (i + 1) (omega arith) (omega arith) in
        ap (λ n. get_or p.rows n []) (sym there) ∙ a ∙ ap (λ id. row_of (first_sent slots lines id (TheRow (i + 1)))) same ∙ sym b
        ∙ ap (λ n. get_or q.rows n []) there

    rows : p.rows ≡ q.rows
    rows = ext_get_or [] p.rows q.rows (is_p.row_count ∙ sym is_q.row_count)
        (λ i lt. row_at i (let c = is_p.row_count in omega arith))

    links : links_of_page p ≡ links_of_page q
    links = sent_p.links ∙ ap (λ id. links_of_slot id.mag (first_sent slots lines id TheLinks)) same ∙ sym sent_q.links

    pub same_page : c11 p.control ≡ c11 q.control → p ≡ q
    same_page e =
        let control = controls e in
        λ i. record {
          id = same i;
          control = control i;
          head = heads.head i;
          rows = rows i;
          links = (links i).set;
          crc = (links i).crc;
        }
