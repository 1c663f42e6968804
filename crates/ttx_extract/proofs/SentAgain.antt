-- The transmissions of pages are those of any pages with the same ids.
use Rattle.std.proofs.Common.{◌≡◌, ℕ, ◌*◌, List, length, map, slice_get, sym, ap, ◌∙◌}
use Rattle.std.proofs.lemmas.List.{length-map}
use Rattle.std.proofs.lemmas.Option.{slice_get-map}
use Rattle.std.specs.Option.{option_map}
use Rattle.ttx_header.specs.Ids.{Id}
use Rattle.ttx_page.specs.Pages.{Page}
use Rattle.ttx_witness.specs.sent.AllSent.{AreAllSent}
use Rattle.ttx_witness.specs.sent.ItemTransmissions.{sent_in}
use Rattle.ttx_witness.specs.declared.sent.collected.Collected.{Collected}
use Rattle.ttx_extract.proofs.Lists.{made_at}

abbrev pub id_in : Page → Id
id_in p = p.id

same_length : (ps qs : List Page) → map id_in ps ≡ map id_in qs → length ps ≡ length qs
same_length ps qs e = sym (length-map ps id_in) ∙ ap length e ∙ length-map qs id_in

pub sent_again : (slots : List (List ℕ)) (lines : ℕ) (c : Collected) (ps qs : List Page) → map id_in ps ≡ map id_in qs → AreAllSent slots ps lines c →
    AreAllSent slots qs lines c
sent_again slots lines c ps qs e sent = record {
  count = sent.count ∙ ap (λ n. 26 * n) (same_length ps qs e);
  each = λ i q item here is.
      let at = made_at id_in ps i q.id (ap (λ ids. slice_get ids i) e ∙ slice_get-map id_in qs i ∙ ap (option_map id_in) here) in
      sent.each i at.0 item at.1 is ∙ ap (λ id. sent_in slots id lines item) at.2;
}
