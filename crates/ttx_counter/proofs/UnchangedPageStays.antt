-- A page that is sent unchanged stays in the View of a receiver that holds it at first.
use Rattle.std.proofs.Common.{◌≡◌, Bool, true, false, ◌&&◌, [], refl, sym, subst, eq-eqb}
use Rattle.ttx_page.specs.Packets.{packet_of}
use Rattle.ttx_page.specs.Pages.{Page, Fits, matches}
use Rattle.std.specs.Prelude.{List}
use Rattle.std.proofs.lemmas.Bool.{and_from}
use Rattle.ttx_page.specs.declared.selection.Selection.{Selection}
use Rattle.ttx_page.specs.declared.selection.Selection.TheVariants.{Exact, AnySub}
use Rattle.ttx_page.specs.declared.class.Class.TheVariants.{Any}
use Rattle.ttx_page.specs.Memories.{memory_of_page}
use Rattle.ttx_page.specs.Receivers.{Run}
use Rattle.ttx_page.specs.Streams.{Stream, heads_matched}
use Rattle.ttx_page.specs.Steady.{SendsItsOwn}
use Rattle.ttx_page.specs.Laws.{sent_from, PageIsShown, ScriptedRuns, SteadySendsItsOwn}
use Rattle.ttx_receiver.specs.Staying.{SendsOnly, ShownStaysShown}
use Rattle.ttx_render.specs.Laws.{ShowingIsSeeing}
use Rattle.ttx_counter.specs.Sources.{SteadyPagesStay}
use Rattle.ttx_counter.proofs.PlainRuns.{unscripted}
use Rattle.ttx_counter.proofs.SeenIsCovered.{exact_matches, exactly}

pub record StayingLaws : Type 0 where
  pub shown : PageIsShown
  pub scripted : ScriptedRuns
  pub own : SteadySendsItsOwn
  pub kept : ShownStaysShown
  pub seen : ShowingIsSeeing

fitting : (pages : List Page) (p : Page) (sel : Selection) → Fits pages p sel → matches sel p.id ≡ true
fitting pages p (Exact id) fits = subst (λ x. matches (Exact x) p.id ≡ true) (sym fits) (exact_matches p.id)
fitting pages p (AnySub mag page) fits = and_from _ _ (eq-eqb mag p.id.mag fits.0) (eq-eqb page p.id.page fits.1)

only : (s : Stream) (pages : List Page) (p : Page) (sel : Selection) → Fits pages p sel → SendsItsOwn s pages p → SendsOnly s p sel
only s pages p (Exact id) fits own = record {
  selected = λ j h. exactly p.id (packet_of (s j)) (subst (λ x. heads_matched (Exact x) (packet_of (s j)) ≡ true) fits h);
  items = own.items;
}
only s pages p (AnySub mag page) fits own = record {
  selected = λ j h. own.only_subpage fits.2 j
      (subst (λ x. heads_matched (AnySub p.id.mag x) (packet_of (s j)) ≡ true) fits.1
      (subst (λ x. heads_matched (AnySub x page) (packet_of (s j)) ≡ true) fits.0 h));
  items = own.items;
}

pub stays : StayingLaws → SteadyPagesStay
stays laws s pages p sel lines n tau page known fits steady =
    let m = memory_of_page p in
    let run = subst (Run Any lines sel m (sent_from s tau n)) (unscripted lines sel m s tau n)
    (laws.scripted Any lines sel [] m (sent_from s tau n)) in
    laws.seen p _ page.head_length
    (laws.kept s p sel Any lines n tau page (fitting pages p sel fits)
    (only s pages p sel fits ((laws.own s pages p page).0 steady)) m _ known refl refl (laws.shown p page) run)
