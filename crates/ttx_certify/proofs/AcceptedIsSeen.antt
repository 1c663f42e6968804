-- If a cycle is accepted, its pages are seen.
use Rattle.std.proofs.Common.{◌≡◌, ℕ, zero, suc, ◌<◌, ℤ, pos, ◌+ℤ◌, ◌≤ℤ◌, true, List, [], ◌∷◌, length, get_or, refl, sym, ap}
use Rattle.std.proofs.Common.{subst, inl, inr, arith, slice_get, Some, eq-eqb}
use Rattle.std.proofs.lemmas.Int.{ints}
use Rattle.std.proofs.lemmas.List.Elements.{All-get_or}
use Rattle.std.specs.List.{AllByRecursion}
use Rattle.std.proofs.lemmas.Bool.{and_from}
use Rattle.ttx_packet.specs.Slots.{IsSlot}
use Rattle.ttx_header.specs.Ids.{Id, same_id}
use Rattle.ttx_page.specs.Packets.{Packet, Empty, Unreadable, Header, Row, Links, Info, Other, packet_of}
use Rattle.ttx_page.specs.Pages.{Page, Fits, matches, needed}
use Rattle.ttx_page.specs.declared.selection.Selection.{Selection}
use Rattle.ttx_page.specs.declared.selection.Selection.TheVariants.{Exact, AnySub}
use Rattle.ttx_page.specs.declared.item.Item.{Item}
use Rattle.ttx_page.specs.declared.item.Item.TheVariants.{Links as TheLinks}
use Rattle.ttx_page.specs.Streams.{Stream, repeated, turned, heads_page, heads_matched, IsRun, IsSureTransmission, HasSureRun}
use Rattle.ttx_page.specs.Steady.{SendsItsOwn}
use Rattle.ttx_page.specs.Laws.{EachSlotTurns, StreamsMove, RunsAreUnique, SteadySendsItsOwn, EachListRuns, ExactIsReceived, sent_from}
use Rattle.ttx_receiver.specs.Laws.{RunHoldsItsItem, IsSteadyFrom, IsBrought}
use Rattle.ttx_render.specs.Laws.{ShowingIsSeeing}
use Rattle.ttx_cycle.specs.Files.{IsCycle}
use Rattle.ttx_witness.specs.Coverage.{Certificate, IsCertificate, Accepts, limit}
use Rattle.ttx_certify.specs.Seen.{Seen}
use Rattle.ttx_certify.specs.Laws.{RunsAreSeen, ArePages, AcceptedIsSeen, EachTuningRuns}

pub runs_are_seen : RunHoldsItsItem → ShowingIsSeeing → RunsAreSeen
runs_are_seen holds sees s p sel class lines repeat begin end page few fits steady brought former m received is_former permitted run long =
    let each = λ (item : Item) (need : needed p item ≡ true).
    holds s p sel class lines repeat begin end page few fits steady item need (brought item need) former m received is_former permitted run long in
    sees p m page.head_length (record { control = (each TheLinks refl).0; items = λ item need. (each item need).1 })

-- the laws of streams that are cited
pub record StreamLaws : Type 0 where
  pub turn : EachSlotTurns
  pub move : StreamsMove
  pub one_run : RunsAreUnique
  pub own : SteadySendsItsOwn

-- the run from a slot whose place in the first period is named is sure
pub sure_run : StreamLaws → (cycle : List (List ℕ)) (page : Id) (lines repeat : ℕ) (item : Item) (i : ℤ) (rest : List ℤ) → 0 < length cycle →
    HasSureRun (repeated cycle) page lines repeat item (pos (turned (length cycle) i)) → IsRun (repeated cycle) page repeat item i rest →
    AllByRecursion (IsSureTransmission (repeated cycle) page lines item) (i ∷ rest)
sure_run laws cycle page lines repeat item i rest some first run =
    let s = repeated cycle in
    let t = laws.turn (length cycle) i some in
    let moves = laws.move s t.by (λ j. ap (λ n. get_or cycle n []) (t.same j)) in
    let here : HasSureRun s page lines repeat item i =
    subst (λ z. HasSureRun s page lines repeat item z) (sym t.place) (moves.run page lines repeat item (pos (turned (length cycle) i)) first) in
    subst (λ xs. AllByRecursion (IsSureTransmission s page lines item) (i ∷ xs))
    (laws.one_run s page repeat item i here.rest rest here.run run) here.all_sure

pub fits_matches : (pages : List Page) (p : Page) (sel : Selection) → Fits pages p sel → matches sel p.id ≡ true
fits_matches pages p (Exact id) f =
    let e = λ (n : ℕ). eq-eqb n n refl in
    subst (λ own. same_id own p.id ≡ true) (sym f) (and_from _ _ (and_from _ _ (e p.id.mag) (e p.id.page)) (e p.id.sub))
fits_matches pages p (AnySub mag number) f = and_from _ _ (eq-eqb mag p.id.mag f.0) (eq-eqb number p.id.page f.1)

-- the headers that a fitting selection matches are the page's
pub selected_page : (s : Stream) (pages : List Page) (p : Page) → SendsItsOwn s pages p → (sel : Selection) → Fits pages p sel → (j : ℤ) →
    heads_matched sel (packet_of (s j)) ≡ true → heads_page p.id (packet_of (s j)) ≡ true
selected_page s pages p steady (Exact id) f j h = exactly (packet_of (s j)) (subst (λ own. heads_matched (Exact own) (packet_of (s j)) ≡ true) f h)
  where
    exactly : (packet : Packet) → heads_matched (Exact p.id) packet ≡ true → heads_page p.id packet ≡ true
    exactly (Header id control text) h = h
    exactly (Row m n t) h = h
    exactly (Links m content) h = h
    exactly Empty h = h
    exactly Unreadable h = h
    exactly Info h = h
    exactly Other h = h
selected_page s pages p steady (AnySub mag number) f j h =
    steady.only_subpage f.2 j (subst (λ n. heads_matched (AnySub p.id.mag n) (packet_of (s j)) ≡ true) f.1
    (subst (λ m. heads_matched (AnySub m number) (packet_of (s j)) ≡ true) f.0 h))

module _ (laws : StreamLaws) (cycle : List (List ℕ)) (pages : List Page) (w : Certificate) (is_cycle : IsCycle cycle)
    (are_pages : ArePages pages) (is_certificate : IsCertificate w)
    (accepts : Accepts cycle pages w) (n : ℕ) (p : Page) (here : slice_get pages n ≡ Some p) where
  pub steady_from : (sel : Selection) → Fits pages p sel → (tau : ℤ) → IsSteadyFrom (repeated cycle) p sel tau
  steady_from sel fits tau =
      let own = (laws.own (repeated cycle) pages p (are_pages n p here)).0 (accepts.steady n p here) in
      let inside = λ (j : ℤ). (laws.turn (length cycle) j is_cycle.some).inside in
      record {
        slots = λ j _. All-get_or IsSlot cycle (turned (length cycle) j) [] (inside j) is_cycle.each;
        clean = λ j _. accepts.clean (turned (length cycle) j) (inside j);
        selected = λ j _ h. selected_page (repeated cycle) pages p own sel fits j h;
        items = λ item checked h j _ owned. own.items item checked h j owned;
      }

  pub brought : (tau : ℤ) (item : Item) → needed p item ≡ true → IsBrought (repeated cycle) p w.class w.lines w.repeat item tau (tau +ℤ pos (limit w))
  brought tau item need = elim (accepts.covered n p here item need) as
      (λ _. IsBrought (repeated cycle) p w.class w.lines w.repeat item tau (tau +ℤ pos (limit w))) [
        | inl c ↦
            let t = c.in_time tau in
            inl (record {
              first = t.0;
              rest = t.5.rest;
              owner = t.1;
              owned = t.3;
              not_before = t.4;
              run = t.5.run;
              all_sure = sure_run laws cycle p.id w.lines w.repeat item t.0 t.5.rest is_cycle.some (c.sure (turned (length cycle) t.0) t.2).1 t.5.run;
              ends = t.5.ends;
            })
        | inr l ↦
            let t = l.in_time tau in
            inr (l.clearing, l.blank, record { slot = t.0; not_before = t.1; before = t.2; is_header = t.3 })
      ]

  seen : RunsAreSeen → Seen cycle pages p w
  seen runs = record {
    shown = λ sel fits tau former m received is_former permitted long run.
        let late : (tau +ℤ pos (limit w)) ≤ℤ (tau +ℤ pos (length received)) = omega (arith, ints, long) in
        runs (repeated cycle) p sel w.class w.lines w.repeat tau (tau +ℤ pos (limit w)) (are_pages n p here) is_certificate.few_lines
        (fits_matches pages p sel fits)
        (steady_from sel fits tau) (brought tau) former m received is_former permitted run late;
  }

pub accepted_is_seen : RunsAreSeen → StreamLaws → AcceptedIsSeen
accepted_is_seen runs laws cycle pages w is_cycle are_pages is_certificate accepts n p here =
    seen laws cycle pages w is_cycle are_pages is_certificate accepts n p here runs

length-sent_from : (s : Stream) (tau : ℤ) (n : ℕ) → length (sent_from s tau n) ≡ n
length-sent_from s tau zero = refl
length-sent_from s tau (suc n) = ap suc (length-sent_from s (tau +ℤ pos 1) n)

pub each_tuning_runs : EachSlotTurns → EachListRuns → ExactIsReceived → EachTuningRuns
each_tuning_runs turn runs exact cycle is_cycle page class lines repeat some sel former tau n =
    let s = repeated cycle in
    let run = runs class lines sel former (sent_from s tau n) in
    record {
      received = sent_from s tau n;
      size = length-sent_from s tau n;
      permitted = exact s page repeat tau n
          (λ j. All-get_or IsSlot cycle (turned (length cycle) j) [] (turn (length cycle) j is_cycle.some).inside is_cycle.each)
          some;
      memory = run.0;
      run = run.1;
    }
