-- A page that stays is carried: by one edition, across one change, and through all of a schedule.
use Rattle.std.proofs.Common.{◌≡◌, ℕ, zero, suc, ◌+◌, ◌*◌, ◌<◌, ◌≤◌, ℤ, pos, ◌+ℤ◌, ◌-ℤ◌, ◌<ℤ◌, ◌≤ℤ◌, true, List, [], ◌∷◌, length}
use Rattle.std.proofs.Common.{get_or, take, sym, ap, ◌∙◌, subst, arith}
use Rattle.std.proofs.lemmas.Int.{ints}
use Rattle.ttx_page.specs.Packets.{packet_of}
use Rattle.ttx_page.specs.Pages.{Page}
use Rattle.ttx_page.specs.declared.selection.Selection.{Selection}
use Rattle.ttx_page.specs.Streams.{Stream, repeated, turned, heads}
use Rattle.ttx_page.specs.Laws.{EachSlotTurns}
use Rattle.ttx_witness.specs.Coverage.{Certificate, IsCertificate, Accepts, limit}
use Rattle.ttx_proof.specs.Splices.{Splice, stream, NumbersAgree}
use Rattle.ttx_proof.specs.Laws.{IsSplice}
use Rattle.ttx_proof.specs.Verdicts.{IsSpliceVerdict}
use Rattle.ttx_proof.specs.declared.verdict.SpliceVerdict.TheVariants.{Yes}
use Rattle.ttx_proof.specs.Carried.{Carries, IsCarried, AgreeingStreamsBring, AgreeingStreamsCarry, AcceptedIsCarried, CommonIsCarried}
use Rattle.ttx_proof.proofs.NamedStarts.{turned_start}
use Rattle.ttx_proof.proofs.BridgedIsSeen.{place_of}
use Rattle.ttx_page.proofs.Owners.{page_heads}
use Rattle.ttx_playout.specs.Schedules.{Edition, Showing, span, sent, IsEdition, AreEditions, change, IsHandedOn, Stands}
use Rattle.ttx_playout.specs.Schedules.{StaysOn, HasBegun}
use Rattle.ttx_playout.proofs.Changes.{carries_over}
use Rattle.ttx_playout.proofs.SentEditions.{above, last_change, next_change, cut_editions, cut_handed}

-- the laws that are cited
pub record CarriedLaws : Type 0 where
  pub turn : EachSlotTurns
  pub bring : AgreeingStreamsBring
  pub carry : AgreeingStreamsCarry
  pub accepted : AcceptedIsCarried
  pub common : CommonIsCarried

same_numbers : (s : Stream) (p : Page) (sel : Selection) (v w : Certificate) → NumbersAgree v w → (begin : ℤ) → IsCarried s p sel w begin →
    IsCarried s p sel v begin
same_numbers s p sel v w a begin carried =
    let e : w.deadline * w.lines ≡ v.deadline * v.lines =
    ap (λ x. x * w.lines) (sym a.deadline) ∙ ap (λ x. v.deadline * x) (sym a.lines) in
    subst (λ k. Carries s p sel k v.lines v.repeat (v.deadline * v.lines) begin) (a.new_class ∙ sym a.old_class)
    (subst (λ l. Carries s p sel w.class l v.repeat (v.deadline * v.lines) begin) (sym a.lines)
    (subst (λ r. Carries s p sel w.class w.lines r (v.deadline * v.lines) begin) (sym a.repeat)
    (subst (λ z. Carries s p sel w.class w.lines w.repeat z begin) e carried)))

pub some_deadline : (w : Certificate) → IsCertificate w → 1 ≤ limit w
some_deadline w is = product w.deadline w.lines is.some_fields is.some_lines
  where
    product : (m n : ℕ) → 1 ≤ m → 1 ≤ n → 1 ≤ m * n
    product zero n a b = absurd (omega arith)
    product (suc m) n a b = omega arith

-- what lasts as long as a deadline lasts as long as a period
pub one_period : (m n limit : ℕ) → 1 ≤ limit → limit ≤ m * n → n ≤ m * n
one_period zero n limit some le = absurd (omega arith)
one_period (suc m) n limit some le = omega arith

module _ (laws : CarriedLaws) (p : Page) (sel : Selection) where
  -- the page is carried from any tuning slot on
  abbrev Throughout : Stream → Certificate → Type 0
  Throughout s w = (tau : ℤ) → IsCarried s p sel w tau

  alone : (e : Edition) → IsEdition e → Accepts e.cycle e.pages e.certificate → Stands e p sel → Throughout (repeated e.cycle) e.certificate
  alone e is accepts stands tau =
      let place = place_of e.pages p stands.listed in
      laws.accepted e.cycle e.pages e.certificate is.cycle is.pages is.certificate accepts place.0 p place.1 sel stands.fits tau

  -- an edition of the page has a header of its magazine in the first period
  pub first_header_of : (e : Edition) → IsEdition e → Accepts e.cycle e.pages e.certificate → Stands e p sel →
      (k : ℕ) × (k < length e.cycle) × (heads p.id.mag (packet_of (repeated e.cycle (pos k))) ≡ true)
  first_header_of e is accepts stands =
      let y = place_of e.pages p stands.listed in
      let h = (accepts.steady y.0 p y.1).header in
      let inside = (laws.turn (length e.cycle) h.slot is.cycle.some).inside in
      let same : repeated e.cycle (pos (turned (length e.cycle) h.slot)) ≡ repeated e.cycle h.slot =
      ap (λ m. get_or e.cycle m []) (turned_start (length e.cycle) (turned (length e.cycle) h.slot) inside) in (
        turned (length e.cycle) h.slot,
        inside,
        ap (λ x. heads p.id.mag (packet_of x)) same ∙ page_heads p.id (packet_of (repeated e.cycle h.slot)) h.is_header,
      )

  -- one accepted change
  module _ (old new : Edition) (old_is : IsEdition old) (new_is : IsEdition new) (yes : IsSpliceVerdict (change old new) Yes)
      (before : Stands old p sel) (after : Stands new p sel) where
    abbrev c : Splice
    c = change old new

    abbrev is : IsSplice c
    is = record {
      old = old_is.cycle;
      new = new_is.cycle;
      old_pages = old_is.pages;
      new_pages = new_is.pages;
      old_certificate = old_is.certificate;
      new_certificate = new_is.certificate;
    }

    pair : Throughout (stream c) new.certificate
    pair tau = laws.common c is yes.0 yes.1 yes.2 p (before.listed, after.listed) sel before.fits after.fits tau

    pub changed : (s rest : Stream) (d until : ℤ) → ((i : ℤ) → i <ℤ until → s i ≡ stream c i) → ((i : ℤ) → pos 0 ≤ℤ i → s i ≡ rest (i -ℤ d)) →
        pos (limit new.certificate) ≤ℤ until → pos (length new.cycle) ≤ℤ until →
        Throughout rest new.certificate → Throughout s old.certificate
    changed s rest d until low high long period goes_on tau =
        let h = first_header_of new new_is yes.0.new after in
        let inside = h.1 in
        same_numbers s p sel old.certificate new.certificate yes.1 tau
        (carries_over laws.bring laws.carry s (stream c) rest d until low high p sel new.certificate.class new.certificate.lines
        new.certificate.repeat (limit new.certificate) long pair goes_on (pos h.0) (omega (arith, ints)) (omega (arith, ints))
        (ap (λ x. heads p.id.mag (packet_of x)) (low (pos h.0) (omega (arith, ints))) ∙ h.2) tau)

  -- the page is in all editions
  abbrev pub StandsThrough : Edition → List Showing → Type 0
  StandsThrough first [] = Stands first p sel
  StandsThrough first (t ∷ later) = Stands first p sel × StandsThrough t.edition later

  pub carried_through : (first : Edition) (later : List Showing) → AreEditions first later → IsHandedOn first later → StandsThrough first later →
      Throughout (sent first later) first.certificate
  carried_through first [] are handed all = alone first are handed.0 all
  carried_through first (t ∷ []) are handed all =
      changed first t.edition are.0 are.1 handed.0 all.0 all.1 (sent first (t ∷ [])) (sent t.edition []) (pos (span t))
      (pos (limit t.edition.certificate + length t.edition.cycle)) (λ i lt. last_change first t i) (above first t [])
      (omega (arith, ints)) (omega (arith, ints)) (carried_through t.edition [] are.1 handed.2 all.1)
  carried_through first (t ∷ next ∷ later) are handed all =
      let period = one_period t.periods (length t.edition.cycle) (limit t.edition.certificate)
      (some_deadline t.edition.certificate are.1.0.certificate) handed.1 in
      changed first t.edition are.0 are.1.0 handed.0 all.0 all.1.0 (sent first (t ∷ next ∷ later)) (sent t.edition (next ∷ later))
      (pos (span t)) (pos (span t)) (next_change first t (next ∷ later)) (above first t (next ∷ later))
      (let k = handed.1 in omega (arith, ints)) (omega (arith, ints)) (carried_through t.edition (next ∷ later) are.1 handed.2 all.1)

  pub stands_through : (first : Edition) (later : List Showing) (to : ℕ) → StaysOn first later p sel 0 to → StandsThrough first (take to later)
  stands_through first [] zero stays = stays 0 (omega arith) (omega arith)
  stands_through first [] (suc to) stays = stays 0 (omega arith) (omega arith)
  stands_through first (t ∷ later) zero stays = stays 0 (omega arith) (omega arith)
  stands_through first (t ∷ later) (suc to) stays = (
    stays 0 (omega arith) (omega arith),
    stands_through t.edition later to (λ n low high. stays (suc n) (omega arith) (omega arith)),
  )

  -- the page is carried from the beginning of edition `from` on, if the schedule is cut after edition `to`
  pub carried_from : (first : Edition) (later : List Showing) (from to : ℕ) → AreEditions first later → IsHandedOn first later →
      from ≤ to → to ≤ length later → StaysOn first later p sel from to → (begin : ℤ) → HasBegun later from begin →
      IsCarried (sent first (take to later)) p sel first.certificate begin
  carried_from first later zero to are handed le inside stays begin begun =
      carried_through first (take to later) (cut_editions first later to are) (cut_handed first later to handed)
      (stands_through first later to stays) begin
  carried_from first later (suc from) zero are handed le inside stays begin begun = absurd (omega arith)
  carried_from first [] (suc from) (suc to) are handed le inside stays begin begun = absurd (omega arith)
  carried_from first (t ∷ later) (suc from) (suc to) are handed le inside stays begin begun =
      let d = pos (span t) in
      let rest = carried_from t.edition later from to are.1 handed.2 (omega arith) (omega arith)
      (λ n low high. stays (suc n) (omega arith) (omega arith)) (begin -ℤ d) (begun_later from begun) in
      let e : (begin -ℤ d) +ℤ d ≡ begin = omega (arith, ints) in
      same_numbers (sent first (t ∷ take to later)) p sel first.certificate t.edition.certificate handed.0.1 begin
      (subst (IsCarried (sent first (t ∷ take to later)) p sel t.edition.certificate) e
      (laws.carry (sent t.edition (take to later)) (sent first (t ∷ take to later)) d (begin -ℤ d)
      (λ i low. let f : (i +ℤ d) -ℤ d ≡ i = omega (arith, ints) in
      above first t (take to later) (i +ℤ d) (omega (arith, ints)) ∙ ap (sent t.edition (take to later)) f)
      p sel t.edition.certificate.class t.edition.certificate.lines t.edition.certificate.repeat (limit t.edition.certificate) rest))
    where
      begun_later : (n : ℕ) → HasBegun (t ∷ later) (suc n) begin → HasBegun later n (begin -ℤ pos (span t))
      begun_later zero b = tt
      begun_later (suc n) b = omega (arith, ints)
