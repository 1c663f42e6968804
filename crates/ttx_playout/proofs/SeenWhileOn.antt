-- What is handed on is seen as long as it stays.
use Rattle.std.proofs.Common.{◌≡◌, ℕ, zero, suc, ◌≤◌, ℤ, pos, ◌+ℤ◌, ◌<ℤ◌, ◌≤ℤ◌, List, [], ◌∷◌, length, take, refl, sym, ◌∙◌, subst, arith}
use Rattle.std.proofs.lemmas.Int.{ints}
use Rattle.ttx_page.specs.Pages.{Page}
use Rattle.ttx_page.specs.declared.selection.Selection.{Selection}
use Rattle.ttx_page.specs.declared.class.Class.TheVariants.{Any}
use Rattle.ttx_page.specs.Streams.{Stream}
use Rattle.ttx_witness.specs.Coverage.{limit}
use Rattle.ttx_certify.proofs.AcceptedIsSeen.{fits_matches}
use Rattle.ttx_proof.specs.Carried.{Carries, CarriedIsSeen}
use Rattle.ttx_proof.proofs.BridgedIsSeen.{place_of}
use Rattle.ttx_playout.specs.Schedules.{Edition, Showing, edition_at, sent, IsEdition, AreEditions, IsHandedOn, HasBegun, IsStillOn, Stands, StaysOn}
use Rattle.ttx_playout.specs.Laws.{SentSoFarIsSeen, HandedOnIsSeen, AlwaysSeen, LatestIsSeen}
use Rattle.ttx_playout.proofs.SentEditions.{cut_same}
use Rattle.ttx_playout.proofs.CarriedThrough.{CarriedLaws, carried_from}

pub edition_is : (first : Edition) (later : List Showing) (n : ℕ) → AreEditions first later → IsEdition (edition_at first later n)
edition_is first [] zero are = are
edition_is first [] (suc n) are = are
edition_is first (t ∷ later) zero are = are.0
edition_is first (t ∷ later) (suc n) are = edition_is t.edition later n are.1

pub first_is : (first : Edition) (later : List Showing) → AreEditions first later → IsEdition first
first_is first [] are = are
first_is first (t ∷ later) are = are.0

-- the class of the first edition is any
pub first_class : (first : Edition) (later : List Showing) → IsHandedOn first later → first.certificate.class ≡ Any
first_class first [] handed = handed.1
first_class first (t ∷ later) handed = handed.0.1.old_class

-- up to the end of a reception the stream is that of the schedule, cut after edition `to`
pub same_so_far : (first : Edition) (later : List Showing) (s : Stream) (start now : ℤ) →
    ((i : ℤ) → start ≤ℤ i → i <ℤ now → s i ≡ sent first later i) → (to : ℕ) (end : ℤ) → end ≤ℤ now → IsStillOn later to end →
    (i : ℤ) → start ≤ℤ i → i <ℤ end → s i ≡ sent first (take to later) i
same_so_far first later s start now same to end until on i low lt =
    same i low (omega (arith, ints)) ∙ sym (cut_same first later to i (λ more. let k = on more in omega (arith, ints)))

-- what is sent to receivers of class any
pub carried_any : CarriedLaws → (first : Edition) (later : List Showing) (p : Page) (sel : Selection) (from to : ℕ) → AreEditions first later →
    IsHandedOn first later → from ≤ to → to ≤ length later → StaysOn first later p sel from to → (begin : ℤ) → HasBegun later from begin →
    Carries (sent first (take to later)) p sel Any first.certificate.lines first.certificate.repeat (limit first.certificate) begin
carried_any laws first later p sel from to are handed le inside stays begin begun =
    let w = first.certificate in
    subst (λ class. Carries (sent first (take to later)) p sel class w.lines w.repeat (limit w) begin) (first_class first later handed)
    (carried_from laws p sel first later from to are handed le inside stays begin begun)

pub sent_so_far_is_seen : CarriedLaws → CarriedIsSeen → SentSoFarIsSeen
sent_so_far_is_seen laws seen first later are handed s start now same p sel from to le inside stays tau begin former m received
    after before begun is_former permitted long until on run =
    let w = first.certificate in
    let end = tau +ℤ pos (length received) in
    let stands = stays from (omega arith) le in
    let place = place_of (edition_at first later from).pages p stands.listed in
    seen s (sent first (take to later)) start end (same_so_far first later s start now same to end until on) p sel Any w.lines w.repeat (limit w)
    begin ((edition_is first later from are).pages place.0 p place.1) (first_is first later are).certificate.few_lines
    (fits_matches (edition_at first later from).pages p sel stands.fits) after
    (carried_any laws first later p sel from to are handed le inside stays begin begun) tau former m received before is_former permitted long
    (omega (arith, ints)) run

pub handed_on_is_seen : SentSoFarIsSeen → HandedOnIsSeen
handed_on_is_seen so_far first later are handed p sel from to le inside stays = record {
  shown = λ tau begin former m received before begun is_former permitted long on run.
      so_far first later are handed (sent first later) begin (tau +ℤ pos (length received)) (λ i _ _. refl) p sel from to le inside stays tau begin
      former m received (omega (arith, ints)) before begun is_former permitted long (omega (arith, ints)) on run;
}

pub always_seen : HandedOnIsSeen → AlwaysSeen
always_seen seen first later are handed p sel all tau former m received is_former permitted long run =
    (seen first later are handed p sel 0 (length later) (omega arith) (omega arith) (λ n _ _. all n)).shown tau tau former m received
    (omega (arith, ints)) tt is_former permitted (omega (arith, ints)) (λ more. absurd (omega arith)) run

pub latest_is_seen : HandedOnIsSeen → LatestIsSeen
latest_is_seen seen first later are handed p sel stands tau begin former m received before begun is_former permitted long run =
    (seen first later are handed p sel (length later) (length later) (omega arith) (omega arith)
    (λ n low high. let e : length later ≡ n = omega arith in subst (λ k. Stands (edition_at first later k) p sel) e stands)).shown
    tau begin former m received before begun is_former permitted long (λ more. absurd (omega arith)) run
