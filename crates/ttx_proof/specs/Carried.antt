-- What a stream carries of a page, and who sees it. Each law is proved by the function of its name in `laws`.
--
--   Carries, IsCarried      from a slot on, receivers of a page are sent only the page, and each needed item comes in time
--   AgreeingStreamsBring    if two streams are the same between two slots, one of them some slots later, both bring the same there
--   AgreeingStreamsCarry    if they are the same from a slot on, both carry the same pages
--   AgreeingStreamsAreReceived      if they are the same up to a slot, a reception of one is a reception of the other
--   AcceptedIsCarried       an accepted cycle carries each of its pages, from any tuning slot on
--   CommonIsCarried         an accepted splice carries each page that stays
--   IsTunedBy               from when on a receiver is tuned to the page
--   CarriedIsSeen           a page that is carried is seen, whatever was sent before and whatever comes later
use Rattle.std.specs.Prelude.{◌≡◌, ℕ, ◌≤◌, ℤ, pos, ◌+ℤ◌, ◌<ℤ◌, ◌≤ℤ◌, true, List, length, slice_get, Some}
use Rattle.ttx_header.specs.Ids.{Id}
use Rattle.ttx_page.specs.Pages.{Page, IsPage, Fits, matches, needed}
use Rattle.ttx_page.specs.declared.selection.Selection.{Selection}
use Rattle.ttx_page.specs.declared.item.Item.{Item}
use Rattle.ttx_page.specs.declared.class.Class.{Class}
use Rattle.ttx_page.specs.declared.class.Class.TheVariants.{Any, Clearing}
use Rattle.ttx_page.specs.Memories.{Memory, IsFormer}
use Rattle.ttx_page.specs.Receivers.{Run}
use Rattle.ttx_page.specs.Streams.{Stream, repeated}
use Rattle.ttx_page.specs.Receptions.{Received}
use Rattle.ttx_receiver.specs.Laws.{IsSteadyFrom, IsBrought}
use Rattle.ttx_cycle.specs.Files.{IsCycle}
use Rattle.ttx_witness.specs.Coverage.{Certificate, IsCertificate, Accepts, limit}
use Rattle.ttx_certify.specs.Seen.{HasView}
use Rattle.ttx_certify.specs.Laws.{ArePages}
use Rattle.ttx_proof.specs.Splices.{Splice, stream, IsCommon, NumbersAgree, Joins}
use Rattle.ttx_proof.specs.Laws.{IsSplice, BothAccepted}

-- From slot begin on, receivers of the page are sent only the page, and each item that a viewer needs comes within `limit` slots.
pub record Carries (s : Stream) (p : Page) (sel : Selection) (class : Class) (lines repeat limit : ℕ) (begin : ℤ) : Type 0 where
  pub steady : IsSteadyFrom s p sel begin
  pub brought : (item : Item) → needed p item ≡ true → IsBrought s p class lines repeat item begin (begin +ℤ pos limit)

-- with the numbers of a certificate
abbrev pub IsCarried : Stream → Page → Selection → Certificate → ℤ → Type 0
IsCarried s p sel w begin = Carries s p sel w.class w.lines w.repeat (limit w) begin

-- from slot begin to slot end, t is s moved by d slots
abbrev pub AgreeingStreamsBring : Type 0
AgreeingStreamsBring =
    (s t : Stream) (d begin end : ℤ) → ((i : ℤ) → begin ≤ℤ i → i <ℤ end → t (i +ℤ d) ≡ s i) →
    (p : Page) (class : Class) (lines repeat : ℕ) (item : Item) → IsBrought s p class lines repeat item begin end →
    IsBrought t p class lines repeat item (begin +ℤ d) (end +ℤ d)

-- from slot begin on, t is s moved by d slots
abbrev pub AgreeingStreamsCarry : Type 0
AgreeingStreamsCarry =
    (s t : Stream) (d begin : ℤ) → ((i : ℤ) → begin ≤ℤ i → t (i +ℤ d) ≡ s i) →
    (p : Page) (sel : Selection) (class : Class) (lines repeat limit : ℕ) → Carries s p sel class lines repeat limit begin →
    Carries t p sel class lines repeat limit (begin +ℤ d)

-- both are the same before slot end, and the reception ends there or sooner
abbrev pub AgreeingStreamsAreReceived : Type 0
AgreeingStreamsAreReceived =
    (s t : Stream) (end : ℤ) → ((i : ℤ) → i <ℤ end → s i ≡ t i) →
    (page : Id) (tau : ℤ) (received : List (List ℕ)) → (tau +ℤ pos (length received)) ≤ℤ end →
    (repeat : ℕ) → Received s page repeat tau received → Received t page repeat tau received

abbrev pub AcceptedIsCarried : Type 0
AcceptedIsCarried =
    (cycle : List (List ℕ)) (pages : List Page) (w : Certificate) → IsCycle cycle → ArePages pages → IsCertificate w →
    Accepts cycle pages w → (n : ℕ) (p : Page) → slice_get pages n ≡ Some p →
    (sel : Selection) → Fits pages p sel → (tau : ℤ) → IsCarried (repeated cycle) p sel w tau

abbrev pub CommonIsCarried : Type 0
CommonIsCarried =
    (c : Splice) → IsSplice c → BothAccepted c → NumbersAgree c.old_certificate c.new_certificate → Joins c →
    (p : Page) → IsCommon c p → (sel : Selection) → Fits c.old_pages p sel → Fits c.new_pages p sel →
    (tau : ℤ) → IsCarried (stream c) p sel c.new_certificate tau

-- Tuned at slot tau, a receiver may have received anything before slot begin. One that surely clears pages is tuned at begin itself.
abbrev pub IsTunedBy : Class → ℤ → ℤ → Type 0
IsTunedBy Any tau begin = tau ≤ℤ begin
IsTunedBy Clearing tau begin = tau ≡ begin

-- From slot start on, up to now, the stream s is t, which carries the page from slot begin on. Before that, s is anything: silence, or
-- another service. Once the deadline after begin has passed, each receiver of s has the page's View: whatever it held before, and after
-- each reception within the error rule that ends by now.
abbrev pub CarriedIsSeen : Type 0
CarriedIsSeen =
    (s t : Stream) (start now : ℤ) → ((i : ℤ) → start ≤ℤ i → i <ℤ now → s i ≡ t i) →
    (p : Page) (sel : Selection) (class : Class) (lines repeat limit : ℕ) (begin : ℤ) → IsPage p → lines ≤ 32 → matches sel p.id ≡ true →
    start ≤ℤ begin → Carries t p sel class lines repeat limit begin →
    (tau : ℤ) (former m : Memory) (received : List (List ℕ)) → IsTunedBy class tau begin → IsFormer class former →
    Received s p.id repeat tau received → (begin +ℤ pos limit) ≤ℤ (tau +ℤ pos (length received)) → (tau +ℤ pos (length received)) ≤ℤ now →
    Run class lines sel former received m → HasView p m
