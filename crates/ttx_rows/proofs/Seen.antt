-- Receivers that take rows whole or not at all see what is accepted.
use Rattle.std.proofs.Common.{◌≡◌, ℕ, ◌<◌, ◌≤◌, ℤ, pos, ◌+ℤ◌, ◌≤ℤ◌, ◌||◌, Bool, true, false}
use Rattle.std.proofs.Common.{List, [], length, get_or, refl, sym, subst, inl, inr, arith}
use Rattle.std.proofs.lemmas.Bool.{cases_Bool, cases_lt, both_ways}
use Rattle.std.proofs.lemmas.Int.{ints}
use Rattle.ttx_code.specs.Laws.{OddBytesHoldTheirCodes}
use Rattle.ttx_packet.specs.Slots.{IsSlot, is_clean}
use Rattle.ttx_packet.specs.Laws.{RowsAreNumbered}
use Rattle.ttx_page.specs.Pages.{Page, IsPage, matches, needed}
use Rattle.ttx_page.specs.declared.selection.Selection.{Selection}
use Rattle.ttx_page.specs.declared.item.Item.{Item}
use Rattle.ttx_page.specs.declared.item.Item.TheVariants.{Head as TheHead, Links as TheLinks}
use Rattle.ttx_page.specs.declared.class.Class.{Class}
use Rattle.ttx_page.specs.declared.class.Class.TheVariants.{Any, Clearing}
use Rattle.ttx_page.specs.Memories.{Memory, IsFormer}
use Rattle.ttx_page.specs.Streams.{Stream, repeated, heads_page}
use Rattle.ttx_page.specs.Receptions.{Received}
use Rattle.ttx_witness.specs.Coverage.{limit}
use Rattle.ttx_receiver.specs.Laws.{IsSteadyFrom, IsBrought, HasHeaderBetween}
use Rattle.ttx_page.proofs.SlotDistances.{offset}
use Rattle.ttx_page.specs.Packets.{packet_of}
use Rattle.ttx_page.specs.Receptions.{IsTextByte}
use Rattle.ttx_page.specs.Followers.{heads_another}
use Rattle.ttx_render.specs.Laws.{ShowingIsSeeing}
use Rattle.ttx_certify.specs.Seen.{HasView}
use Rattle.ttx_certify.specs.Laws.{RunsAreSeen}
use Rattle.ttx_certify.proofs.AcceptedIsSeen.{StreamLaws, fits_matches, steady_from, brought}
use Rattle.ttx_late.specs.Laws.{IsFollowedFrom, RunsAreShown}
use Rattle.ttx_late.specs.LateReceivers.{LateMemory}
use Rattle.ttx_rows.specs.RowReceptions.{NoRowIsTorn, ReceivedByRows, HeadsArrive, LateHeadsArrive}
use Rattle.ttx_rows.specs.RowReceivers.{Manner, plain, spoils_heads, RowRun, RowLateRun}
use Rattle.ttx_rows.specs.SeenByRows.{HasViewBelowHead}
use Rattle.ttx_rows.specs.Laws.{RowRunsAreSeen, RowRunsAreShown, AcceptedIsSeenByRows}
use Rattle.ttx_rows.specs.Laws.{AcceptedIsShownByRows, SeenByRowsIsSeen, SeenLateByRowsIsSeenLate}
use Rattle.ttx_late.specs.declared.verdict.LateVerdict.TheVariants.{Yes, No, NeverShown}
use Rattle.ttx_certify.specs.declared.verdict.Verdict.TheVariants as certify
use Rattle.ttx_rows.specs.RowVerdicts.{VerdictsMeanByRows, LateVerdictsMeanByRows, FilesMeanByRows, LateFilesMeanByRows}
use Rattle.ttx_source.specs.Services.{pages_of}
use Rattle.ttx_certificate.specs.Entries.{certificate_at}
use Rattle.ttx_rows.proofs.OneSlot.{LawsBelow}
use Rattle.ttx_rows.proofs.OtherStream.{MayDiffer, HaveSameTests, same_texts, same_tests, kept_steady, moved_steady, moved_brought, moved_followed}
use Rattle.ttx_rows.proofs.ManySlots.{EachHeadArrives, received_is_by_rows, runs_are_row_runs, late_row_run, mag_is, head_bytes}
use Rattle.ttx_rows.proofs.ManySlots.{AreHeard, AllGiven, all_given, heard_run, heard_late}
use Rattle.ttx_rows.proofs.ManySlots.{other, other_differs, other_good, other_received}
use Rattle.ttx_rows.proofs.Alike.{alike_self, alike_below, alike_view}
use Rattle.ttx_rows.proofs.LastHead.{HasHead, Wide, AreRightFrom, AllOfPage, last_head, Last, last_of, whole_view}
use Rattle.ttx_rows.proofs.LateHead.{former_is_wide, late_head}
use Rattle.ttx_rows.proofs.Storing.{unstored}
use Rattle.ttx_rows.proofs.StoredRuns.{AllPlaced, AreReread, stored_run, stored_late, free_rows, needed_row}
use Rattle.ttx_rows.proofs.StoredRuns.{sends_stream, Differs, may_differ, differs_row, differs_free, new_good, came_rule}
use Rattle.ttx_rows.proofs.Mended.{AllArrived, mended_run, mended_late, mended_rule, mended_text}

-- the laws that are cited
pub record LawsOfRows : Type 0 where
  pub below : LawsBelow
  pub numbered : RowsAreNumbered
  pub codes : OddBytesHoldTheirCodes
  pub sees : ShowingIsSeeing

module _ (laws : LawsOfRows) (s : Stream) (p : Page) (sel : Selection) (class : Class) (lines repeat : ℕ) (begin end : ℤ) (page : IsPage p)
    (few : lines ≤ 32) (some : 1 ≤ repeat) (fits : matches sel p.id ≡ true) (steady : IsSteadyFrom s p sel begin)
    (brings : (item : Item) → needed p item ≡ true → IsBrought s p class lines repeat item begin end) (how : Manner) (off : how.stores ≡ false) where
  slots_are : (j : ℤ) → begin ≤ℤ j → IsSlot (s j) × (is_clean (s j) ≡ true)
  slots_are j low = (steady.slots j low, steady.clean j low)

  all_arrived : (received : List (List ℕ)) → ReceivedByRows how s p repeat begin received → AllArrived p.id s begin received
  all_arrived received rule n lt =
      let low : begin ≤ℤ (begin +ℤ pos n) = omega (arith, ints) in
      record { slot = steady.slots _ low; clean = steady.clean _ low; arrives = rule.each n lt }

  module _ (received : List (List ℕ)) (rule : ReceivedByRows how s p repeat begin received)
      (heads : EachHeadArrives how.spaces s p.id repeat begin received) where
    text : EachHeadArrives false s p.id repeat begin received
    text = head_bytes how.spaces s p.id repeat begin received some heads

    given : AllGiven how sel p.id s begin received
    given = all_given laws.codes s p sel repeat begin page steady how off received rule heads

    module _ (heard : List (List ℕ)) (size : length heard ≡ length received) (are : AreHeard how.refuses p.id s begin received heard) where
      abbrev sends : Stream
      sends = other how laws.below laws.numbered s p repeat some begin slots_are received heard size rule text are

      differs : (j : ℤ) → MayDiffer p (s j) (sends j)
      differs = other_differs how laws.below laws.numbered s p repeat some begin slots_are received heard size rule text are

      sends_tests : HaveSameTests s sends
      sends_tests = same_tests p s sends differs

      sends_steady : IsSteadyFrom sends p sel begin
      sends_steady = moved_steady p s sends sel begin differs
          (other_good how laws.below laws.numbered s p repeat some begin slots_are received heard size rule text are) steady

      sends_brings : (item : Item) → needed p item ≡ true → IsBrought sends p class lines repeat item begin end
      sends_brings item need = moved_brought s sends sends_tests p class lines repeat item begin end (brings item need)

      permitted : Received sends p.id repeat begin heard
      permitted = other_received how laws.below laws.numbered s p repeat some begin slots_are received heard size rule text are

    -- if the text of the headers arrives
    seen : RunsAreSeen → (former m : Memory) → IsFormer class former → RowRun how class lines sel former received m →
        end ≤ℤ (begin +ℤ pos (length received)) → HasView p m
    seen runs former m is_former run long =
        let h = heard_run laws.below class lines sel p.id (mag_is sel p.id fits) how s received begin given former m run in
        runs (sends h.heard h.size h.are) p sel class lines repeat begin end page few fits (sends_steady h.heard h.size h.are)
        (sends_brings h.heard h.size h.are) former m h.heard is_former (permitted h.heard h.size h.are) h.run
        (subst (λ n. end ≤ℤ (begin +ℤ pos n)) (sym h.size) long)

    shown : RunsAreShown → (gap : ℕ) → IsFollowedFrom s p.id gap begin → (former d : LateMemory) → IsFormer class former.gathered →
        RowLateRun how class lines sel former received d → (end +ℤ pos gap) ≤ℤ (begin +ℤ pos (length received)) → HasView p d.shown
    shown runs gap followed former d is_former run long =
        let h = heard_late laws.below class lines sel p.id (mag_is sel p.id fits) how s received begin given former d run in
        runs (sends h.heard h.size h.are) p sel class lines repeat begin end page few fits (sends_steady h.heard h.size h.are)
        (sends_brings h.heard h.size h.are) gap
        (moved_followed s (sends h.heard h.size h.are) (sends_tests h.heard h.size h.are) p gap begin followed) former d h.heard is_former
        (permitted h.heard h.size h.are) h.run
        (subst (λ n. (end +ℤ pos gap) ≤ℤ (begin +ℤ pos n)) (sym h.size) long)

  -- whatever becomes of that text
  both_seen : RunsAreSeen → (received : List (List ℕ)) → ReceivedByRows how s p repeat begin received → (former m : Memory) → IsFormer class former →
      RowRun how class lines sel former received m → end ≤ℤ (begin +ℤ pos (length received)) →
      HasViewBelowHead p m × (EachHeadArrives how.spaces s p.id repeat begin received → HasView p m)
  both_seen runs received rule former m is_former run long =
      let arrived = all_arrived received rule in
      let h = mended_run laws.below class lines sel p.id how off s received begin arrived former former m (alike_self former) run in
      let right = mended_rule how off laws.below p s begin repeat some received h.mended h.size arrived rule h.are in
      let text = mended_text how off laws.below p s begin repeat some received h.mended h.size arrived rule h.are how.spaces in (
        alike_view m h.left h.alike p
            (seen h.mended right text runs former h.left is_former h.run (subst (λ n. end ≤ℤ (begin +ℤ pos n)) (sym h.size) long)),
        λ heads. seen received rule heads runs former m is_former run long,
      )

  both_shown : RunsAreShown → (gap : ℕ) → IsFollowedFrom s p.id gap begin → (received : List (List ℕ)) →
      ReceivedByRows how s p repeat begin received →
      (former d : LateMemory) → IsFormer class former.gathered → RowLateRun how class lines sel former received d →
      (end +ℤ pos gap) ≤ℤ (begin +ℤ pos (length received)) →
      HasViewBelowHead p d.shown × (EachHeadArrives how.spaces s p.id repeat begin received → HasView p d.shown)
  both_shown runs gap followed received rule former d is_former run long =
      let arrived = all_arrived received rule in
      let h = mended_late laws.below class lines sel p.id how off s received begin arrived former former d
      (alike_self former.gathered, alike_self former.shown) run in
      let right = mended_rule how off laws.below p s begin repeat some received h.mended h.size arrived rule h.are in
      let text = mended_text how off laws.below p s begin repeat some received h.mended h.size arrived rule h.are how.spaces in (
        alike_view d.shown h.left.shown h.alike.1 p
            (shown h.mended right text runs gap followed former h.left is_former h.run
            (subst (λ n. (end +ℤ pos gap) ≤ℤ (begin +ℤ pos n)) (sym h.size) long)),
        λ heads. shown received rule heads runs gap followed former d is_former run long,
      )

-- receivers that store characters as they come

neither : (a b : Bool) → (a || b) ≡ false → (a ≡ false) × (b ≡ false)
neither true b h = absurd (both_ways true h refl)
neither false b h = (refl, h)

module _ (laws : LawsOfRows) (s : Stream) (p : Page) (sel : Selection) (class : Class) (lines repeat : ℕ) (begin end : ℤ) (page : IsPage p)
    (few : lines ≤ 32) (some : 1 ≤ repeat) (fits : matches sel p.id ≡ true) (steady : IsSteadyFrom s p sel begin)
    (brings : (item : Item) → needed p item ≡ true → IsBrought s p class lines repeat item begin end) (how : Manner) (on : how.stores ≡ true)
    (received : List (List ℕ)) (rule : ReceivedByRows how s p repeat begin received) where
  placed : AllPlaced sel p.id (free_rows p s begin) s begin received
  placed n lt =
      let low : begin ≤ℤ (begin +ℤ pos n) = omega (arith, ints) in
      record {
        slot = steady.slots _ low;
        clean = steady.clean _ low;
        arrives = rule.each n lt;
        untorn = λ mag number kind none.
            let row = needed_row p s begin (begin +ℤ pos n) mag number kind none in
            untorn number row.needs n lt row.sent;
      }
    where
      untorn : NoRowIsTorn true s p begin received
      untorn = subst (λ stores. NoRowIsTorn stores s p begin received) on rule.untorn

  module _ (sends came : List (List ℕ)) (send_size : length sends ≡ length received) (size : length came ≡ length received)
      (are : AreReread (free_rows p s begin) s begin received sends came) where
    abbrev other_stream : Stream
    other_stream = sends_stream s begin sends

    other_tests : HaveSameTests s other_stream
    other_tests = same_texts s other_stream (Differs p s begin received sends came send_size size are)
        (differs_row p s begin received sends came send_size size are) (may_differ p s begin received sends came send_size size are)

    other_steady : IsSteadyFrom other_stream p sel begin
    other_steady = kept_steady p s other_stream sel begin (Differs p s begin received sends came send_size size are) other_tests
        (may_differ p s begin received sends came send_size size are) (differs_free p s begin received sends came send_size size are)
        (new_good p s begin received sends came send_size size are (λ j low. (steady.slots j low, steady.clean j low))) steady

    other_brings : (item : Item) → needed p item ≡ true → IsBrought other_stream p class lines repeat item begin end
    other_brings item need = moved_brought s other_stream other_tests p class lines repeat item begin end (brings item need)

    other_rule : ReceivedByRows (unstored how) other_stream p repeat begin came
    other_rule = came_rule p s begin received sends came send_size size are laws.below other_tests how repeat rule

  stored_seen : RunsAreSeen → (former m : Memory) → IsFormer class former → RowRun how class lines sel former received m →
      end ≤ℤ (begin +ℤ pos (length received)) → HasViewBelowHead p m
  stored_seen runs former m is_former run long =
      let h = stored_run laws.below laws.numbered class lines sel p how (free_rows p s begin) s received begin placed former former m
      (alike_self former) run in
      let seen_left = both_seen laws (other_stream h.sends h.came h.send_size h.size h.are) p sel class lines repeat begin end page few some fits
      (other_steady h.sends h.came h.send_size h.size h.are) (other_brings h.sends h.came h.send_size h.size h.are) (unstored how) refl runs h.came
      (other_rule h.sends h.came h.send_size h.size h.are) former h.left is_former h.run
      (subst (λ n. end ≤ℤ (begin +ℤ pos n)) (sym h.size) long) in
      alike_below m h.left h.like p seen_left.0

  stored_shown : RunsAreShown → (gap : ℕ) → IsFollowedFrom s p.id gap begin → (former d : LateMemory) → IsFormer class former.gathered →
      RowLateRun how class lines sel former received d → (end +ℤ pos gap) ≤ℤ (begin +ℤ pos (length received)) →
      HasViewBelowHead p d.shown
  stored_shown runs gap followed former d is_former run long =
      let h = stored_late laws.below laws.numbered class lines sel p how (free_rows p s begin) s received begin placed former former d
      (alike_self former.gathered, alike_self former.shown) run in
      let seen_left = both_shown laws (other_stream h.sends h.came h.send_size h.size h.are) p sel class lines repeat begin end page few some fits
      (other_steady h.sends h.came h.send_size h.size h.are) (other_brings h.sends h.came h.send_size h.size h.are) (unstored how) refl runs gap
      (moved_followed s (other_stream h.sends h.came h.send_size h.size h.are)
      (other_tests h.sends h.came h.send_size h.size h.are) p gap begin followed)
      h.came (other_rule h.sends h.came h.send_size h.size h.are) former h.left is_former h.run
      (subst (λ n. (end +ℤ pos gap) ≤ℤ (begin +ℤ pos n)) (sym h.size) long) in
      alike_below d.shown h.left.shown h.like.1 p seen_left.0

-- row 0, if the text of the last header arrives

module _ (laws : LawsOfRows) (s : Stream) (p : Page) (sel : Selection) (class : Class) (lines repeat : ℕ) (begin end : ℤ) (page : IsPage p)
    (fits : matches sel p.id ≡ true) (steady : IsSteadyFrom s p sel begin)
    (brings : (item : Item) → needed p item ≡ true → IsBrought s p class lines repeat item begin end) (how : Manner)
    (received : List (List ℕ)) (rule : ReceivedByRows how s p repeat begin received) where
  of_page : AllOfPage sel p s begin received
  of_page n lt =
      let low : begin ≤ℤ (begin +ℤ pos n) = omega (arith, ints) in
      record {
        arrived = record { slot = steady.slots _ low; clean = steady.clean _ low; arrives = rule.each n lt };
        selected = steady.selected _ low;
        head = λ mine. steady.items TheHead tt _ _ low (refl, mine);
      }

  -- a header of the page comes if its links do
  some_header : HasHeaderBetween s p begin end
  some_header = elim (brings TheLinks refl) as (λ _. HasHeaderBetween s p begin end) [
    | inl sent ↦
        let ends = sent.ends.0 in
        let earlier = sent.owned.0.earlier in
        record { slot = sent.owner; not_before = sent.not_before; before = omega (arith, ints); is_header = sent.owned.1 }
    | inr clear ↦ clear.2
  ]

  head_seen : end ≤ℤ (begin +ℤ pos (length received)) → HeadsArrive true s p.id repeat begin received → (former m : Memory) →
      IsFormer class former → RowRun how class lines sel former received m → HasHead p m
  head_seen long heads former m is_former run =
      let k = offset begin some_header.slot some_header.not_before in
      let before = some_header.before in
      let place = k.1 in
      let inside : k.0 < length received = omega (arith, ints) in
      let last = last_of (λ n. heads_page p.id (packet_of (s (begin +ℤ pos n)))) (length received) k.0 inside
      (subst (λ j. heads_page p.id (packet_of (s j)) ≡ true) place some_header.is_header) in
      last_head laws.below laws.numbered laws.codes p page sel fits class lines how s received begin last.place of_page last.below last.holds
      (λ n low lt mine. right last.place last.below last.holds last.none n low lt mine) former m (wide class former is_former) run
    where
      wide : (class : Class) (m : Memory) → IsFormer class m → Wide m
      wide Any m is = (is.rows 0 (omega arith)).length
      wide Clearing m is = (is.0.rows 0 (omega arith)).length

      right : (from : ℕ) → from < length received → heads_page p.id (packet_of (s (begin +ℤ pos from))) ≡ true →
          ((k : ℕ) → from < k → k < length received → heads_page p.id (packet_of (s (begin +ℤ pos k))) ≡ false) →
          AreRightFrom s p.id begin received from
      right from below holds none n low lt mine = elim (cases_lt from n) as
          (λ _. (x : ℕ) → IsTextByte TheHead x → get_or (get_or received n []) x 0 ≡ get_or (s (begin +ℤ pos n)) x 0) [
            | inl after ↦ absurd (both_ways _ (none n after lt) mine)
            | inr past ↦
                let e : from ≡ n = omega arith in
                subst (λ i. (x : ℕ) → IsTextByte TheHead x → get_or (get_or received i []) x 0 ≡ get_or (s (begin +ℤ pos i)) x 0) e
                (heads from (below, holds, none))
          ]

pub row_runs_are_seen : LawsOfRows → RunsAreSeen → RowRunsAreSeen
row_runs_are_seen laws runs s p sel class lines repeat begin end page few some fits steady brings how former m received is_former rule run long = (
  below,
  elim (cases_Bool (spoils_heads how)) as (λ _. HeadsArrive (spoils_heads how) s p.id repeat begin received → HasView p m) [
    | inl spoils ↦ λ heads. whole_view laws.sees p page m
        (head_seen laws s p sel class lines repeat begin end page fits steady brings how received rule long
        (subst (λ b. HeadsArrive b s p.id repeat begin received) spoils heads) former m is_former run) below
    | inr none ↦ λ heads.
        let not_so = neither how.spaces how.stores none in
        (plainly not_so.1).1 (subst (λ b. EachHeadArrives b s p.id repeat begin received) (sym not_so.0)
        (subst (λ b. HeadsArrive b s p.id repeat begin received) none heads))
  ],
)
  where
    -- for receivers that store no character of even parity
    plainly : how.stores ≡ false → HasViewBelowHead p m × (EachHeadArrives how.spaces s p.id repeat begin received → HasView p m)
    plainly off = both_seen laws s p sel class lines repeat begin end page few some fits steady brings how off runs received rule former m is_former
        run long

    below : HasViewBelowHead p m
    below = elim (cases_Bool how.stores) as (λ _. HasViewBelowHead p m) [
      | inl on ↦ stored_seen laws s p sel class lines repeat begin end page few some fits steady brings how on received rule runs former m is_former
          run long
      | inr off ↦ (plainly off).0
    ]

-- receivers that show late, if the text of the last header that was followed arrives

module _ (laws : LawsOfRows) (s : Stream) (p : Page) (sel : Selection) (class : Class) (lines repeat : ℕ) (begin end : ℤ) (page : IsPage p)
    (fits : matches sel p.id ≡ true) (steady : IsSteadyFrom s p sel begin)
    (brings : (item : Item) → needed p item ≡ true → IsBrought s p class lines repeat item begin end) (how : Manner)
    (received : List (List ℕ)) (rule : ReceivedByRows how s p repeat begin received)
    (gap : ℕ) (followed : IsFollowedFrom s p.id gap begin) where
  -- a header of the page that is followed, and the one that follows
  record Followed : Type 0 where
    from : ℕ
    until : ℕ
    order : from < until
    inside : until < length received
    is_mine : heads_page p.id (packet_of (s (begin +ℤ pos from))) ≡ true
    is_another : heads_another p.id (packet_of (s (begin +ℤ pos until))) ≡ true

  some_followed : (end +ℤ pos gap) ≤ℤ (begin +ℤ pos (length received)) → Followed
  some_followed long =
      let h = some_header laws s p sel class lines repeat begin end page fits steady brings how received rule in
      let f = followed h.slot h.not_before h.is_header in
      let before = h.before in
      let low = h.not_before in
      let next = f.0.next.earlier in
      let soon = f.1 in
      let k = offset begin h.slot h.not_before in
      let u = offset begin f.0.slot (omega (arith, ints)) in
      let at = k.1 in
      let then = u.1 in
      record {
        from = k.0;
        until = u.0;
        order = omega (arith, ints);
        inside = omega (arith, ints);
        is_mine = subst (λ j. heads_page p.id (packet_of (s j)) ≡ true) at h.is_header;
        is_another = subst (λ j. heads_another p.id (packet_of (s j)) ≡ true) then f.0.another;
      }

  late_head_seen : (end +ℤ pos gap) ≤ℤ (begin +ℤ pos (length received)) → LateHeadsArrive true s p.id repeat begin received →
      (former d : LateMemory) → IsFormer class former.gathered → RowLateRun how class lines sel former received d → HasHead p d.shown
  late_head_seen long heads former d is_former run =
      let f = some_followed long in
      let u = last_of (λ n. heads_another p.id (packet_of (s (begin +ℤ pos n)))) (length received) f.until f.inside f.is_another in
      let k = last_of (λ n. heads_page p.id (packet_of (s (begin +ℤ pos n)))) u.place f.from (before_last f u) f.is_mine in
      late_head laws.below laws.numbered laws.codes p page sel fits class lines how s gap begin followed received begin k.place u.place
      (omega (arith, ints)) k.below u.below k.holds u.holds
      (of_page laws s p sel class lines repeat begin end page fits steady brings how received rule)
      (λ n low lt is_mine. heads n (
        lt,
        is_mine,
        λ i next after order inside header other. none_later u k n low i next after order inside header other,
      ))
      former d (former_is_wide class former.gathered is_former) run
    where
      before_last : (f : Followed) (u : Last (λ n. heads_another p.id (packet_of (s (begin +ℤ pos n)))) (length received)) → f.from < u.place
      before_last f u = elim (cases_lt u.place f.until) as (λ _. f.from < u.place) [
        | inl before ↦ absurd (both_ways _ (u.none f.until before f.inside) f.is_another)
        | inr past ↦ let order = f.order in omega arith
      ]

      none_later : (u : Last (λ n. heads_another p.id (packet_of (s (begin +ℤ pos n)))) (length received))
          (k : Last (λ n. heads_page p.id (packet_of (s (begin +ℤ pos n)))) u.place) (n : ℕ) → k.place ≤ n → (i next : ℕ) → n < i → i < next →
          next < length received → heads_page p.id (packet_of (s (begin +ℤ pos i))) ≡ true →
          heads_another p.id (packet_of (s (begin +ℤ pos next))) ≡ true → ⊥
      none_later u k n low i next after order inside header other = elim (cases_lt u.place next) as (λ _. ⊥) [
        | inl past ↦ both_ways _ (u.none next past inside) other
        | inr within ↦ both_ways _ (k.none i (omega arith) (omega arith)) header
      ]

pub row_runs_are_shown : LawsOfRows → RunsAreShown → RowRunsAreShown
row_runs_are_shown laws runs s p sel class lines repeat begin end page few some fits steady brings gap followed how former d received is_former
    rule run long = (
      below,
      elim (cases_Bool (spoils_heads how)) as (λ _. LateHeadsArrive (spoils_heads how) s p.id repeat begin received → HasView p d.shown) [
        | inl spoils ↦ λ heads. whole_view laws.sees p page d.shown
            (late_head_seen laws s p sel class lines repeat begin end page fits steady brings how received rule gap followed long
            (subst (λ b. LateHeadsArrive b s p.id repeat begin received) spoils heads) former d is_former run) below
        | inr none ↦ λ heads.
            let not_so = neither how.spaces how.stores none in
            (plainly not_so.1).1 (subst (λ b. EachHeadArrives b s p.id repeat begin received) (sym not_so.0)
            (subst (λ b. LateHeadsArrive b s p.id repeat begin received) none heads))
      ],
    )
  where
    -- for receivers that store no character of even parity
    plainly : how.stores ≡ false → HasViewBelowHead p d.shown × (EachHeadArrives how.spaces s p.id repeat begin received → HasView p d.shown)
    plainly off = both_shown laws s p sel class lines repeat begin end page few some fits steady brings how off runs gap followed received rule
        former d is_former run long

    below : HasViewBelowHead p d.shown
    below = elim (cases_Bool how.stores) as (λ _. HasViewBelowHead p d.shown) [
      | inl on ↦ stored_shown laws s p sel class lines repeat begin end page few some fits steady brings how on received rule runs gap followed former
          d is_former run long
      | inr off ↦ (plainly off).0
    ]

pub accepted_is_seen_by_rows : RowRunsAreSeen → StreamLaws → AcceptedIsSeenByRows
accepted_is_seen_by_rows runs laws cycle pages w is_cycle are_pages is_certificate accepts n p here = record {
  shown = λ how sel fits tau former m received is_former rule long run.
      let late : (tau +ℤ pos (limit w)) ≤ℤ (tau +ℤ pos (length received)) = omega (arith, ints, long) in
      runs (repeated cycle) p sel w.class w.lines w.repeat tau (tau +ℤ pos (limit w))
      (are_pages n p here) is_certificate.few_lines is_certificate.some_repeats
      (fits_matches pages p sel fits)
      (steady_from laws cycle pages w is_cycle are_pages is_certificate accepts n p here sel fits tau)
      (brought laws cycle pages w is_cycle are_pages is_certificate accepts n p here tau) how former m received is_former rule run late;
}

pub accepted_is_shown_by_rows : RowRunsAreShown → StreamLaws → AcceptedIsShownByRows
accepted_is_shown_by_rows runs laws cycle pages w is_cycle are_pages is_certificate accepts n p here gap followed = record {
  shown = λ how sel fits tau former d received is_former rule long run.
      let late : ((tau +ℤ pos (limit w)) +ℤ pos gap) ≤ℤ (tau +ℤ pos (length received)) = omega (arith, ints, long) in
      runs (repeated cycle) p sel w.class w.lines w.repeat tau (tau +ℤ pos (limit w))
      (are_pages n p here) is_certificate.few_lines is_certificate.some_repeats
      (fits_matches pages p sel fits)
      (steady_from laws cycle pages w is_cycle are_pages is_certificate accepts n p here sel fits tau)
      (brought laws cycle pages w is_cycle are_pages is_certificate accepts n p here tau) gap
      (λ h low head. followed h head) how former d received is_former rule
      run late;
}

-- the headline is a special case

pub seen_by_rows_is_seen : SeenByRowsIsSeen
seen_by_rows_is_seen cycle pages p w seen = record {
  shown = λ sel fits tau former m received is_former rule long run.
      let r = received_is_by_rows (repeated cycle) p w.repeat tau received rule in
      (seen.shown plain sel fits tau former m received is_former r.0 long (runs_are_row_runs plain w.class w.lines sel former m received run)).1 r.1;
}

pub seen_late_by_rows_is_seen_late : SeenLateByRowsIsSeenLate
seen_late_by_rows_is_seen_late cycle pages p w gap seen = record {
  shown = λ sel fits tau former d received is_former rule long run.
      let r = received_is_by_rows (repeated cycle) p w.repeat tau received rule in
      (seen.shown plain sel fits tau former d received is_former r.0 long (late_row_run plain w.class w.lines sel former d received run)).1 r.1;
}

pub means_by_rows : AcceptedIsSeenByRows → VerdictsMeanByRows
means_by_rows seen cycle pages w is_cycle are_pages is_certificate certify.Yes v = λ n p here.
    seen cycle pages w is_cycle are_pages is_certificate v n p here
means_by_rows seen cycle pages w is_cycle are_pages is_certificate (certify.No reason) v = tt

pub means_late_by_rows : AcceptedIsSeenByRows → AcceptedIsShownByRows → LateVerdictsMeanByRows
means_late_by_rows seen shown cycle pages w is_cycle are_pages is_certificate (Yes gap) v = λ n p here. (
  seen cycle pages w is_cycle are_pages is_certificate v.0 n p here,
  shown cycle pages w is_cycle are_pages is_certificate v.0 n p here gap (v.2.within n p here),
)
means_late_by_rows seen shown cycle pages w is_cycle are_pages is_certificate (No reason) v = tt
means_late_by_rows seen shown cycle pages w is_cycle are_pages is_certificate (NeverShown page slot) v = tt

pub files_mean_by_rows : VerdictsMeanByRows → FilesMeanByRows
files_mean_by_rows mean a b c verdict line told are_pages is_certificate =
    mean told.slots (pages_of told.service) (certificate_at told.w) told.cycle_is.is_cycle are_pages is_certificate verdict told.judged.exact

pub late_files_mean_by_rows : LateVerdictsMeanByRows → LateFilesMeanByRows
late_files_mean_by_rows mean a b c verdict line told are_pages is_certificate =
    mean told.slots (pages_of told.service) (certificate_at told.w) told.cycle_is.is_cycle are_pages is_certificate verdict told.judged.exact
