-- What every permitted receiver holds once the block of a subpage is whole.
use Rattle.std.proofs.Common.{◌≡◌, ℕ, suc, ◌<◌, ◌≤◌, ℤ, pos, ◌+ℤ◌, ◌-ℤ◌, ◌<ℤ◌, ◌≤ℤ◌, nat_abs, true, false, ◌==◌, List, [], ◌∷◌, ◌++◌, length, get_or}
use Rattle.std.proofs.Common.{take, drop, refl, sym, subst, arith, eq-eqb, length-drop, get_or-take}
use Rattle.std.proofs.lemmas.Int.{ints}
use Rattle.std.proofs.lemmas.Bool.{and_from}
use Rattle.std.proofs.lemmas.List.{length-take-le, take-append-drop}
use Rattle.ttx_packet.specs.Slots.{IsSlot}
use Rattle.ttx_packet.specs.Receptions.{MayBeReceivedAs}
use Rattle.ttx_page.specs.Packets.{packet_of}
use Rattle.ttx_page.specs.Pages.{Page, matches}
use Rattle.ttx_page.specs.declared.selection.Selection.{Selection}
use Rattle.ttx_page.specs.declared.selection.Selection.TheVariants.{AnySub}
use Rattle.ttx_page.specs.declared.item.Item.TheVariants.{Links as TheLinks}
use Rattle.ttx_page.specs.declared.class.Class.{Class}
use Rattle.ttx_page.specs.declared.class.Class.TheVariants.{Any}
use Rattle.ttx_page.specs.Memories.{Memory, IsMemory}
use Rattle.ttx_page.specs.Receivers.{Run}
use Rattle.ttx_page.specs.Streams.{Stream, heads_page, heads_matched}
use Rattle.ttx_certify.specs.Laws.{RunsAreSeen}
use Rattle.ttx_certify.specs.Seen.{HasView}
use Rattle.ttx_certify.proofs.LaterReceptions.{received_later}
use Rattle.ttx_receiver.specs.Laws.{StepsKeepMemories}
use Rattle.ttx_subpages.specs.WholeBlocks.{IsSubpage, IsWholeBefore, SendsUnchanged}
use Rattle.ttx_subpages.specs.SeenInTurn.{AreReceived}
use Rattle.ttx_subpages.specs.Laws.{BlocksAreHeld}
use Rattle.ttx_subpages.proofs.OneClass.{any_step}
use Rattle.ttx_late.proofs.RunsAreShown.{owner_heads}
use Rattle.ttx_subpages.proofs.PartsOfStreams.{block_has_view}

any_run : (class : Class) (lines : ℕ) (sel : Selection) (received : List (List ℕ)) (m new : Memory) → Run class lines sel m received new →
    Run Any lines sel m received new
any_run class lines sel [] m new run = run
any_run class lines sel (slot ∷ received) m new run =
    (run.0, any_step class lines sel m run.0 slot run.1, any_run class lines sel received run.0 new run.2)

split : (class : Class) (lines : ℕ) (sel : Selection) (before rest : List (List ℕ)) (m new : Memory) → Run class lines sel m (before ++ rest) new →
    (mid : Memory) × Run class lines sel m before mid × Run class lines sel mid rest new
split class lines sel [] rest m new run = (m, refl, run)
split class lines sel (slot ∷ before) rest m new run =
    let r = split class lines sel before rest run.0 new run.2 in (r.0, (run.0, run.1, r.1), r.2)

kept : StepsKeepMemories → (class : Class) (lines : ℕ) (sel : Selection) (received : List (List ℕ)) (m new : Memory) →
    ((i : ℕ) → i < length received → IsSlot (get_or received i [])) → IsMemory m → Run class lines sel m received new → IsMemory new
kept keep class lines sel [] m new slots is run = subst IsMemory (sym run) is
kept keep class lines sel (slot ∷ received) m new slots is run =
    kept keep class lines sel received run.0 new (λ i lt. slots (suc i) (omega arith))
    (keep class lines sel m run.0 slot (slots 0 (omega arith)) is run.1) run.2

module _ (runs : RunsAreSeen) (keep : StepsKeepMemories) (s : Stream) (pages : List Page) (class : Class) (lines mag number : ℕ) (few : lines ≤ 32)
    (sends : SendsUnchanged s pages mag number) (p : Page) (sub : IsSubpage pages mag number p) where
  abbrev sel : Selection
  sel = AnySub mag number

  fits : matches sel p.id ≡ true
  fits = and_from (mag == p.id.mag) (number == p.id.page) (eq-eqb mag p.id.mag (sym sub.mag_is)) (eq-eqb number p.id.page (sym sub.number_is))

  held : (tau : ℤ) (former m : Memory) (received : List (List ℕ)) → IsMemory former → AreReceived s pages mag number tau received →
      Run class lines sel former received m → (h : ℤ) → tau ≤ℤ h → h <ℤ (tau +ℤ pos (length received)) → heads_page p.id (packet_of (s h)) ≡ true →
      ((j : ℤ) → h <ℤ j → j <ℤ (tau +ℤ pos (length received)) → heads_matched sel (packet_of (s j)) ≡ false) →
      IsWholeBefore s p lines h (tau +ℤ pos (length received)) → HasView p m
  held tau former m received is permitted run h low high head none whole =
      let n = nat_abs (h -ℤ tau) in
      let at : h ≡ tau +ℤ pos n = omega (arith, ints) in
      let le : n ≤ length received = omega (arith, ints) in
      let left = length-drop n received in
      let size = length-take-le n received le in
      let now : tau +ℤ pos (length received) ≡ h +ℤ pos (length (drop n received)) = omega (arith, ints) in
      let parts = split class lines sel (take n received) (drop n received) former m
      (subst (λ x. Run class lines sel former x m) (sym (take-append-drop n received)) run) in
      let each = (permitted p sub).each in
      let mid_is : IsMemory parts.0 = kept keep class lines sel (take n received) former parts.0 (slots_before each n le) is parts.1 in
      block_has_view runs s p sel lines h (sends.are_pages p sub) few fits sends.slots sends.clean (λ item checked j owned. sends.items p sub item checked h j owned) head
      (drop n received)
      (λ j after before. none j after (omega (arith, ints)))
      (subst (IsWholeBefore s p lines h) now whole)
      (received_later s p.id 1 tau h n at received le (permitted p sub)) parts.0 m mid_is
      (any_run class lines sel (drop n received) parts.0 m parts.2)
    where
      slots_before : ((i : ℕ) → i < length received → MayBeReceivedAs (s (tau +ℤ pos i)) (get_or received i [])) → (n : ℕ) → n ≤ length received →
          (i : ℕ) → i < length (take n received) → IsSlot (get_or (take n received) i [])
      slots_before each n le i lt =
          let size = length-take-le n received le in
          let inside : i < n = omega arith in
          subst IsSlot (sym (get_or-take n received i [] inside)) ((each i (omega arith)).slot)

pub blocks_are_held : RunsAreSeen → StepsKeepMemories → BlocksAreHeld
blocks_are_held runs keep s pages class lines mag number few sends p sub = record {
  shown = λ tau former m received is permitted run h low head none whole.
      -- the links come below the end, and not before their header
      let c = whole TheLinks refl in
      let o = owner_heads s p.id TheLinks h c.0.slot c.0.owned in
      let le = o.0 in
      let lt = c.1 in
      held runs keep s pages class lines mag number few sends p sub tau former m received is permitted run h low (omega (arith, ints)) head
      none whole;
}
