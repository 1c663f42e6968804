-- Subpages in turn: the pages of one list.
use Rattle.std.proofs.Common.{◌≡◌, ℕ, ◌+◌, ◌≤◌, ℤ, pos, ◌+ℤ◌, ◌-ℤ◌, ◌<ℤ◌, ◌≤ℤ◌, nat_abs, true, List}
use Rattle.std.proofs.Common.{length, take, drop, subst, inl, inr, arith, length-drop}
use Rattle.std.proofs.lemmas.Int.{ints}
use Rattle.std.proofs.lemmas.List.{length-take-le, drop-drop}
use Rattle.ttx_packet.specs.Laws.{KindIsKept}
use Rattle.ttx_header.specs.Laws.{HeaderIsKept}
use Rattle.ttx_page.proofs.SlotDistances.{cases_ltz}
use Rattle.ttx_page.specs.Packets.{packet_of}
use Rattle.ttx_page.specs.Pages.{Page}
use Rattle.ttx_page.specs.declared.selection.Selection.{Selection}
use Rattle.ttx_page.specs.declared.selection.Selection.TheVariants.{AnySub}
use Rattle.ttx_page.specs.declared.class.Class.{Class}
use Rattle.ttx_page.specs.Streams.{Stream, heads_page}
use Rattle.ttx_page.specs.Followers.{IsFollowed}
use Rattle.ttx_certify.specs.Seen.{HasView}
use Rattle.ttx_certify.specs.Laws.{RunsAreSeen}
use Rattle.ttx_late.specs.LateReceivers.{LateMemory}
use Rattle.ttx_receiver.specs.Laws.{StepsKeepMemories}
use Rattle.ttx_subpages.specs.EndedReceivers.{EndedRun}
use Rattle.ttx_subpages.specs.WholeBlocks.{IsSubpage, SendsInTurn}
use Rattle.ttx_subpages.specs.ListsInForce.{SendsListed, TunesToLists}
use Rattle.ttx_subpages.specs.SeenInTurn.{IsLatestEnded, Tunes, ShowsOne, ShowsBetween, IsLatestWhole}
use Rattle.ttx_subpages.specs.Laws.{HasHeaders, BlocksAreSeen}
use Rattle.ttx_late.proofs.RunsAreShown.{take_more}
use Rattle.ttx_subpages.proofs.ListedBlocks.{join}
use Rattle.ttx_subpages.proofs.ListedBlocks as general

-- the pages of one list, at each slot
module _ (s : Stream) (pages : List Page) (lines gap mag number : ℕ) (sends : SendsInTurn s pages lines gap mag number) where
  abbrev pub sends_listed : SendsListed s (λ _. pages) lines mag number
  sends_listed = record {
    slots = sends.unchanged.slots;
    clean = sends.unchanged.clean;
    are_pages = λ h p sub. sends.unchanged.are_pages p sub;
    own = λ h matched. (sends.sends h).own matched;
    items = λ h p sub item checked j owned. sends.unchanged.items p sub item checked h j owned;
    whole = λ h p sub head. (sends.sends h).whole p sub head;
    followed = λ h p sub head. (sends.followed p sub h head).0;
  }

module _ (runs : RunsAreSeen) (kind : KindIsKept) (header : HeaderIsKept) (keep : StepsKeepMemories) (s : Stream) (pages : List Page) (class : Class)
    (lines gap mag number : ℕ) (few : lines ≤ 32) (sends : SendsInTurn s pages lines gap mag number) where
  abbrev sel : Selection
  sel = AnySub mag number

  abbrev Lists : ℤ → List Page
  Lists _ = pages

  abbrev listed : SendsListed s Lists lines mag number
  listed = sends_listed s pages lines gap mag number sends

  abbrev Tuning : ℤ → LateMemory → List (List ℕ) → LateMemory → Type 0
  Tuning tau former received d = Tunes s pages class lines mag number tau former received d

  abbrev Heads : Page → ℤ → Type 0
  Heads p h = heads_page p.id (packet_of (s h)) ≡ true

  tuned : (tau : ℤ) (former : LateMemory) (received : List (List ℕ)) (d : LateMemory) → Tuning tau former received d →
      TunesToLists s Lists class lines mag number tau former received d
  tuned tau former received d t = record { memory = t.memory; permitted = λ h p sub. t.permitted p sub; run = t.run }

  -- a reception and its run are cut at a slot
  record IsCut (tau : ℤ) (former : LateMemory) (received : List (List ℕ)) (d : LateMemory) (n : ℕ) : Type 0 where
    mid : LateMemory
    before : Tuning tau former (take n received) mid
    after : Tuning (tau +ℤ pos n) mid (drop n received) d

  module _ (p : Page) (sub : IsSubpage pages mag number p) where
    cut : (tau : ℤ) (former : LateMemory) (received : List (List ℕ)) (d : LateMemory) (n : ℕ) → n ≤ length received →
        Tuning tau former received d → IsCut tau former received d n
    cut tau former received d n le t =
        let c = general.cut runs kind header keep s Lists class lines mag number few listed tau former received d n le
        (tuned tau former received d t) (tau, p, sub) in
        record {
          mid = c.mid;
          before = record { memory = c.before.memory; permitted = λ q sub'. c.before.permitted tau q sub'; run = c.before.run };
          after = record { memory = c.after.memory; permitted = λ q sub'. c.after.permitted tau q sub'; run = c.after.run };
        }

    abbrev follows : (h : ℤ) → Heads p h → IsFollowed s p.id h
    follows h head = (sends.followed p sub h head).0

    shows_from : (tau : ℤ) (former : LateMemory) (received : List (List ℕ)) (d : LateMemory) → Tuning tau former received d →
        (h : ℤ) (head : Heads p h) → tau ≤ℤ h → (follows h head).slot <ℤ (tau +ℤ pos (length received)) →
        general.ShowsFrom runs kind header keep s Lists class lines mag number few listed h (tau +ℤ pos (length received)) d
    shows_from tau former received d t h head low ended =
        general.shows_from runs kind header keep s Lists class lines mag number few listed tau former received d (tuned tau former received d t)
        h p sub head low ended

    shows_one : (now : ℤ) (h : ℤ) (d : LateMemory) →
        general.ShowsFrom runs kind header keep s Lists class lines mag number few listed h now d → ShowsOne pages mag number d
    shows_one now h d r =
        let own = (sends.sends r.place).own r.matched in
        record { page = own.0; subpage = own.1; view = (r.shows own.0 own.1 own.2).0 }

    stays : (tau : ℤ) (former d : LateMemory) (received : List (List ℕ)) → Tuning tau former received d →
        (h : ℤ) → tau ≤ℤ h → IsLatestWhole s pages lines mag number p h (tau +ℤ pos (length received)) → HasView p d.shown
    stays tau former d received t h low l =
        let now = tau +ℤ pos (length received) in
        let near = general.one_follower runs kind header keep s Lists class lines mag number few listed p.id h (follows h l.header) l.followed in
        let ended = l.ended in
        let r = shows_from tau former received d t h l.header low (omega (arith, ints)) in
        elim (cases_ltz h r.place) as (λ _. HasView p d.shown) [
          | inl later ↦
              let own = (sends.sends r.place).own r.matched in
              absurd (l.none_later own.0 own.1 r.place later r.before own.2 (r.shows own.0 own.1 own.2).1)
          | inr le ↦
              let not_before = r.not_before in
              let same : h ≡ r.place = omega (arith, ints) in
              (r.shows p sub (subst (Heads p) same l.header)).0
        ]

    kept : (tau : ℤ) (former d : LateMemory) (received : List (List ℕ)) → Tuning tau former received d →
        (h : ℤ) → tau ≤ℤ h → IsLatestEnded s pages mag number p h (tau +ℤ pos (length received)) → HasView p d.shown
    kept tau former d received t h low l =
        let now = tau +ℤ pos (length received) in
        let near = general.one_follower runs kind header keep s Lists class lines mag number few listed p.id h (follows h l.header) l.followed in
        let ended = l.ended in
        let r = shows_from tau former received d t h l.header low (omega (arith, ints)) in
        elim (cases_ltz h r.place) as (λ _. HasView p d.shown) [
          | inl later ↦
              let own = sends.sends r.place in
              let q = own.own r.matched in
              absurd (l.none_later q.0 q.1 r.place later r.before q.2 (r.shows q.0 q.1 q.2).2)
          | inr le ↦
              let not_before = r.not_before in
              let same : h ≡ r.place = omega (arith, ints) in
              (r.shows p sub (subst (Heads p) same l.header)).0
        ]

    module _ (most : ℕ) (has : HasHeaders s p most) where
      one : (tau : ℤ) (former d : LateMemory) (received : List (List ℕ)) → Tuning tau former received d → most + gap ≤ length received →
          ShowsOne pages mag number d
      one tau former d received t long =
          let x = has tau in
          let h = x.0 in
          let low = x.1 in
          let high = x.2 in
          let near = (sends.followed p sub h x.3).1 in
          shows_one (tau +ℤ pos (length received)) h d (shows_from tau former received d t h x.3 low (omega (arith, ints)))

      in_time : (tau : ℤ) (former d : LateMemory) (received : List (List ℕ)) → Tuning tau former received d → most + gap ≤ length received →
          ShowsBetween class lines mag number p 0 (most + gap) former received d
      in_time tau former d received t long =
          let x = has tau in
          let h = x.0 in
          let low = x.1 in
          let high = x.2 in
          let f = follows h x.3 in
          let near = (sends.followed p sub h x.3).1 in
          let after = f.next.earlier in
          let n = nat_abs ((f.slot +ℤ pos 1) -ℤ tau) in
          let at : f.slot +ℤ pos 1 ≡ tau +ℤ pos n = omega (arith, ints) in
          let within : n ≤ most + gap = omega (arith, ints) in
          let c = cut tau former received d n (omega arith) t in
          let size = length-take-le n received (omega arith) in
          let now : tau +ℤ pos (length (take n received)) ≡ f.slot +ℤ pos 1 = omega (arith, ints) in
          let r = shows_from tau former (take n received) c.mid c.before h x.3 low (omega (arith, ints)) in
          let same : h ≡ r.place = elim (cases_ltz h r.place) as (λ _. h ≡ r.place) [
            | inr le ↦ let nb = r.not_before in omega (arith, ints)
            | inl later ↦
                let b = r.before in
                let e = general.ends_before runs kind header keep s Lists class lines mag number few listed h p sub x.3 r.place later r.matched in
                absurd (omega (arith, ints))
          ] in
          record {
            n = n;
            not_before = omega arith;
            soon = omega arith;
            mid = c.mid;
            before = c.before.run;
            after = c.after.run;
            view = (r.shows p sub (subst (Heads p) same x.3)).0;
          }

      each : (tau : ℤ) (former d : LateMemory) (received : List (List ℕ)) → Tuning tau former received d → (first : ℕ) →
          first + (most + gap) ≤ length received → ShowsBetween class lines mag number p first (most + gap) former received d
      each tau former d received t first long =
          let c = cut tau former received d first (omega arith) t in
          let left = length-drop first received in
          let w = in_time (tau +ℤ pos first) c.mid d (drop first received) c.after (omega arith) in
          let soon = w.soon in
          record {
            n = first + w.n;
            not_before = omega arith;
            soon = omega arith;
            mid = w.mid;
            before = subst (λ xs. EndedRun class lines sel former xs w.mid) (take_more first w.n received)
                (join class lines sel (take first received) (take w.n (drop first received)) former c.mid w.mid c.before.run w.before);
            after = subst (λ xs. EndedRun class lines sel w.mid xs d) (drop-drop w.n first received) w.after;
            view = w.view;
          }

pub blocks_are_seen : RunsAreSeen → KindIsKept → HeaderIsKept → StepsKeepMemories → BlocksAreSeen
blocks_are_seen runs kind header keep s pages class lines most gap mag number few sends p sub has = record {
  one = one runs kind header keep s pages class lines gap mag number few sends p sub most has;
  each = each runs kind header keep s pages class lines gap mag number few sends p sub most has;
  stays = stays runs kind header keep s pages class lines gap mag number few sends p sub;
  kept = kept runs kind header keep s pages class lines gap mag number few sends p sub;
}
