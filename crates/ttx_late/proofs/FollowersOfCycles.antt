-- Whether a header is followed by one with another page number, read round the cycle.
use Rattle.std.proofs.Common.{◌+ℤ◌, ◌≤ℤ◌, ◌≡◌, ◌==◌, ◌&&◌, ℕ, ◌+◌, ◌<◌, ◌≤◌, ℤ, pos, ◌<ℤ◌, true, false, List, [], length, get_or, slice_get, Some, None, refl, sym}
use Rattle.std.proofs.Common.{ap, subst, arith}
use Rattle.std.proofs.lemmas.Int.{ints}
use Rattle.std.proofs.lemmas.Bool.{both_ways}
use Rattle.std.proofs.lemmas.Option.{slice_get_within}
use Rattle.std.proofs.lemmas.Grind.{common_steps}
use Rattle.ttx_packet.specs.Slots.{IsSlot, Kind, IsHeader, kind_of}
use Rattle.ttx_header.specs.Ids.{Id}
use Rattle.ttx_header.specs.Headers.{id_of, is_header}
use Rattle.ttx_header.specs.Laws.{HeadersHaveFields, HeadersAreHeaders}
use Rattle.ttx_page.specs.Packets.{Packet, packet_of}
use Rattle.ttx_page.specs.Pages.{Page}
use Rattle.ttx_page.specs.Streams.{Stream, turned, repeated, heads, heads_page, IsLatestHeader}
use Rattle.ttx_page.specs.Laws.{Turn, EachSlotTurns, StreamsMove, CyclesRepeat, IsSameOn}
use Rattle.ttx_page.specs.Followers.{heads_another, IsFollowed, IsFollowedWithin}
use Rattle.ttx_late.specs.Followed.{id_in, HeadsAt, IsFollowedIn, IsFollowedAt, TellsUnfollowed, AllAreFollowed}
use Rattle.ttx_page.proofs.Owners.{page_heads}
use Rattle.ttx_late.proofs.KeptSlots.{packet_is}
use Rattle.ttx_late.proofs.UnderHeaders.{next_is}

-- what is read of a header is what its packet contains
pub id_told : (slot : List ℕ) → IsSlot slot → HeadersAreHeaders → is_header slot ≡ true → id_in (packet_of slot) ≡ Some (id_of slot)
id_told slot is headers head = ap id_in (packet_is slot (IsHeader (id_of slot).mag) (headers slot is head))

pub none_told : (slot : List ℕ) → IsSlot slot → HeadersHaveFields → (is_header slot ≡ true → ⊥) → id_in (packet_of slot) ≡ None
none_told slot is fields none = by (kind_of slot) refl
  where
    by : (k : Kind) → kind_of slot ≡ k → id_in (packet_of slot) ≡ None
    by (IsHeader mag) e = absurd (none (fields slot mag is e).header)
    by k e = ap id_in (packet_is slot k e)

heads_id : (page : Id) (pkt : Packet) → heads_page page pkt ≡ true → id_in pkt ≡ Some page
heads_id page pkt h = grind (arith, common_steps)

pub id_heads : (page : Id) (pkt : Packet) → id_in pkt ≡ Some page → heads_page page pkt ≡ true
id_heads page pkt h = grind (arith, common_steps)

-- between a slot and one so many slots later no header of the magazine comes
abbrev pub NoneBefore : Stream → ℕ → ℕ → ℕ → Type 0
NoneBefore s mag at distance = (i : ℤ) → pos at <ℤ i → i <ℤ pos (at + distance) → heads mag (packet_of (s i)) ≡ false

module _ (s : Stream) (page : Id) (at distance : ℕ) (mine : HeadsAt s page at) (far : 1 ≤ distance) (none : NoneBefore s page.mag at distance)
    (head : heads page.mag (packet_of (s (pos (at + distance)))) ≡ true) where
  latest : IsLatestHeader s page.mag (pos at) (pos (at + distance))
  latest = record { earlier = omega (arith, ints); is_header = page_heads page (packet_of (s (pos at))) mine; none_between = none }

  pub told : heads_another page (packet_of (s (pos (at + distance)))) ≡ true → IsFollowedIn s page at distance
  told another = (
    record { slot = pos (at + distance); next = latest; another = another },
    next_is s page (pos at) (pos (at + distance)) latest head,
  )

  pub told_not : heads_another page (packet_of (s (pos (at + distance)))) ≡ false → IsFollowed s page (pos at) → ⊥
  told_not other f = both_ways _ other
      (subst (λ z. heads_another page (packet_of (s z)) ≡ true) (next_is s page (pos at) (pos (at + distance)) latest head f) f.another)

-- the header itself comes again
pub never : CyclesRepeat → (cycle : List (List ℕ)) (page : Id) (at distance : ℕ) → 0 < length cycle → HeadsAt (repeated cycle) page at →
    length cycle < distance → NoneBefore (repeated cycle) page.mag at distance → ⊥
never repeat cycle page at distance some mine round none =
    let again = pos at +ℤ pos (length cycle) in
    both_ways _ (none again (omega (arith, ints)) (omega (arith, ints))) (page_heads page (packet_of (repeated cycle again))
    (subst (λ slot. heads_page page (packet_of slot) ≡ true) (sym (repeat cycle some (pos at))) mine))

module _ (s : Stream) (at : ℕ) where
  pub no_header : id_in (packet_of (s (pos at))) ≡ None → (page : Id) → HeadsAt s page at → ⊥
  no_header none page head = let e = heads_id page (packet_of (s (pos at))) head in cc

  module _ (own : Id) (here : id_in (packet_of (s (pos at))) ≡ Some own) where
    pub own_is : (page : Id) → HeadsAt s page at → page ≡ own
    own_is page head = let e = heads_id page (packet_of (s (pos at))) head in cc

    pub followed_tells : IsFollowed s own (pos at) → TellsUnfollowed s at None
    followed_tells f page head = subst (λ x. IsFollowed s x (pos at)) (sym (own_is page head)) f

    pub unfollowed_tells : (IsFollowed s own (pos at) → ⊥) → TellsUnfollowed s at (Some own)
    unfollowed_tells none = ((id_heads own (packet_of (s (pos at))) here, none), own_is)

module _ (turn : EachSlotTurns) (move : StreamsMove) (cycle : List (List ℕ)) (some : 0 < length cycle) (page : Id) (h : ℤ) where
  abbrev turn_here : Turn (length cycle) h
  turn_here = turn (length cycle) h some

  same_round : IsSameOn (repeated cycle) turn_here.by
  same_round j = ap (λ x. get_or cycle x []) (turn_here.same j)

  head_turned : heads_page page (packet_of (repeated cycle h)) ≡ true → HeadsAt (repeated cycle) page (turned (length cycle) h)
  head_turned head = subst (λ slot. heads_page page (packet_of slot) ≡ true) (same_round (pos (turned (length cycle) h)))
      (subst (λ z. heads_page page (packet_of (repeated cycle z)) ≡ true) turn_here.place head)

  -- what follows a header in the first round follows it in each
  follows : (f : IsFollowed (repeated cycle) page (pos (turned (length cycle) h))) →
      (g : IsFollowed (repeated cycle) page h) × (g.slot ≡ f.slot +ℤ turn_here.by)
  follows f = (
    record {
      slot = f.slot +ℤ turn_here.by;
      next = subst (λ z. IsLatestHeader (repeated cycle) page.mag z (f.slot +ℤ turn_here.by)) (sym turn_here.place)
          ((move (repeated cycle) turn_here.by same_round).latest page.mag (pos (turned (length cycle) h)) f.slot f.next);
      another = subst (λ slot. heads_another page (packet_of slot) ≡ true) (sym (same_round f.slot)) f.another;
    },
    refl,
  )

-- what holds at each slot of the cycle holds at each slot of the stream
pub all_followed : EachSlotTurns → StreamsMove → (cycle : List (List ℕ)) → 0 < length cycle → (pages : List Page) (count : ℕ) → length cycle ≤ count →
    ((i n : ℕ) (p : Page) → i < count → slice_get pages n ≡ Some p → IsFollowedAt (repeated cycle) p.id i) → AllAreFollowed cycle pages
all_followed turn move cycle some pages count all before n p listed h head =
    let inside = (turn (length cycle) h some).inside in
    (follows turn move cycle some p.id h
    (before (turned (length cycle) h) n p (omega arith) listed (head_turned turn move cycle some p.id h head))).0

pub near_within : EachSlotTurns → StreamsMove → (cycle : List (List ℕ)) → 0 < length cycle → (page : Id) (gap count : ℕ) → length cycle ≤ count →
    ((i : ℕ) → i < count → HeadsAt (repeated cycle) page i → (f : IsFollowed (repeated cycle) page (pos i)) × (f.slot ≤ℤ pos (i + gap))) →
    IsFollowedWithin (repeated cycle) page gap
near_within turn move cycle some page gap count all near h head =
    let t = turn (length cycle) h some in
    let inside = t.inside in
    let place = t.place in
    let f = near (turned (length cycle) h) (omega arith) (head_turned turn move cycle some page h head) in
    let le = f.1 in
    let g = follows turn move cycle some page h f.0 in
    let e : g.0.slot ≡ f.0.slot +ℤ t.by = g.1 in
    (g.0, omega (arith, ints))

-- equal ids, as the program tests them
pub tested_is : (a b : Id) → (a.mag == b.mag) && ((a.page == b.page) && (a.sub == b.sub)) ≡ true → a ≡ b
tested_is a b h = grind (arith, common_steps)

pub tested_self : (a b : Id) → a ≡ b → (a.mag == b.mag) && ((a.page == b.page) && (a.sub == b.sub)) ≡ true
tested_self a b e = grind (arith, common_steps)

-- the pages below an index have another id
abbrev pub NoneBelow : List Page → Id → ℕ → Type 0
NoneBelow pages id index = (n : ℕ) (p : Page) → n < index → slice_get pages n ≡ Some p → p.id ≡ id → ⊥

pub none_here : (pages : List Page) (id : Id) (index : ℕ) → NoneBelow pages id index → (here : Page) → slice_get pages index ≡ Some here →
    (here.id ≡ id → ⊥) → NoneBelow pages id (index + 1)
none_here pages id index none here at other n p lt there e = grind arith

pub none_listed : (pages : List Page) (id : Id) (index : ℕ) → NoneBelow pages id index → length pages ≤ index →
    (n : ℕ) (p : Page) → slice_get pages n ≡ Some p → p.id ≡ id → ⊥
none_listed pages id index none past n p at e = none n p (let lt = slice_get_within pages n p at in omega arith) at e
