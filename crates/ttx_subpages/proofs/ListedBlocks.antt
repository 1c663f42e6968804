-- Blocks of a number whose pages change: what is shown is the page of the latest block that has ended, or of the one that comes now, once it is
-- whole.
use Rattle.std.proofs.Common.{◌≡◌, ◌⊎◌, ℕ, zero, suc, ◌<◌, ◌≤◌, ℤ, pos, ◌+ℤ◌, ◌-ℤ◌, ◌<ℤ◌, ◌≤ℤ◌, nat_abs, true, false, ◌==◌, List, [], ◌∷◌}
use Rattle.std.proofs.Common.{◌++◌, length, get_or, take, drop, refl, sym, ap, subst, inl, inr, arith, length-drop, eq-eqb}
use Rattle.std.proofs.lemmas.Int.{ints}
use Rattle.std.proofs.lemmas.Bool.{and_from, and_parts, both_ways, cases_Bool, not-true}
use Rattle.std.proofs.lemmas.List.{length-take-le, take-append-drop}
use Rattle.ttx_packet.specs.Slots.{IsSlot}
use Rattle.ttx_packet.specs.Laws.{KindIsKept}
use Rattle.ttx_header.specs.Laws.{HeaderIsKept}
use Rattle.ttx_header.specs.Ids.{Id}
use Rattle.ttx_page.proofs.Decisions.{eq_sym}
use Rattle.ttx_page.proofs.SlotDistances.{cases_ltz}
use Rattle.ttx_page.specs.Packets.{Packet, Empty, Unreadable, Header, Row, Links, Info, Other, packet_of}
use Rattle.ttx_page.specs.Pages.{Page}
use Rattle.ttx_page.specs.declared.selection.Selection.{Selection}
use Rattle.ttx_page.specs.declared.selection.Selection.TheVariants.{AnySub}
use Rattle.ttx_page.specs.declared.class.Class.{Class}
use Rattle.ttx_page.specs.Memories.{IsMemory}
use Rattle.ttx_page.specs.Streams.{Stream, heads, heads_page, heads_matched}
use Rattle.ttx_page.specs.Receptions.{Received}
use Rattle.ttx_page.specs.Followers.{IsFollowed, heads_another}
use Rattle.ttx_certify.specs.Seen.{HasView}
use Rattle.ttx_certify.specs.Laws.{RunsAreSeen}
use Rattle.ttx_certify.proofs.LaterReceptions.{received_later}
use Rattle.ttx_late.specs.LateReceivers.{LateMemory}
use Rattle.ttx_receiver.specs.Laws.{StepsKeepMemories}
use Rattle.ttx_subpages.specs.EndedReceivers.{EndedRun}
use Rattle.ttx_subpages.specs.WholeBlocks.{IsSubpage, IsWholeBefore}
use Rattle.ttx_subpages.specs.ListsInForce.{Lists, SendsListed, AreListedReceived, TunesToLists, ShowsListed}
use Rattle.ttx_subpages.specs.SeenInTurn.{MayHaveEnded}
use Rattle.ttx_subpages.specs.Laws.{ListedBlocksAreSeen}
use Rattle.ttx_late.proofs.FollowedReceptions.{received_before}
use Rattle.ttx_late.proofs.GatheredMemories.{number_heads, matched_number}
use Rattle.ttx_late.proofs.RunsAreShown.{page_matched}
use Rattle.ttx_subpages.proofs.OneClass.{former_memory}
use Rattle.ttx_subpages.proofs.BlocksReceived.{another_heads, block_shown}

-- a run is cut
pub split : (class : Class) (lines : ℕ) (sel : Selection) (before rest : List (List ℕ)) (d new : LateMemory) →
    EndedRun class lines sel d (before ++ rest) new →
    (mid : LateMemory) × EndedRun class lines sel d before mid × EndedRun class lines sel mid rest new
split class lines sel [] rest d new run = (d, refl, run)
split class lines sel (slot ∷ before) rest d new run =
    let r = split class lines sel before rest run.0 new run.2 in (r.0, (run.0, run.1, r.1), r.2)

pub join : (class : Class) (lines : ℕ) (sel : Selection) (before rest : List (List ℕ)) (d mid new : LateMemory) → EndedRun class lines sel d before mid →
    EndedRun class lines sel mid rest new → EndedRun class lines sel d (before ++ rest) new
join class lines sel [] rest d mid new first second = subst (λ x. EndedRun class lines sel x rest new) first second
join class lines sel (slot ∷ before) rest d mid new first second = (first.0, first.1, join class lines sel before rest first.0 mid new first.2 second)

-- what is gathered is a memory
gathered_memory : StepsKeepMemories → (class : Class) (lines : ℕ) (sel : Selection) (received : List (List ℕ)) (d new : LateMemory) →
    ((i : ℕ) → i < length received → IsSlot (get_or received i [])) → IsMemory d.gathered → EndedRun class lines sel d received new →
    IsMemory new.gathered
gathered_memory keep class lines sel [] d new slots is run = subst (λ x. IsMemory x.gathered) (sym run) is
gathered_memory keep class lines sel (slot ∷ received) d new slots is run =
    let step = run.1.late in
    let base_is : IsMemory step.base = elim step.from as (λ _. IsMemory step.base) [
      | inl e ↦ subst IsMemory (sym e) is
      | inr f ↦ former_memory class step.base f.1
    ] in
    gathered_memory keep class lines sel received run.0 new (λ i lt. slots (suc i) (omega arith))
    (keep class lines sel step.base run.0.gathered slot (slots 0 (omega arith)) base_is step.step) run.2

-- a header of another page number is not matched
another_unmatched : (mag number : ℕ) (page : Id) (pkt : Packet) → page.page ≡ number → heads_another page pkt ≡ true →
    heads_matched (AnySub mag number) pkt ≡ true → ⊥
another_unmatched mag number page (Header id control text) n h matched =
    both_ways _ (not-true _ ((and_parts (id.mag == page.mag) _ h).1))
    (subst (λ x. (id.page == x) ≡ true) (sym n) (eq_sym number id.page ((and_parts (mag == id.mag) _ matched).1)))
another_unmatched mag number page (Row a b text) n h matched = both_ways _ refl h
another_unmatched mag number page (Links a content) n h matched = both_ways _ refl h
another_unmatched mag number page Empty n h matched = both_ways _ refl h
another_unmatched mag number page Unreadable n h matched = both_ways _ refl h
another_unmatched mag number page Info n h matched = both_ways _ refl h
another_unmatched mag number page Other n h matched = both_ways _ refl h

-- a list of some length has a first element
first_of_list : (xs : List (List ℕ)) → 1 ≤ length xs → (x : List ℕ) × (rest : List (List ℕ)) × (xs ≡ x ∷ rest)
first_of_list [] some = absurd (omega arith)
first_of_list (x ∷ rest) some = (x, rest, refl)

-- the last header of the number below a slot
module _ (s : Stream) (mag number : ℕ) (tau : ℤ) where
  pub record IsLast (n : ℕ) : Type 0 where
    pub index : ℕ
    pub inside : index < n
    pub head : heads_matched (AnySub mag number) (packet_of (s (tau +ℤ pos index))) ≡ true
    pub none : (j : ℤ) → (tau +ℤ pos index) <ℤ j → j <ℤ (tau +ℤ pos n) → heads_matched (AnySub mag number) (packet_of (s j)) ≡ false

  last : (n : ℕ) (h : ℤ) → tau ≤ℤ h → h <ℤ (tau +ℤ pos n) → heads_matched (AnySub mag number) (packet_of (s h)) ≡ true → IsLast n
  last zero h low high head = absurd (omega (arith, ints))
  last (suc n) h low high head = elim (cases_Bool (heads_matched (AnySub mag number) (packet_of (s (tau +ℤ pos n))))) as (λ _. IsLast (suc n)) [
    | inl here ↦ record { index = n; inside = omega arith; head = here; none = λ j after before. absurd (omega (arith, ints)) }
    | inr not ↦ elim (cases_ltz h (tau +ℤ pos n)) as (λ _. IsLast (suc n)) [
      | inr ge ↦
          let e : h ≡ tau +ℤ pos n = omega (arith, ints) in
          absurd (both_ways _ not (subst (λ z. heads_matched (AnySub mag number) (packet_of (s z)) ≡ true) e head))
      | inl lt ↦
          let l = last n h low lt head in
          let inside = l.inside in
          record {
            index = l.index;
            inside = omega arith;
            head = l.head;
            none = λ j after before. elim (cases_ltz j (tau +ℤ pos n)) as (λ _. heads_matched (AnySub mag number) (packet_of (s j)) ≡ false) [
              | inl k ↦ l.none j after k
              | inr ge ↦
                  let e : tau +ℤ pos n ≡ j = omega (arith, ints) in
                  subst (λ z. heads_matched (AnySub mag number) (packet_of (s z)) ≡ false) e not
            ];
          }
    ]
  ]

module _ (runs : RunsAreSeen) (kind : KindIsKept) (header : HeaderIsKept) (keep : StepsKeepMemories) (s : Stream) (lists : Lists) (class : Class)
    (lines mag number : ℕ) (few : lines ≤ 32) (sends : SendsListed s lists lines mag number) where
  abbrev pub sel : Selection
  sel = AnySub mag number

  abbrev pub Tuning : ℤ → LateMemory → List (List ℕ) → LateMemory → Type 0
  Tuning tau former received d = TunesToLists s lists class lines mag number tau former received d

  abbrev pub Heads : Page → ℤ → Type 0
  Heads p h = heads_page p.id (packet_of (s h)) ≡ true

  matched_at : (h : ℤ) (p : Page) → IsSubpage (lists h) mag number p → Heads p h → heads_matched sel (packet_of (s h)) ≡ true
  matched_at h p sub head = page_matched sel p.id
      (and_from (mag == p.id.mag) (number == p.id.page) (eq-eqb mag p.id.mag (sym sub.mag_is)) (eq-eqb number p.id.page (sym sub.number_is)))
      (packet_of (s h)) head

  -- the slot that ends the block under a header
  abbrev pub follows : (h : ℤ) (p : Page) (sub : IsSubpage (lists h) mag number p) → Heads p h → IsFollowed s p.id h
  follows h p sub head = sends.followed h p sub head

  -- it stands before each later header of the number
  pub ends_before : (h : ℤ) (p : Page) (sub : IsSubpage (lists h) mag number p) (head : Heads p h) (y : ℤ) → h <ℤ y →
      heads_matched sel (packet_of (s y)) ≡ true → (follows h p sub head).slot <ℤ y
  ends_before h p sub head y after matched =
      let f = follows h p sub head in
      elim (cases_ltz f.slot y) as (λ _. f.slot <ℤ y) [
        | inl lt ↦ lt
        | inr ge ↦ elim (cases_ltz y f.slot) as (λ _. f.slot <ℤ y) [
          | inl lt ↦ absurd (both_ways _ (f.next.none_between y after lt)
              (subst (λ m. heads m (packet_of (s y)) ≡ true) (sym sub.mag_is) (number_heads sel (packet_of (s y)) (matched_number sel (packet_of (s y)) matched))))
          | inr le ↦
              let e : f.slot ≡ y = omega (arith, ints) in
              absurd (another_unmatched mag number p.id (packet_of (s y)) sub.number_is
              (subst (λ z. heads_another p.id (packet_of (s z)) ≡ true) e f.another) matched)
        ]
      ]

  -- a reception and its run are cut at a slot
  pub record IsCut (tau : ℤ) (former : LateMemory) (received : List (List ℕ)) (d : LateMemory) (n : ℕ) : Type 0 where
    pub mid : LateMemory
    pub before : Tuning tau former (take n received) mid
    pub after : Tuning (tau +ℤ pos n) mid (drop n received) d

  pub cut : (tau : ℤ) (former : LateMemory) (received : List (List ℕ)) (d : LateMemory) (n : ℕ) → n ≤ length received → Tuning tau former received d →
      ((h : ℤ) × (p : Page) × IsSubpage (lists h) mag number p) → IsCut tau former received d n
  cut tau former received d n le t some =
      let parts = split class lines sel (take n received) (drop n received) former d
      (subst (λ x. EndedRun class lines sel former x d) (sym (take-append-drop n received)) t.run) in
      let early : AreListedReceived s lists mag number tau (take n received) =
      λ h p sub. received_before s p.id 1 tau n received le (t.permitted h p sub) in
      record {
        mid = parts.0;
        before = record { memory = t.memory; permitted = early; run = parts.1 };
        after = record {
          memory = gathered_memory keep class lines sel (take n received) former parts.0
              (λ i lt. ((early some.0 some.1 some.2).each i lt).slot) t.memory parts.1;
          permitted = λ h p sub. received_later s p.id 1 tau (tau +ℤ pos n) n refl received le (t.permitted h p sub);
          run = parts.2;
        };
      }

  -- what a block leaves, from its header on
  module _ (h : ℤ) (p : Page) (sub : IsSubpage (lists h) mag number p) (head : Heads p h) (former : LateMemory) (received : List (List ℕ)) (d : LateMemory)
      (t : Tuning h former received d) (some : 1 ≤ length received)
      (none : (j : ℤ) → h <ℤ j → j <ℤ (h +ℤ pos (length received)) → heads_matched sel (packet_of (s j)) ≡ false) where
    -- the page is gathered, and what was shown is shown; or it has ended, and is shown
    pub record StillOpen : Type 0 where
      pub storing : d.gathered.storing ≡ true
      pub same : former.gathered.storing ≡ false → d.shown ≡ former.shown
      pub before : (h +ℤ pos (length received)) ≤ℤ (follows h p sub head).slot

    pub record HasShut : Type 0 where
      pub idle : d.gathered.storing ≡ false
      pub view : HasView p d.shown
      pub whole : IsWholeBefore s p lines h (h +ℤ pos (length received))
      pub ended : MayHaveEnded s mag h (h +ℤ pos (length received))

    block : StillOpen ⊎ HasShut
    block =
        let f = follows h p sub head in
        let w = sends.whole h p sub head in
        let after = f.next.earlier in
        let k = nat_abs (f.slot -ℤ h) in
        let at : f.slot ≡ h +ℤ pos k = omega (arith, ints) in
        let x = first_of_list received some in
        let slot = x.0 in
        let rest = x.1 in
        let long : length received ≡ suc (length rest) = ap length x.2 in
        elim (block_shown runs kind header s lists class lines mag number few sends h p sub head w f k at slot rest
        (subst (Received s p.id 1 h) x.2 (t.permitted h p sub))
        (λ j low high. none j low (omega (arith, ints)))
        (matched_at h p sub head) former d t.memory (subst (λ xs. EndedRun class lines sel former xs d) x.2 t.run)) as (λ _. StillOpen ⊎ HasShut) [
          | inl yet ↦ let b = yet.before in inl (record { storing = yet.storing; same = yet.same; before = omega (arith, ints) })
          | inr shut ↦ inr (record {
            idle = shut.idle;
            view = shut.view;
            whole = λ item need. (w item need, (let done = shut.done.0 item need in let lt = shut.earlier in omega (arith, ints)));
            ended =
                let z = shut.done.1 in
                let le = z.2 in
                let lt = shut.earlier in
                (z.0, z.1, omega (arith, ints), z.3);
          })
        ]

    -- where the block has ended, the page is shown
    shut_block : (follows h p sub head).slot <ℤ (h +ℤ pos (length received)) → HasShut
    shut_block lt = elim block as (λ _. HasShut) [ inl yet ↦ let b = yet.before in absurd (omega (arith, ints)) | inr shut ↦ shut ]

  -- what is shown is of the block under this header: of whichever page of the list it is
  abbrev pub ShowsBlock : ℤ → ℤ → LateMemory → Type 0
  ShowsBlock c now d =
      (q : Page) → IsSubpage (lists c) mag number q → Heads q c → HasView q d.shown × IsWholeBefore s q lines c now × MayHaveEnded s mag c now

  pub record ShowsFrom (h now : ℤ) (d : LateMemory) : Type 0 where
    pub place : ℤ
    pub not_before : h ≤ℤ place
    pub before : place <ℤ now
    pub matched : heads_matched sel (packet_of (s place)) ≡ true
    pub shows : ShowsBlock place now d

  whole_later : (p : Page) (h a b : ℤ) → a ≤ℤ b → IsWholeBefore s p lines h a → IsWholeBefore s p lines h b
  whole_later p h a b le w item need = let x = w item need in let lt = x.1 in (x.0, omega (arith, ints))

  -- the part of a tuning from its last header of the number on
  pub record FromLast (tau : ℤ) (former : LateMemory) (received : List (List ℕ)) (d : LateMemory) (h : ℤ) : Type 0 where
    pub index : ℕ
    pub inside : index < length received
    pub not_before : h ≤ℤ (tau +ℤ pos index)
    pub head : heads_matched sel (packet_of (s (tau +ℤ pos index))) ≡ true
    pub mid : LateMemory
    pub before : Tuning tau former (take index received) mid
    pub after : Tuning (tau +ℤ pos index) mid (drop index received) d
    pub some : 1 ≤ length (drop index received)
    pub now : (tau +ℤ pos index) +ℤ pos (length (drop index received)) ≡ tau +ℤ pos (length received)
    pub none : (j : ℤ) → (tau +ℤ pos index) <ℤ j → j <ℤ ((tau +ℤ pos index) +ℤ pos (length (drop index received))) →
        heads_matched sel (packet_of (s j)) ≡ false

  from_last : (tau : ℤ) (former : LateMemory) (received : List (List ℕ)) (d : LateMemory) → Tuning tau former received d →
      (h : ℤ) → tau ≤ℤ h → h <ℤ (tau +ℤ pos (length received)) → heads_matched sel (packet_of (s h)) ≡ true → FromLast tau former received d h
  from_last tau former received d t h low high matched =
      let l = last s mag number tau (length received) h low high matched in
      let inside = l.inside in
      let own = sends.own h matched in
      let c = cut tau former received d l.index (omega arith) t (h, own.0, own.1) in
      let left = length-drop l.index received in
      record {
        index = l.index;
        inside = l.inside;
        not_before = elim (cases_ltz (tau +ℤ pos l.index) h) as (λ _. h ≤ℤ (tau +ℤ pos l.index)) [
          | inr le ↦ le
          | inl lt ↦ absurd (both_ways _ (l.none h lt high) matched)
        ];
        head = l.head;
        mid = c.mid;
        before = c.before;
        after = c.after;
        some = omega arith;
        now = omega (arith, ints);
        none = λ j after before. l.none j after (omega (arith, ints));
      }

  -- where the last block has ended by now, it is shown, and nothing is gathered
  pub record LastIsShown (h now : ℤ) (d : LateMemory) : Type 0 where
    pub idle : d.gathered.storing ≡ false
    pub from : ShowsFrom h now d

  -- each block that begins at h or later has ended by now
  abbrev AllEnded : ℤ → ℤ → Type 0
  AllEnded h now = (x : ℤ) (q : Page) (sub : IsSubpage (lists x) mag number q) (head : Heads q x) → h ≤ℤ x → x <ℤ now → (follows x q sub head).slot <ℤ now

  last_is_shown : (tau : ℤ) (former : LateMemory) (received : List (List ℕ)) (d : LateMemory) → Tuning tau former received d →
      (h : ℤ) → tau ≤ℤ h → h <ℤ (tau +ℤ pos (length received)) → heads_matched sel (packet_of (s h)) ≡ true →
      AllEnded h (tau +ℤ pos (length received)) → LastIsShown h (tau +ℤ pos (length received)) d
  last_is_shown tau former received d t h low high matched all =
      let l = from_last tau former received d t h low high matched in
      let c = tau +ℤ pos l.index in
      let now = tau +ℤ pos (length received) in
      let inside = l.inside in
      let e = l.now in
      let below : c <ℤ now = omega (arith, ints) in
      let shut : (q : Page) (sub : IsSubpage (lists c) mag number q) (head : Heads q c) → HasShut c q sub head l.mid (drop l.index received) d l.after l.some l.none =
      λ q sub head. shut_block c q sub head l.mid (drop l.index received) d l.after l.some l.none
      (let lt = all c q sub head l.not_before below in omega (arith, ints)) in
      let own = sends.own c l.head in
      record {
        idle = (shut own.0 own.1 own.2).idle;
        from = record {
          place = c;
          not_before = l.not_before;
          before = below;
          matched = l.head;
          shows = λ q sub head. (
            (shut q sub head).view,
            subst (IsWholeBefore s q lines c) e (shut q sub head).whole,
            subst (MayHaveEnded s mag c) e (shut q sub head).ended,
          );
        };
      }

  -- Where some block has ended, what is shown is of the latest that has, or of the one that comes now and is whole.
  pub shows_from : (tau : ℤ) (former : LateMemory) (received : List (List ℕ)) (d : LateMemory) → Tuning tau former received d →
      (h : ℤ) (p : Page) (sub : IsSubpage (lists h) mag number p) (head : Heads p h) → tau ≤ℤ h →
      (follows h p sub head).slot <ℤ (tau +ℤ pos (length received)) → ShowsFrom h (tau +ℤ pos (length received)) d
  shows_from tau former received d t h p sub head low ended =
      let now = tau +ℤ pos (length received) in
      let f = follows h p sub head in
      let after = f.next.earlier in
      let matched = matched_at h p sub head in
      let high : h <ℤ now = omega (arith, ints) in
      let l = from_last tau former received d t h low high matched in
      let c = tau +ℤ pos l.index in
      let inside = l.inside in
      let e = l.now in
      let below : c <ℤ now = omega (arith, ints) in
      let state : (q : Page) (sub : IsSubpage (lists c) mag number q) (head : Heads q c) →
      StillOpen c q sub head l.mid (drop l.index received) d l.after l.some l.none
      ⊎ HasShut c q sub head l.mid (drop l.index received) d l.after l.some l.none =
      λ q sub head. block c q sub head l.mid (drop l.index received) d l.after l.some l.none in
      let own = sends.own c l.head in
      elim (state own.0 own.1 own.2) as (λ _. ShowsFrom h now d) [
        | inr shut ↦ record {
          place = c;
          not_before = l.not_before;
          before = below;
          matched = l.head;
          shows = λ q sub' head'. elim (state q sub' head') as (λ _. HasView q d.shown × IsWholeBefore s q lines c now × MayHaveEnded s mag c now) [
            | inl yet ↦ absurd (both_ways _ shut.idle yet.storing)
            | inr s' ↦ (s'.view, subst (IsWholeBefore s q lines c) e s'.whole, subst (MayHaveEnded s mag c) e s'.ended)
          ];
        }
        | inl yet ↦
            let later : h <ℤ c = elim (cases_ltz h c) as (λ _. h <ℤ c) [
              | inl lt ↦ lt
              | inr ge ↦
                  let not_before = l.not_before in
                  let same : h ≡ c = omega (arith, ints) in
                  absurd (contradict h p sub head c same l.mid (drop l.index received) d l.after l.some l.none yet.storing (omega (arith, ints)))
            ] in
            let far = ends_before h p sub head c later l.head in
            let size = length-take-le l.index received (omega arith) in
            let e' : tau +ℤ pos (length (take l.index received)) ≡ c = omega (arith, ints) in
            let r = last_is_shown tau former (take l.index received) l.mid l.before h low (omega (arith, ints)) matched
            (λ x q sub' head' le lt. let b = ends_before x q sub' head' c (omega (arith, ints)) l.head in omega (arith, ints)) in
            let same = yet.same r.idle in
            record {
              place = r.from.place;
              not_before = r.from.not_before;
              before = let b = r.from.before in omega (arith, ints);
              matched = r.from.matched;
              shows = λ q sub' head'.
                  let b = r.from.shows q sub' head' in (
                    subst (HasView q) (sym same) b.0,
                    whole_later q r.from.place (tau +ℤ pos (length (take l.index received))) now (omega (arith, ints)) b.1,
                    (b.2.0, b.2.1, (let lt = b.2.2 in omega (arith, ints)), b.2.3),
                  );
            }
      ]
    where
      -- the block at h itself has ended
      contradict : (h : ℤ) (p : Page) (sub : IsSubpage (lists h) mag number p) (head : Heads p h) (c : ℤ) → h ≡ c → (mid : LateMemory)
          (rest : List (List ℕ)) (d : LateMemory) → Tuning c mid rest d → 1 ≤ length rest →
          ((j : ℤ) → c <ℤ j → j <ℤ (c +ℤ pos (length rest)) → heads_matched sel (packet_of (s j)) ≡ false) →
          d.gathered.storing ≡ true → (follows h p sub head).slot <ℤ (c +ℤ pos (length rest)) → ⊥
      contradict h p sub head c e mid rest d t some none on lt =
          let shut = shut_block h p sub head mid rest d (subst (λ x. Tuning x mid rest d) (sym e) t) some
          (λ j low high. none j (omega (arith, ints)) (omega (arith, ints))) (omega (arith, ints)) in
          both_ways _ shut.idle on

  -- two followers of a header are one
  pub one_follower : (page : Id) (h : ℤ) (a b : IsFollowed s page h) → a.slot ≤ℤ b.slot
  one_follower page h a b = elim (cases_ltz b.slot a.slot) as (λ _. a.slot ≤ℤ b.slot) [
    | inr le ↦ le
    | inl lt ↦ absurd (both_ways _ (a.next.none_between b.slot b.next.earlier lt) (another_heads page (packet_of (s b.slot)) b.another))
  ]

  pub shows_listed : (now h : ℤ) (d : LateMemory) → ShowsFrom h now d → ShowsListed s lists mag number h now d
  shows_listed now h d r =
      let own = sends.own r.place r.matched in
      record {
        place = r.place;
        not_before = r.not_before;
        before = r.before;
        page = own.0;
        subpage = own.1;
        header = own.2;
        view = (r.shows own.0 own.1 own.2).0;
      }

pub listed_blocks_are_seen : RunsAreSeen → KindIsKept → HeaderIsKept → StepsKeepMemories → ListedBlocksAreSeen
listed_blocks_are_seen runs kind header keep s lists class lines mag number few sends tau former d received t h p sub head low f ended =
    let near = one_follower runs kind header keep s lists class lines mag number few sends p.id h (sends.followed h p sub head) f in
    shows_listed runs kind header keep s lists class lines mag number few sends (tau +ℤ pos (length received)) h d
    (shows_from runs kind header keep s lists class lines mag number few sends tau former received d t h p sub head low (omega (arith, ints)))
