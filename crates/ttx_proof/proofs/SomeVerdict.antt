-- For each splice some verdict is right.
use Rattle.std.proofs.Common.{◌≡◌, ◌⊎◌, ℕ, zero, suc, ◌+◌, ◌-◌, ◌<◌, ◌≤◌, pos, negsuc, ◌≤ℤ◌, ◌+ℤ◌, true, false, Bool, List, [], ◌∷◌, length, get_or}
use Rattle.std.proofs.Common.{slice_get, Option, Some, None, refl, ap, subst, inl, inr, arith}
use Rattle.std.specs.List.{Contains}
use Rattle.std.proofs.lemmas.Int.{ints}
use Rattle.std.proofs.lemmas.Option.{slice_get_within}
use Rattle.ttx_page.proofs.SlotDistances.{cases_ltz}
use Rattle.ttx_header.specs.Ids.{Id}
use Rattle.ttx_page.specs.Packets.{packet_of}
use Rattle.ttx_page.specs.Pages.{Page, needed}
use Rattle.ttx_page.specs.declared.class.Class.TheVariants.{Any}
use Rattle.ttx_page.specs.declared.item.Item.{Item}
use Rattle.ttx_page.specs.declared.item.Item.TheVariants.{Head as TheHead, Row as TheRow, Links as TheLinks}
use Rattle.ttx_page.specs.Streams.{repeated, run_length, heads, heads_page, carries}
use Rattle.ttx_page.specs.Steady.{IsTrueTo}
use Rattle.ttx_page.specs.Laws.{EachSlotTurns}
use Rattle.ttx_witness.specs.sent.Collected.{item_number, IsItem}
use Rattle.ttx_witness.specs.Coverage.{Certificate, limit, Accepts}
use Rattle.ttx_certify.specs.walks.PageFacts.{FirstBelow}
use Rattle.ttx_witness.specs.laws.JudgingLaws.{TransmissionsAreListed, FirstPeriodIsListed}
use Rattle.ttx_witness.specs.runs.Repeating.{FollowInTime}
use Rattle.ttx_witness.specs.sent.ItemTransmissions.{sent_in, sent_after}
use Rattle.ttx_witness.specs.declared.runs.transmissions.Run.{Run}
use Rattle.ttx_certify.specs.Verdicts.{IsVerdict}
use Rattle.ttx_certify.specs.VerdictLaws.{SomeVerdictIsRight}
use Rattle.ttx_certify.specs.declared.verdict.Verdict.{Verdict}
use Rattle.ttx_certify.specs.declared.verdict.Verdict.TheVariants as verdict
use Rattle.ttx_certify.proofs.Decisions.{item_with, Decided, both, refuted, alike, same_bool, same_option, same_list, same_nat, same_numbers, same_id}
use Rattle.ttx_certify.proofs.Decisions.{same_links, same_class, head_right, row_right, links_right, least_below, any_below}
use Rattle.ttx_proof.specs.Splices.{Splice, IsCommon, HasSeam, IsBridged, NumbersAgree}
use Rattle.ttx_proof.specs.Laws.{IsSplice, BothAccepted, WalksDecide}
use Rattle.ttx_proof.specs.Bridging.{AllFollow, counted, is_named}
use Rattle.ttx_proof.specs.Joining.{JoinedAreListed, AreGiven, joined_list}
use Rattle.ttx_proof.specs.Seams.{IsLeftTo, IsWrongAs, IsWrongSlot, TellsOver, SeamsAreLeft}
use Rattle.ttx_proof.specs.Splicing.{AreKnown, AreBridged}
use Rattle.ttx_proof.specs.Meaning.{SomeSpliceVerdictIsRight}
use Rattle.ttx_proof.specs.Verdicts.{IsFirstLate, HasLate, IsFirstCommon, NoSeam, TellsSeam, IsSpliceVerdict}
use Rattle.ttx_proof.specs.declared.verdict.SpliceReason.TheVariants.{Old, New, Numbers, Seam, SeamLate}
use Rattle.ttx_proof.specs.declared.verdict.SpliceVerdict.{SpliceVerdict}
use Rattle.ttx_proof.specs.declared.verdict.SpliceVerdict.TheVariants.{Yes, No}
use Rattle.ttx_proof.proofs.LatestHeaderBefore.{latest_at, none_met, left_by, left_to_none}
use Rattle.ttx_certify.proofs.ItemByItem.{needed_item}
use Rattle.ttx_proof.proofs.BridgedItems.{AreBridgedBelow, bridged_more, first_late, all_bridged}
use Rattle.ttx_proof.proofs.VerdictOfFindings.{accepted}
use Rattle.ttx_proof.proofs.FirstHangingOver.{no_head, ended, first_is, none_over}
use Rattle.ttx_proof.proofs.PlacesOfPages.{contains_at}
use Rattle.ttx_proof.proofs.SeamAnswers.{seam_told, no_seam_told}
use Rattle.ttx_proof.proofs.BridgedIsSeen.{place_of}

-- pages and lists of pages

same_page : (a b : Page) → Decided (a ≡ b)
same_page a b =
    elim (both (same_id a.id b.id)
    (both (same_nat a.control b.control)
    (both (same_numbers a.head b.head)
    (both (same_list same_numbers a.rows b.rows) (both (same_links a.links b.links) (same_numbers a.crc b.crc)))))) as
    (λ _. Decided (a ≡ b)) [
      | inl e ↦
          let id = e.0 in let control = e.1.0 in let head = e.1.1.0 in let rows = e.1.1.1.0 in let links = e.1.1.1.1.0 in let crc = e.1.1.1.1.1 in
          inl (λ i. record { id = id i; control = control i; head = head i; rows = rows i; links = links i; crc = crc i })
      | inr ne ↦ inr (λ e. ne (
        ap (λ x. x.id) e,
        (ap (λ x. x.control) e, (ap (λ x. x.head) e, (ap (λ x. x.rows) e, (ap (λ x. x.links) e, ap (λ x. x.crc) e)))),
      ))
    ]

holds : (pages : List Page) (p : Page) → Decided (Contains pages p)
holds pages p =
    alike (λ h. contains_at pages h.0 p h.2) (λ among. let at = place_of pages p among in (at.0, slice_get_within pages at.0 p at.1, at.1))
    (any_below (λ i. slice_get pages i ≡ Some p) (length pages) (λ i lt. same_option same_page (slice_get pages i) (Some p)))

page_there : (pages : List Page) (i : ℕ) → i < length pages → (p : Page) × (slice_get pages i ≡ Some p)
page_there [] i lt = absurd (omega arith)
page_there (x ∷ xs) zero lt = (x, refl)
page_there (x ∷ xs) (suc i) lt = page_there xs i (omega arith)

is_common : (c : Splice) (p : Page) → Decided (IsCommon c p)
is_common c p = both (holds c.old_pages p) (holds c.new_pages p)

-- such a page is at a place of the new list
abbrev IsAt : Splice → (Page → Type 0) → ℕ → Type 0
IsAt c P i = (p : Page) × (slice_get c.new_pages i ≡ Some p) × (IsCommon c p × P p)

-- the first common page with a property, or there is none
some_common : (c : Splice) (P : Page → Type 0) → ((p : Page) → Decided (IsCommon c p × P p)) → ((p : Page) × IsFirstCommon c P p)
    ⊎ ((p : Page) → IsCommon c p → P p → ⊥)
some_common c P each = let r = least_below (IsAt c P) (length c.new_pages) decide in told r.0 r.1
  where
    decide : (i : ℕ) → i < length c.new_pages → Decided (IsAt c P i)
    decide i lt =
        let here = page_there c.new_pages i lt in
        alike (λ h. (here.0, here.1, h))
        (λ a. let at = a.1 in let place = here.1 in let same : a.0 ≡ here.0 = cc in subst (λ q. IsCommon c q × P q) same a.2) (each here.0)

    told : (first : Option ℕ) → FirstBelow (IsAt c P) (length c.new_pages) first → ((p : Page) × IsFirstCommon c P p)
        ⊎ ((p : Page) → IsCommon c p → P p → ⊥)
    told (Some i) f = inl (
      f.1.0,
      record {
        index = i;
        place = f.1.1;
        common = f.1.2.0;
        here = f.1.2.1;
        none_before = λ j q lt at common h.
            f.2 j lt (q, at, (common, h));
      },
    )
    told None none = inr (λ p common h. let at = place_of c.new_pages p common.1
        in none at.0 (slice_get_within c.new_pages at.0 p at.1) (p, at.1, (common, h)))

-- seams

true_to : (p : Page) (item : Item) (slot : List ℕ) → Decided (IsTrueTo p item slot)
true_to p TheHead slot = head_right p (packet_of slot)
true_to p (TheRow r) slot = row_right p r (packet_of slot)
true_to p TheLinks slot = links_right p slot (packet_of slot)

wrong_as : (p : Page) (slot : List ℕ) (item : Item) → Decided (IsWrongAs p slot item)
wrong_as p slot item = alike (λ e. (e.0, e.1.0, e.1.1)) (λ w. (w.0, (w.1, w.2)))
    (both (same_bool (needed p item) true)
    (both (same_bool (carries p.id.mag item (packet_of slot)) true) (refuted (true_to p item slot))))

wrong_slot : (p : Page) (slot : List ℕ) → Decided (IsWrongSlot p slot)
wrong_slot p slot = elim (wrong_as p slot TheLinks) as (λ _. Decided (IsWrongSlot p slot)) [
  | inl wrong ↦ inl (TheLinks, wrong)
  | inr right ↦ alike (λ h. (TheRow h.0, h.2)) (λ w. a_row right w.0 w.1)
      (any_below (λ r. IsWrongAs p slot (TheRow r)) 25 (λ r lt. wrong_as p slot (TheRow r)))
]
  where
    a_row : (IsWrongAs p slot TheLinks → ⊥) → (item : Item) → IsWrongAs p slot item → (r : ℕ) × (r < 25) × IsWrongAs p slot (TheRow r)
    a_row right TheHead w = absurd (no_head p.id.mag (packet_of slot) w.1)
    a_row right (TheRow r) w = (r, (let i = (needed_item p (TheRow r) w.0).1 in omega arith), w)
    a_row right TheLinks w = absurd (right w)

is_false : (b : Bool) → (b ≡ true → ⊥) → b ≡ false
is_false false h = refl
is_false true h = absurd (h refl)

-- a header of the magazine a number of slots before the last one
abbrev IsBack : List (List ℕ) → ℕ → ℕ → Type 0
IsBack cycle mag back = heads mag (packet_of (get_or cycle (length cycle - 1 - back) [])) ≡ true

-- whether the old cycle leaves its magazine to the page
is_left : EachSlotTurns → (cycle : List (List ℕ)) → 0 < length cycle → (page : Id) → Decided (IsLeftTo (repeated cycle) page)
is_left turn cycle some page = let r = least_below (IsBack cycle page.mag) (length cycle) (λ back lt. same_bool _ true) in told r.0 r.1
  where
    told : (first : Option ℕ) → FirstBelow (IsBack cycle page.mag) (length cycle) first → Decided (IsLeftTo (repeated cycle) page)
    told (Some back) f =
        let latest = latest_at cycle page.mag back f.0 f.1 (λ i lt. is_false _ (f.2 i lt)) in
        let decides = left_by cycle page (negsuc back) latest (heads_page page (packet_of (repeated cycle (negsuc back)))) refl in
        alike decides.0 decides.1 (same_bool _ true)
    told None none = let never = left_to_none cycle page (none_met cycle page.mag turn some (λ i lt. is_false _ (none i lt)))
        in inr (λ l. let h = never.1 l in cc)

-- a header of the magazine, or a slot that differs from the page
abbrev Ends : List (List ℕ) → Page → ℕ → Type 0
Ends cycle p j = (heads p.id.mag (packet_of (get_or cycle j [])) ≡ true) ⊎ IsWrongSlot p (get_or cycle j [])

-- the first slot that hangs over and differs from the page
first_over : EachSlotTurns → (cycle : List (List ℕ)) → 0 < length cycle → (p : Page) → (first : Option ℕ) × TellsOver (repeated cycle) p first
first_over turn cycle some p = let r = least_below (Ends cycle p) (length cycle) (λ j lt. ends j) in told r.0 r.1
  where
    ends : (j : ℕ) → Decided (Ends cycle p j)
    ends j = elim (same_bool (heads p.id.mag (packet_of (get_or cycle j []))) true) as (λ _. Decided (Ends cycle p j)) [
      | inl header ↦ inl (inl header)
      | inr no_header ↦ elim (wrong_slot p (get_or cycle j [])) as (λ _. Decided (Ends cycle p j)) [
        | inl wrong ↦ inl (inr wrong)
        | inr right ↦ inr (λ e. elim e as (λ _. ⊥) [ inl h ↦ no_header h | inr w ↦ right w ])
      ]
    ]

    ended_at : (j : ℕ) → j < length cycle → ((i : ℕ) → i < j → Ends cycle p i → ⊥) → Ends cycle p j → (first : Option ℕ)
        × TellsOver (repeated cycle) p first
    ended_at j lt before (inl header) = (None, ended cycle p.id.mag (IsWrongSlot p) (λ slot w. (w.0, w.1.1)) j lt header (λ i below w. before i below (inr w)))
    ended_at j lt before (inr wrong) = (
      Some j,
      first_is cycle p.id.mag (IsWrongSlot p) (λ slot w. (w.0, w.1.1)) j lt (λ i below. is_false _ (λ h. before i below (inl h)))
          (λ i below w. before i below (inr w)) wrong,
    )

    told : (first : Option ℕ) → FirstBelow (Ends cycle p) (length cycle) first → (first : Option ℕ) × TellsOver (repeated cycle) p first
    told (Some j) f = ended_at j f.0 f.2 f.1
    told None none = (None, none_over cycle p.id.mag (IsWrongSlot p) (λ slot w. (w.0, w.1.1)) turn some (λ i lt w. none i lt (inr w)))

-- bridges

follows : (limit : ℕ) (r : Run) (rs : List Run) → Decided (FollowInTime limit r rs)
follows limit r [] = inl tt
follows limit r (next ∷ rest) = both in_time (follows limit next rest)
  where
    in_time : Decided (next.end ≤ℤ (r.owner +ℤ pos limit))
    in_time = elim (cases_ltz (r.owner +ℤ pos limit) next.end) as (λ _. Decided (next.end ≤ℤ (r.owner +ℤ pos limit))) [
      | inl late ↦ inr (λ le. omega (arith, ints))
      | inr le ↦ inl le
    ]

all_follow : (limit : ℕ) (rs : List Run) → Decided (AllFollow limit rs)
all_follow limit [] = inl tt
all_follow limit (r ∷ rs) = follows limit r rs

some_run : (repeat : ℕ) (item : Item) → 1 ≤ repeat → 1 ≤ run_length repeat item
some_run repeat TheHead h = h
some_run repeat (TheRow r) h = h
some_run repeat TheLinks h = omega arith

pub record SpliceLaws : Type 0 where
  pub verdicts : SomeVerdictIsRight
  pub turn : EachSlotTurns
  pub left : SeamsAreLeft
  pub walk : WalksDecide
  pub join : JoinedAreListed
  pub list : TransmissionsAreListed
  pub first : FirstPeriodIsListed

module _ (laws : SpliceLaws) (c : Splice) where
  module _ (known : AreKnown c) where
    seam_of : (p : Page) → (slot : Option ℕ) × TellsSeam c p slot
    seam_of p = elim (is_left laws.turn c.old known.splice.old.some p.id) as (λ _. (slot : Option ℕ) × TellsSeam c p slot) [
      | inl left ↦ let over = first_over laws.turn c.new known.splice.new.some p
          in (over.0, seam_told laws.left c p c.old c.new refl refl left over.0 over.1)
      | inr not_left ↦ (None, no_seam_told laws.left c p c.old refl not_left)
    ]

    has_seam : (p : Page) → Decided (HasSeam c p)
    has_seam p = let r = seam_of p in told r.0 r.1
      where
        told : (slot : Option ℕ) → TellsSeam c p slot → Decided (HasSeam c p)
        told None none = inr none
        told (Some slot) f = inl (pos slot, f.here)

    module _ (p : Page) (common : IsCommon c p) where
      bridged : (item : Item) → needed p item ≡ true → Decided (IsBridged c p item)
      bridged item need =
          let w = c.new_certificate in
          let k = run_length w.repeat item - 1 in
          let one = some_run w.repeat item known.splice.new_certificate.some_repeats in
          let len : run_length w.repeat item ≡ suc k = omega arith in
          let old_some : 1 ≤ length c.old = let s = known.splice.old.some in omega arith in
          let new_some : 1 ≤ length c.new = let s = known.splice.new.some in omega arith in
          let at = place_of c.new_pages p common.1 in
          let given : AreGiven c p item (sent_in c.old p.id w.lines item) (sent_after c.old c.new p.id w.lines item)
          (sent_in c.new p.id w.lines item) = record {
            old = (laws.list c.old old_some known.splice.old.most p.id w.lines item).0;
            middle = laws.first c.old c.new old_some p.id w.lines item;
            new = (laws.list c.new new_some known.splice.new.most p.id w.lines item).0;
          } in
          let ts = joined_list c k (sent_in c.old p.id w.lines item) (sent_after c.old c.new p.id w.lines item) (sent_in c.new p.id w.lines item) in
          let joins = laws.join c p item k _ _ _ old_some new_some (known.accepted.new.steady at.0 p at.1).header given in
          let decides = laws.walk c known.splice known.accepted known.alike p common item need k len ts joins in
          alike decides.0 decides.1 (all_follow (limit w) (counted (is_named c p item) k ts))

      abbrev LateBelow : ℕ → Type 0
      LateBelow count = ((item : Item) × IsFirstLate c p item) ⊎ AreBridgedBelow c p count

      late_below : (count : ℕ) → count ≤ 26 → LateBelow count
      late_below zero le = inr (λ item lt need. absurd (omega arith))
      late_below (suc count) le = elim (late_below count (omega arith)) as (λ _. LateBelow (suc count)) [
        | inl late ↦ inl late
        | inr before ↦ let own = item_with count (omega arith) in next own.0 own.1 own.2 before (same_bool (needed p own.0) true)
      ]
        where
          more : (own : Item) → IsItem own → item_number own ≡ count → (needed p own ≡ true → IsBridged c p own) →
              AreBridgedBelow c p count → LateBelow (suc count)
          more own is place here before = let e : count + 1 ≡ suc count = omega arith
              in inr (subst (AreBridgedBelow c p) e (bridged_more c p count own is place here before))

          next : (own : Item) → IsItem own → item_number own ≡ count → AreBridgedBelow c p count → Decided (needed p own ≡ true) →
              LateBelow (suc count)
          next own is place before (inr unseen) = more own is place (λ need. absurd (unseen need)) before
          next own is place before (inl need) = elim (bridged own need) as (λ _. LateBelow (suc count)) [
            | inl b ↦ more own is place (λ _. b) before
            | inr late ↦ inl (own, first_late c p count own is place (is, need, late) before)
          ]

      late_or_bridged : ((item : Item) × IsFirstLate c p item) ⊎ AreBridged c p
      late_or_bridged = elim (late_below 26 (omega arith)) as (λ _. ((item : Item) × IsFirstLate c p item) ⊎ AreBridged c p) [
        | inl late ↦ inl late
        | inr all ↦ inr (all_bridged c p all)
      ]

    has_late : (p : Page) → Decided (IsCommon c p × HasLate c p)
    has_late p = elim (is_common c p) as (λ _. Decided (IsCommon c p × HasLate c p)) [
      | inl common ↦ elim (late_or_bridged p common) as (λ _. Decided (IsCommon c p × HasLate c p)) [
        | inl late ↦ inl (common, (late.0, late.1.here))
        | inr all ↦ inr (λ h. h.1.1.2 (all h.1.0 h.1.1.1))
      ]
      | inr apart ↦ inr (λ h. apart h.0)
    ]

    abbrev SomeOf : Type 0
    SomeOf = (verdict : SpliceVerdict) × IsSpliceVerdict c verdict

    bridged_or_not : NoSeam c → SomeOf
    bridged_or_not no_seam = elim (some_common c (HasLate c) has_late) as (λ _. SomeOf) [
      | inl first ↦ late first.0 first.1 (late_or_bridged first.0 first.1.common)
      | inr none ↦ (Yes, accepted c known no_seam (λ p common. all p common (none p common) (late_or_bridged p common)))
    ]
      where
        late : (p : Page) → IsFirstCommon c (HasLate c) p → ((item : Item) × IsFirstLate c p item) ⊎ AreBridged c p → SomeOf
        late p first (inl item) = (No (SeamLate p.id item.0), (known.accepted, known.alike, no_seam, (p, refl, first, item.1)))
        late p first (inr all) = absurd (first.here.1.2 (all first.here.0 first.here.1.1))

        all : (p : Page) → IsCommon c p → (HasLate c p → ⊥) → ((item : Item) × IsFirstLate c p item) ⊎ AreBridged c p → AreBridged c p
        all p common none (inl item) = absurd (none (item.0, item.1.here))
        all p common none (inr bridged) = bridged

    joined : SomeOf
    joined = elim (some_common c (HasSeam c) (λ p. both (is_common c p) (has_seam p))) as (λ _. SomeOf) [
      | inl first ↦ let told = seam_of first.0 in seam first.0 first.1 told.0 told.1
      | inr none ↦ bridged_or_not none
    ]
      where
        seam : (p : Page) → IsFirstCommon c (HasSeam c) p → (slot : Option ℕ) → TellsSeam c p slot → SomeOf
        seam p first (Some slot) f = (No (Seam p.id slot), (known.accepted, known.alike, (p, refl, first, f)))
        seam p first None none = absurd (none first.here)

  -- verdicts

  are_alike : (v w : Certificate) → Decided (NumbersAgree v w)
  are_alike v w =
      alike (λ e. record { lines = e.0; repeat = e.1.0; deadline = e.1.1.0; old_class = e.1.1.1.0; new_class = e.1.1.1.1 })
      (λ a. (a.lines, (a.repeat, (a.deadline, (a.old_class, a.new_class)))))
      (both (same_nat v.lines w.lines)
      (both (same_nat v.repeat w.repeat)
      (both (same_nat v.deadline w.deadline) (both (same_class v.class Any) (same_class w.class Any)))))

  module _ (is : IsSplice c) where
    abbrev SomeFor : Type 0
    SomeFor = (verdict : SpliceVerdict) × IsSpliceVerdict c verdict

    both_accepted : BothAccepted c → SomeFor
    both_accepted both = elim (are_alike c.old_certificate c.new_certificate) as (λ _. SomeFor) [
      | inl alike ↦ joined (record { splice = is; accepted = both; alike = alike })
      | inr differ ↦ (No Numbers, (both, differ))
    ]

    new_verdict : Accepts c.old c.old_pages c.old_certificate → (v : Verdict) → IsVerdict c.new c.new_pages c.new_certificate v → SomeFor
    new_verdict old verdict.Yes new = both_accepted (record { old = old; new = new })
    new_verdict old (verdict.No reason) new = (No (New reason), (old, new.0, new.1))

    old_verdict : (v : Verdict) → IsVerdict c.old c.old_pages c.old_certificate v → SomeFor
    old_verdict verdict.Yes old = let new = laws.verdicts c.new c.new_pages c.new_certificate is.new is.new_certificate in new_verdict old new.0 new.1
    old_verdict (verdict.No reason) old = (No (Old reason), old)

    some_verdict : SomeFor
    some_verdict = let old = laws.verdicts c.old c.old_pages c.old_certificate is.old is.old_certificate in old_verdict old.0 old.1

pub some_verdict_is_right : SpliceLaws → SomeSpliceVerdictIsRight
some_verdict_is_right laws c is = some_verdict laws c is
