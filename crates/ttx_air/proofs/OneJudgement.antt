-- Of two judgements of the same change that are right, each is the other.
use Rattle.std.proofs.Common.{◌≡◌, ◌⊎◌, inl, inr, ℕ, ◌<◌, ◌==◌, ◌&&◌, true, false, pos, List, slice_get, Some}
use Rattle.std.proofs.Common.{refl, sym, ap, ◌∙◌, subst, arith, eqb-true}
use Rattle.std.proofs.lemmas.Bool.{cases_order, and_parts}
use Rattle.ttx_header.specs.Ids.{Id, same_id}
use Rattle.ttx_page.specs.Packets.{Packet, Empty, Unreadable, Header, Row, Links, Info, Other, packet_of}
use Rattle.ttx_page.specs.Pages.{Page}
use Rattle.ttx_page.specs.Streams.{repeated, heads_page}
use Rattle.ttx_late.specs.Followed.{AreFollowedWithin, IsGreatestGap}
use Rattle.ttx_late.specs.LateVerdicts.{IsNeverShown}
use Rattle.ttx_proof.specs.declared.verdict.SpliceReason.{SpliceReason}
use Rattle.ttx_proof.specs.declared.verdict.SpliceVerdict.TheVariants as splice
use Rattle.ttx_proof.specs.Laws.{IsSplice}
use Rattle.ttx_proof.specs.Meaning.{SpliceVerdictsAreOne}
use Rattle.ttx_playout.specs.Schedules.{Edition, IsEdition, change}
use Rattle.ttx_playout.specs.Takeovers.{IsChangeVerdict}
use Rattle.ttx_playout.specs.LateSchedules.{AllAreFollowedAcross}
use Rattle.ttx_playout.specs.LateChanges.{IsFirstUnfollowed, IsFollowedChange}
use Rattle.ttx_playout.specs.declared.late_change.LateChange.{LateChange}
use Rattle.ttx_playout.specs.declared.late_change.LateChange.TheVariants.{Yes, No, NeverShown, TooFar, Unfollowed}
use Rattle.ttx_air.specs.declared.airtime.Receivers.{Receivers}
use Rattle.ttx_air.specs.declared.airtime.Receivers.TheVariants.{AtOnce, Late}
use Rattle.ttx_air.specs.Judgements.{IsJudgement}

abbrev pub JudgementsAreOne : Type 0
JudgementsAreOne = (receivers : Receivers) (old new : Edition) (v w : LateChange) → IsEdition old → IsEdition new → IsJudgement receivers old new v →
    IsJudgement receivers old new w → v ≡ w

-- ---- a header is of one page

one_id : (a b : Id) → same_id a b ≡ true → a ≡ b
one_id a b same =
    let front : ((a.mag == b.mag) && (a.page == b.page)) ≡ true = (and_parts _ _ same).0 in
    let mag : a.mag ≡ b.mag = eqb-true a.mag b.mag ((and_parts _ _ front).0) in
    let page : a.page ≡ b.page = eqb-true a.page b.page ((and_parts _ _ front).1) in
    let sub : a.sub ≡ b.sub = eqb-true a.sub b.sub ((and_parts _ _ same).1) in
    λ i. record { mag = mag i; page = page i; sub = sub i }

one_page : (a b : Id) (packet : Packet) → heads_page a packet ≡ true → heads_page b packet ≡ true → a ≡ b
one_page a b (Header id control text) x y = one_id a id x ∙ sym (one_id b id y)
one_page a b Empty x y = absurd (let e : false ≡ true = x in cc)
one_page a b Unreadable x y = absurd (let e : false ≡ true = x in cc)
one_page a b (Row mag number text) x y = absurd (let e : false ≡ true = x in cc)
one_page a b (Links mag content) x y = absurd (let e : false ≡ true = x in cc)
one_page a b Info x y = absurd (let e : false ≡ true = x in cc)
one_page a b Other x y = absurd (let e : false ≡ true = x in cc)

-- ---- the reasons of late receivers

module _ (cycle : List (List ℕ)) (pages : List Page) where
  one_slot : (page other : Id) (slot at : ℕ) → IsNeverShown cycle pages page slot → IsNeverShown cycle pages other at → slot ≡ at
  one_slot page other slot at a b = elim (cases_order slot at) as (λ _. slot ≡ at) [
    | inl e ↦ e
    | inr (inl lt) ↦ absurd (a.first.here.1 (b.first.none_before slot a.index a.first.page lt a.first.listed a.first.here.0))
    | inr (inr lt) ↦ absurd (b.first.here.1 (a.first.none_before at b.index b.first.page lt b.first.listed b.first.here.0))
  ]

  one_shown : (page other : Id) (slot at : ℕ) → IsNeverShown cycle pages page slot → IsNeverShown cycle pages other at →
      NeverShown page slot ≡ NeverShown other at
  one_shown page other slot at a b =
      let e = one_slot page other slot at a b in
      let here : heads_page b.first.page.id (packet_of (repeated cycle (pos slot))) ≡ true =
      subst (λ n. heads_page b.first.page.id (packet_of (repeated cycle (pos n))) ≡ true) (sym e) b.first.here.0 in
      let same : page ≡ other =
      sym a.is ∙ one_page a.first.page.id b.first.page.id (packet_of (repeated cycle (pos slot))) a.first.here.0 here ∙ b.is in
      λ i. NeverShown (same i) (e i)

  not_within : (page : Id) (slot gap : ℕ) → IsNeverShown cycle pages page slot → AreFollowedWithin cycle pages gap → ⊥
  not_within page slot gap a within = a.first.here.1 (within a.index a.first.page a.first.listed (pos slot) a.first.here.0).0

  one_gap : (gap other : ℕ) → IsGreatestGap cycle pages gap → IsGreatestGap cycle pages other → gap ≡ other
  one_gap gap other a b = let low = a.least other b.within in let high = b.least gap a.within in omega (arith, low, high)

  not_far : (greatest gap : ℕ) → IsGreatestGap cycle pages greatest → gap < greatest → AreFollowedWithin cycle pages gap → ⊥
  not_far greatest gap a lt within = let low = a.least gap within in omega (arith, low, lt)

module _ (old new : List (List ℕ)) (pages : List Page) (gap : ℕ) where
  one_index : (page other : Id) → (a : IsFirstUnfollowed old new pages gap page) → (b : IsFirstUnfollowed old new pages gap other) → a.index ≡ b.index
  one_index page other a b = elim (cases_order a.index b.index) as (λ _. a.index ≡ b.index) [
    | inl e ↦ e
    | inr (inl lt) ↦ absurd (a.here (b.none_before a.index a.first lt a.listed))
    | inr (inr lt) ↦ absurd (b.here (a.none_before b.index b.first lt b.listed))
  ]

  one_unfollowed : (page other : Id) → IsFirstUnfollowed old new pages gap page → IsFirstUnfollowed old new pages gap other →
      Unfollowed page ≡ Unfollowed other
  one_unfollowed page other a b =
      let e : Some a.first ≡ Some b.first = sym a.listed ∙ ap (slice_get pages) (one_index page other a b) ∙ b.listed in
      let first : a.first ≡ b.first = cc in
      ap Unfollowed (sym a.is ∙ ap (λ p. p.id) first ∙ b.is)

  not_across : (page : Id) → IsFirstUnfollowed old new pages gap page → AllAreFollowedAcross old new pages gap → ⊥
  not_across page a all = a.here (all a.index a.first a.listed)

-- ---- of a change that the splice accepts

one_followed : (old new : Edition) (gap : ℕ) (v w : LateChange) → IsFollowedChange old new gap v → IsFollowedChange old new gap w → v ≡ w
one_followed old new gap Yes Yes a b = refl
one_followed old new gap Yes (No reason) a b = absurd b
one_followed old new gap Yes (NeverShown page slot) a b = absurd (not_within new.cycle new.pages page slot gap b a.0)
one_followed old new gap Yes (TooFar greatest) a b = absurd (not_far new.cycle new.pages greatest gap b.0 b.1 a.0)
one_followed old new gap Yes (Unfollowed page) a b = absurd (not_across old.cycle new.cycle old.pages gap page b.1 a.1)
one_followed old new gap (No reason) w a b = absurd a
one_followed old new gap (NeverShown page slot) Yes a b = absurd (not_within new.cycle new.pages page slot gap a b.0)
one_followed old new gap (NeverShown page slot) (No reason) a b = absurd b
one_followed old new gap (NeverShown page slot) (NeverShown other at) a b = one_shown new.cycle new.pages page other slot at a b
one_followed old new gap (NeverShown page slot) (TooFar greatest) a b = absurd (not_within new.cycle new.pages page slot greatest a b.0.within)
one_followed old new gap (NeverShown page slot) (Unfollowed other) a b = absurd (not_within new.cycle new.pages page slot gap a b.0)
one_followed old new gap (TooFar greatest) Yes a b = absurd (not_far new.cycle new.pages greatest gap a.0 a.1 b.0)
one_followed old new gap (TooFar greatest) (No reason) a b = absurd b
one_followed old new gap (TooFar greatest) (NeverShown page slot) a b = absurd (not_within new.cycle new.pages page slot greatest b a.0.within)
one_followed old new gap (TooFar greatest) (TooFar other) a b = ap TooFar (one_gap new.cycle new.pages greatest other a.0 b.0)
one_followed old new gap (TooFar greatest) (Unfollowed page) a b = absurd (not_far new.cycle new.pages greatest gap a.0 a.1 b.0)
one_followed old new gap (Unfollowed page) Yes a b = absurd (not_across old.cycle new.cycle old.pages gap page a.1 b.1)
one_followed old new gap (Unfollowed page) (No reason) a b = absurd b
one_followed old new gap (Unfollowed page) (NeverShown other at) a b = absurd (not_within new.cycle new.pages other at gap b a.0)
one_followed old new gap (Unfollowed page) (TooFar greatest) a b = absurd (not_far new.cycle new.pages greatest gap b.0 b.1 a.0)
one_followed old new gap (Unfollowed page) (Unfollowed other) a b = one_unfollowed old.cycle new.cycle old.pages gap page other a.1 b.1

-- ---- the splice's verdict, and the late one

Follows : Receivers → Edition → Edition → LateChange → Type 0
Follows AtOnce old new v = v ≡ Yes
Follows (Late gap) old new v = IsFollowedChange old new gap v

-- refused by the splice, or accepted and followed
Splits : Receivers → Edition → Edition → LateChange → Type 0
Splits receivers old new v = ((reason : SpliceReason) × (v ≡ No reason) × IsChangeVerdict old new (splice.No reason))
    ⊎ (IsChangeVerdict old new splice.Yes × Follows receivers old new v)

splits : (receivers : Receivers) (old new : Edition) (v : LateChange) → IsJudgement receivers old new v → Splits receivers old new v
unfolding Splits Follows
splits AtOnce old new Yes is = inr (is, refl)
splits AtOnce old new (No reason) is = inl (reason, refl, is)
splits AtOnce old new (NeverShown page slot) is = absurd is
splits AtOnce old new (TooFar gap) is = absurd is
splits AtOnce old new (Unfollowed page) is = absurd is
splits (Late gap) old new Yes is = inr is
splits (Late gap) old new (No reason) is = inl (reason, refl, is)
splits (Late gap) old new (NeverShown page slot) is = inr is
splits (Late gap) old new (TooFar greatest) is = inr is
splits (Late gap) old new (Unfollowed page) is = inr is

both_follow : (receivers : Receivers) (old new : Edition) (v w : LateChange) → Follows receivers old new v → Follows receivers old new w → v ≡ w
unfolding Follows
both_follow AtOnce old new v w a b = a ∙ sym b
both_follow (Late gap) old new v w a b = one_followed old new gap v w a b

module _ (one : SpliceVerdictsAreOne) (receivers : Receivers) (old new : Edition) (v w : LateChange) (is_old : IsEdition old) (is_new : IsEdition new) where
  is_splice : IsSplice (change old new)
  is_splice = record {
    old = is_old.cycle;
    new = is_new.cycle;
    old_pages = is_old.pages;
    new_pages = is_new.pages;
    old_certificate = is_old.certificate;
    new_certificate = is_new.certificate;
  }

  same_verdict : Splits receivers old new v → Splits receivers old new w → v ≡ w
  unfolding Splits
  same_verdict (inl a) (inl b) =
      let e : splice.No a.0 ≡ splice.No b.0 = one (change old new) is_splice (splice.No a.0) (splice.No b.0) a.2 b.2 in
      let same : a.0 ≡ b.0 = cc in
      a.1 ∙ ap No same ∙ sym b.1
  same_verdict (inl a) (inr b) =
      absurd (let e : splice.No a.0 ≡ splice.Yes = one (change old new) is_splice (splice.No a.0) splice.Yes a.2 b.0 in cc)
  same_verdict (inr a) (inl b) =
      absurd (let e : splice.Yes ≡ splice.No b.0 = one (change old new) is_splice splice.Yes (splice.No b.0) a.0 b.2 in cc)
  same_verdict (inr a) (inr b) = both_follow receivers old new v w a.1 b.1

pub judgements_are_one : SpliceVerdictsAreOne → JudgementsAreOne
judgements_are_one one receivers old new v w is_old is_new a b =
    same_verdict one receivers old new v w is_old is_new (splits receivers old new v a) (splits receivers old new w b)
