-- What follows the edition on the air (profile): the planned edition or, where only an item that comes too late through the change is in the
-- way, the same cycle begun at another page header.
--
--   Leaves                  what an edition leaves open at a change; Yes if nothing
--   MayFollow               the change is accepted for the receivers that have to be served, and leaves nothing open
--   EndsBetweenPages        for late receivers, the cycle does not end amid a page, so that another edition can follow
--   IsTurnOf                an edition whose cycle begins with another slot, with the certificate that is found for it
--   Suits                   such an edition is accepted, may follow, and ends between two pages
--   IsTurnedTo, IsPassed    a turn that suits; one that does not
--   TriesTurn, TakesTurn    a turn is tried; the first of some turns that suits, without one the edition as it is
--   tells_late, IsItemLate  whether only an item that comes too late through the change is in the way
--   Succeeds                what follows, of a planned edition
use Rattle.std.specs.Prelude.{◌≡◌, ◌⊎◌, ℕ, Bool, true, false, List, [], ◌∷◌, take}
use Rattle.ttx_air.specs.Judgements.{IsJudgement}
use Rattle.ttx_air.specs.declared.airtime.Receivers.{Receivers}
use Rattle.ttx_air.specs.declared.airtime.Receivers.TheVariants.{AtOnce, Late}
use Rattle.ttx_certificate.specs.Entries.{CertificateFields, certificate_at}
use Rattle.ttx_certify.specs.declared.verdict.Verdict.{Verdict}
use Rattle.ttx_certify.specs.declared.verdict.Verdict.TheVariants as certified
use Rattle.ttx_change.specs.LateSplices.{TellsOpen}
use Rattle.ttx_change.specs.declared.verdict.LateSplice.{LateSplice}
use Rattle.ttx_change.specs.declared.verdict.LateSplice.TheVariants as left
use Rattle.ttx_deadline.specs.Deadlines.{IsFoundWith}
use Rattle.ttx_playout.specs.Schedules.{Edition, change}
use Rattle.ttx_playout.specs.Takeovers.{IsChangeVerdict}
use Rattle.ttx_playout.specs.declared.late_change.LateChange.TheVariants.{Yes}
use Rattle.ttx_proof.specs.LastBlocks.{NoneIsAmid}
use Rattle.ttx_proof.specs.declared.verdict.SpliceReason.TheVariants.{SeamLate}
use Rattle.ttx_proof.specs.declared.verdict.SpliceVerdict.{SpliceVerdict}
use Rattle.ttx_proof.specs.declared.verdict.SpliceVerdict.TheVariants.{No}
use Rattle.ttx_press.specs.Houses.{asked_of}
use Rattle.ttx_press.specs.Turns.{turned, turns}
use Rattle.ttx_press.specs.declared.house.House.{House}

-- receivers that show rows as they come have nothing open
abbrev pub Leaves : Receivers → Edition → Edition → LateSplice → Type 0
Leaves AtOnce old new what = what ≡ left.Yes
Leaves (Late gap) old new what = TellsOpen (change old new) what

-- the verdict is the air's own
abbrev pub MayFollow : Receivers → Edition → Edition → Type 0
MayFollow receivers old new = IsJudgement receivers old new Yes × Leaves receivers old new left.Yes

-- all of each page has come under its last header; an edition that ends amid a page could not be followed
abbrev pub EndsBetweenPages : Receivers → Edition → Type 0
EndsBetweenPages AtOnce e = Unit {0}
EndsBetweenPages (Late gap) e = NoneIsAmid e.cycle e.pages

pub record IsTurnOf (h : House) (e : Edition) (at : ℕ) (t : Edition) (verdict : Verdict) : Type 0 where
  pub cycle : t.cycle ≡ turned at e.cycle
  pub pages : t.pages ≡ e.pages
  pub w : CertificateFields
  pub found : IsFoundWith t.cycle t.pages e.certificate.lines (asked_of h) w verdict
  pub certificate : t.certificate ≡ certificate_at w

-- the verdict is that on the cycle with its certificate
pub record Suits (receivers : Receivers) (old t : Edition) (verdict : Verdict) : Type 0 where
  pub accepted : verdict ≡ certified.Yes
  pub between : EndsBetweenPages receivers t
  pub follows : MayFollow receivers old t

pub record IsTurnedTo (h : House) (old e : Edition) (at : ℕ) (t : Edition) : Type 0 where
  pub verdict : Verdict
  pub turn : IsTurnOf h e at t verdict
  pub suits : Suits h.receivers old t verdict

pub record IsPassed (h : House) (old e : Edition) (at : ℕ) : Type 0 where
  pub t : Edition
  pub verdict : Verdict
  pub turn : IsTurnOf h e at t verdict
  pub suits_not : Suits h.receivers old t verdict → ⊥

abbrev pub TriesTurn : Bool → House → Edition → Edition → ℕ → Edition → Type 0
TriesTurn true h old e at t = IsTurnedTo h old e at t
TriesTurn false h old e at t = (t ≡ e) × IsPassed h old e at

abbrev pub TakesTurn : House → Edition → Edition → List ℕ → Edition → Type 0
TakesTurn h old e [] t = t ≡ e
TakesTurn h old e (at ∷ places) t = IsTurnedTo h old e at t ⊎ (IsPassed h old e at × TakesTurn h old e places t)

abbrev pub tells_late : SpliceVerdict → Bool
tells_late (No (SeamLate page item)) = true
tells_late _ = false

pub record IsItemLate (old planned : Edition) (late : Bool) : Type 0 where
  pub verdict : SpliceVerdict
  pub is : IsChangeVerdict old planned verdict
  pub same : tells_late verdict ≡ late

-- at most 64 turns
abbrev pub SucceedsBy : Bool → House → Edition → Edition → Edition → Type 0
SucceedsBy false h old planned next = next ≡ planned
SucceedsBy true h old planned next = TakesTurn h old planned (take 64 (turns old.cycle planned.cycle)) next

abbrev pub Succeeds : House → Edition → Edition → Edition → Type 0
Succeeds h old planned next = (late : Bool) × IsItemLate old planned late × SucceedsBy late h old planned next
