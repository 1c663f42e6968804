-- What a house makes of texts.
--
--   IsAmid                  why the edition of a text may not follow: its begin would stand amid a page
--   IsPressed               the edition of a text, which follows the one on the air as it is planned or begun elsewhere
--   Presses                 an edition, or why there is none; memory may run out
--   prints, text_gives      the edition that a house makes of a text; the answers of a newsroom over a text
--   IsFirst                 the edition of a first text, with the mark of the text
use Rattle.std.specs.Prelude.{◌≡◌, ◌⊎◌, ℕ, List, [], ◌∷◌, ◌++◌}
use Rattle.sha2.specs.Sha256.{sha256}
use Rattle.ttx_air.specs.Newsrooms.{Candidate, News}
use Rattle.ttx_change.specs.LateSpliceLines.{late_splice_line}
use Rattle.ttx_change.specs.WholeChanges.{IsNotOpen}
use Rattle.ttx_change.specs.declared.verdict.LateSplice.{LateSplice}
use Rattle.ttx_change.specs.declared.verdict.LateSplice.TheVariants.{Yes}
use Rattle.ttx_air.specs.TextNewsrooms.{Reading, Made, Printed, Spoilt, Short, mark_of, Looks}
use Rattle.ttx_air.specs.declared.text_newsroom.TextNewsroom.{TextNewsroom}
use Rattle.ttx_playout.specs.Schedules.{Edition}
use Rattle.ttx_press.specs.Editions.{IsPrinted, IsSpoilt}
use Rattle.ttx_press.specs.Successors.{Leaves, Succeeds}
use Rattle.ttx_press.specs.declared.house.House.{House}

-- the edition on the air would leave something of a page open; the words are those of `splice --late`
pub record IsAmid (h : House) (on_air : Edition) (text words : List ℕ) : Type 0 where
  pub next : Edition
  pub printed : IsPrinted h text next
  pub what : LateSplice
  pub leaves : Leaves h.receivers on_air next what
  pub is_open : IsNotOpen what → ⊥
  pub line : late_splice_line what ≡ words ++ 10 ∷ []

pub record IsPressed (h : House) (on_air : Edition) (text : List ℕ) (next : Edition) : Type 0 where
  pub planned : Edition
  pub printed : IsPrinted h text planned
  pub leaves : Leaves h.receivers on_air planned Yes
  pub succeeds : Succeeds h on_air planned next

abbrev pub Presses : House → Edition → List ℕ → Made → Type 0
Presses h on_air text (Printed next) = IsPressed h on_air text next
Presses h on_air text (Spoilt words) = IsSpoilt h text words ⊎ IsAmid h on_air text words
Presses h on_air text Short = Unit {0}

abbrev pub prints : House → Edition → List ℕ → Made → House → Type 0
prints old on_air text made new = (new ≡ old) × Presses old on_air text made

abbrev pub text_gives : {S : Type 0} → (S → Reading → S → Type 0) → TextNewsroom S House → Edition → ℕ → News → TextNewsroom S House → Type 0
text_gives reads old on_air field news new = Looks reads prints on_air field old new news

abbrev pub IsFirst : House → List ℕ → Candidate → Type 0
IsFirst h text first = IsPrinted h text first.edition × (first.mark ≡ mark_of (sha256 text))
