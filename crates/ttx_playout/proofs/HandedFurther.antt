-- A schedule that is handed on, with one more period, and with one more edition.
use Rattle.std.proofs.Common.{◌≡◌, ℕ, ◌+◌, ◌*◌, ◌≤◌, List, [], ◌∷◌, length, refl, subst, arith}
use Rattle.ttx_witness.specs.Coverage.{limit}
use Rattle.ttx_proof.specs.Verdicts.{IsSpliceVerdict}
use Rattle.ttx_proof.specs.declared.verdict.SpliceVerdict.TheVariants.{Yes}
use Rattle.ttx_playout.specs.Schedules.{Edition, Showing, span, edition_at, one_more, taken, IsEdition, AreEditions, change, LastsToNext, IsHandedOn}
use Rattle.ttx_playout.specs.Takeovers.{IsSentFor, HasSent}
use Rattle.ttx_playout.specs.Laws.{CountedIsHandedOn}
use Rattle.ttx_playout.specs.declared.state.OnAir.{OnAir}

pub handed_taken : (first next : Edition) (later : List Showing) (held : ℕ) → IsHandedOn first later → IsSentFor later held →
    limit (edition_at first later (length later)).certificate ≤ held →
    IsSpliceVerdict (change (edition_at first later (length later)) next) Yes → IsHandedOn first (taken later next)
handed_taken first next [] held handed sent long is = (is, tt, (is.0.new, is.1.new_class))
handed_taken first next (t ∷ []) held handed sent long is = (handed.0, omega arith, (is, tt, (is.0.new, is.1.new_class)))
handed_taken first next (t ∷ u ∷ later) held handed sent long is =
    (handed.0, handed.1, handed_taken t.edition next (u ∷ later) held handed.2 sent long is)

pub editions_taken : (first next : Edition) (later : List Showing) → AreEditions first later → IsEdition next → AreEditions first (taken later next)
editions_taken first next [] are is = (are, is)
editions_taken first next (t ∷ later) are is = (are.0, editions_taken t.edition next later are.1 is)

pub last_taken : (first next : Edition) (later : List Showing) → edition_at first (taken later next) (length (taken later next)) ≡ next
last_taken first next [] = refl
last_taken first next (t ∷ later) = last_taken t.edition next later

pub sent_taken : (next : Edition) (later : List Showing) → IsSentFor (taken later next) 0
sent_taken next [] = omega arith
sent_taken next (t ∷ []) = omega arith
sent_taken next (t ∷ u ∷ later) = sent_taken next (u ∷ later)

more_lasts : (t next : Showing) (later : List Showing) → limit t.edition.certificate ≤ span t → LastsToNext t (one_more (next ∷ later))
more_lasts t next [] lasts = lasts
more_lasts t next (u ∷ later) lasts = lasts

pub handed_more : (first : Edition) (later : List Showing) → IsHandedOn first later → IsHandedOn first (one_more later)
handed_more first [] handed = handed
handed_more first (t ∷ []) handed = handed
handed_more first (t ∷ next ∷ later) handed = (handed.0, more_lasts t next later handed.1, handed_more t.edition (next ∷ later) handed.2)

pub editions_more : (first : Edition) (later : List Showing) → AreEditions first later → AreEditions first (one_more later)
editions_more first [] are = are
editions_more first (t ∷ []) are = are
editions_more first (t ∷ next ∷ later) are = (are.0, editions_more t.edition (next ∷ later) are.1)

pub last_more : (first : Edition) (later : List Showing) →
    edition_at first (one_more later) (length (one_more later)) ≡ edition_at first later (length later)
last_more first [] = refl
last_more first (t ∷ []) = refl
last_more first (t ∷ next ∷ later) = last_more t.edition (next ∷ later)

pub sent_more : (first : Edition) (later : List Showing) (held more : ℕ) → IsSentFor later held →
    more ≤ held + length (edition_at first later (length later)).cycle → IsSentFor (one_more later) more
sent_more first [] held more sent le = tt
sent_more first (t ∷ []) held more sent le = product t.periods (length t.edition.cycle) sent le
  where
    product : (m n : ℕ) → held ≤ m * n → more ≤ held + n → more ≤ (m + 1) * n
    product m n a b = omega arith
sent_more first (t ∷ u ∷ []) held more sent le = sent_more t.edition (u ∷ []) held more sent le
sent_more first (t ∷ u ∷ v ∷ later) held more sent le = sent_more t.edition (u ∷ v ∷ later) held more sent le

-- the same schedule
pub sent_by : (log : List (List ℕ)) (o : OnAir) (first : Edition) (later other : List Showing) → later ≡ other → HasSent log o first later →
    HasSent log o first other
sent_by log o first later other same has = subst (HasSent log o first) same has

pub counted_is_handed_on : CountedIsHandedOn
counted_is_handed_on first next later periods handed sent told =
    handed_taken first next later (periods * length (edition_at first later (length later)).cycle) handed sent told.1 told.0
