-- What is returned and written when the six files of a splice are judged: two packet files, two service definitions, two certificates.
--
--   AreTwo, RefusesTwo      what two files of one kind are; the first is refused, or it is accepted and the second is refused
--   ReadsTwo                both, in their order, or why they are refused
--   RefusesSix              the first of the six files that is refused
--   ReadsSix                all six, or why they are refused
--   IsSpliceAnswer, IsSentAnswer    the verdict on a splice, and its line; the same when the old cycle has been sent for some periods
--   AreSixWith              the six files are accepted, and a property holds for their splice
--   JudgesSix, AnswersSix   the verdict on the six files, with its line, or why they are refused; what is returned and written for them
use Rattle.std.specs.Prelude.{◌≡◌, ◌⊎◌, ℕ, List, ⊤, Option, IfSome, Result, Ok, Err}
use Rattle.ttx_cycle.specs.Cycles.{slots_of}
use Rattle.ttx_source.specs.Services.{ServiceFields, pages_of}
use Rattle.ttx_certificate.specs.Certificates.{fields_of}
use Rattle.ttx_certificate.specs.Entries.{CertificateFields, certificate_at}
use Rattle.ttx_files.specs.Answers.{WritesAnswer}
use Rattle.ttx_files.specs.Telling.{IsTold}
use Rattle.ttx_files.specs.Texts.{ReadsPackets, ReadsService, ReadsWitness}
use Rattle.ttx_files.specs.declared.faults.FilesFault.{FilesFault}
use Rattle.ttx_files.specs.declared.faults.FilesFault.TheVariants.{NoMemory}
use Rattle.ttx_files.specs.declared.told.Told.{Told}
use Rattle.ttx_proof.specs.Splicing.{splice_at}
use Rattle.ttx_proof.specs.Splices.{Splice}
use Rattle.ttx_proof.specs.SentVerdicts.{IsSentVerdict, SentMeans}
use Rattle.ttx_proof.specs.SpliceLines.{splice_line, sent_line}
use Rattle.ttx_proof.specs.Verdicts.{IsSpliceVerdict, SpliceMeans}
use Rattle.ttx_proof.specs.declared.six_files.Six.{Six}
use Rattle.ttx_proof.specs.declared.six_files.Two.{Two}
use Rattle.ttx_proof.specs.declared.sent.SentVerdict.{SentVerdict}
use Rattle.ttx_proof.specs.declared.verdict.SpliceVerdict.{SpliceVerdict}

abbrev pub AreTwo : {T : Type 0} → (List ℕ → Result T FilesFault → Type 0) → Option (List ℕ) → Option (List ℕ) → T → T → Type 0
AreTwo Reads a b t u = IfSome a (λ x. Reads x (Ok t)) × IfSome b (λ y. Reads y (Ok u))

abbrev pub RefusesTwo : {T : Type 0} → (List ℕ → Result T FilesFault → Type 0) → Option (List ℕ) → Option (List ℕ) → FilesFault → Type 0
RefusesTwo {T} Reads a b fault = IfSome a (λ x. Reads x (Err fault))
    ⊎ (((t : T) × IfSome a (λ x. Reads x (Ok t))) × IfSome b (λ y. Reads y (Err fault)))

abbrev pub ReadsTwo : {T V : Type 0} → (List ℕ → Result V FilesFault → Type 0) → (T → V) → Option (List ℕ) → Option (List ℕ) →
    Result (Two T) FilesFault → Type 0
ReadsTwo Reads view a b (Ok two) = AreTwo Reads a b (view two.old) (view two.new)
ReadsTwo Reads view a b (Err fault) = RefusesTwo Reads a b fault

-- the two files of a kind are accepted
abbrev pub Right : {T : Type 0} → (List ℕ → Result T FilesFault → Type 0) → Option (List ℕ) → Option (List ℕ) → Type 0
Right {T} Reads a b = (t u : T) × AreTwo Reads a b t u

-- packet files first, then services, then certificates
abbrev pub RefusesSix : Option (List ℕ) → Option (List ℕ) → Option (List ℕ) → Option (List ℕ) → Option (List ℕ) → Option (List ℕ) →
    FilesFault → Type 0
RefusesSix a b c d e f fault =
    RefusesTwo ReadsPackets a b fault ⊎ (Right ReadsPackets a b × (RefusesTwo ReadsService c d fault
    ⊎ (Right ReadsService c d × RefusesTwo ReadsWitness e f fault)))

abbrev pub splice_on : List (List ℕ) → List (List ℕ) → ServiceFields → ServiceFields → CertificateFields → CertificateFields → Splice
splice_on old new old_service new_service v w = splice_at old new (pages_of old_service) (pages_of new_service) (certificate_at v) (certificate_at w)

abbrev pub splice_in : Six → Splice
splice_in six = splice_on (slots_of six.cycles.old) (slots_of six.cycles.new) six.services.old six.services.new (fields_of six.witnesses.old)
    (fields_of six.witnesses.new)

pub record IsSpliceAnswer (c : Splice) (verdict : SpliceVerdict) (line : List ℕ) : Type 0 where
  pub exact : IsSpliceVerdict c verdict
  pub seen : SpliceMeans c verdict
  pub line_is : line ≡ splice_line verdict

pub record IsSentAnswer (c : Splice) (periods : ℕ) (verdict : SentVerdict) (line : List ℕ) : Type 0 where
  pub exact : IsSentVerdict c periods verdict
  pub seen : SentMeans c verdict
  pub line_is : line ≡ sent_line verdict

-- the six files are accepted, and the property holds for the splice of their contents
pub record AreSixWith (a b c d e f : Option (List ℕ)) (Says : Splice → Type 0) : Type 0 where
  pub old : List (List ℕ)
  pub new : List (List ℕ)
  pub old_service : ServiceFields
  pub new_service : ServiceFields
  pub v : CertificateFields
  pub w : CertificateFields
  pub cycles : AreTwo ReadsPackets a b old new
  pub services : AreTwo ReadsService c d old_service new_service
  pub certificates : AreTwo ReadsWitness e f v w
  pub told : Says (splice_on old new old_service new_service v w)

-- the first file that is refused, or memory ran out
abbrev pub IsSixRefused : Option (List ℕ) → Option (List ℕ) → Option (List ℕ) → Option (List ℕ) → Option (List ℕ) → Option (List ℕ) →
    FilesFault → Type 0
IsSixRefused a b c d e f NoMemory = ⊤
IsSixRefused a b c d e f fault = RefusesSix a b c d e f fault

-- the contents of the six files, or the first of them that is refused
abbrev pub ReadsSix : Option (List ℕ) → Option (List ℕ) → Option (List ℕ) → Option (List ℕ) → Option (List ℕ) → Option (List ℕ) →
    Result Six FilesFault → Type 0
ReadsSix a b c d e f (Ok six) =
    AreTwo ReadsPackets a b (slots_of six.cycles.old) (slots_of six.cycles.new) × AreTwo ReadsService c d six.services.old six.services.new
    × AreTwo ReadsWitness e f (fields_of six.witnesses.old) (fields_of six.witnesses.new)
ReadsSix a b c d e f (Err fault) = IsSixRefused a b c d e f fault

module _ {V : Type 0} (Says : Splice → V → List ℕ → Type 0) where
  abbrev pub JudgesSix : Option (List ℕ) → Option (List ℕ) → Option (List ℕ) → Option (List ℕ) → Option (List ℕ) → Option (List ℕ) →
      Result (Told V) FilesFault → Type 0
  JudgesSix a b c d e f told = IsTold (λ verdict line. AreSixWith a b c d e f (λ s. Says s verdict line)) (IsSixRefused a b c d e f) told

  abbrev pub AnswersSix : Option (List ℕ) → Option (List ℕ) → Option (List ℕ) → Option (List ℕ) → Option (List ℕ) → Option (List ℕ) →
      Option (List ℕ) → Option (List ℕ) → Result V FilesFault → Type 0
  AnswersSix a b c d e f old new result =
      WritesAnswer (λ verdict line. AreSixWith a b c d e f (λ s. Says s verdict line)) (IsSixRefused a b c d e f) old new result
