-- Two answers for one cycle are of one kind.
use Rattle.std.proofs.Common.{◌≡◌, ◌⊎◌, ℕ, ◌<◌, ◌≤◌, List, length, Some, None, Result, Ok, Err, refl, sym, ap}
use Rattle.std.proofs.Common.{◌∙◌, subst, inl, inr, arith}
use Rattle.ttx_cycle.specs.Bounded.{most_bytes}
use Rattle.ttx_source.specs.Faults.{fault_of}
use Rattle.ttx_source.specs.Services.{ServiceFields, read_bytes}
use Rattle.ttx_source.specs.Values.{Fault}
use Rattle.ttx_source.specs.declared.faults.SourceError.{SourceError}
use Rattle.ttx_source.specs.declared.faults.SourceFault.{SourceFault}
use Rattle.ttx_source.specs.declared.faults.SourceFault.TheVariants as source
use Rattle.ttx_certify.specs.CertifyingFiles.{IsServiceText}
use Rattle.ttx_header.specs.Ids.{Id}
use Rattle.ttx_witness.specs.declared.faults.reason.Reason.{Reason as WitnessReason}
use Rattle.ttx_witness.specs.laws.JudgingLaws.{TransmissionsAreListed}
use Rattle.ttx_extract.specs.Drafts.{sent_draft}
use Rattle.ttx_extract.specs.Extracts.{IsExtract, IsFirstReason, IsSaid, IsWritten, HasOffset, IsMinusZero, IsNotSaid}
use Rattle.ttx_extract.specs.NamedPages.{named}
use Rattle.ttx_extract.specs.Naming.{AreTooMany, HasNoPage, IsNamingFault}
use Rattle.ttx_extract.specs.OnlyService.{Outcome, written, minus_zero, no_service, long_text, other_text, unsteady, outcome_of, outcome_of_source, IsAnswer}
use Rattle.ttx_extract.specs.ServiceTexts.{service_text}
use Rattle.ttx_extract.specs.declared.extraction.Extracted.{Extracted}
use Rattle.ttx_extract.specs.declared.faults.ExtractFault.{ExtractFault}
use Rattle.ttx_extract.specs.declared.faults.ExtractFault.TheVariants.{Conflict, Reason, Info, Service, TooLong, Unsaid, NoMemory}
use Rattle.ttx_extract.proofs.FirstInfos.{first_is}
use Rattle.ttx_extract.proofs.NotSteady.{none_is_steady}

none_some : {A : Type 0} (a : A) → None ≡ Some a → ⊥
none_some a e = cc

some_same : (m n : Outcome) → Some m ≡ Some n → m ≡ n
some_same m n e = cc

ok_err : {A B : Type 0} (a : A) (b : B) → Ok a ≡ Err b → ⊥
ok_err a b e = cc

ok_same : {A B : Type 0} (r : Result A B) (a b : A) → r ≡ Ok a → r ≡ Ok b → a ≡ b
ok_same r a b e f = cc

module _ (slots : List (List ℕ)) (lines : ℕ) where
  abbrev d : ServiceFields
  d = sent_draft slots lines

  abbrev text : List ℕ
  text = service_text d

  -- what the answers of a kind have in common
  abbrev IsKind : Outcome → Type 0
  IsKind written = IsSaid slots lines × IsExtract slots lines d
  IsKind minus_zero = HasOffset slots → ⊥
  IsKind no_service = HasOffset slots × ((IsWritten slots → ⊥) ⊎ ((length text ≤ most_bytes) × ((fault : Fault × ℕ) × (read_bytes text ≡ Err fault))))
  IsKind long_text = IsWritten slots × (most_bytes < length text)
  IsKind other_text = IsWritten slots × ((service : ServiceFields) × IsServiceText text service × (service ≡ d → ⊥))
  IsKind unsteady = IsSaid slots lines × ((page : Id) × (reason : WitnessReason) × IsFirstReason slots lines page reason)

  minus : (slot : ℕ) → IsMinusZero slots slot → HasOffset slots → ⊥
  minus slot is offset = offset is.fields (first_is slots slot is.fields is.within is.here is.none_before) is.none is.negative

  not_many : (error : SourceError) → AreTooMany (named slots) error → IsWritten slots → ⊥
  not_many error many is = let f = is.few in let m = many.many in omega arith

  not_page : (error : SourceError) → HasNoPage (named slots) error → IsWritten slots → ⊥
  not_page error bad is = is.subs bad.place bad.id bad.here bad.sub

  of_naming : (error : SourceError) → HasOffset slots → IsNamingFault (named slots) (Service error) → IsKind no_service
  of_naming error offset naming = (
    offset,
    elim naming as (λ _. (IsWritten slots → ⊥)
        ⊎ ((length text ≤ most_bytes) × ((fault : Fault × ℕ) × (read_bytes text ≡ Err fault)))) [
          | inl many ↦ inl (not_many error many)
          | inr bad ↦ inl (not_page error bad.1)
        ],
  )

  memory_has_none : (error : SourceError) (m : Outcome) → error ≡ record { fault = source.NoMemory; page = 0 } → outcome_of_source error.fault ≡ Some m → ⊥
  memory_has_none error m is kind = none_some m (sym (ap (λ e. outcome_of_source e.fault) is) ∙ kind)

  of_service : (error : SourceError) (m : Outcome) → outcome_of_source error.fault ≡ Some m →
      (HasOffset slots × IsNamingFault (named slots) (Service error)) ⊎ IsNotSaid slots lines (Service error) → IsKind no_service
  of_service error m kind says = elim says as (λ _. IsKind no_service) [
    | inl naming ↦ of_naming error naming.0 naming.1
    | inr text_is ↦ elim text_is.1.1 as (λ _. IsKind no_service) [
      | inl memory ↦ absurd (memory_has_none error m memory kind)
      | inr refused ↦ (text_is.0.offset, inr (text_is.1.0, ((fault_of error.fault, error.page), refused)))
    ]
  ]

  source_kind : (fault : SourceFault) (m : Outcome) → outcome_of_source fault ≡ Some m → no_service ≡ m
  source_kind source.NotToml m e = some_same no_service m e
  source_kind (source.Missing key) m e = some_same no_service m e
  source_kind (source.Kind key) m e = some_same no_service m e
  source_kind source.PageNumber m e = some_same no_service m e
  source_kind source.Subcode m e = some_same no_service m e
  source_kind source.Duplicate m e = some_same no_service m e
  source_kind source.RowTooLong m e = some_same no_service m e
  source_kind source.Character m e = some_same no_service m e
  source_kind source.Often m e = some_same no_service m e
  source_kind (source.Range key) m e = some_same no_service m e
  source_kind source.NoMemory m e = absurd (none_some m e)

  is_kind : (a : Result Extracted ExtractFault) → IsAnswer slots lines a → (m : Outcome) → outcome_of a ≡ Some m → IsKind m
  is_kind (Ok e) is m kind = subst IsKind (some_same written m kind) (is.said, subst (IsExtract slots lines) is.sent is.answer.1)
  is_kind (Err (Info slot)) is m kind = subst IsKind (some_same minus_zero m kind) (minus slot is.answer)
  is_kind (Err (Service error)) is m kind = subst IsKind (source_kind error.fault m kind) (of_service error m kind is.answer)
  is_kind (Err TooLong) is m kind = subst IsKind (some_same long_text m kind) is.answer
  is_kind (Err Unsaid) is m kind = subst IsKind (some_same other_text m kind) is.answer
  is_kind (Err (Conflict page item first second)) is m kind =
      subst IsKind (some_same unsteady m kind) (is.answer.0, (page, is.answer.1.reason, is.answer.1.blamed))
  is_kind (Err (Reason reason)) is m kind = subst IsKind (some_same unsteady m kind) (is.answer.0, (is.answer.1.page, reason, is.answer.1.blamed))
  is_kind (Err NoMemory) is m kind = absurd (none_some m kind)

  -- the text is too long, or refused, or says something else: not what is said
  said_not_refused : IsSaid slots lines → IsKind no_service → ⊥
  said_not_refused said refused = elim refused.1 as (λ _. ⊥) [
    | inl unwritten ↦ unwritten said.written
    | inr text_is ↦ ok_err d text_is.1.0 (sym said.says.says ∙ text_is.1.1)
  ]

  said_not_long : IsSaid slots lines → IsKind long_text → ⊥
  said_not_long said long = let m = said.says.most in let l = long.1 in omega arith

  said_not_other : IsSaid slots lines → IsKind other_text → ⊥
  said_not_other said other = other.1.2 (ok_same (read_bytes text) other.1.0 d other.1.1.says said.says.says)

  refused_not_long : IsKind no_service → IsKind long_text → ⊥
  refused_not_long refused long = elim refused.1 as (λ _. ⊥) [
    | inl unwritten ↦ unwritten long.0
    | inr text_is ↦ let m = text_is.0 in let l = long.1 in omega arith
  ]

  refused_not_other : IsKind no_service → IsKind other_text → ⊥
  refused_not_other refused other = elim refused.1 as (λ _. ⊥) [
    | inl unwritten ↦ unwritten other.0
    | inr text_is ↦ ok_err other.1.0 text_is.1.0 (sym other.1.1.says ∙ text_is.1.1)
  ]

  long_not_other : IsKind long_text → IsKind other_text → ⊥
  long_not_other long other = let m = other.1.1.most in let l = long.1 in omega arith

  module _ (listed : TransmissionsAreListed) (some : 1 ≤ length slots) (most : length slots ≤ 65536) where
    said_not_blamed : IsKind written → IsKind unsteady → ⊥
    said_not_blamed said blamed = none_is_steady listed slots some most lines blamed.1.0 blamed.1.1 blamed.1.2 d said.1

    one_kind : (m n : Outcome) → IsKind m → IsKind n → m ≡ n
    one_kind written written a b = refl
    one_kind written minus_zero a b = absurd (b a.0.written.offset)
    one_kind written no_service a b = absurd (said_not_refused a.0 b)
    one_kind written long_text a b = absurd (said_not_long a.0 b)
    one_kind written other_text a b = absurd (said_not_other a.0 b)
    one_kind written unsteady a b = absurd (said_not_blamed a b)
    one_kind minus_zero written a b = absurd (a b.0.written.offset)
    one_kind minus_zero minus_zero a b = refl
    one_kind minus_zero no_service a b = absurd (a b.0)
    one_kind minus_zero long_text a b = absurd (a b.0.offset)
    one_kind minus_zero other_text a b = absurd (a b.0.offset)
    one_kind minus_zero unsteady a b = absurd (a b.0.written.offset)
    one_kind no_service written a b = absurd (said_not_refused b.0 a)
    one_kind no_service minus_zero a b = absurd (b a.0)
    one_kind no_service no_service a b = refl
    one_kind no_service long_text a b = absurd (refused_not_long a b)
    one_kind no_service other_text a b = absurd (refused_not_other a b)
    one_kind no_service unsteady a b = absurd (said_not_refused b.0 a)
    one_kind long_text written a b = absurd (said_not_long b.0 a)
    one_kind long_text minus_zero a b = absurd (b a.0.offset)
    one_kind long_text no_service a b = absurd (refused_not_long b a)
    one_kind long_text long_text a b = refl
    one_kind long_text other_text a b = absurd (long_not_other a b)
    one_kind long_text unsteady a b = absurd (said_not_long b.0 a)
    one_kind other_text written a b = absurd (said_not_other b.0 a)
    one_kind other_text minus_zero a b = absurd (b a.0.offset)
    one_kind other_text no_service a b = absurd (refused_not_other b a)
    one_kind other_text long_text a b = absurd (long_not_other b a)
    one_kind other_text other_text a b = refl
    one_kind other_text unsteady a b = absurd (said_not_other b.0 a)
    one_kind unsteady written a b = absurd (said_not_blamed b a)
    one_kind unsteady minus_zero a b = absurd (b a.0.written.offset)
    one_kind unsteady no_service a b = absurd (said_not_refused a.0 b)
    one_kind unsteady long_text a b = absurd (said_not_long a.0 b)
    one_kind unsteady other_text a b = absurd (said_not_other a.0 b)
    one_kind unsteady unsteady a b = refl

    pub one_answer : (a b : Result Extracted ExtractFault) → IsAnswer slots lines a → IsAnswer slots lines b → (m n : Outcome) →
        outcome_of a ≡ Some m → outcome_of b ≡ Some n → m ≡ n
    one_answer a b is_a is_b m n kind_a kind_b = one_kind m n (is_kind a is_a m kind_a) (is_kind b is_b n kind_b)
