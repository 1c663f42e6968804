-- Laws of the slots that a slot reader returns one by one.
--
--   IsGiven         the slots returned so far, and how far the file has been read
--   NoneIsGiven     at the beginning of a file
--   OneMoreIsGiven  after one more slot
--   AllAreGiven     at the end of the file: the bytes are the packet file of the slots
--   FaultIsTheFiles         a fault is the fault of the whole file
use Rattle.std.specs.Prelude.{◌≡◌, ℕ, ◌+◌, ◌*◌, ◌≤◌, List, [], ◌∷◌, ◌++◌, length, All, Option, IfSome, true, false, Ok, Err}
use Rattle.std.specs.Io.KnownBytes.{Consumes}
use Rattle.ttx_packet.specs.Slots.{IsSlot}
use Rattle.ttx_cycle.specs.Files.{IsCycle, file_of}
use Rattle.ttx_cycle.specs.Reading.{Judged, AnswersNext}
use Rattle.ttx_cycle.specs.declared.faults.CycleFault.{CycleFault}

-- `given` slots were returned; `old` are the bytes left before the first, `new` those after the last
pub record IsGiven (given : ℕ) (old new : Option (List ℕ)) (slots : List (List ℕ)) : Type 0 where
  pub count : length slots ≡ given
  pub few : given ≤ 65536
  pub each : All IsSlot slots
  pub long : length (file_of slots) ≡ 42 * given
  pub bytes : Consumes old new (file_of slots)

abbrev pub NoneIsGiven : Type 0
NoneIsGiven = (known : Option (List ℕ)) → IsGiven 0 known known []

abbrev pub OneMoreIsGiven : Type 0
OneMoreIsGiven = (given : ℕ) (old mid new : Option (List ℕ)) (slots : List (List ℕ)) (slot : List ℕ) → IsGiven given old mid slots →
    AnswersNext given mid new slot (Ok true) → IsSlot slot → IsGiven (given + 1) old new (slots ++ slot ∷ [])

abbrev pub AllAreGiven : Type 0
AllAreGiven = (given : ℕ) (old mid new : Option (List ℕ)) (slots : List (List ℕ)) (slot : List ℕ) → IsGiven given old mid slots →
    AnswersNext given mid new slot (Ok false) → IfSome old (λ bytes. IsCycle slots × (bytes ≡ file_of slots))

abbrev pub FaultIsTheFiles : Type 0
FaultIsTheFiles = (given : ℕ) (old mid new : Option (List ℕ)) (slots : List (List ℕ)) (slot : List ℕ) (fault : CycleFault) →
    IsGiven given old mid slots → AnswersNext given mid new slot (Err fault) → IfSome old (λ bytes. Judged bytes (Err fault))
