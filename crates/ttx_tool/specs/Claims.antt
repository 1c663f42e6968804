-- The three files of a verdict.
--
--   IfKnown                 what holds of their bytes, where these are known
--   claim_devices           the devices of a command that reads them and writes its answer, before and after
--   twice_devices           the same of one that reads the packet file twice, behind the two texts
--   change_devices          the same of one that reads an old claim and a new one, the old one of each file first
use Rattle.std.specs.Prelude.{ℕ, List, [], ◌∷◌, Option, IfSome}
use Rattle.ttx_cycle.specs.Counters.{inner_of}
use Rattle.ttx_cycle.specs.declared.counted.Counted.{Counted}
use Rattle.ttx_files.specs.Devices.{Device, AtCycle, AtService, AtCertificate}
use Rattle.ttx_faults.specs.Devices.{read_from, written_to}
use Rattle.ttx_tool.specs.declared.claims.Claim.{Claim}

abbrev pub IfKnown : {A B C : Type 0} → (A → Option (List ℕ)) → (B → Option (List ℕ)) → (C → Option (List ℕ)) → Claim A B C →
    (List ℕ → List ℕ → List ℕ → Type 0) → Type 0
IfKnown a b c claim Holds =
    IfSome (a (inner_of claim.cycle)) (λ a. IfSome (b (inner_of claim.service)) (λ b. IfSome (c (inner_of claim.certificate)) (λ c. Holds a b c)))

abbrev pub claim_devices : {A B C W : Type 0} → (A → Option (List ℕ)) → (B → Option (List ℕ)) → (C → Option (List ℕ)) →
    Claim A B C → Claim A B C → Counted W → Counted W → List Device
claim_devices a b c old new before after =
    read_from AtCycle a old.cycle new.cycle
    ∷ read_from AtService b old.service new.service
    ∷ read_from AtCertificate c old.certificate new.certificate
    ∷ written_to before after ∷ []

abbrev pub change_devices : {A B C D E F W : Type 0} → (A → Option (List ℕ)) → (B → Option (List ℕ)) → (C → Option (List ℕ)) →
    (D → Option (List ℕ)) → (E → Option (List ℕ)) → (F → Option (List ℕ)) → Claim A C E → Claim B D F → Claim A C E → Claim B D F →
    Counted W → Counted W → List Device
change_devices a b c d e f old new old' new' before after =
    read_from AtCycle a old.cycle old'.cycle
    ∷ read_from AtCycle b new.cycle new'.cycle
    ∷ read_from AtService c old.service old'.service
    ∷ read_from AtService d new.service new'.service
    ∷ read_from AtCertificate e old.certificate old'.certificate
    ∷ read_from AtCertificate f new.certificate new'.certificate
    ∷ written_to before after ∷ []

abbrev pub twice_devices : {A B C D W : Type 0} → (A → Option (List ℕ)) → (B → Option (List ℕ)) → (C → Option (List ℕ)) → (D → Option (List ℕ)) →
    Counted A → Claim B C D → Counted A → Claim B C D → Counted W → Counted W → List Device
twice_devices a b c d first claim first' claim' before after =
    read_from AtService c claim.service claim'.service
    ∷ read_from AtCertificate d claim.certificate claim'.certificate
    ∷ read_from AtCycle a first first'
    ∷ read_from AtCycle b claim.cycle claim'.cycle
    ∷ written_to before after ∷ []
