-- The verdict on three files, once they have been read.
use Rattle.std.proofs.Common.{ℕ, List, [], ◌∷◌, string_bytes, Option, IfSome, Ok}
use Rattle.ttx_source.specs.Services.{ServiceFields}
use Rattle.ttx_certificate.specs.Certificates.{fields_of}
use Rattle.ttx_certificate.specs.Entries.{CertificateFields}
use Rattle.ttx_cycle.specs.Cycles.{slots_of}
use Rattle.ttx_files.specs.Inputs.{ReadsInputs}
use Rattle.ttx_files.specs.Judging.{JudgesFiles}
use Rattle.ttx_files.specs.Known.{first, second, third}
use Rattle.ttx_files.specs.declared.readers.Inputs.{Inputs}
use Rattle.ttx_files.specs.declared.told.Told.{Told}
use Rattle.ttx_files.proofs.KnownFiles.{known}

module _ {V : Type 0} (Says : List (List ℕ) → ServiceFields → CertificateFields → V → List ℕ → Type 0) where
  pub all_judged : (inputs : Inputs) (told : Told V) →
      Says (slots_of inputs.cycle) inputs.service (fields_of inputs.certificate) told.verdict (string_bytes told.line) →
      (a b c : Option (List ℕ)) → IfSome a (λ x. IfSome b (λ y. IfSome c (λ z. ReadsInputs x y z (Ok inputs)))) →
      IfSome a (λ x. IfSome b (λ y. IfSome c (λ z. JudgesFiles Says x y z (Ok told))))
  all_judged inputs told h a b c =
      known (a ∷ b ∷ c ∷ []) (λ xs. ReadsInputs (first xs) (second xs) (third xs) (Ok inputs))
      (λ xs. JudgesFiles Says (first xs) (second xs) (third xs) (Ok told))
      (λ xs read. record {
        slots = slots_of inputs.cycle;
        service = inputs.service;
        w = fields_of inputs.certificate;
        cycle_is = read.0;
        service_is = read.1;
        certificate_is = read.2;
        judged = h;
      })
