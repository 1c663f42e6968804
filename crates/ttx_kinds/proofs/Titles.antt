-- The titles of certificates.
use Rattle.std.proofs.Common.{◌≡◌, refl, ℕ, List, ◌++◌, Some}
use Rattle.ttx_page.specs.declared.class.Class.{Class}
use Rattle.ttx_page.specs.declared.class.Class.TheVariants.{Any, Clearing}
use Rattle.ttx_certificate.specs.CertificateTexts.{class_text}
use Rattle.ttx_kinds.specs.Kinds.{kind_of}
use Rattle.ttx_kinds.specs.declared.kinds.Kind.TheVariants.{Certificate}

-- whatever follows a title of a certificate
pub titled : (class : Class) (lines repeat deadline entries : List ℕ) →
    kind_of ((class_text class ++ lines ++ repeat ++ deadline) ++ entries) ≡ Some Certificate
titled Any lines repeat deadline entries = refl
titled Clearing lines repeat deadline entries = refl
