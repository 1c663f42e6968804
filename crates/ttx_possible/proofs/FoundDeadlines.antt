-- Whether the certificate that is found has a deadline says whether some certificate is accepted.
use Rattle.std.proofs.Common.{ℕ, List, Option, Some, None, is_some, IsTrue, sym, ◌∙◌, ◌↔◌, refl, arith}
use Rattle.ttx_page.specs.Pages.{Page}
use Rattle.ttx_page.specs.declared.class.Class.TheVariants.{Any}
use Rattle.ttx_certificate.specs.NamedStarts.{Certificate, IsCertificate}
use Rattle.ttx_witness.specs.search.Finding.{IsFoundFor, CanBeAccepted}
use Rattle.ttx_possible.specs.Values.{HasDeadline}

-- a certificate with the numbers of the one that is found
with_found : (slots : List (List ℕ)) (pages : List Page) (lines d : ℕ) (w : Certificate) (found : Option ℕ) → IsFoundFor slots pages 1 lines Any w found →
    CanBeAccepted slots pages Any lines 1 d → CanBeAccepted slots pages w.class w.lines w.repeat d
with_found slots pages lines d w found is a = record {
  w = a.w;
  is = a.is;
  same_class = a.same_class ∙ sym is.same_class;
  same_lines = a.same_lines ∙ sym is.same_lines;
  same_repeat = a.same_repeat ∙ sym is.same_repeat;
  same_deadline = a.same_deadline;
  accepted = a.accepted;
}

pub told : (slots : List (List ℕ)) (pages : List Page) (lines : ℕ) (w : Certificate) → IsCertificate w → (found : Option ℕ) →
    IsFoundFor slots pages 1 lines Any w found → IsTrue (is_some found) ↔ HasDeadline slots pages lines
told slots pages lines w ranges None is =
    ((λ e. absurd (grind arith)), (λ h. absurd (is.least.1 h.deadline (with_found slots pages lines h.deadline w None is h.accepted))))
told slots pages lines w ranges (Some d) is = (
  (λ e. record {
    deadline = d;
    accepted = record {
      w = w;
      is = ranges;
      same_class = is.same_class;
      same_lines = is.same_lines;
      same_repeat = is.same_repeat;
      same_deadline = is.least.0;
      accepted = is.least.1;
    };
  }),
  (λ h. refl),
)
