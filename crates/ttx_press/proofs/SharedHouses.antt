-- The edition of a text by a house whose time is shared.
use Rattle.std.proofs.Common.{◌≡◌, ◌∙◌, ℕ, ◌*◌, Bool, true, false, List, refl, sym, ap, subst}
use Rattle.sha2.specs.Sha256.{sha256}
use Rattle.ttx_air.specs.Newsrooms.{Candidate}
use Rattle.ttx_certificate.specs.Entries.{CertificateFields, certificate_at}
use Rattle.ttx_air.specs.TextNewsrooms.{mark_of}
use Rattle.ttx_page.specs.declared.class.Class.TheVariants.{Any}
use Rattle.ttx_source.specs.Promises.{PromiseFields}
use Rattle.ttx_source.specs.Services.{ServiceFields, pages_of}
use Rattle.ttx_press.specs.Editions.{IsScript, IsPlanBy, IsPlanFor}
use Rattle.ttx_press.specs.Houses.{is_late, viewers_of}
use Rattle.ttx_press.specs.Openings.{IsFit, IsOpening}
use Rattle.ttx_press.specs.Shares.{viewers_in, receivers_with, IsHouse, IsShared}
use Rattle.ttx_press.specs.declared.demand.Demand.{Demand}
use Rattle.ttx_press.specs.declared.house.House.{House}

late_as : (late : Bool) (slots : ℕ) → is_late (receivers_with late slots) ≡ late
late_as false slots = refl
late_as true slots = refl

viewers_as : (d : Demand) (lines share : ℕ) (h : House) → IsHouse d lines share h → viewers_of h ≡ viewers_in d
viewers_as d lines share h is =
    let late : is_late h.receivers ≡ d.late = ap is_late is.receivers ∙ late_as d.late (share * lines) in
    λ i. record { receivers = record { class = Any; late = late i }; repeat = is.repeat i }

pub planned_as : (d : Demand) (draft h : House) (lines share : ℕ) (service : ServiceFields) (promises : List PromiseFields) (sent : ServiceFields)
    (cycle : List (List ℕ)) → draft.spread ≡ d.spread → viewers_of draft ≡ viewers_in d → IsHouse d lines share h →
    IsPlanFor draft service promises sent cycle → IsPlanFor h service promises sent cycle
planned_as d draft h lines share service promises sent cycle spread viewers is plan =
    subst (λ v. IsPlanBy h.spread v service promises sent cycle) (viewers ∙ sym (viewers_as d lines share h is))
    (subst (λ s. IsPlanBy s (viewers_of draft) service promises sent cycle) (spread ∙ sym is.spread) plan)

pub opening_as : (d : Demand) (text : List ℕ) (h : House) (first : Candidate) (service : ServiceFields) (promises : List PromiseFields)
    (sent : ServiceFields) (w : CertificateFields) → IsScript text service promises → IsPlanFor h service promises sent first.edition.cycle →
    first.edition.pages ≡ pages_of sent → first.edition.certificate ≡ certificate_at w → first.mark ≡ mark_of (sha256 text) →
    IsFit d first.edition.cycle sent h w → IsOpening d text h first
opening_as d text h first service promises sent w script plan pages certificate mark fit =
    let lines = sym (ap (λ c. c.lines) (certificate ∙ fit.found.same) ∙ fit.found.is.same_lines) in
    record {
      printed = (
        record {
          service = service;
          promises = promises;
          script = script;
          sent = sent;
          plan = plan;
          pages = pages;
          w = w;
          found = fit.found;
          certificate = certificate;
        },
        mark,
      );
      shared = subst (λ l. IsShared d first.edition.cycle first.edition.pages l h) lines
          (subst (λ ps. IsShared d first.edition.cycle ps sent.lines h) (sym pages) fit.shared);
    }
