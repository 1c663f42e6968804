-- What is known of the editions of the program.
use Rattle.std.proofs.Common.{◌≡◌, List, map, subst}
use Rattle.ttx_cycle.specs.Cycles.{slots_of-IsCycle}
use Rattle.ttx_page.specs.Laws.{PagesKeepTheirRules}
use Rattle.ttx_page.specs.Views.{page_of}
use Rattle.ttx_page.specs.declared.page.Page.{Page as PageValue}
use Rattle.ttx_source.specs.Services.{pages_of}
use Rattle.ttx_certificate.specs.CertificateLaws.{CertificatesKeepTheirRules}
use Rattle.ttx_certify.specs.Laws.{ArePages}
use Rattle.ttx_certify.proofs.PageByPage.{are_pages}
use Rattle.ttx_playout.specs.declared.edition.Edition.{Edition as EditionValue}
use Rattle.ttx_playout.specs.Schedules.{IsEdition}
use Rattle.ttx_playout.specs.Takeovers.{edition_of}

pub edition_is : PagesKeepTheirRules → CertificatesKeepTheirRules → (e : EditionValue) (pages : List PageValue) → map page_of pages ≡ pages_of e.service →
    IsEdition (edition_of e)
edition_is pages certificates e list same = record {
  cycle = slots_of-IsCycle e.cycle;
  pages = subst ArePages same (are_pages pages list);
  certificate = (certificates e.certificate).1;
}
