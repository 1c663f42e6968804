-- The reason of the first page that isn't sent unchanged.
use Rattle.std.proofs.Common.{ℕ, List}
use Rattle.ttx_source.specs.Services.{ServiceFields, pages_of}
use Rattle.ttx_extract.specs.Extracts.{IsSentService, IsFirstReason}
use Rattle.ttx_extract.specs.FirstReasons.{TellsPage}
use Rattle.ttx_extract.specs.declared.unlike_pages.Told.{Told}

pub first_reason : (slots : List (List ℕ)) (lines : ℕ) (service : ServiceFields) → IsSentService slots lines service → (told : Told) →
    TellsPage slots (pages_of service) told → IsFirstReason slots lines told.page told.reason
first_reason slots lines service is told tells = record {
  service = service;
  sent = is;
  place = told.index;
  fields = tells.page;
  here = tells.here;
  page_is = tells.page_is;
  fault = tells.fault;
  earlier = tells.earlier;
}
