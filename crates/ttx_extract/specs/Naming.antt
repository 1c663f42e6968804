-- Why ids are not those of the pages of a service.
--
--   IsSubcodeFault          the first id with subcode 3F7F, which no page has
--   IsNamingFault           more ids than a service has pages, or that
use Rattle.std.specs.Prelude.{◌≡◌, ◌⊎◌, ℕ, ◌+◌, ◌<◌, ◌≤◌, List, length, slice_get, codes, Some, ⊤}
use Rattle.ttx_header.specs.Ids.{Id}
use Rattle.ttx_source.specs.Faults.{fault_of}
use Rattle.ttx_source.specs.Values.{out_of_range, wrong_subcode}
use Rattle.ttx_source.specs.declared.faults.SourceError.{SourceError}
use Rattle.ttx_extract.specs.declared.faults.ExtractFault.{ExtractFault}
use Rattle.ttx_extract.specs.declared.faults.ExtractFault.TheVariants.{Service, NoMemory}

-- 2,000 pages are the most of a service
pub record AreTooMany (ids : List Id) (error : SourceError) : Type 0 where
  pub many : 2000 < length ids
  pub fault : fault_of error.fault ≡ out_of_range (codes "page")
  pub page : error.page ≡ 0

-- pages are counted from 1
pub record HasNoPage (ids : List Id) (error : SourceError) : Type 0 where
  pub place : ℕ
  pub id : Id
  pub here : slice_get ids place ≡ Some id
  pub sub : id.sub ≡ 0x3f7f
  pub earlier : (n : ℕ) (other : Id) → n < place → slice_get ids n ≡ Some other → other.sub ≡ 0x3f7f → ⊥
  pub fault : fault_of error.fault ≡ wrong_subcode
  pub page : error.page ≡ place + 1

abbrev pub IsSubcodeFault : List Id → ExtractFault → Type 0
IsSubcodeFault ids (Service error) = HasNoPage ids error
IsSubcodeFault ids NoMemory = ⊤
IsSubcodeFault ids fault = ⊥

abbrev pub IsNamingFault : List Id → ExtractFault → Type 0
IsNamingFault ids (Service error) = AreTooMany ids error ⊎ ((length ids ≤ 2000) × HasNoPage ids error)
IsNamingFault ids NoMemory = ⊤
IsNamingFault ids fault = ⊥
