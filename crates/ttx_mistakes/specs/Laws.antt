-- A service text has no mistake exactly where it is read, and the short report and the long one refuse the same texts (profile).
--
--   IsFaultless             a TOML text with no mistake
--   IsReadWhole             a text that is read as a service, with its promises: those at `within`, and those at `stays`
--   NoMistakeWhereRead      a text has no mistake exactly where it is read
--   RefusedAlike            the status of both reports is 2, or of neither
use Rattle.std.specs.Prelude.{◌≡◌, ℕ, Bool, true, List, [], Some, Ok}
use Rattle.std.specs.Str.{is_utf8}
use Rattle.toml.specs.Data.{Members}
use Rattle.toml.specs.Parse.{parse_document}
use Rattle.ttx_source.specs.Promises.{PromiseFields, read_promises, read_stays}
use Rattle.ttx_source.specs.Services.{ServiceFields, read_bytes}
use Rattle.ttx_check.specs.Reports.{IsServiceReport}
use Rattle.ttx_mistakes.specs.LongReports.{IsLongReport}
use Rattle.ttx_mistakes.specs.Mistakes.{mistakes}

pub record IsFaultless (bytes : List ℕ) : Type 0 where
  pub table : Members
  pub text : is_utf8 bytes ≡ true
  pub parsed : parse_document bytes ≡ Some table
  pub none : mistakes table ≡ []

pub record IsReadWhole (bytes : List ℕ) : Type 0 where
  pub service : ServiceFields
  pub promises : List PromiseFields
  pub stays : List PromiseFields
  pub service_is : read_bytes bytes ≡ Ok service
  pub promises_are : read_promises bytes ≡ Ok promises
  pub stays_are : read_stays bytes ≡ Ok stays

pub record IsReadWhereFaultless (bytes : List ℕ) : Type 0 where
  pub read : IsFaultless bytes → IsReadWhole bytes
  pub faultless : IsReadWhole bytes → IsFaultless bytes

abbrev pub NoMistakeWhereRead : Type 0
NoMistakeWhereRead = (bytes : List ℕ) → IsReadWhereFaultless bytes

-- a status is 2 where a text is refused
pub record AreRefusedAlike (plain code : ℕ) : Type 0 where
  pub long : plain ≡ 2 → code ≡ 2
  pub short : code ≡ 2 → plain ≡ 2

abbrev pub RefusedAlike : Type 0
RefusedAlike =
    (file bytes short long : List ℕ) (strict : Bool) (plain code : ℕ) → IsServiceReport bytes short plain → IsLongReport file bytes strict long code →
    AreRefusedAlike plain code
