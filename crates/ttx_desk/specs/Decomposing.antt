-- The author's text of a service text.
--
--   first_lines             the comment that names the source, and the key of an author's text
--   Means                   an author's text has no mistake, and means the table that a text is
--   IsAuthorOf              it means this table
--   IsAuthorText            it means the table of a service text
--   IsService               bytes are a service text
--   Decomposes              what is returned for a service text
use Rattle.std.specs.Prelude.{◌≡◌, ◌⊎◌, ℕ, List, [], ◌++◌, codes, string_bytes, ⊤, String, Some, Result, Ok, Err}
use Rattle.toml.specs.Data.{Members}
use Rattle.toml.specs.Parse.{parse_document}
use Rattle.ttx_source.specs.Faults.{fault_of}
use Rattle.ttx_source.specs.KeyFaults.{out_of_memory}
use Rattle.ttx_source.specs.Services.{ServiceFields, read_bytes}
use Rattle.std.specs.declared.alloc.Global.{Global}
use Rattle.ttx_desk.specs.Services.{service_table, mistakes}
use Rattle.ttx_desk.specs.Composing.{author_in, printed_name}
use Rattle.ttx_desk.specs.declared.decomposition.Decomposed.{Decomposed}
use Rattle.ttx_desk.specs.declared.decomposition.DecomposeFault.{DecomposeFault}
use Rattle.ttx_desk.specs.declared.decomposition.DecomposeFault.TheVariants.{Service, Unsaid, NoMemory}

unfoldable pub first_lines : List ℕ → List ℕ
first_lines source = codes "# Decomposed from " ++ printed_name source ++ codes " by ttx decompose.\nauthor = 1\n"

-- the author's text is TOML without mistakes, and means this table
pub record IsAuthorOf (text : List ℕ) (table : Members) : Type 0 where
  pub author : Members
  pub reads : parse_document text ≡ Some author
  pub clean : mistakes author ≡ []
  pub same : service_table author ≡ table

-- it means the table that another text is
abbrev pub Means : List ℕ → List ℕ → Type 0
Means author text = (table : Members) × (parse_document text ≡ Some table) × IsAuthorOf author table

abbrev pub IsUnsaid : DecomposeFault → Type 0
IsUnsaid (Service error) = ⊥
IsUnsaid Unsaid = ⊤
IsUnsaid NoMemory = ⊤

-- an author's text means the table of a service text
abbrev pub IsAuthorText : List ℕ → List ℕ → Type 0
IsAuthorText text bytes = (table : Members) × (author_in bytes ≡ Some table) × IsAuthorOf text table

-- the bytes are a service text
abbrev pub IsService : List ℕ → Type 0
IsService bytes = (service : ServiceFields) × (read_bytes bytes ≡ Ok service)

-- The author's text means exactly the table of the service text, which is that of a service. Otherwise the first fault of the service text.
-- `Unsaid` is returned only for a service text.
abbrev pub Decomposes : List ℕ → Result Decomposed DecomposeFault → Type 0
Decomposes bytes (Ok decomposed) = IsAuthorText (string_bytes decomposed.text) bytes × (read_bytes bytes ≡ Ok decomposed.service)
Decomposes bytes (Err (Service error)) = (error ≡ out_of_memory) ⊎ (read_bytes bytes ≡ Err (fault_of error.fault, error.page))
Decomposes bytes (Err Unsaid) = IsService bytes
Decomposes bytes (Err NoMemory) = ⊤

-- the same without the service
abbrev pub DecomposesText : List ℕ → Result (String Global) DecomposeFault → Type 0
DecomposesText bytes (Ok text) = IsAuthorText (string_bytes text) bytes
DecomposesText bytes (Err fault) = Decomposes bytes (Err fault)
