-- What is gathered of a cycle before a text is written.
--
--   AreSentOf               the transmissions that are kept are those of the pages that headers name
--   IsOffsetFault, IsGatherFault    the first packet 8/30 has an offset that no text says; or the ids are not those of a service's pages
--   IsBlame                 a page isn't sent unchanged
use Rattle.std.specs.Prelude.{◌≡◌, ℕ, List, map, ⊤}
use Rattle.ttx_page.specs.Pages.{Page}
use Rattle.ttx_witness.specs.sent.AllSent.{AreAllSent}
use Rattle.ttx_witness.specs.declared.sent.collected.Collected.{Collected}
use Rattle.ttx_extract.specs.Extracts.{IsMinusZero, HasOffset, Blames}
use Rattle.ttx_extract.specs.NamedPages.{named}
use Rattle.ttx_extract.specs.Naming.{IsNamingFault}
use Rattle.ttx_extract.specs.declared.faults.ExtractFault.{ExtractFault}
use Rattle.ttx_extract.specs.declared.faults.ExtractFault.TheVariants.{Info, Service, NoMemory}

abbrev pub AreSentOf : List (List ℕ) → ℕ → Collected → Type 0
AreSentOf slots lines collected = (pages : List Page) → map (λ p. p.id) pages ≡ named slots → AreAllSent slots pages lines collected

abbrev pub IsOffsetFault : List (List ℕ) → ExtractFault → Type 0
IsOffsetFault slots (Info slot) = IsMinusZero slots slot
IsOffsetFault slots fault = ⊥

abbrev pub IsGatherFault : List (List ℕ) → ExtractFault → Type 0
IsGatherFault slots (Info slot) = IsMinusZero slots slot
IsGatherFault slots (Service error) = HasOffset slots × IsNamingFault (named slots) (Service error)
IsGatherFault slots NoMemory = ⊤
IsGatherFault slots fault = ⊥

-- the first page that is not sent unchanged, or lack of memory
abbrev pub IsBlame : List (List ℕ) → ℕ → ExtractFault → Type 0
IsBlame slots lines NoMemory = ⊤
IsBlame slots lines fault = Blames slots lines fault
