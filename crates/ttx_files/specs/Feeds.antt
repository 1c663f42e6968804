-- A feed that is read slot by slot (profile). It ends anywhere: fewer than 42 bytes may follow its last slot.
--
--   AnswersSlot             the next slot, or the end of the feed, with the bytes left before and after
--   IsRead, IsReadHead      the first slots of a feed, and how many bytes follow them if it ends there
--   failed_at               the place of which an answer says that its device failed
use Rattle.std.specs.Prelude.{◌≡◌, ℕ, ◌<◌, List, length, ⊤, Option, Some, None, IfSome, Result, Ok, Err}
use Rattle.std.specs.Io.KnownBytes.{Consumes}
use Rattle.ttx_packet.specs.Slots.{IsSlot}
use Rattle.ttx_cycle.specs.Files.{file_of}
use Rattle.ttx_files.specs.Devices.{Place, AtFeed}
use Rattle.ttx_files.specs.declared.faults.FeedFault.{FeedFault}
use Rattle.ttx_files.specs.declared.faults.FeedFault.TheVariants.{Read, NoMemory}
use Rattle.ttx_files.specs.declared.feeds.Head.{Head}
use Rattle.ttx_files.specs.declared.feeds.Next.{Next}
use Rattle.ttx_files.specs.declared.feeds.Next.TheVariants as next

abbrev pub AnswersSlot : Option (List ℕ) → Option (List ℕ) → List ℕ → Result Next FeedFault → Type 0
AnswersSlot old new slot (Ok next.Slot) = Consumes old new slot × IsSlot slot
AnswersSlot old new slot (Ok (next.End rest)) = (rest < 42) × IfSome old (λ bytes. length bytes ≡ rest)
AnswersSlot old new slot (Err Read) = ⊤
AnswersSlot old new slot (Err NoMemory) = ⊥

-- with the bytes left before and after
abbrev pub IsRead : ℕ → Option (List ℕ) → Option (List ℕ) → List (List ℕ) → Option ℕ → Type 0
IsRead most old new slots None = Consumes old new (file_of slots) × (length slots ≡ most)
IsRead most old new slots (Some rest) =
    (length slots < most) × (rest < 42) × ((mid : Option (List ℕ)) × Consumes old mid (file_of slots) × IfSome mid (λ bytes. length bytes ≡ rest))

abbrev pub IsReadHead : ℕ → Option (List ℕ) → Option (List ℕ) → Head → Type 0
IsReadHead most old new head = IsRead most old new head.slots.items head.end

abbrev pub failed_at : {T : Type 0} → Result T FeedFault → Option Place
failed_at (Err Read) = Some AtFeed
failed_at _ = None
