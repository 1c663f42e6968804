-- What a yes guarantees after exactly the deadline.
use Rattle.std.proofs.Common.{◌≡◌, true, refl, arith}
use Rattle.ttx_page.specs.declared.class.Class.{Class}
use Rattle.ttx_page.specs.declared.class.Class.TheVariants.{Any, Clearing}
use Rattle.ttx_page.specs.declared.memory.PageMemory.{PageMemory}
use Rattle.ttx_page.specs.ErrorRule.{MemoriesAreFormer}
use Rattle.ttx_page.specs.Memories.{IsFormer}
use Rattle.ttx_page.specs.Views.{memory_of}
use Rattle.ttx_certify.specs.Laws.{AcceptedIsSeen}
use Rattle.ttx_certify.specs.VerdictLaws.{CertifiedIsShown}

former_of : MemoriesAreFormer → (class : Class) (former : PageMemory) → (class ≡ Clearing → (memory_of former).fresh ≡ true) →
    IsFormer class (memory_of former)
former_of are Any former fresh = (are former).0
former_of are Clearing former fresh = (are former).1 (fresh refl)

pub certified_is_shown : AcceptedIsSeen → MemoriesAreFormer → CertifiedIsShown
certified_is_shown seen are cycle pages w is_cycle are_pages is_certificate accepts n p here sel fits tau received permitted exactly
    former fresh m run =
    (seen cycle pages w is_cycle are_pages is_certificate accepts n p here).shown sel fits tau (memory_of former) m received
    (former_of are w.class former fresh) permitted (omega arith) run
