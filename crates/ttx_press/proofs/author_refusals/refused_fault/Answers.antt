use Rattle.std.proofs.Common.{sym, subst}
use Rattle.ttx_source.specs.Faults.{fault_of}
use Rattle.ttx_press.specs.AuthorRefusals.{IsFaultOf}
use Rattle.ttx_press.proofs.author_refusals.refused_fault.Goals as goal

pub fault_words-requires : goal.fault_words-requires
fault_words-requires c =
    subst (λ table. IsFaultOf table (fault_of c.args.error.now.fault) c.args.error.now.page) (sym c.in-Ok.ensures.table) c.requires
