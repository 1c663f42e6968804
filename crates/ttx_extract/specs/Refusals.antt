-- The words about a cycle that has no service text: `refusal_text`.
use Rattle.std.specs.Prelude.{ℕ, List, [], ◌∷◌, ◌++◌, codes}
use Rattle.std.specs.Fmt.{decimal}
use Rattle.ttx_certify.specs.VerdictLines.{item_words, reason_text}
use Rattle.ttx_extract.specs.declared.faults.ExtractFault.{ExtractFault}
use Rattle.ttx_extract.specs.declared.faults.ExtractFault.TheVariants.{Conflict, Reason, Info, Unsaid}

-- nothing for a text that is not a service definition or is too long, and for lack of memory
abbrev pub refusal_text : ExtractFault → List ℕ
refusal_text (Conflict page item first second) =
    item_words (codes "conflict") page item ++ 32 ∷ decimal first ++ 32 ∷ decimal second
refusal_text (Reason reason) = codes "reason " ++ reason_text reason
refusal_text (Info slot) = codes "info " ++ decimal slot
refusal_text Unsaid = codes "unsaid"
refusal_text fault = []
