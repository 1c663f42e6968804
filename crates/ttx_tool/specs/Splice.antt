-- What `splice` answers and writes for the files of an old cycle and of a new one.
--
--   AnswersChange           what was written for each answer, where this is said of verdicts and this is the status of each
--   Splices                 the same, by the receivers and the periods that the old cycle has been on the air
use Rattle.std.specs.Prelude.{ℕ, Bool, true, false, List, Option, Some, None, Result}
use Rattle.ttx_change.specs.LateSpliceFiles.{IsLateAnswer}
use Rattle.ttx_cycle.specs.Counters.{inner_of}
use Rattle.ttx_proof.specs.Splices.{Splice}
use Rattle.ttx_proof.specs.SplicingFiles.{AnswersSix, IsSpliceAnswer, IsSentAnswer}
use Rattle.ttx_tool.specs.Answers.{splice_status, sent_status, late_splice_status, IsAnswered}
use Rattle.ttx_tool.specs.declared.claims.Claim.{Claim}
use Rattle.ttx_faults.specs.declared.faults.ToolFault.{ToolFault}

abbrev pub AnswersChange : {V A B C D E F : Type 0} → (V → ℕ) → (Splice → V → List ℕ → Type 0) → (A → Option (List ℕ)) → (B → Option (List ℕ)) →
    (C → Option (List ℕ)) → (D → Option (List ℕ)) → (E → Option (List ℕ)) → (F → Option (List ℕ)) → Claim A C E → Claim B D F →
    (before after : Option (List ℕ)) → Result ℕ ToolFault → Type 0
AnswersChange status_of Says a b c d e f old new before after result =
    IsAnswered status_of (AnswersSix Says (a (inner_of old.cycle)) (b (inner_of new.cycle)) (c (inner_of old.service)) (d (inner_of new.service))
    (e (inner_of old.certificate)) (f (inner_of new.certificate)) before after) result

abbrev pub Splices : {A B C D E F : Type 0} → (late : Bool) → (sent : Option ℕ) → (A → Option (List ℕ)) → (B → Option (List ℕ)) →
    (C → Option (List ℕ)) → (D → Option (List ℕ)) → (E → Option (List ℕ)) → (F → Option (List ℕ)) → Claim A C E → Claim B D F →
    (before after : Option (List ℕ)) → Result ℕ ToolFault → Type 0
Splices true sent = AnswersChange late_splice_status (λ s. IsLateAnswer s sent)
Splices false None = AnswersChange splice_status IsSpliceAnswer
Splices false (Some periods) = AnswersChange sent_status (λ s. IsSentAnswer s periods)
