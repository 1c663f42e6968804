-- Pages that are left out one after another.
use Rattle.std.proofs.Common.{◌≡◌, inl, inr, ℕ, List, [], ◌∷◌, ◌++◌, length, None, Result, Ok, Err, length-append, arith, ◌+◌, ap, sym, ◌∙◌, subst}
use Rattle.ttx_extract.specs.Extracts.{AnswersFault}
use Rattle.ttx_extract.specs.declared.faults.ExtractFault.{ExtractFault}
use Rattle.ttx_extract.specs.declared.faults.ExtractFault.TheVariants.{Conflict, Reason, Info, Service, TooLong, Unsaid, NoMemory}
use Rattle.ttx_partial.specs.Asides.{aside}
use Rattle.ttx_partial.specs.LeftOut.{fault_page, IsLeft, AreLeft, most_left}
use Rattle.ttx_partial.specs.Partials.{IsNoPartial, ExtractsLast, ExtractsPartly}
use Rattle.ttx_partial.specs.declared.left_out.LeftOut.{LeftOut}
use Rattle.ttx_partial.specs.declared.extraction.Partial.{Partial}

-- one page more
pub one_more : (slots : List (List ℕ)) (lines : ℕ) (left : List LeftOut) (rest : List (List ℕ)) (l : LeftOut) → AreLeft slots lines left rest →
    IsLeft rest lines l → AreLeft slots lines (left ++ l ∷ []) (aside l.page rest)
one_more slots lines [] rest l same is =
    (subst (λ s. IsLeft s lines l) same is, ap (aside l.page) same)
one_more slots lines (x ∷ xs) rest l are is = (are.0, one_more (aside x.page slots) lines xs rest l are.1 is)

-- why there is no service text, unless memory ran out
pub no_partial : (slots : List (List ℕ)) (lines : ℕ) (fault : ExtractFault) → IsNoPartial slots lines fault → ExtractsPartly slots lines (Err fault)
no_partial slots lines NoMemory is = tt
no_partial slots lines (Conflict page item first second) is = is
no_partial slots lines (Reason reason) is = is
no_partial slots lines (Info slot) is = is
no_partial slots lines (Service error) is = is
no_partial slots lines TooLong is = is
no_partial slots lines Unsaid is = is

-- the try after all numbers were left out
pub after_all : (slots : List (List ℕ)) (lines : ℕ) (left : List LeftOut) (rest : List (List ℕ)) → AreLeft slots lines left rest → length left ≡ most_left →
    (result : Result Partial ExtractFault) → ExtractsLast rest lines left result → ExtractsPartly slots lines result
after_all slots lines left rest are count (Ok p) is = record {
  rest = rest;
  left = subst (λ ls. AreLeft slots lines ls rest) (sym is.0) are;
  text = is.1;
}
after_all slots lines left rest are count (Err fault) is = no_partial slots lines fault (record {
  before = left;
  rest = rest;
  left = are;
  fault = is;
  last = inr count;
})

-- the fault names no page
pub stopped : (slots : List (List ℕ)) (lines : ℕ) (left : List LeftOut) (rest : List (List ℕ)) → AreLeft slots lines left rest → (fault : ExtractFault) →
    AnswersFault rest lines fault × (fault_page fault ≡ None) → ExtractsPartly slots lines (Err fault)
stopped slots lines left rest are fault is = no_partial slots lines fault (record {
  before = left;
  rest = rest;
  left = are;
  fault = is.0;
  last = inl is.1;
})

-- one page more, by equations
pub turn : (slots : List (List ℕ)) (lines : ℕ) (left : List LeftOut) (rest : List (List ℕ)) → AreLeft slots lines left rest → (l : LeftOut) →
    IsLeft rest lines l → (more : List LeftOut) → more ≡ left ++ l ∷ [] → (next : List (List ℕ)) → next ≡ aside l.page rest → AreLeft slots lines more next
turn slots lines left rest are l is more e next f =
    subst (λ ls. AreLeft slots lines ls next) (sym e)
    (subst (AreLeft slots lines (left ++ l ∷ [])) (sym f) (one_more slots lines left rest l are is))

pub longer : (left : List LeftOut) (l : LeftOut) (more : List LeftOut) (n : ℕ) → more ≡ left ++ l ∷ [] → length left ≡ n → length more ≡ n + 1
longer left l more n e f = ap length e ∙ grind (arith, length-append)
