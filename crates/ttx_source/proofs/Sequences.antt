-- Values that are read one after another until the first fault.
use Rattle.std.proofs.Common.{◌≡◌, ◌++◌, List, [], ◌∷◌, Result, Ok, Err, ap, sym, refl, append_assoc}
use Rattle.ttx_source.specs.Values.{◌>>=◌}

-- the values read before, and then these
abbrev pub then : {A E : Type 0} → List A → Result (List A) E → Result (List A) E
then before (Ok values) = Ok (before ++ values)
then before (Err e) = Err e

-- one more value read before
pub then-more : {A E : Type 0} (before : List A) (value : A) (r : Result (List A) E)
    → then before (r >>= (λ values. Ok (value ∷ values))) ≡ then (before ++ value ∷ []) r
then-more before value (Ok values) = ap Ok (sym (append_assoc before (value ∷ []) values))
then-more before value (Err e) = refl
