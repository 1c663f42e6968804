-- What the headers kept of a list say after the whole list.
use Rattle.std.proofs.Common.{◌≡◌, ℕ, ℤ, pos, ◌+ℤ◌, true, false, Bool, int_lt, unsigned_abs, if◌then◌else◌, List, [], ◌∷◌, Option, Some, None, refl}
use Rattle.std.proofs.Common.{◌∙◌}
use Rattle.ttx_witness.specs.laws.JudgingLaws.{late_before, late_header}
use Rattle.ttx_witness.specs.declared.runs.transmissions.Transmission.{Transmission}
use Rattle.ttx_certify.specs.declared.walks.page_facts.Heads.{Heads}
use Rattle.ttx_certify.specs.walks.PageFacts.{late_of, late_in}
use Rattle.ttx_certify.specs.walks.PageFacts.{heads_of}

-- the first late header, from the headers kept
abbrev late_at_end : ℕ → ℤ → Option Heads → Option ℕ
late_at_end lim end None = None
late_at_end lim end (Some h) = late_in lim end h h.late

keeps_late : (lim : ℕ) (end : ℤ) (ts : List Transmission) (first last : ℤ) (at : ℕ) →
    late_at_end lim end (heads_of lim (Some (record { first = first; last = last; late = Some at })) ts) ≡ Some at
unfolding heads_of
keeps_late lim end [] first last at = refl
keeps_late lim end (t ∷ ts) first last at = keeps_late lim end ts first t.slot at

late_from : (lim : ℕ) (end : ℤ) (ts : List Transmission) (t : Transmission) (first : ℤ) →
    late_at_end lim end (heads_of lim (Some (record { first = first; last = t.slot; late = None })) ts)
    ≡ late_before lim end (t ∷ ts)
unfolding heads_of
late_from lim end [] t first = refl
late_from lim end (u ∷ ts) t first = go (late_from lim end ts u first) (int_lt (t.slot +ℤ pos lim) u.slot)
  where
    go : late_at_end lim end (heads_of lim (Some (record { first = first; last = u.slot; late = None })) ts)
        ≡ late_before lim end (u ∷ ts) → (b : Bool) →
        late_at_end lim end (heads_of lim
        (Some (record { first = first; last = u.slot; late = if b then Some (unsigned_abs t.slot) else None })) ts)
        ≡ (if b then Some (unsigned_abs t.slot) else late_before lim end (u ∷ ts))
    go rest true = keeps_late lim end ts first u.slot (unsigned_abs t.slot)
    go rest false = rest

first_kept : (lim n : ℕ) (ts : List Transmission) (h : Heads) → late_of lim n (heads_of lim (Some h) ts)
    ≡ late_at_end lim (h.first +ℤ pos n) (heads_of lim (Some h) ts)
unfolding heads_of
first_kept lim n [] h = refl
first_kept lim n (t ∷ ts) h = first_kept lim n ts (record { first = h.first; last = t.slot; late = _ })

pub late_told : (lim n : ℕ) (ts : List Transmission) → late_of lim n (heads_of lim None ts) ≡ late_header lim n ts
unfolding heads_of late_header
late_told lim n [] = refl
late_told lim n (t ∷ ts) = first_kept lim n ts (record { first = t.slot; last = t.slot; late = None }) ∙ late_from lim (t.slot +ℤ pos n) ts t t.slot

pub nowhere : {A : Type 0} (o : Option A) (x : A) → o ≡ None → o ≡ Some x → ⊥
nowhere None x e f = cc
nowhere (Some y) x e f = cc
