-- Slots that wait to be heard.
use Rattle.std.proofs.Common.{◌≡◌, ℕ, ◌<◌, List, [], ◌∷◌, ◌++◌, length, get_or, All, Option, Some, None, refl, sym, ap, ◌∙◌, subst, inl, inr, arith}
use Rattle.std.proofs.Common.{append_assoc, append-nil}
use Rattle.std.specs.Option.{IfSome}
use Rattle.std.specs.Io.KnownBytes.{Consumes}
use Rattle.std.proofs.lemmas.Bool.{cases_lt}
use Rattle.std.proofs.lemmas.List.{get_or_append_left, get_or_push, length_push}
use Rattle.ttx_packet.specs.Slots.{IsSlot}
use Rattle.ttx_cycle.specs.Files.{file_of}
use Rattle.ttx_monitor.specs.Waiting.{waiting, IsBehind, IsLeft, HasMore}
use Rattle.ttx_monitor.specs.declared.ahead.Ahead.{Ahead}
use Rattle.ttx_monitor.proofs.HeardFeeds.{file_more}

all_push : (slots : List (List ℕ)) (slot : List ℕ) → All IsSlot slots → IsSlot slot → All IsSlot (slots ++ slot ∷ [])
all_push slots slot each here n d lt =
    let size = length_push slots slot in
    elim (cases_lt n (length slots)) as (λ _. IsSlot (get_or (slots ++ slot ∷ []) n d)) [
      | inl before ↦ subst IsSlot (sym (get_or_append_left slots (slot ∷ []) d n before)) (each n d before)
      | inr after ↦ let e : length slots ≡ n = omega arith in subst IsSlot (sym (get_or_push slots slot d n e)) here
    ]

taken : (rem rem' : Option (List ℕ)) (slot b : List ℕ) → rem ≡ Some b → Consumes rem rem' slot →
    (b' : List ℕ) × (rem' ≡ Some b') × (b ≡ slot ++ b')
taken rem rem' slot b e c = go rem' (subst (λ o. Consumes o rem' slot) e c)
  where
    go : (o : Option (List ℕ)) → Consumes (Some b) o slot → (b' : List ℕ) × (o ≡ Some b') × (b ≡ slot ++ b')
    go None h = absurd h
    go (Some b') h = (b', refl, h)

-- one more slot is read
pub one_more : (old new : Ahead) (rem rem' : Option (List ℕ)) (slot : List ℕ) → old.end ≡ None → new.end ≡ None →
    waiting new ≡ waiting old ++ slot ∷ [] → Consumes rem rem' slot → IsSlot slot → (bytes : List ℕ) → IsLeft old rem bytes → IsLeft new rem' bytes
one_more old new rem rem' slot open_old open_new is consumed is_slot bytes l =
    let t = taken rem rem' slot l.behind (subst (λ o. IsBehind o rem l.behind) open_old l.is_behind) consumed in
    record {
      behind = t.0;
      same = l.same ∙ ap (λ b. file_of (waiting old) ++ b) t.2 ∙ sym (append_assoc (file_of (waiting old)) slot t.0)
          ∙ ap (λ b. b ++ t.0) (file_more (waiting old) slot) ∙ ap (λ s. file_of s ++ t.0) (sym is);
      each = subst (All IsSlot) (sym is) (all_push (waiting old) slot l.each is_slot);
      is_behind = subst (λ o. IsBehind o rem' t.0) (sym open_new) t.1;
    }

-- the end is read
pub at_end : (old new : Ahead) (rem rem' : Option (List ℕ)) (rest : ℕ) → old.end ≡ None → new.end ≡ Some rest → waiting new ≡ waiting old →
    rest < 42 → IfSome rem (λ bytes. length bytes ≡ rest) → (bytes : List ℕ) → IsLeft old rem bytes → IsLeft new rem' bytes
at_end old new rem rem' rest open_old ended is few size bytes l =
    let b = subst (λ o. IsBehind o rem l.behind) open_old l.is_behind in
    record {
      behind = l.behind;
      same = l.same ∙ ap (λ s. file_of s ++ l.behind) (sym is);
      each = subst (All IsSlot) (sym is) l.each;
      is_behind = subst (λ o. IsBehind o rem' l.behind) (sym ended) (few, subst (λ o. IfSome o (λ bytes. length bytes ≡ rest)) b size);
    }

-- the same slots wait
pub same_left : (old new : Ahead) (rem : Option (List ℕ)) → waiting new ≡ waiting old → new.end ≡ old.end → (bytes : List ℕ) → IsLeft old rem bytes →
    IsLeft new rem bytes
same_left old new rem is end bytes l = record {
  behind = l.behind;
  same = l.same ∙ ap (λ s. file_of s ++ l.behind) (sym is);
  each = subst (All IsSlot) (sym is) l.each;
  is_behind = subst (λ o. IsBehind o rem l.behind) (sym end) l.is_behind;
}

pub no_more : (old new : Ahead) → waiting new ≡ waiting old → HasMore old new
no_more old new is = ([], is ∙ sym (append-nil (waiting old)))

pub more_more : (old mid new : Ahead) → HasMore old mid → HasMore mid new → HasMore old new
more_more old mid new f g = (f.0 ++ g.0, g.1 ∙ ap (λ s. s ++ g.0) f.1 ∙ append_assoc (waiting old) f.0 g.0)
