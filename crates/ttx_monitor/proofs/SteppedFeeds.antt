-- One step of a monitor.
use Rattle.std.proofs.Common.{◌≡◌, ◌⊎◌, ℕ, suc, ◌<◌, List, [], ◌∷◌, ◌++◌, length, get_or, take, drop, All, Option, Some, None, refl, sym, ap, ◌∙◌, subst, inl, inr, arith}
use Rattle.std.proofs.Common.{append_assoc}
use Rattle.std.specs.Option.{IsSome, unwrap_or}
use Rattle.std.proofs.lemmas.Bool.{cases_lt, both_ways}
use Rattle.std.proofs.lemmas.Grind.{flat_map-append}
use Rattle.std.proofs.lemmas.List.{drop_all, length-take, length-take-le, take-append-drop}
use Rattle.std.proofs.lemmas.List.Elements.{All-take}
use Rattle.ttx_packet.specs.Slots.{IsSlot}
use Rattle.ttx_cycle.specs.Files.{file_of}
use Rattle.ttx_monitor.specs.Watching.{Watched, sent_at}
use Rattle.ttx_monitor.specs.Breaches.{IsHeard}
use Rattle.ttx_monitor.specs.Standing.{Stands}
use Rattle.ttx_monitor.specs.FirstPeriods.{IsFirstPeriod}
use Rattle.ttx_monitor.specs.Events.{moved, since, IsShift}
use Rattle.ttx_monitor.specs.MostWrong.{IsMostWrong}
use Rattle.ttx_monitor.specs.Totals.{wrong_in, bits_in}
use Rattle.ttx_monitor.specs.Waiting.{waiting, IsBehind, IsLeft, HasMore, IsEnough}
use Rattle.ttx_monitor.specs.Stepping.{BeginsWith, IsPlacedFor, IsHeardAs, IsNext}
use Rattle.ttx_monitor.specs.declared.ahead.Ahead.{Ahead}
use Rattle.ttx_monitor.specs.declared.event.Event.{Event}
use Rattle.ttx_monitor.specs.declared.monitor.Monitor.{Monitor}

-- a slot that waits first still does when more are read
pub still_begins : (old new : Ahead) (slot : List ℕ) → BeginsWith slot old → HasMore old new → BeginsWith slot new
still_begins old new slot b m = (b.0 ++ m.0, m.1 ∙ ap (λ s. s ++ m.0) b.1)

short : (o : Option ℕ) (remaining : Option (List ℕ)) (behind : List ℕ) → IsSome o → IsBehind o remaining behind → length behind < 42
short None remaining behind some is = absurd (both_ways _ refl some)
short (Some rest) remaining behind some is = let a = is.0 in let b = is.1 in omega arith

-- a period of what waits, or all of it
pub period : (cycle : List (List ℕ)) (a : Ahead) (remaining : Option (List ℕ)) (bytes : List ℕ) → IsLeft a remaining bytes → IsEnough (length cycle) a →
    IsFirstPeriod cycle bytes (take (length cycle) (waiting a))
period cycle a remaining bytes l enough =
    let n = length cycle in
    let all = waiting a in
    let size = length-take n all in
    record {
      rest = file_of (drop n all) ++ l.behind;
      same = l.same ∙ ap (λ s. file_of s ++ l.behind) (sym (take-append-drop n all))
          ∙ ap (λ b. b ++ l.behind) (flat_map-append (λ slot. slot) (take n all) (drop n all))
          ∙ append_assoc (file_of (take n all)) (file_of (drop n all)) l.behind;
      each = All-take IsSlot n all l.each;
      few = omega arith;
      whole = elim (cases_lt (length all) n) as (λ _. (length (take n all) ≡ n) ⊎ (length (file_of (drop n all) ++ l.behind) < 42)) [
        | inr ge ↦ inl (length-take-le n all ge)
        | inl lt ↦ inr (elim enough as (λ _. length (file_of (drop n all) ++ l.behind) < 42) [
          | inl le ↦ absurd (omega arith)
          | inr some ↦
              let none : drop n all ≡ [] = drop_all n all (omega arith) in
              subst (λ s. length (file_of s ++ l.behind) < 42) (sym none) (short a.end remaining l.behind some l.is_behind)
        ])
      ];
    }

-- nothing waits, and the feed has ended
pub over : (a : Ahead) (remaining : Option (List ℕ)) (bytes : List ℕ) → IsLeft a remaining bytes → waiting a ≡ [] → IsEnough 1 a →
    (rest : ℕ) → rest ≡ unwrap_or a.end 0 → (rest < 42) × (length bytes ≡ rest)
over a remaining bytes l none enough rest is = elim enough as (λ _. (rest < 42) × (length bytes ≡ rest)) [
  | inl some ↦ absurd (let e = ap length none in omega arith)
  | inr ended ↦ go a.end ended l.is_behind is
]
  where
    size : length bytes ≡ length l.behind
    size = ap length (l.same ∙ ap (λ s. file_of s ++ l.behind) none)

    go : (o : Option ℕ) → IsSome o → IsBehind o remaining l.behind → rest ≡ unwrap_or o 0 → (rest < 42) × (length bytes ≡ rest)
    go None some b e = absurd (both_ways _ refl some)
    go (Some n) some b e = ((let c = b.0 in omega arith), (let c = b.1 in let d = size in omega arith))

-- the first slot that waits is passed
pub passed_left : (a passed : Ahead) (remaining : Option (List ℕ)) (bytes slot : List ℕ) → IsLeft a remaining bytes → BeginsWith slot a →
    ((slot : List ℕ) (more : List (List ℕ)) → waiting a ≡ slot ∷ more → waiting passed ≡ more) → passed.end ≡ a.end →
    (after : List ℕ) × (bytes ≡ slot ++ after) × IsLeft passed remaining after
passed_left a passed remaining bytes slot l b passes end = (
  file_of b.0 ++ l.behind,
  l.same ∙ ap (λ s. file_of s ++ l.behind) b.1 ∙ append_assoc slot (file_of b.0) l.behind,
  record {
    behind = l.behind;
    same = ap (λ s. file_of s ++ l.behind) (sym (passes slot b.0 b.1));
    each = λ n d lt.
        let gone = passes slot b.0 b.1 in
        let c = ap length gone in
        subst IsSlot (ap (λ s. get_or s n d) (sym gone)) (subst (All IsSlot) b.1 l.each (suc n) d (omega arith));
    is_behind = subst (λ o. IsBehind o remaining l.behind) (sym end) l.is_behind;
  },
)

-- the first slot that waits is heard at its place
module _ (w : Watched) (slots : List (List ℕ)) (bytes slot : List ℕ) (old : Monitor) (a : Ahead) (remaining : Option (List ℕ)) (shift : Option ℕ)
    (p : IsPlacedFor w slots bytes slot old a remaining shift) where
  pub next_heard : IsSlot slot → (new : Monitor) (passed : Ahead) (e : Event) →
      ((slot : List ℕ) (more : List (List ℕ)) → waiting a ≡ slot ∷ more → waiting passed ≡ more) → passed.end ≡ a.end →
      IsHeardAs (moved w (length slots) shift) (since slots shift) slot shift new e → IsNext w slots bytes new passed remaining e
  next_heard is_slot new passed e passes end h =
      let left = passed_left a passed remaining bytes slot p.left p.begins passes end in
      let back = sym h.shift_is in
      record {
        slot = slot;
        after = left.0;
        same = left.1;
        is_slot = is_slot;
        event = record {
          shift = subst (λ s. IsShift w (length slots) bytes slot s) back p.told;
          breach = subst (λ s. IsHeard (moved w (length slots) s) (since slots s) slot e.breach) back h.breach;
          wrong = subst (λ s. e.wrong ≡ wrong_in (sent_at (moved w (length slots) s) (length (since slots s))) slot) back h.wrong;
          bits = subst (λ s. e.bits ≡ bits_in (sent_at (moved w (length slots) s) (length (since slots s))) slot) back h.bits;
          streak = subst (λ s. IsMostWrong (moved w (length slots) s) (since slots s ++ slot ∷ []) e.streak) back h.streak;
        };
        stands = subst (λ s. Stands new (moved w (length slots) s) (since slots s ++ slot ∷ [])) back h.stands;
        left = left.2;
      }
