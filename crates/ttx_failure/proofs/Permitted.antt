-- The choices that are named are permitted.
use Rattle.std.proofs.Common.{◌≡◌, ◌⊎◌, ℕ, suc, ◌-◌, ◌≤◌, Bool, true, false, not, ◌&&◌, ◌==◌, nat_le, if◌then◌else◌, List, [], ◌∷◌, ◌++◌}
use Rattle.std.proofs.Common.{refl, sym, subst, arith, inl, inr, eqb-true}
use Rattle.std.specs.Prelude.{slice_index_or}
use Rattle.std.specs.List.{AllByRecursion}
use Rattle.std.proofs.lemmas.Bool.{both_ways, leb-true, not-true}
use Rattle.ttx_counter.specs.Following.{takes, choice_at, taken_from}
use Rattle.ttx_counter.specs.declared.taken_choices.Taken.{Taken}
use Rattle.ttx_failure.specs.Permitted.{IsPermitted, ArePermitted}
use Rattle.ttx_header.specs.Control.{c4, c11}
use Rattle.ttx_page.specs.Memories.{Memory}
use Rattle.ttx_page.specs.Packets.{Packet, Empty, Unreadable, Header, Row, Links, Info, Other, packet_of}
use Rattle.ttx_page.specs.Pages.{selected_mag, matches}
use Rattle.ttx_page.specs.declared.selection.Selection.{Selection}
use Rattle.ttx_page.specs.Receivers.{has_choice, next_choice, older}
use Rattle.ttx_page.specs.declared.class.Class.TheVariants as class
use Rattle.ttx_receiver.specs.Tuning.{Script, script_step, chooses}

both : (a b : Bool) → (a && b) ≡ true → (a ≡ true) × (b ≡ true)
both true b e = (refl, e)
both false b e = absurd (both_ways false refl e)

-- a choice is taken only where there is one
has_one : (has : Bool) (script : List Bool) → next_choice has script ≡ true → has ≡ true
has_one true script e = refl
has_one false script e = e

header_left : (own first other last storing : Bool) → (if own then first else (not other && last && storing)) ≡ true →
    (own ≡ true) ⊎ ((other ≡ false) × (last ≡ true))
header_left true first other last storing e = inl refl
header_left false first other last storing e =
    let parts = both (not other) last (both (not other && last) storing e).0 in inr (not-true other parts.0, parts.1)

packet_left : (mag own : ℕ) (storing : Bool) (age lines : ℕ) → ((mag == own) && storing && nat_le age lines) ≡ true → (mag ≡ own) × (age ≤ lines)
packet_left mag own storing age lines e =
    let parts = both ((mag == own) && storing) (nat_le age lines) e in
    (eqb-true mag own (both (mag == own) storing parts.0).0, leb-true age lines parts.1)

left_at : (lines : ℕ) (sel : Selection) (m : Memory) (p : Packet) → has_choice class.Any lines sel m p ≡ true → IsPermitted lines sel m.age p
left_at lines sel m (Header id control text) e =
    header_left (matches sel id) (m.fresh && not (c4 control)) (id.mag == selected_mag sel) (c11 control) m.storing e
left_at lines sel m (Row mag number text) e = packet_left mag (selected_mag sel) m.storing m.age lines e
left_at lines sel m (Links mag content) e = packet_left mag (selected_mag sel) m.storing m.age lines e
left_at lines sel m Empty e = absurd (both_ways false refl e)
left_at lines sel m Unreadable e = absurd (both_ways false refl e)
left_at lines sel m Info e = absurd (both_ways false refl e)
left_at lines sel m Other e = absurd (both_ways false refl e)

abbrev LeftIn : Script → ℕ → List (List ℕ) → Taken → Type 0
LeftIn r n received t = (n ≤ t.index) × IsPermitted r.tuned.lines r.tuned.selection t.age (packet_of (slice_index_or received (t.index - n) []))

first_left : (r : Script) (n : ℕ) (slot : List ℕ) (received : List (List ℕ)) → takes r slot ≡ true → LeftIn r n (slot ∷ received) (choice_at r n)
first_left r n slot received e =
    let left = left_at r.tuned.lines r.tuned.selection (older r.tuned.memory) (packet_of slot) (has_one (chooses r.tuned slot) r.choices e) in
    let at : 0 ≡ n - n = omega arith in (
      omega arith,
      subst (λ k. IsPermitted r.tuned.lines r.tuned.selection (older r.tuned.memory).age (packet_of (slice_index_or (slot ∷ received) k []))) at left,
    )

later_left : (r : Script) (n : ℕ) (slot : List ℕ) (received : List (List ℕ)) (t : Taken) → LeftIn (script_step r slot) (suc n) received t →
    LeftIn r n (slot ∷ received) t
later_left r n slot received t left =
    let after : suc n ≤ t.index = left.0 in
    let at : suc (t.index - suc n) ≡ t.index - n = omega (arith, after) in (
      omega (arith, after),
      subst (λ k. IsPermitted r.tuned.lines r.tuned.selection t.age (packet_of (slice_index_or (slot ∷ received) k []))) at left.1,
    )

all_map : {X : Type 0} (P Q : X → Type 0) (xs : List X) → ((x : X) → P x → Q x) → AllByRecursion P xs → AllByRecursion Q xs
all_map P Q [] f all = tt
all_map P Q (x ∷ xs) f all = (f x all.0, all_map P Q xs f all.1)

all_with : {X : Type 0} (P : X → Type 0) (here : Bool) (x : X) (xs : List X) → (here ≡ true → P x) → AllByRecursion P xs →
    AllByRecursion P ((if here then x ∷ [] else []) ++ xs)
all_with P true x xs f all = (f refl, all)
all_with P false x xs f all = all

pub are_permitted : ArePermitted
unfolding taken_from
are_permitted r n [] = tt
are_permitted r n (slot ∷ received) =
    let later = taken_from (script_step r slot) (suc n) received in
    all_with (LeftIn r n (slot ∷ received)) (takes r slot) (choice_at r n) later (first_left r n slot received)
    (all_map (LeftIn (script_step r slot) (suc n) received) (LeftIn r n (slot ∷ received)) later (later_left r n slot received)
    (are_permitted (script_step r slot) (suc n) received))
