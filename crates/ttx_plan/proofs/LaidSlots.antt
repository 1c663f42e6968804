-- Slots laid one after another.
use Rattle.std.proofs.Common.{◌≡◌, ℕ, ◌+◌, ◌*◌, ◌≤◌, Bool, true, false, cond, Result, Ok, Err, List, [], ◌∷◌, ◌++◌, map, length, Option, Some, None}
use Rattle.std.proofs.Common.{sym, ap, ◌∙◌, subst, arith, append_assoc, length-append}
use Rattle.std.proofs.lemmas.List.{map-append, length-map}
use Rattle.std.specs.Prelude.{IfOk}
use Rattle.ttx_plan.specs.declared.packet.Slot.{Slot}
use Rattle.ttx_plan.specs.declared.packet.Slot.TheVariants.{Sent}
use Rattle.ttx_plan.specs.Blocks.{time_filling_packet}
use Rattle.ttx_plan.specs.Packets.{bytes_of}
use Rattle.ttx_plan.specs.Turns.{is_info_due}
use Rattle.ttx_plan.specs.Serial.{info_if, with_info, IsLaid}

pub with_info_append : (lines : ℕ) (info : Option (List ℕ)) (at : ℕ) (xs ys : List Slot) →
    with_info lines info at (xs ++ ys) ≡ with_info lines info at xs ++ with_info lines info (at + length (with_info lines info at xs)) ys
with_info_append lines info at [] ys = let e : at ≡ at + 0 = omega arith in ap (λ n. with_info lines info n ys) e
with_info_append lines info at (x ∷ xs) ys =
    let first = info_if info (is_info_due lines at) in
    let next = at + length first + 1 in
    let h : with_info lines info next (xs ++ ys) ≡ with_info lines info next xs
    ++ with_info lines info (next + length (with_info lines info next xs)) ys = with_info_append lines info next xs ys in
    let n : next + length (with_info lines info next xs) ≡ at + length (first ++ x ∷ with_info lines info next xs) =
    omega (arith, length-append first (x ∷ with_info lines info next xs)) in
    ap (λ z. first ++ x ∷ z) (h ∙ ap (λ m. with_info lines info next xs ++ with_info lines info m ys) n)
    ∙ sym (append_assoc first (x ∷ with_info lines info next xs) (with_info lines info (at + length (first ++ x ∷ with_info lines info next xs)) ys))

pub laid_more : (lines : ℕ) (info : Option (List ℕ)) (list : List Slot) (slot : Slot) (old new : List (List ℕ)) → IsLaid lines info list old →
    new ≡ old ++ (map bytes_of (info_if info (is_info_due lines (length old))) ++ bytes_of slot ∷ []) → IsLaid lines info (list ++ slot ∷ []) new
laid_more lines info list slot old new l e = record {
  slots_are =
      let n : length old ≡ length (with_info lines info 0 list) = ap length l.slots_are ∙ length-map (with_info lines info 0 list) bytes_of in
      let z : 0 + length (with_info lines info 0 list) ≡ length old = omega arith in
      e ∙ ap (λ x. x ++ (map bytes_of (info_if info (is_info_due lines (length old))) ++ bytes_of slot ∷ [])) l.slots_are
      ∙ ap (λ x. map bytes_of (with_info lines info 0 list) ++ x)
      (sym (map-append bytes_of (info_if info (is_info_due lines (length old))) (slot ∷ [])))
      ∙ sym (map-append bytes_of (with_info lines info 0 list) (info_if info (is_info_due lines (length old)) ++ slot ∷ []))
      ∙ ap (map bytes_of) (ap (λ m. with_info lines info 0 list ++ with_info lines info m (slot ∷ [])) (sym z)
      ∙ sym (with_info_append lines info 0 list (slot ∷ [])));
}

pub laid_same : (lines : ℕ) (info : Option (List ℕ)) (a b : List Slot) (slots : List (List ℕ)) → a ≡ b → IsLaid lines info a slots →
    IsLaid lines info b slots
laid_same lines info a b slots e l = subst (λ x. IsLaid lines info x slots) e l

with_info_length : (lines : ℕ) (info : Option (List ℕ)) (at : ℕ) (list : List Slot) →
    (length list ≤ length (with_info lines info at list)) × (length (with_info lines info at list) ≤ 2 * length list)
with_info_length lines info at [] = (omega arith, omega arith)
with_info_length lines info at (slot ∷ rest) =
    let first = info_if info (is_info_due lines at) in
    let h = with_info_length lines info (at + length first + 1) rest in
    let k : length first ≤ 1 = one info (is_info_due lines at) in
    let size = length-append first (slot ∷ with_info lines info (at + length first + 1) rest) in
    (omega (arith, h.0, size), omega (arith, h.1, size))
  where
    one : (o : Option (List ℕ)) (due : Bool) → length (info_if o due) ≤ 1
    one None due = omega arith
    one (Some bytes) true = omega arith
    one (Some bytes) false = omega arith

pub laid_length : (lines : ℕ) (info : Option (List ℕ)) (list : List Slot) (slots : List (List ℕ)) → IsLaid lines info list slots →
    (length list ≤ length slots) × (length slots ≤ 2 * length list)
laid_length lines info list slots l =
    let size = ap length l.slots_are ∙ length-map (with_info lines info 0 list) bytes_of in
    let h = with_info_length lines info 0 list in
    (omega (arith, size, h.0), omega (arith, size, h.1))

-- a block's page, with or without a time-filling header before it

pub if_ok : {A E : Type 0} {P Q : A → Type 0} (result : Result A E) → ((x : A) → P x → Q x) → IfOk result P → IfOk result Q
if_ok (Ok x) f p = f x p
if_ok (Err e) f p = tt

pub led_list : (list : List Slot) (queue : ℕ) (filler : Bool) (page : List Slot) → filler ≡ true →
    (list ++ Sent queue (time_filling_packet true queue) ∷ []) ++ page ≡ list
    ++ (map (Sent queue) (cond filler (time_filling_packet true queue ∷ []) []) ++ page)
led_list list queue filler page e = rw e (append_assoc list (Sent queue (time_filling_packet true queue) ∷ []) page)

pub unled_list : (list : List Slot) (queue : ℕ) (filler : Bool) (page : List Slot) → filler ≡ false → list ++ page ≡ list
    ++ (map (Sent queue) (cond filler (time_filling_packet true queue ∷ []) []) ++ page)
unled_list list queue filler page e = rw e
