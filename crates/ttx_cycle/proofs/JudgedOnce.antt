-- Two answers about the same bytes agree.
use Rattle.std.proofs.Common.{◌≡◌, ℕ, suc, ◌*◌, ◌<◌, ◌≤◌, List, [], ◌∷◌, ◌++◌, length, get_or, take, drop, Ok, Err, refl, sym, ap, ◌∙◌, arith}
use Rattle.std.proofs.Common.{length-append}
use Rattle.std.proofs.Math.Seq.{take-append_seam, drop-append_seam}
use Rattle.std.proofs.lemmas.List.Concat.{flat_map-cons}
use Rattle.std.proofs.lemmas.List.Elements.{All-get_or}
use Rattle.ttx_packet.specs.Slots.{IsSlot}
use Rattle.ttx_cycle.specs.Cycles.{slots_of, slots_of-IsCycle}
use Rattle.ttx_cycle.specs.Files.{IsCycle, file_of}
use Rattle.ttx_cycle.specs.Reading.{Judged}
use Rattle.ttx_cycle.specs.ReadingLaws.{SpeaksOfBytes, FilesAreJudgedOnce, LongestIsNotTooLong}
use Rattle.ttx_cycle.specs.declared.cycles.Cycle.{Cycle}
use Rattle.ttx_cycle.specs.declared.faults.CycleFault.{CycleFault}
use Rattle.ttx_cycle.specs.declared.faults.CycleFault.TheVariants.{Read, Truncated, Empty, TooLong, NoMemory}

abbrev Are42 : List (List ℕ) → Type 0
Are42 slots = (n : ℕ) → n < length slots → length (get_or slots n []) ≡ 42

are_42 : (slots : List (List ℕ)) → IsCycle slots → Are42 slots
are_42 slots is n lt = (All-get_or IsSlot slots n [] lt is.each).size

file_cons : (slot : List ℕ) (rest : List (List ℕ)) → file_of (slot ∷ rest) ≡ slot ++ file_of rest
file_cons slot rest = flat_map-cons (λ slot. slot) slot rest

length-file_of : (slots : List (List ℕ)) → Are42 slots → length (file_of slots) ≡ 42 * length slots
length-file_of [] are = refl
length-file_of (slot ∷ rest) are =
    let first : length slot ≡ 42 = are 0 (omega arith) in
    let others = length-file_of rest (λ n lt. are (suc n) (omega arith)) in
    ap length (file_cons slot rest) ∙ length-append slot (file_of rest) ∙ omega arith

-- a packet file belongs to one list of slots
one_list : (a b : List (List ℕ)) → Are42 a → Are42 b → file_of a ≡ file_of b → a ≡ b
one_list [] [] p q e = refl
one_list [] (y ∷ ys) p q e = let l = length-file_of (y ∷ ys) q in let z : 0 ≡ length (file_of (y ∷ ys)) = ap length e in absurd (omega arith)
one_list (x ∷ xs) [] p q e = let l = length-file_of (x ∷ xs) p in let z : length (file_of (x ∷ xs)) ≡ 0 = ap length e in absurd (omega arith)
one_list (x ∷ xs) (y ∷ ys) p q e =
    let joined : x ++ file_of xs ≡ y ++ file_of ys = sym (file_cons x xs) ∙ e ∙ file_cons y ys in
    let long : length x ≡ length y = p 0 (omega arith) ∙ sym (q 0 (omega arith)) in
    let first : x ≡ y = sym (take-append_seam x (file_of xs)) ∙ ap (λ bytes. take (length x) bytes) joined
    ∙ ap (λ n. take n (y ++ file_of ys)) long ∙ take-append_seam y (file_of ys) in
    let others : file_of xs ≡ file_of ys = sym (drop-append_seam x (file_of xs)) ∙ ap (λ bytes. drop (length x) bytes) joined
    ∙ ap (λ n. drop n (y ++ file_of ys)) long ∙ drop-append_seam y (file_of ys) in
    let rest : xs ≡ ys = one_list xs ys (λ n lt. p (suc n) (omega arith)) (λ n lt. q (suc n) (omega arith)) others in
    cc

-- the length of the file of a cycle
record HasLength (bytes : List ℕ) : Type 0 where
  count : ℕ
  some : 0 < count
  most : count ≤ 65536
  is : length bytes ≡ 42 * count

has_length : (bytes : List ℕ) (cycle : Cycle) → bytes ≡ file_of (slots_of cycle) → HasLength bytes
has_length bytes cycle e =
    let is = slots_of-IsCycle cycle in
    record {
      count = length (slots_of cycle);
      some = is.some;
      most = is.most;
      is = ap length e
          ∙ length-file_of (slots_of cycle) (are_42 (slots_of cycle) is);
    }

-- bytes that are the file of a cycle have no fault
not_fault : (bytes : List ℕ) → HasLength bytes → (fault : CycleFault) → SpeaksOfBytes (Err fault) → Judged bytes (Err fault) → ⊥
not_fault bytes h Read speaks j = speaks
not_fault bytes h (Truncated rest) speaks j = let s = h.is in let r = j.1 in let p = j.2 in omega arith
not_fault bytes h Empty speaks j = let e : length bytes ≡ 0 = ap length j in let s = h.is in let o = h.some in omega arith
not_fault bytes h TooLong speaks j = let s = h.is in let m = h.most in omega arith
not_fault bytes h NoMemory speaks j = speaks

one_fault : (bytes : List ℕ) (a b : CycleFault) → SpeaksOfBytes (Err a) → SpeaksOfBytes (Err b) → Judged bytes (Err a) → Judged bytes (Err b) → a ≡ b
one_fault bytes Read b s t f g = absurd s
one_fault bytes NoMemory b s t f g = absurd s
one_fault bytes (Truncated r) Read s t f g = absurd t
one_fault bytes (Truncated r) NoMemory s t f g = absurd t
one_fault bytes (Truncated r) (Truncated q) s t f g = ap Truncated (sym f.1 ∙ g.1)
one_fault bytes (Truncated r) Empty s t f g = let e : length bytes ≡ 0 = ap length g in let o = f.1 in let p = f.2 in absurd (omega arith)
one_fault bytes (Truncated r) TooLong s t f g = let m = f.0 in absurd (omega arith)
one_fault bytes Empty Read s t f g = absurd t
one_fault bytes Empty NoMemory s t f g = absurd t
one_fault bytes Empty (Truncated q) s t f g = let e : length bytes ≡ 0 = ap length f in let o = g.1 in let p = g.2 in absurd (omega arith)
one_fault bytes Empty Empty s t f g = refl
one_fault bytes Empty TooLong s t f g = let e : length bytes ≡ 0 = ap length f in absurd (omega arith)
one_fault bytes TooLong Read s t f g = absurd t
one_fault bytes TooLong NoMemory s t f g = absurd t
one_fault bytes TooLong (Truncated q) s t f g = let m = g.0 in absurd (omega arith)
one_fault bytes TooLong Empty s t f g = let e : length bytes ≡ 0 = ap length g in absurd (omega arith)
one_fault bytes TooLong TooLong s t f g = refl

pub files_are_judged_once : FilesAreJudgedOnce
files_are_judged_once bytes (Ok a) (Ok b) s t f g =
    one_list (slots_of a) (slots_of b) (are_42 (slots_of a) (slots_of-IsCycle a)) (are_42 (slots_of b) (slots_of-IsCycle b)) (sym f ∙ g)
files_are_judged_once bytes (Ok a) (Err b) s t f g = not_fault bytes (has_length bytes a f) b t g
files_are_judged_once bytes (Err a) (Ok b) s t f g = not_fault bytes (has_length bytes b g) a s f
files_are_judged_once bytes (Err a) (Err b) s t f g = one_fault bytes a b s t f g

pub longest_is_not_too_long : LongestIsNotTooLong
longest_is_not_too_long bytes most j = omega arith
