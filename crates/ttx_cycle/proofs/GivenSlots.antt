-- The slots that a slot reader returns are those of the packet file, and its fault is the fault of the whole file.
use Rattle.std.proofs.Common.{◌≡◌, ℕ, zero, suc, ◌<◌, List, [], ◌∷◌, ◌++◌, length, All, Option, Some, None, IfSome, Err, refl, sym, ap, ◌∙◌}
use Rattle.std.proofs.Common.{subst, arith, length-append, append-nil}
use Rattle.std.specs.Io.KnownBytes.{Consumes, IsAtEnd}
use Rattle.std.proofs.KnownBytes.{Consumes-nil, Consumes-trans, Consumes-whole}
use Rattle.std.proofs.lemmas.Grind.{flat_map-append}
use Rattle.std.proofs.lemmas.List.Elements.{All-nil}
use Rattle.ttx_packet.specs.Slots.{IsSlot}
use Rattle.ttx_cycle.specs.Files.{IsCycle, file_of}
use Rattle.ttx_cycle.specs.SlotLaws.{NoneIsGiven, OneMoreIsGiven, AllAreGiven, FaultIsTheFiles}
use Rattle.ttx_cycle.specs.Reading.{Judged}
use Rattle.ttx_cycle.specs.declared.faults.CycleFault.TheVariants.{Read, Truncated, Empty, TooLong, NoMemory}

file_more : (xs : List (List ℕ)) (z : List ℕ) → file_of xs ++ z ≡ file_of (xs ++ z ∷ [])
file_more xs z = sym (flat_map-append (λ slot. slot) xs (z ∷ []) ∙ ap (λ l. file_of xs ++ l) (append-nil z))

all_more : (P : List ℕ → Type 0) (y : List (List ℕ)) (z : List ℕ) → All P y → P z → All P (y ++ z ∷ [])
all_more P [] z a p zero d lt = p
all_more P [] z a p (suc k) d lt = absurd (omega arith)
all_more P (x ∷ y) z a p zero d lt = a zero d (omega arith)
all_more P (x ∷ y) z a p (suc k) d lt = all_more P y z (λ i e less. a (suc i) e (omega arith)) p k d (omega arith)

pub none_is_given : NoneIsGiven
none_is_given known = record { count = refl; few = omega arith; each = All-nil IsSlot; long = refl; bytes = Consumes-nil known }

pub one_more_is_given : OneMoreIsGiven
one_more_is_given given old mid new slots slot gave answer is =
    let few = answer.0 in
    let count = gave.count in
    let long = gave.long in
    let size = is.size in
    record {
      count = length-append slots (slot ∷ []) ∙ (omega arith);
      few = omega arith;
      each = all_more IsSlot slots slot gave.each is;
      long = sym (ap length (file_more slots slot)) ∙ (let l = length-append (file_of slots) slot in omega arith);
      bytes = subst (Consumes old new) (file_more slots slot) (Consumes-trans old mid new (file_of slots) slot gave.bytes answer.1);
    }

pub all_are_given : AllAreGiven
all_are_given given old mid new slots slot gave answer =
    let some = answer.0 in
    let few = gave.few in
    let count = gave.count in
    Consumes-whole old mid (file_of slots) (λ bytes. IsCycle slots × (bytes ≡ file_of slots)) gave.bytes answer.1
    (record { some = omega arith; most = omega arith; each = gave.each }, refl)

-- the bytes that are left
left_over : (a b : Option (List ℕ)) (bs : List ℕ) (R S : List ℕ → Type 0) → Consumes a b bs → IfSome b R →
    ((r : List ℕ) → R r → S (bs ++ r)) → IfSome a S
left_over None b bs R S c h f = tt
left_over (Some x) None bs R S c h f = absurd c
left_over (Some x) (Some y) bs R S c h f = subst S (sym c) (f y h)

at_end : (a : Option (List ℕ)) → IsAtEnd a → IfSome a (λ bytes. bytes ≡ [])
at_end None h = tt
at_end (Some x) h = h

whatever : (a : Option (List ℕ)) (S : List ℕ → Type 0) → ((r : List ℕ) → S r) → IfSome a S
whatever None S f = tt
whatever (Some x) S f = f x

empty_list : (l : List ℕ) → length l ≡ 0 → l ≡ []
empty_list [] e = refl
empty_list (x ∷ l) e = absurd (omega arith)

pub fault_is_the_files : FaultIsTheFiles
fault_is_the_files given old mid new slots slot Read gave answer = whatever old _ (λ r. tt)
fault_is_the_files given old mid new slots slot (Truncated rest) gave answer =
    let few = answer.0 in
    let some = answer.1 in
    let below = answer.2 in
    let long = gave.long in
    left_over old mid (file_of slots) (λ r. length r ≡ rest) (λ bytes. Judged bytes (Err (Truncated rest))) gave.bytes answer.3
    (λ r size. let l = length-append (file_of slots) r in (omega arith, omega arith, some))
fault_is_the_files given old mid new slots slot Empty gave answer =
    let none = answer.0 in
    left_over old mid (file_of slots) (λ r. r ≡ []) (λ bytes. Judged bytes (Err Empty)) gave.bytes (at_end mid answer.1)
    (λ r e. let all : length (file_of slots) ≡ 0 = (let l = gave.long in omega arith) in ap (λ s. s ++ r) (empty_list (file_of slots) all) ∙ e)
fault_is_the_files given old mid new slots slot TooLong gave answer =
    let all = answer.0 in
    let long = gave.long in
    left_over old mid (file_of slots) (λ r. 0 < length r) (λ bytes. Judged bytes (Err TooLong)) gave.bytes answer.1
    (λ r some. let l = length-append (file_of slots) r in omega arith)
fault_is_the_files given old mid new slots slot NoMemory gave answer = absurd answer
