-- Slots appended one by one from a block of bytes.
use Rattle.std.proofs.Common.{◌≡◌, ◌∙◌, ℕ, ◌+◌, ◌*◌, ◌-◌, ◌/◌, ◌%◌, ◌<◌, ◌≤◌, List, [], ◌∷◌, ◌++◌, Option, Some, None, Result, IfSome}
use Rattle.std.proofs.Common.{length, take, drop, take_all, length-drop, length-append, sym, ap, subst, arith, append_assoc}
use Rattle.std.specs.Io.KnownBytes.{Consumes, IsAtEnd}
use Rattle.ttx_cycle.specs.Reading.{Judged}
use Rattle.ttx_cycle.specs.declared.cycles.Cycle.{Cycle}
use Rattle.ttx_cycle.specs.declared.faults.CycleFault.{CycleFault}
use Rattle.std.proofs.lemmas.Grind.{flat_map-append}
use Rattle.std.proofs.lemmas.List.{append-nil, drop_all, take-append-drop, drop-drop}
use Rattle.ttx_cycle.specs.Files.{file_of}

pub one_more_slot : (done : List (List ℕ)) (slot bytes whole : List ℕ) (i : ℕ) → slot ≡ take 42 (drop (42 * i) bytes)
    → file_of done ++ drop (42 * i) bytes ≡ whole → file_of (done ++ slot ∷ []) ++ drop (42 * (i + 1)) bytes ≡ whole
one_more_slot done slot bytes whole i is so_far =
    let next : 42 * i + 42 ≡ 42 * (i + 1) = omega arith in
    let rest : slot ++ drop (42 * (i + 1)) bytes ≡ drop (42 * i) bytes =
    ap (λ s. s ++ drop (42 * (i + 1)) bytes) is
    ∙ ap (λ n. take 42 (drop (42 * i) bytes) ++ drop n bytes) (sym next)
    ∙ ap (λ t. take 42 (drop (42 * i) bytes) ++ t) (sym (drop-drop 42 (42 * i) bytes))
    ∙ take-append-drop 42 (drop (42 * i) bytes) in
    ap (λ f. f ++ drop (42 * (i + 1)) bytes) (flat_map-append (λ s. s) done (slot ∷ []) ∙ ap (λ s. file_of done ++ s) (append-nil slot))
    ∙ append_assoc (file_of done) slot (drop (42 * (i + 1)) bytes)
    ∙ ap (λ t. file_of done ++ t) rest
    ∙ so_far

pub take_whole : (n at : ℕ) (xs : List ℕ) → length xs ≤ n → take (n - at) (drop at xs) ≡ drop at xs
take_whole n at xs le = take_all (n - at) (drop at xs) (omega (arith, length-drop at xs))

-- an answer that is right for any file
pub judged_any : (old : Option (List ℕ)) (r : Result Cycle CycleFault) → ((file : List ℕ) → Judged file r) → IfSome old (λ bytes. Judged bytes r)
judged_any None r j = tt
judged_any (Some xs) r j = j xs

-- a file that has been read to its end
pub judged_end : (old mid : Option (List ℕ)) (file : List ℕ) (r : Result Cycle CycleFault) → Consumes old mid file → IsAtEnd mid → Judged file r
    → IfSome old (λ bytes. Judged bytes r)
judged_end None mid file r a end j = tt
judged_end (Some xs) None file r a end j = absurd a
judged_end (Some xs) (Some ys) file r a end j =
    subst (λ bytes. Judged bytes r) (sym (a ∙ ap (λ l. file ++ l) end ∙ append-nil file)) j

-- a file of more than 65,536 slots
pub judged_long : (old mid : Option (List ℕ)) (file : List ℕ) → Consumes old mid file → IfSome mid (λ more. 0 < length more) → 2752512 ≤ length file
    → IfSome old (λ bytes. 2752512 < length bytes)
judged_long None mid file a some long = tt
judged_long (Some xs) None file a some long = absurd a
judged_long (Some xs) (Some ys) file a some long = omega (arith, ap length a, length-append file ys, some, long)

-- whole slots leave no bytes over
pub whole_slots : (old new : List (List ℕ)) (bytes : List ℕ) (n : ℕ) → length bytes ≤ n → n % 42 ≡ 0
    → file_of new ++ drop (42 * (n / 42)) bytes ≡ file_of old ++ bytes → file_of new ≡ file_of old ++ bytes
whole_slots old new bytes n few whole added =
    let past : length bytes ≤ 42 * (n / 42) = omega arith in
    let none : drop (42 * (n / 42)) bytes ≡ [] = drop_all (42 * (n / 42)) bytes past in
    sym (append-nil (file_of new)) ∙ ap (λ rest. file_of new ++ rest) (sym none) ∙ added

-- a file that ends inside a slot
pub judged_cut : (old mid new : Option (List ℕ)) (file rest : List ℕ) (i n : ℕ) → Consumes old mid file → Consumes mid new rest → IsAtEnd new
    → length file ≡ 1344 * i → i < 2048 → length rest ≡ n → n < 1344 → 0 < n % 42
    → IfSome old (λ bytes. (length bytes ≤ 2752512) × (length bytes % 42 ≡ n % 42) × (0 < n % 42))
judged_cut None mid new file rest i n a b end long few size small cut = tt
judged_cut (Some xs) None new file rest i n a b end long few size small cut = absurd a
judged_cut (Some xs) (Some ys) None file rest i n a b end long few size small cut = absurd b
judged_cut (Some xs) (Some ys) (Some zs) file rest i n a b end long few size small cut =
    let all : length xs ≡ 1344 * i + n =
    omega (arith, ap length a, length-append file ys, ap length b, length-append rest zs, ap length end) in
    (omega arith, omega arith, cut)
