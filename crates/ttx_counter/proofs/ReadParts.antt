-- Parts of a counter-run from numbers, place by place.
use Rattle.std.proofs.Common.{◌≡◌, ℕ, zero, suc, ◌+◌, ◌-◌, ◌*◌, ◌<◌, ◌≤◌, ◌==◌, Bool, List, [], ◌∷◌, ◌++◌, length, take, drop, get_or, Option, Some}
use Rattle.std.proofs.Common.{None, refl, sym, ap, ◌∙◌, subst, arith, ext_get_or, length-drop, append-nil, append_assoc}
use Rattle.std.specs.Prelude.{slice_index}
use Rattle.ttx_page.specs.Pages.{IsRow}
use Rattle.ttx_page.specs.Memories.{IsMemory, memory_at}
use Rattle.ttx_links.specs.Sets.{LinkSet}
use Rattle.ttx_counter.specs.Counters.{Hit}
use Rattle.ttx_counter.specs.CounterReading.{at_most, closed, characters_in, read_rows, hit_of, hits_in}

-- a number that has ended comes before the others
pub closed_more : (begun : Option ℕ) (xs : List ℕ) → closed begun xs ≡ closed begun [] ++ xs
closed_more None xs = refl
closed_more (Some n) xs = refl

pub characters_length : (n : ℕ) (ns : List ℕ) → length (characters_in n ns) ≡ n
unfolding characters_in
characters_length zero ns = refl
characters_length (suc n) [] = ap suc (characters_length n [])
characters_length (suc n) (x ∷ ns) = ap suc (characters_length n ns)

pub character_at : (n : ℕ) (ns : List ℕ) (k : ℕ) → k < n → get_or (characters_in n ns) k 0 ≡ at_most 127 (slice_index ns k)
unfolding characters_in
character_at zero ns k lt = absurd (omega arith)
character_at (suc n) [] zero lt = omega arith
character_at (suc n) [] (suc k) lt = character_at n [] k (omega arith)
character_at (suc n) (x ∷ ns) zero lt = refl
character_at (suc n) (x ∷ ns) (suc k) lt = character_at n ns k (omega arith)

pub characters_are : (n : ℕ) (ns row : List ℕ) → length row ≡ n → ((k : ℕ) → k < n → get_or row k 0 ≡ at_most 127 (slice_index ns k)) →
    row ≡ characters_in n ns
characters_are n ns row long each =
    ext_get_or 0 row (characters_in n ns) (long ∙ sym (characters_length n ns))
    (λ k lt. each k (omega arith) ∙ sym (character_at n ns k (omega arith)))

drop_none : (n : ℕ) → drop {A = ℕ} n [] ≡ []
drop_none zero = refl
drop_none (suc n) = refl

drop_more : (a b : ℕ) (xs : List ℕ) → drop (a + b) xs ≡ drop b (drop a xs)
drop_more zero b xs = let e : 0 + b ≡ b = omega arith in ap (λ n. drop n xs) e
drop_more (suc a) b [] = drop_none (suc a + b) ∙ sym (drop_none b)
drop_more (suc a) b (x ∷ xs) = let e : suc a + b ≡ suc (a + b) = omega arith in ap (λ n. drop n (x ∷ xs)) e ∙ drop_more a b xs

pub rows_length : (n : ℕ) (ns : List ℕ) → length (read_rows n ns) ≡ n
unfolding read_rows
rows_length zero ns = refl
rows_length (suc n) ns = ap suc (rows_length n (drop 40 ns))

pub row_at : (n : ℕ) (ns : List ℕ) (k : ℕ) → k < n → get_or (read_rows n ns) k [] ≡ characters_in 40 (drop (40 * k) ns)
unfolding read_rows
row_at zero ns k lt = absurd (omega arith)
row_at (suc n) ns zero lt = refl
row_at (suc n) ns (suc k) lt =
    let e : 40 + 40 * k ≡ 40 * suc k = omega arith in
    row_at n (drop 40 ns) k (omega arith) ∙ ap (characters_in 40) (sym (drop_more 40 (40 * k) ns) ∙ ap (λ n. drop n ns) e)

pub rows_are : (n : ℕ) (ns : List ℕ) (rows : List (List ℕ)) → length rows ≡ n →
    ((k : ℕ) → k < n → get_or rows k [] ≡ characters_in 40 (drop (40 * k) ns)) → rows ≡ read_rows n ns
rows_are n ns rows long each =
    ext_get_or [] rows (read_rows n ns) (long ∙ sym (rows_length n ns)) (λ k lt. each k (omega arith) ∙ sym (row_at n ns k (omega arith)))

low : (n : ℕ) (ns : List ℕ) (c : ℕ) → get_or (characters_in n ns) c 0 < 128
unfolding characters_in
low zero ns c = omega arith
low (suc n) [] zero = omega arith
low (suc n) [] (suc c) = low n [] c
low (suc n) (x ∷ ns) zero = omega arith
low (suc n) (x ∷ ns) (suc c) = low n ns c

is_row : (ns : List ℕ) → IsRow (characters_in 40 ns)
is_row ns = record { length = characters_length 40 ns; codes = low 40 ns }

-- parts that make a memory
pub memory_fits : (rows : List (List ℕ)) (ns : List ℕ) (control age n : ℕ) (links : LinkSet) (storing fresh : Bool) → rows
    ≡ read_rows 25 ns → control ≡ at_most 2047 n → age ≤ 64 →
    IsMemory (memory_at rows control links storing age fresh)
memory_fits rows ns control age n links storing fresh made low young = record {
  row_count = ap length made ∙ rows_length 25 ns;
  rows = λ r lt. subst IsRow (sym (ap (λ rs. get_or rs r []) made ∙ row_at 25 ns r lt)) (is_row (drop (40 * r) ns));
  control = omega (arith, low);
  at_most = young;
}

pub too_few : (n : ℕ) (ns : List ℕ) → length ns < 3 → hits_in n ns ≡ []
unfolding hits_in
too_few zero ns lt = refl
too_few (suc n) [] lt = refl
too_few (suc n) (a ∷ []) lt = refl
too_few (suc n) (a ∷ b ∷ []) lt = refl
too_few (suc n) (a ∷ b ∷ c ∷ ns) lt = absurd (omega arith)

pub one_more : (n : ℕ) (ns : List ℕ) → 3 ≤ length ns → hits_in (suc n) ns
    ≡ hit_of (slice_index ns 0) (slice_index ns 1) (slice_index ns 2) ∷ hits_in n (drop 3 ns)
unfolding hits_in
one_more n [] le = absurd (omega arith)
one_more n (a ∷ []) le = absurd (omega arith)
one_more n (a ∷ b ∷ []) le = absurd (omega arith)
one_more n (a ∷ b ∷ c ∷ ns) le = refl

no_hits : (n : ℕ) (ns : List ℕ) → n ≡ 0 → hits_in n ns ≡ []
unfolding hits_in
no_hits zero ns e = refl
no_hits (suc n) ns e = absurd (omega arith)

-- hits, three numbers each
pub hits_begin : (count : ℕ) (ns : List ℕ) (done : List Hit) → done ≡ [] → hits_in count ns ≡ done ++ hits_in (count - 0) (drop (3 * 0) ns)
hits_begin count ns done is =
    let e : count - 0 ≡ count = omega arith in
    let k : 3 * 0 ≡ 0 = omega arith in
    sym (ap (λ d. d ++ hits_in (count - 0) (drop (3 * 0) ns)) is ∙ ap (λ n. hits_in n (drop (3 * 0) ns)) e ∙ ap (λ n. hits_in count (drop n ns)) k)

pub hits_end : (count i : ℕ) (ns rest : List ℕ) (done : List Hit) → hits_in count ns ≡ done ++ hits_in (count - i) (drop (3 * i) ns) →
    rest ≡ drop (3 * i) ns → length rest < 3 → done ≡ hits_in count ns
hits_end count i ns rest done is e few =
    sym (is ∙ ap (λ r. done ++ hits_in (count - i) r) (sym e) ∙ ap (λ h. done ++ h) (too_few (count - i) rest few) ∙ append-nil done)

pub hits_all : (count i : ℕ) (ns : List ℕ) (done : List Hit) → count ≤ i → hits_in count ns ≡ done
    ++ hits_in (count - i) (drop (3 * i) ns) → done ≡ hits_in count ns
hits_all count i ns done le is = sym (is ∙ ap (λ h. done ++ h) (no_hits (count - i) (drop (3 * i) ns) (omega arith)) ∙ append-nil done)

pub hits_step : (count i : ℕ) (ns rest : List ℕ) (done : List Hit) (h : Hit) → i < count → hits_in count ns ≡ done
    ++ hits_in (count - i) (drop (3 * i) ns) → rest ≡ drop (3 * i) ns → 3 ≤ length rest →
    h ≡ hit_of (slice_index rest 0) (slice_index rest 1) (slice_index rest 2) → hits_in count ns ≡ (done ++ h ∷ [])
    ++ hits_in (count - (i + 1)) (drop (3 * (i + 1)) ns)
hits_step count i ns rest done h lt is e le hit =
    let k : ℕ = count - (i + 1) in
    let one : count - i ≡ suc k = omega arith in
    let far : 3 * i + 3 ≡ 3 * (i + 1) = omega arith in
    let next : drop 3 rest ≡ drop (3 * (i + 1)) ns = ap (drop 3) e ∙ sym (drop_more (3 * i) 3 ns) ∙ ap (λ n. drop n ns) far in
    is ∙ ap (λ n. done ++ hits_in n (drop (3 * i) ns)) one ∙ ap (λ r. done ++ hits_in (suc k) r) (sym e) ∙ ap (λ x. done ++ x) (one_more k rest le)
    ∙ ap (λ x. done ++ (x ∷ hits_in k (drop 3 rest))) (sym hit) ∙ ap (λ r. done ++ (h ∷ hits_in k r)) next
    ∙ sym (append_assoc done (h ∷ []) (hits_in k (drop (3 * (i + 1)) ns)))

pub all_of : (n : ℕ) (xs : List ℕ) → length xs ≤ n → take n xs ≡ xs
all_of n [] le = nothing n
  where
    nothing : (n : ℕ) → take {A = ℕ} n [] ≡ []
    nothing zero = refl
    nothing (suc n) = refl
all_of zero (x ∷ xs) le = absurd (omega arith)
all_of (suc n) (x ∷ xs) le = ap (λ r. x ∷ r) (all_of n xs (omega arith))

pub past_end : (n : ℕ) (xs : List ℕ) → length xs ≤ n → drop (length xs) xs ≡ drop n xs
past_end zero [] le = refl
past_end (suc n) [] le = refl
past_end zero (x ∷ xs) le = absurd (omega arith)
past_end (suc n) (x ∷ xs) le = past_end n xs (omega arith)
