-- The numbers in the text of a counter-run are those that were written.
use Rattle.std.proofs.Common.{◌≡◌, ℕ, ◌+◌, ◌-◌, ◌*◌, ◌/◌, ◌%◌, ◌^◌, ◌<◌, ◌≤◌, Bool, true, false, List, [], ◌∷◌, ◌++◌, length, codes, Option, Some}
use Rattle.std.proofs.Common.{None, refl, sym, ap, ◌∙◌, arith, append_assoc, append-nil}
use Rattle.std.specs.Fmt.{decimal}
use Rattle.std.proofs.lemmas.Bool.Decides.{nat_tests}
use Rattle.std.proofs.lemmas.Fmt.{decimal_by_steps}
use Rattle.std.proofs.lemmas.Bool.{cond-true}
use Rattle.ttx_page.specs.Memories.{Memory}
use Rattle.ttx_counter.specs.Counters.{Hit, CounterRun}
use Rattle.ttx_counter.specs.CounterTexts.{numbers_text, line_text, yes_as_one, bits, links_numbers, hits_numbers, row_lines, state_text, links_lines}
use Rattle.ttx_counter.specs.CounterTexts.{memory_text, choices_text, hits_text, title, head_lines, tuning_text, counter_text}
use Rattle.ttx_counter.specs.CounterReading.{is_digit, at_most, digit_after, closed, numbers_after, line_numbers}

-- each below 2^32
abbrev pub AreSmall : List ℕ → Type 0
AreSmall [] = Unit {0}
AreSmall (n ∷ ns) = (n < 2 ^ 32) × AreSmall ns

-- one more digit
a_digit : (d : ℕ) → d < 10 → is_digit (48 + d) ≡ true
a_digit d small = grind (arith, nat_tests)

step : (begun : Option ℕ) (d : ℕ) (rest : List ℕ) → d < 10 → numbers_after begun ((48 + d) ∷ rest)
    ≡ numbers_after (Some (digit_after begun (48 + d))) rest
unfolding numbers_after
step begun d rest small = cond-true (is_digit (48 + d)) (numbers_after (Some (digit_after begun (48 + d))) rest)
    (closed begun (numbers_after None rest)) (a_digit d small)

first_digit : (m : ℕ) → m < 10 → (48 + m) - 48 ≡ at_most 4294967295 m
first_digit m small = omega arith

next_digit : (m : ℕ) → at_most 4294967295 (10 * at_most 4294967295 (m / 10) + ((48 + m % 10) - 48)) ≡ at_most 4294967295 m
next_digit m = omega arith

last_small : (m : ℕ) → m % 10 < 10
last_small m = omega arith

-- the digits of a number
digits : (n : ℕ) → n < 2 ^ 64 → (rest : List ℕ) → numbers_after None (decimal n ++ rest) ≡ numbers_after (Some (at_most 4294967295 n)) rest
digits n small = decimal_by_steps (λ m ds. (rest : List ℕ) → numbers_after None (ds ++ rest) ≡ numbers_after (Some (at_most 4294967295 m)) rest)
    (λ m l rest. step None m rest l ∙ ap (λ v. numbers_after (Some v) rest) (first_digit m l))
    (λ m ds l h rest.
    ap (numbers_after None) (append_assoc ds ((48 + m % 10) ∷ []) rest) ∙ h ((48 + m % 10) ∷ rest)
    ∙ step (Some (at_most 4294967295 (m / 10))) (m % 10) rest (last_small m) ∙ ap (λ v. numbers_after (Some v) rest) (next_digit m))
    n small

over : (n b : ℕ) (rest : List ℕ) → is_digit b ≡ false → numbers_after (Some n) (b ∷ rest) ≡ n ∷ line_numbers (b ∷ rest)
unfolding numbers_after
over n b rest h = rw h refl

-- a number that is followed by a space or the end of the line
ended : (n b : ℕ) (rest : List ℕ) → n < 2 ^ 32 → is_digit b ≡ false → line_numbers (decimal n ++ (b ∷ rest)) ≡ n ∷ line_numbers (b ∷ rest)
ended n b rest small h =
    let same : at_most 4294967295 n ≡ n = omega arith in
    digits n (omega arith) (b ∷ rest) ∙ ap (λ v. numbers_after (Some v) (b ∷ rest)) same ∙ over n b rest h

numbers : (ns rest : List ℕ) → AreSmall ns → line_numbers (numbers_text ns ++ (10 ∷ rest)) ≡ ns ++ line_numbers rest
unfolding numbers_after
numbers [] rest small = refl
numbers (n ∷ []) rest small = ap line_numbers (append_assoc (decimal n) [] (10 ∷ rest)) ∙ ended n 10 rest small.0 refl
numbers (n ∷ m ∷ ns) rest small =
    ap line_numbers (append_assoc (decimal n) (numbers_text (m ∷ ns)) (10 ∷ rest))
    ∙ ended n 32 ((decimal m ++ numbers_text ns) ++ (10 ∷ rest)) small.0 refl
    ∙ ap (λ xs. n ∷ xs) (numbers (m ∷ ns) rest small.1)

-- a word without digits has no number
abbrev IsPlain : List ℕ → Type 0
IsPlain key = (rest : List ℕ) → line_numbers (key ++ rest) ≡ line_numbers rest

line : (key ns rest : List ℕ) → IsPlain key → AreSmall ns → line_numbers (line_text key ns ++ rest) ≡ ns ++ line_numbers rest
line key ns rest plain small =
    ap line_numbers (append_assoc (key ++ numbers_text ns) (10 ∷ []) rest ∙ append_assoc key (numbers_text ns) (10 ∷ rest))
    ∙ plain (numbers_text ns ++ (10 ∷ rest)) ∙ numbers ns rest small

four : (a b c d rest : List ℕ) → a ++ b ++ c ++ d ++ rest ≡ a ++ (b ++ (c ++ (d ++ rest)))
four a b c d rest = append_assoc (a ++ b ++ c) d rest ∙ append_assoc (a ++ b) c (d ++ rest) ∙ append_assoc a b (c ++ (d ++ rest))

head : (c : CounterRun) (rest : List ℕ) → c.lines < 256 → c.repeat < 256 → c.deadline < 2 ^ 32 → line_numbers (head_lines c ++ rest) ≡ 1
    ∷ c.lines ∷ c.repeat ∷ c.deadline ∷ line_numbers rest
unfolding head_lines numbers_after
head c rest l r d =
    ap line_numbers (four title (line_text (codes "lines") (c.lines ∷ [])) (line_text (codes "repeat") (c.repeat ∷ []))
    (line_text (codes "deadline") (c.deadline ∷ [])) rest)
    ∙ ap (λ xs. 1 ∷ xs)
    (line (codes "lines") (c.lines ∷ [])
    (line_text (codes "repeat") (c.repeat ∷ []) ++ (line_text (codes "deadline") (c.deadline ∷ []) ++ rest)) (λ t. refl)
    (omega arith, tt)
    ∙ ap (λ xs. c.lines ∷ xs)
    (line (codes "repeat") (c.repeat ∷ []) (line_text (codes "deadline") (c.deadline ∷ []) ++ rest) (λ t. refl) (omega arith, tt)
    ∙ ap (λ xs. c.repeat ∷ xs) (line (codes "deadline") (c.deadline ∷ []) rest (λ t. refl) (d, tt))))

bit_small : (b : Bool) → yes_as_one b < 2 ^ 32
bit_small true = omega arith
bit_small false = omega arith

tuning : (c : CounterRun) (rest : List ℕ) → c.page < 2 ^ 32 → c.start < 2 ^ 32 → c.slots < 2 ^ 32 → line_numbers (tuning_text c ++ rest)
    ≡ c.page ∷ yes_as_one c.any_sub ∷ c.start ∷ c.slots ∷ line_numbers rest
unfolding tuning_text numbers_after
tuning c rest p s n =
    let la = line_text (codes "page") (c.page ∷ []) in
    let lb = line_text (codes "any-subpage") (yes_as_one c.any_sub ∷ []) in
    let lc = line_text (codes "start") (c.start ∷ []) in
    let ld = line_text (codes "slots") (c.slots ∷ []) in
    ap line_numbers (four la lb lc ld rest)
    ∙ line (codes "page") (c.page ∷ []) (lb ++ (lc ++ (ld ++ rest))) (λ t. refl) (p, tt)
    ∙ ap (λ xs. c.page ∷ xs)
    (line (codes "any-subpage") (yes_as_one c.any_sub ∷ []) (lc ++ (ld ++ rest)) (λ t. refl) (bit_small c.any_sub, tt)
    ∙ ap (λ xs. yes_as_one c.any_sub ∷ xs)
    (line (codes "start") (c.start ∷ []) (ld ++ rest) (λ t. refl) (s, tt)
    ∙ ap (λ xs. c.start ∷ xs) (line (codes "slots") (c.slots ∷ []) rest (λ t. refl) (n, tt))))

state : (m : Memory) (rest : List ℕ) → m.control < 2048 → m.age ≤ 64 → line_numbers (state_text m ++ rest) ≡ m.control
    ∷ yes_as_one m.storing ∷ m.age ∷ yes_as_one m.fresh ∷ line_numbers rest
unfolding state_text numbers_after
state m rest c a =
    let la = line_text (codes "control") (m.control ∷ []) in
    let lb = line_text (codes "storing") (yes_as_one m.storing ∷ []) in
    let lc = line_text (codes "age") (m.age ∷ []) in
    let ld = line_text (codes "fresh") (yes_as_one m.fresh ∷ []) in
    ap line_numbers (four la lb lc ld rest)
    ∙ line (codes "control") (m.control ∷ []) (lb ++ (lc ++ (ld ++ rest))) (λ t. refl) (omega arith, tt)
    ∙ ap (λ xs. m.control ∷ xs)
    (line (codes "storing") (yes_as_one m.storing ∷ []) (lc ++ (ld ++ rest)) (λ t. refl) (bit_small m.storing, tt)
    ∙ ap (λ xs. yes_as_one m.storing ∷ xs)
    (line (codes "age") (m.age ∷ []) (ld ++ rest) (λ t. refl) (omega arith, tt)
    ∙ ap (λ xs. m.age ∷ xs) (line (codes "fresh") (yes_as_one m.fresh ∷ []) rest (λ t. refl) (bit_small m.fresh, tt))))

-- the word `row-24` has a number
row_24 : (m : Memory) (rest : List ℕ) → line_numbers (line_text (codes "row-24") (yes_as_one m.links.show24 ∷ []) ++ rest) ≡ 24
    ∷ yes_as_one m.links.show24 ∷ line_numbers rest
unfolding numbers_after
row_24 m rest =
    ap line_numbers (append_assoc (codes "row-24" ++ numbers_text (yes_as_one m.links.show24 ∷ [])) (10 ∷ []) rest
    ∙ append_assoc (codes "row-24") (numbers_text (yes_as_one m.links.show24 ∷ [])) (10 ∷ rest))
    ∙ ap (λ xs. 24 ∷ xs) (numbers (yes_as_one m.links.show24 ∷ []) rest (bit_small m.links.show24, tt))

links : (m : Memory) (rest : List ℕ) → AreSmall (links_numbers m.links.six) → line_numbers (links_lines m ++ rest) ≡ 24
    ∷ yes_as_one m.links.show24 ∷ (links_numbers m.links.six ++ line_numbers rest)
unfolding links_lines numbers_after
links m rest small =
    ap line_numbers (append_assoc (line_text (codes "row-24") (yes_as_one m.links.show24 ∷ []))
    (line_text (codes "links") (links_numbers m.links.six)) rest)
    ∙ row_24 m (line_text (codes "links") (links_numbers m.links.six) ++ rest)
    ∙ ap (λ xs. 24 ∷ yes_as_one m.links.show24 ∷ xs) (line (codes "links") (links_numbers m.links.six) rest (λ t. refl) small)

-- row after row
abbrev pub joined : List (List ℕ) → List ℕ
joined [] = []
joined (row ∷ rows) = row ++ joined rows

abbrev pub EachSmall : List (List ℕ) → Type 0
EachSmall [] = Unit {0}
EachSmall (row ∷ rows) = AreSmall row × EachSmall rows

row_plain : IsPlain (codes "row")
unfolding numbers_after
row_plain t = refl

choices_plain : IsPlain (codes "choices")
unfolding numbers_after
choices_plain t = refl

hits_plain : IsPlain (codes "hits")
unfolding numbers_after
hits_plain t = refl

rows : (rs : List (List ℕ)) (rest : List ℕ) → EachSmall rs → line_numbers (row_lines rs ++ rest) ≡ joined rs ++ line_numbers rest
rows [] rest small = refl
rows (row ∷ rs) rest small =
    ap line_numbers (append_assoc (line_text (codes "row") row) (row_lines rs) rest)
    ∙ line (codes "row") row (row_lines rs ++ rest) row_plain small.0 ∙ ap (λ xs. row ++ xs) (rows rs rest small.1)
    ∙ sym (append_assoc row (joined rs) (line_numbers rest))

bits_small : (cs : List Bool) → AreSmall (bits cs)
bits_small [] = tt
bits_small (b ∷ cs) = (bit_small b, bits_small cs)

choices : (cs : List Bool) (rest : List ℕ) → length cs < 2 ^ 32 → line_numbers (choices_text cs ++ rest) ≡ length cs ∷ (bits cs ++ line_numbers rest)
choices cs rest few = line (codes "choices") (length cs ∷ bits cs) rest choices_plain (few, bits_small cs)

hits : (hs : List Hit) (rest : List ℕ) → length hs < 2 ^ 32 → AreSmall (hits_numbers hs) → line_numbers (hits_text hs ++ rest)
    ≡ length hs ∷ (hits_numbers hs ++ line_numbers rest)
hits hs rest few small = line (codes "hits") (length hs ∷ hits_numbers hs) rest hits_plain (few, small)

-- the numbers in a counter-run's text
abbrev pub numbers_of : CounterRun → List ℕ
numbers_of c =
    1 ∷ c.lines ∷ c.repeat ∷ c.deadline ∷ c.page ∷ yes_as_one c.any_sub ∷ c.start ∷ c.slots ∷ c.former.control
    ∷ yes_as_one c.former.storing ∷ c.former.age ∷ yes_as_one c.former.fresh ∷ 24 ∷ yes_as_one c.former.links.show24
    ∷ (links_numbers c.former.links.six ++
    (joined c.former.rows ++ (length c.choices ∷ (bits c.choices ++ (length c.hits ∷ (hits_numbers c.hits ++ []))))))

pub record AreAllSmall (c : CounterRun) : Type 0 where
  pub lines : c.lines < 256
  pub repeat : c.repeat < 256
  pub deadline : c.deadline < 2 ^ 32
  pub page : c.page < 2 ^ 32
  pub start : c.start < 2 ^ 32
  pub slots : c.slots < 2 ^ 32
  pub control : c.former.control < 2048
  pub age : c.former.age ≤ 64
  pub links : AreSmall (links_numbers c.former.links.six)
  pub rows : EachSmall c.former.rows
  pub choices : length c.choices < 2 ^ 32
  pub hits : length c.hits < 2 ^ 32
  pub places : AreSmall (hits_numbers c.hits)

nothing : line_numbers [] ≡ []
unfolding numbers_after
nothing = refl

pub whole : (c : CounterRun) → AreAllSmall c → line_numbers (counter_text c) ≡ numbers_of c
whole c is =
    ap line_numbers (four (head_lines c) (tuning_text c) (memory_text c.former) (choices_text c.choices) (hits_text c.hits))
    ∙ head c _ is.lines is.repeat is.deadline
    ∙ ap (λ xs. 1 ∷ c.lines ∷ c.repeat ∷ c.deadline ∷ xs) (tuning c _ is.page is.start is.slots)
    ∙ ap (λ xs. 1 ∷ c.lines ∷ c.repeat ∷ c.deadline ∷ c.page ∷ yes_as_one c.any_sub ∷ c.start ∷ c.slots ∷ xs) (memory ∙ ap before behind)
  where
    tail : List ℕ
    tail = choices_text c.choices ++ hits_text c.hits

    before : List ℕ → List ℕ
    before xs = c.former.control ∷ yes_as_one c.former.storing ∷ c.former.age ∷ yes_as_one c.former.fresh ∷ 24
        ∷ yes_as_one c.former.links.show24 ∷ (links_numbers c.former.links.six ++ (joined c.former.rows ++ xs))

    memory : line_numbers (memory_text c.former ++ tail) ≡ before (line_numbers tail)
    memory =
        ap line_numbers (append_assoc (state_text c.former ++ links_lines c.former) (row_lines c.former.rows) tail
        ∙ append_assoc (state_text c.former) (links_lines c.former) (row_lines c.former.rows ++ tail))
        ∙ state c.former _ is.control is.age
        ∙ ap (λ xs. c.former.control ∷ yes_as_one c.former.storing ∷ c.former.age ∷ yes_as_one c.former.fresh ∷ xs)
        (links c.former _ is.links ∙ ap (λ xs. 24 ∷ yes_as_one c.former.links.show24 ∷ (links_numbers c.former.links.six ++ xs))
        (rows c.former.rows tail is.rows))

    hits_only : line_numbers (hits_text c.hits) ≡ length c.hits ∷ (hits_numbers c.hits ++ [])
    hits_only = sym (ap line_numbers (append-nil (hits_text c.hits))) ∙ hits c.hits [] is.hits is.places
        ∙ ap (λ xs. length c.hits ∷ (hits_numbers c.hits ++ xs)) nothing

    behind : line_numbers tail ≡ length c.choices ∷ (bits c.choices ++ (length c.hits ∷ (hits_numbers c.hits ++ [])))
    behind = choices c.choices (hits_text c.hits) is.choices ∙ ap (λ xs. length c.choices ∷ (bits c.choices ++ xs)) hits_only
