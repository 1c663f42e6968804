-- The parts of a path, read back from its text.
use Rattle.std.proofs.Common.{◌≡◌, ◌∙◌, ℕ, Bool, true, false, ◌==◌, if◌then◌else◌, List, [], ◌∷◌, ◌++◌, refl, sym, ap, arith}
use Rattle.std.proofs.lemmas.List.{append-nil, append_assoc}
use Rattle.ttx_places.specs.Paths.{escape, escaped, below, under}

-- the text up to the first slash, and the parts after it
abbrev Read : Type 0
Read = List ℕ × List (List ℕ)

-- after ~ a byte stands for another one
abbrev mended : List ℕ → List ℕ
mended [] = []
mended (c ∷ text) = (if c == 48 then 126 else 47) ∷ text

abbrev step : ℕ → Read → Read
step c read = if c == 47 then ([], read.0 ∷ read.1) else if c == 126 then (mended read.0, read.1) else (c ∷ read.0, read.1)

abbrev read : List ℕ → Read
read [] = ([], [])
read (c ∷ text) = step c (read text)

-- the parts as a path has them
abbrev spelled : List (List ℕ) → List ℕ
spelled [] = []
spelled (part ∷ parts) = 47 ∷ escaped part ++ spelled parts

byte_by : (c : ℕ) (text : List ℕ) (tilde slash : Bool) → (c == 126) ≡ tilde → (c == 47) ≡ slash → read (escape c ++ text) ≡ (c ∷ (read text).0, (read text).1)
byte_by c text true slash is_tilde e = let c_is : c ≡ 126 = grind (arith, is_tilde) in rw c_is refl
byte_by c text false true other is_slash = let c_is : c ≡ 47 = grind (arith, is_slash) in rw c_is refl
byte_by c text false false a b = rw (a, b, a, b)

read_byte : (c : ℕ) (text : List ℕ) → read (escape c ++ text) ≡ (c ∷ (read text).0, (read text).1)
read_byte c text = byte_by c text (c == 126) (c == 47) refl refl

read_part : (part text : List ℕ) → read (escaped part ++ text) ≡ (part ++ (read text).0, (read text).1)
unfolding escaped
read_part [] text = refl
read_part (c ∷ part) text =
    ap read (append_assoc (escape c) (escaped part) text) ∙ read_byte c (escaped part ++ text)
    ∙ ap (λ r. (c ∷ r.0, r.1)) (read_part part text)

read_spelled : (parts : List (List ℕ)) → read (spelled parts) ≡ ([], parts)
read_spelled [] = refl
read_spelled (part ∷ parts) =
    ap (λ (r : Read). step 47 r) (read_part part (spelled parts) ∙ ap (λ (r : Read). (part ++ r.0, r.1)) (read_spelled parts))
    ∙ ap (λ p. ([], p ∷ parts)) (append-nil part)

under_is : (path : List ℕ) (parts : List (List ℕ)) → under path parts ≡ path ++ spelled parts
under_is path [] = sym (append-nil path)
under_is path (part ∷ parts) = under_is (below path part) parts ∙ append_assoc path (47 ∷ escaped part) (spelled parts)

parts_of : (parts : List (List ℕ)) → (read (under [] parts)).1 ≡ parts
parts_of parts = ap (λ s. (read s).1) (under_is [] parts) ∙ ap (λ (r : Read). r.1) (read_spelled parts)

pub paths_are_unique : (parts others : List (List ℕ)) → under [] parts ≡ under [] others → parts ≡ others
paths_are_unique parts others same = sym (parts_of parts) ∙ ap (λ s. (read s).1) same ∙ parts_of others
