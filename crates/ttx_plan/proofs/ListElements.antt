-- What holds for each element of a list.
use Rattle.std.proofs.Common.{◌≡◌, ◌⊎◌, ℕ, zero, suc, Bool, true, false, cond, List, [], ◌∷◌, ◌++◌, map, replicate, Some, None, refl, sym, ap, ◌∙◌}
use Rattle.std.proofs.Common.{subst, inl, inr}
use Rattle.std.proofs.Common.{◌+◌, ◌<◌, eqb, length, get_or, set, arith, get_or-set_other}
use Rattle.std.proofs.lemmas.Grind.{get_or-set_at}
use Rattle.std.specs.Prelude.{slice_get, flat_map, filter}
use Rattle.std.specs.List.{AllByRecursion, list_any}
use Rattle.std.proofs.lemmas.Bool.{cond-true, cond-false, cond_both, cases_eq, eq-eqb, ne_eqb, eqb-true, or_cases, or_left, or_right}
use Rattle.std.proofs.lemmas.Option.{same_Some}

pub all_append : {A : Type 0} (P : A → Type 0) (xs ys : List A) → AllByRecursion P xs → AllByRecursion P ys → AllByRecursion P (xs ++ ys)
all_append P [] ys a b = b
all_append P (x ∷ xs) ys a b = (a.0, all_append P xs ys a.1 b)

pub all_map : {A B : Type 0} (P : B → Type 0) (f : A → B) (xs : List A) → AllByRecursion (λ x. P (f x)) xs → AllByRecursion P (map f xs)
all_map P f [] a = tt
all_map P f (x ∷ xs) a = (a.0, all_map P f xs a.1)

pub all_replicate : {A : Type 0} (P : A → Type 0) (n : ℕ) (x : A) → P x → AllByRecursion P (replicate n x)
all_replicate P zero x p = tt
all_replicate P (suc n) x p = (p, all_replicate P n x p)

pub all_if : {A : Type 0} (P : A → Type 0) (b : Bool) (x : A) → (b ≡ true → P x) → AllByRecursion P (cond b (x ∷ []) [])
all_if P true x p = (p refl, tt)
all_if P false x p = tt

pub all_filter : {A : Type 0} (P : A → Type 0) (test : A → Bool) (xs : List A) → AllByRecursion P xs → AllByRecursion P (filter test xs)
all_filter P test [] a = tt
all_filter P test (x ∷ xs) a = cond_both (test x) (x ∷ filter test xs) (filter test xs) (AllByRecursion P) (λ _. (a.0, all_filter P test xs a.1))
    (λ _. all_filter P test xs a.1)

pub all_flat_map : {A B : Type 0} (P : B → Type 0) (Q : A → Type 0) (f : A → List B) → ((x : A) → Q x → AllByRecursion P (f x)) →
    (xs : List A) → AllByRecursion Q xs → AllByRecursion P (flat_map f xs)
all_flat_map P Q f each [] a = tt
all_flat_map P Q f each (x ∷ xs) a = all_append P (f x) (flat_map f xs) (each x a.0) (all_flat_map P Q f each xs a.1)

pub all_get : {A : Type 0} (P : A → Type 0) (xs : List A) (k : ℕ) (x : A) → AllByRecursion P xs → slice_get xs k ≡ Some x → P x
all_get P [] k x a e = let f : None ≡ Some x = e in cc
all_get P (y ∷ xs) zero x a e = let f : Some y ≡ Some x = e in let g : y ≡ x = cc in subst P g a.0
all_get P (y ∷ xs) (suc k) x a e = all_get P xs k x a.1 e

-- one of the elements
abbrev pub Has : {A : Type 0} → A → List A → Type 0
Has x [] = ⊥
Has x (y ∷ ys) = (x ≡ y) ⊎ Has x ys

pub has_left : {A : Type 0} (x : A) (xs ys : List A) → Has x xs → Has x (xs ++ ys)
has_left x [] ys h = absurd h
has_left x (y ∷ xs) ys (inl e) = inl e
has_left x (y ∷ xs) ys (inr h) = inr (has_left x xs ys h)

pub has_right : {A : Type 0} (x : A) (xs ys : List A) → Has x ys → Has x (xs ++ ys)
has_right x [] ys h = h
has_right x (y ∷ xs) ys h = inr (has_right x xs ys h)

pub all_has : {A : Type 0} (P : A → Type 0) (xs : List A) (x : A) → AllByRecursion P xs → Has x xs → P x
all_has P [] x a h = absurd h
all_has P (y ∷ xs) x a (inl e) = subst P (sym e) a.0
all_has P (y ∷ xs) x a (inr h) = all_has P xs x a.1 h

pub has_parts : {A : Type 0} (x : A) (xs ys : List A) → Has x (xs ++ ys) → Has x xs ⊎ Has x ys
has_parts x [] ys h = inr h
has_parts x (y ∷ xs) ys (inl e) = inl (inl e)
has_parts x (y ∷ xs) ys (inr h) = elim (has_parts x xs ys h) as (λ _. Has x (y ∷ xs) ⊎ Has x ys) [ inl l ↦ inl (inr l) | inr r ↦ inr r ]

pub has_filter : {A : Type 0} (test : A → Bool) (x : A) (xs : List A) → Has x xs → test x ≡ true → Has x (filter test xs)
has_filter test x [] h t = absurd h
has_filter test x (y ∷ xs) (inl e) t = subst (Has x) (sym (cond-true (test y) _ _ (ap test (sym e) ∙ t))) (inl e)
has_filter test x (y ∷ xs) (inr h) t = cond_both (test y) (y ∷ filter test xs) (filter test xs) (Has x) (λ _. inr (has_filter test x xs h t))
    (λ _. has_filter test x xs h t)

pub has_passed : {A : Type 0} (test : A → Bool) (x : A) (xs : List A) → Has x (filter test xs) → Has x xs
has_passed test x [] h = h
has_passed test x (y ∷ xs) h = by (test y) h (λ k. has_passed test x xs k)
  where
    by : (b : Bool) → Has x (cond b (y ∷ filter test xs) (filter test xs)) → (Has x (filter test xs) → Has x xs) → Has x (y ∷ xs)
    by true (inl e) again = inl e
    by true (inr h) again = inr (again h)
    by false h again = inr (again h)

pub has_get : {A : Type 0} (xs : List A) (k : ℕ) (x : A) → slice_get xs k ≡ Some x → Has x xs
has_get [] k x e = let f : None ≡ Some x = e in cc
has_get (y ∷ xs) zero x e = inl (sym (same_Some y x e))
has_get (y ∷ xs) (suc k) x e = inr (has_get xs k x e)

pub any_has : {A : Type 0} (p : A → Bool) (xs : List A) → list_any p xs ≡ true → (x : A) × Has x xs × (p x ≡ true)
any_has p [] e = cc
any_has p (x ∷ xs) e = elim (or_cases (p x) (list_any p xs) e) as (λ _. (y : _) × Has y (x ∷ xs) × (p y ≡ true)) [
  | inl fits ↦ (x, inl refl, fits)
  | inr more ↦ let r = any_has p xs more in (r.0, inr r.1, r.2)
]

pub has_any : {A : Type 0} (p : A → Bool) (xs : List A) (x : A) → Has x xs → p x ≡ true → list_any p xs ≡ true
has_any p [] x h e = absurd h
has_any p (y ∷ xs) x (inl same) e = or_left (p y) (list_any p xs) (ap p (sym same) ∙ e)
has_any p (y ∷ xs) x (inr h) e = or_right (p y) (list_any p xs) (has_any p xs x h e)

-- a list of numbers with one of them changed
pub set_cond : (xs : List ℕ) (i m v : ℕ) → i < length xs → get_or (set xs i v) m 0 ≡ cond (eqb i m) v (get_or xs m 0)
set_cond xs i m v lt = elim (cases_eq i m) as (λ _. get_or (set xs i v) m 0 ≡ cond (eqb i m) v (get_or xs m 0)) [
  | inl e ↦ get_or-set_at xs i m v 0 (sym e) lt ∙ sym (cond-true (eqb i m) v (get_or xs m 0) (eq-eqb i m e))
  | inr ne ↦ get_or-set_other xs i m v 0 (λ q. ne (sym q)) ∙ sym (cond-false (eqb i m) v (get_or xs m 0) (ne_eqb i m ne))
]

-- a number raised by one
pub raised : (xs : List ℕ) (i m s : ℕ) → i < length xs → get_or xs m 0 ≡ s → get_or (set xs i (get_or xs i 0 + 1)) m 0 ≡ cond (eqb i m) (suc s) s
raised xs i m s lt was = set_cond xs i m (get_or xs i 0 + 1) lt ∙ by (eqb i m) (λ e. ap (λ k. get_or xs k 0) (eqb-true i m e))
  where
    by : (b : Bool) → (b ≡ true → get_or xs i 0 ≡ get_or xs m 0) → cond b (get_or xs i 0 + 1) (get_or xs m 0) ≡ cond b (suc s) s
    by true h = omega (arith, h refl, was)
    by false h = was
