-- Readings one after another, beside a list of their mistakes.
--
--   Reads                   nothing is refused
--   EmptyWhere              a list is empty exactly where a fact holds
--   Same                    two facts are one
use Rattle.std.proofs.Common.{◌≡◌, ◌++◌, List, [], ◌∷◌, Bool, true, false, ◌&&◌, if◌then◌else◌, Option, Some, None, Result, Ok, Err, refl}
use Rattle.ttx_source.specs.Values.{◌>>=◌}

abbrev pub Absent : {A : Type 0} → Option A → Type 0
Absent None = Unit {0}
Absent (Some a) = ⊥

abbrev pub refusal : {A E : Type 0} → Result A E → Option E
refusal (Ok a) = None
refusal (Err e) = Some e

abbrev pub Reads : {A E : Type 0} → Result A E → Type 0
Reads r = Absent (refusal r)

pub record EmptyWhere {A : Type 0} (xs : List A) (P : Type 0) : Type 0 where
  pub reads : xs ≡ [] → P
  pub empty : P → xs ≡ []

pub record Same (P Q : Type 0) : Type 0 where
  pub to : P → Q
  pub from : Q → P

pub by_same : {A P Q : Type 0} (xs : List A) → EmptyWhere xs P → Same P Q → EmptyWhere xs Q
by_same xs h s = record { reads = λ e. s.to (h.reads e); empty = λ q. h.empty (s.from q) }

nil_left : {A : Type 0} (xs ys : List A) → xs ++ ys ≡ [] → xs ≡ []
nil_left [] ys e = refl
nil_left (x ∷ xs) ys e = cc

nil_right : {A : Type 0} (xs ys : List A) → xs ++ ys ≡ [] → ys ≡ []
nil_right [] ys e = e
nil_right (x ∷ xs) ys e = cc

nil_both : {A : Type 0} (xs ys : List A) → xs ≡ [] → ys ≡ [] → xs ++ ys ≡ []
nil_both [] ys p q = q
nil_both (x ∷ xs) ys p q = cc

pub none_where : {A : Type 0} → EmptyWhere {A = A} [] (Unit {0})
none_where = record { reads = λ e. tt; empty = λ h. refl }

pub both_where : {A P Q : Type 0} (xs ys : List A) → EmptyWhere xs P → EmptyWhere ys Q → EmptyWhere (xs ++ ys) (P × Q)
both_where xs ys p q = record {
  reads = λ e. (p.reads (nil_left xs ys e), q.reads (nil_right xs ys e));
  empty = λ h. nil_both xs ys (p.empty h.0) (q.empty h.1);
}

pub refused_where : {A : Type 0} (x : A) → EmptyWhere (x ∷ []) ⊥
refused_where x = record { reads = λ e. cc; empty = λ h. absurd h }

-- one entry if a test passes, or if it fails
pub one_where : {A : Type 0} (x : A) (test : Bool) → EmptyWhere (if test then x ∷ [] else []) (test ≡ false)
one_where x true = record { reads = λ e. cc; empty = λ h. cc }
one_where x false = record { reads = λ e. refl; empty = λ h. refl }

pub other_where : {A : Type 0} (x : A) (test : Bool) → EmptyWhere (if test then [] else x ∷ []) (test ≡ true)
other_where x true = record { reads = λ e. refl; empty = λ h. refl }
other_where x false = record { reads = λ e. cc; empty = λ h. cc }

pub and_same : (a b : Bool) → Same ((a ≡ true) × (b ≡ true)) ((a && b) ≡ true)
and_same true b = record { to = λ h. h.1; from = λ h. (refl, h) }
and_same false b = record { to = λ h. h.0; from = λ h. cc }

pub reads_same : {A E : Type 0} (a : A) (e : E) (test : Bool) → Same (test ≡ false) (Reads (if test then Err e else Ok a))
reads_same a e true = record { to = λ h. cc; from = λ h. absurd h }
reads_same a e false = record { to = λ h. tt; from = λ h. refl }

-- what is read, and then what is read of it
pub then_same : {A B E Q : Type 0} (r : Result A E) (k : A → Result B E) → ((a : A) → Same Q (Reads (k a))) → Same (Reads r × Q) (Reads (r >>= k))
then_same (Ok a) k next = record { to = λ h. (next a).to h.1; from = λ h. (tt, (next a).from h) }
then_same (Err e) k next = record { to = λ h. absurd h.0; from = λ h. absurd h }

-- the last that is read
pub last_same : {A B E : Type 0} (r : Result A E) (k : A → Result B E) → ((a : A) → Reads (k a)) → Same (Reads r × Unit {0}) (Reads (r >>= k))
last_same (Ok a) k read = record { to = λ h. read a; from = λ h. (tt, tt) }
last_same (Err e) k read = record { to = λ h. absurd h.0; from = λ h. absurd h }

pub map_same : {A B E : Type 0} (r : Result A E) (f : A → B) → Same (Reads r) (Reads (r >>= (λ a. Ok (f a))))
map_same (Ok a) f = record { to = λ h. tt; from = λ h. tt }
map_same (Err e) f = record { to = λ h. absurd h; from = λ h. absurd h }

-- a fact about what the last of two readings gives
pub then_all : {A B E : Type 0} (R : B → Type 0) (r : Result A E) (k : A → Result B E) → ((a : A) → r ≡ Ok a → (b : B) → k a ≡ Ok b → R b) → (b : B) →
    (r >>= k) ≡ Ok b → R b
then_all R (Ok a) k holds b e = holds a refl b e
then_all R (Err f) k holds b e = cc

pub is_value : {A E : Type 0} (r : Result A E) → Reads r → (a : A) × (r ≡ Ok a)
is_value (Ok a) h = (a, refl)
is_value (Err e) h = absurd h

pub reads_value : {A E : Type 0} (r : Result A E) (a : A) → r ≡ Ok a → Reads r
reads_value (Ok b) a e = tt
reads_value (Err f) a e = cc

-- the mistakes of a part that is read, and then of parts that are read with its value
pub step_where : {A B E M Q R : Type 0} (xs ys : List M) (r : Result A E) (k : A → Result B E) → EmptyWhere xs (Reads r × Q) →
    ((a : A) → r ≡ Ok a → EmptyWhere ys (Reads (k a) × R)) → EmptyWhere (xs ++ ys) (Reads (r >>= k) × (Q × R))
step_where {A = A} {B = B} {E = E} {M = M} {Q = Q} {R = R} xs ys (Ok a) k first next =
    by_same (xs ++ ys) (both_where xs ys first (next a refl)) record {
      to = λ (h : (Unit {0} × Q) × (Reads (k a) × R)). (h.1.0, (h.0.1, h.1.1));
      from = λ (h : Reads (k a) × (Q × R)). ((tt, h.1.0), (h.0, h.1.1));
    }
step_where xs ys (Err e) k first next = record {
  reads = λ h. absurd (first.reads (nil_left xs ys h)).0;
  empty = λ h. absurd h.0;
}
