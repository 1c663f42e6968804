-- Texts that are appended one after another, and what is known of an answer.
use Rattle.std.proofs.Common.{◌≡◌, ◌∙◌, ℕ, List, ◌++◌, Result, Ok, Err, OnOk, ap, append_assoc}

pub after_one : (t a b m : List ℕ) → m ≡ t ++ a → m ++ b ≡ t ++ (a ++ b)
after_one t a b m e = ap (λ x. x ++ b) e ∙ append_assoc t a b

pub after_two : (t a b c m n : List ℕ) → m ≡ t ++ a → n ≡ m ++ b → n ++ c ≡ t ++ ((a ++ b) ++ c)
after_two t a b c m n e f = after_one t (a ++ b) c n (f ∙ after_one t a b m e)

pub after_three : (t a b c d m n o : List ℕ) → m ≡ t ++ a → n ≡ m ++ b → o ≡ n ++ c → o ++ d ≡ t ++ (((a ++ b) ++ c) ++ d)
after_three t a b c d m n o e f g = after_one t ((a ++ b) ++ c) d o (g ∙ after_two t a b c m n e f)

pub on_ok : {A E : Type 0} (P Q : Type 0) (r : Result A E) → (P → Q) → OnOk r P → OnOk r Q
on_ok P Q (Ok a) f h = f h
on_ok P Q (Err e) f h = h
