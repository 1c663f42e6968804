-- The signs of a text, one after another.
use Rattle.std.proofs.Common.{◌≡◌, ◌∙◌, ℕ, suc, ◌+◌, ◌-◌, ◌<◌, ◌≤◌, Bool, true, false, List, Option, Some, None, length, drop, if◌then◌else◌, ap, sym, refl, arith}
use Rattle.ttx_desk.specs.Places.{sign_of, is_sought, feeds_after, index_after, sign_left}
use Rattle.ttx_desk.specs.declared.places.Sign.{Sign}

if_true : {A : Type 0} (b : Bool) (x y : A) → b ≡ true → (if b then x else y) ≡ x
if_true true x y e = refl
if_true false x y e = cc

if_false : {A : Type 0} (b : Bool) (x y : A) → b ≡ false → (if b then x else y) ≡ y
if_false true x y e = cc
if_false false x y e = refl

pub left-found : (n i : ℕ) (basic : Bool) (feeds index : ℕ) (text : List ℕ) (sign : Sign) → i < n → sign ≡ sign_of basic text
    → is_sought sign feeds index ≡ true → sign_left (n - i) basic feeds index text ≡ Some (length text)
unfolding sign_left
left-found n i basic feeds index text sign inside is here =
    let more : n - i ≡ suc (n - (i + 1)) = omega arith in
    ap (λ m. sign_left m basic feeds index text) more ∙ if_true _ _ _ (ap (λ s. is_sought s feeds index) (sym is) ∙ here)

pub left-more : (n i : ℕ) (basic : Bool) (feeds index f x : ℕ) (text rest : List ℕ) (sign : Sign) → i < n → sign ≡ sign_of basic text
    → is_sought sign feeds index ≡ false → f ≡ feeds_after sign feeds → x ≡ index_after sign feeds index → rest ≡ drop sign.size text
    → sign_left (n - (i + 1)) basic f x rest ≡ sign_left (n - i) basic feeds index text
unfolding sign_left
left-more n i basic feeds index f x text rest sign inside is here at_f at_x at_rest =
    let m = n - (i + 1) in
    let more : n - i ≡ suc m = omega arith in
    let next : Sign → Option ℕ = λ s. sign_left m basic (feeds_after s feeds) (index_after s feeds index) (drop s.size text) in
    ap (λ q. sign_left m basic q x rest) at_f ∙ ap (λ q. sign_left m basic (feeds_after sign feeds) q rest) at_x
    ∙ ap (λ q. sign_left m basic (feeds_after sign feeds) (index_after sign feeds index) q) at_rest
    ∙ ap next is
    ∙ sym (ap (λ k. sign_left k basic feeds index text) more
    ∙ if_false _ _ _ (ap (λ s. is_sought s feeds index) (sym is) ∙ here))

pub left-none : (n i : ℕ) (basic : Bool) (feeds index : ℕ) (text : List ℕ) → n ≤ i → sign_left (n - i) basic feeds index text ≡ None
unfolding sign_left
left-none n i basic feeds index text past =
    let none : n - i ≡ 0 = omega arith in ap (λ m. sign_left m basic feeds index text) none
