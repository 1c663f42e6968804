-- The ids that headers name: each header's id is listed, each id has a first header, and the first headers rise.
use Rattle.std.proofs.Common.{◌≡◌, ◌≢◌, ℕ, zero, suc, ◌+◌, ◌<◌, ◌≤◌, Bool, true, false, List, [], ◌∷◌, ◌++◌, length, get_or, slice_get, Some, refl, sym, ap, ◌∙◌}
use Rattle.std.proofs.Common.{subst, inl, inr, arith, eqb, eqb-true, if◌then◌else◌}
use Rattle.std.specs.List.{AllPairs, list_any}
use Rattle.std.proofs.lemmas.Bool.{cases_lt, false≢true}
use Rattle.std.proofs.lemmas.List.{get_or_push, get_or_append_left, length-append}
use Rattle.std.proofs.lemmas.List.Elements.{Contains-append_left, Contains-push}
use Rattle.std.proofs.lemmas.List.Folds.{list_any_at}
use Rattle.std.proofs.lemmas.List.Quantifiers.{all_pairs_push}
use Rattle.std.proofs.lemmas.Map.Views.{Contains-from_any}
use Rattle.std.proofs.lemmas.Option.{slice_get_within, slice_get-get_or, get_or_from_slice_get}
use Rattle.ttx_header.specs.Ids.{Id, same_id}
use Rattle.ttx_page.specs.Packets.{Packet, Empty, Unreadable, Header, Row, Links, Info, Other, packet_of}
use Rattle.ttx_page.specs.Streams.{heads_page}
use Rattle.ttx_extract.specs.Extracts.{IsOfPages}
use Rattle.ttx_extract.specs.NamedPages.{with_name, named_after}
use Rattle.ttx_extract.proofs.Listed.{same_one, same_self}

-- slot k is the first with a header of the id
pub record IsFirst (slots : List (List ℕ)) (id : Id) (k : ℕ) : Type 0 where
  pub heads : heads_page id (packet_of (get_or slots k [])) ≡ true
  pub none : (m : ℕ) → m < k → heads_page id (packet_of (get_or slots m [])) ≡ false

pub one_first : (slots : List (List ℕ)) (id : Id) (k l : ℕ) → IsFirst slots id k → IsFirst slots id l → k ≡ l
one_first slots id k l a b = elim (cases_lt k l) as (λ _. k ≡ l) [
  | inl lt ↦ absurd (false≢true (sym (b.none k lt) ∙ a.heads))
  | inr ge ↦ elim (cases_lt l k) as (λ _. k ≡ l) [
    | inl lt ↦ absurd (false≢true (sym (a.none l lt) ∙ b.heads))
    | inr le ↦ omega arith
  ]
]

pub record AreNamed (slots : List (List ℕ)) (n : ℕ) (ids : List Id) : Type 0 where
  pub listed : (m : ℕ) → m < n → IsOfPages ids (packet_of (get_or slots m []))
  pub numbered : (i : ℕ) (id : Id) → slice_get ids i ≡ Some id → id.page ≡ 255 → ⊥
  pub firsts : (i : ℕ) (id : Id) → slice_get ids i ≡ Some id → (k : ℕ) × (k < n) × IsFirst slots id k
  pub rising : (i : ℕ) (a b : Id) → slice_get ids i ≡ Some a → slice_get ids (i + 1) ≡ Some b → (k l : ℕ) → IsFirst slots a k → IsFirst slots b l → k < l
  pub distinct : AllPairs (λ a b. a ≢ b) ids

none_here : {A : Type 0} (i : ℕ) (x : A) → slice_get [] i ≡ Some x → ⊥
none_here i x e = cc

some_value : {A : Type 0} (a b : A) → Some a ≡ Some b → a ≡ b
some_value a b h = cc

-- an element of a list with one more
pushed_before : {A : Type 0} (xs : List A) (y : A) (i : ℕ) (x : A) → i < length xs → slice_get (xs ++ y ∷ []) i ≡ Some x → slice_get xs i ≡ Some x
pushed_before xs y i x lt e =
    slice_get-get_or xs i x lt ∙ ap (λ z. Some z) (sym (get_or_append_left xs (y ∷ []) x i lt) ∙ get_or_from_slice_get (xs ++ y ∷ []) i x x e)

pushed_last : {A : Type 0} (xs : List A) (y : A) (i : ℕ) (x : A) → length xs ≤ i → slice_get (xs ++ y ∷ []) i ≡ Some x → (i ≡ length xs) × (x ≡ y)
pushed_last xs y i x ge e =
    let lt : i < length (xs ++ y ∷ []) = slice_get_within (xs ++ y ∷ []) i x e in
    let size : length (xs ++ y ∷ []) ≡ length xs + 1 = length-append xs (y ∷ []) in
    let here : i ≡ length xs = omega arith in
    (here, sym (get_or_from_slice_get (xs ++ y ∷ []) i x x e) ∙ get_or_push xs y x i (sym here))

-- no header of an id that isn't listed has been sent
not_headed : (ids : List Id) (id : Id) (packet : Packet) → IsOfPages ids packet → (id.page ≡ 255 → ⊥) → list_any (same_id id) ids ≡ false →
    (b : Bool) → heads_page id packet ≡ b → b ≡ false
not_headed ids id packet of numbered new false e = refl
not_headed ids id Empty of numbered new true e = absurd (false≢true e)
not_headed ids id Unreadable of numbered new true e = absurd (false≢true e)
not_headed ids id (Header other control text) of numbered new true e =
    let same : id ≡ other = same_one id other e in
    elim of as (λ _. true ≡ false) [
      | inl filling ↦ absurd (numbered (ap (λ i. i.page) same ∙ filling))
      | inr has ↦ absurd (false≢true (sym new ∙ list_any_at (same_id id) ids has.0 other has.1 (ap (same_id id) has.2 ∙ e)))
    ]
not_headed ids id (Row mag number text) of numbered new true e = absurd (false≢true e)
not_headed ids id (Links mag content) of numbered new true e = absurd (false≢true e)
not_headed ids id Info of numbered new true e = absurd (false≢true e)
not_headed ids id Other of numbered new true e = absurd (false≢true e)

of_more : (ids : List Id) (id : Id) (packet : Packet) → IsOfPages ids packet → IsOfPages (ids ++ id ∷ []) packet
of_more ids id Empty of = of
of_more ids id Unreadable of = of
of_more ids id (Header other control text) of = elim of as (λ _. IsOfPages (ids ++ id ∷ []) (Header other control text)) [
  | inl filling ↦ inl filling
  | inr has ↦ inr (Contains-append_left ids (id ∷ []) other has)
]
of_more ids id (Row mag number text) of = of
of_more ids id (Links mag content) of = of
of_more ids id Info of = of
of_more ids id Other of = of

module _ (slots : List (List ℕ)) (n : ℕ) (ids : List Id) (was : AreNamed slots n ids) where
  -- the same ids after a slot whose header is listed
  kept : IsOfPages ids (packet_of (get_or slots n [])) → AreNamed slots (suc n) ids
  kept of = record {
    listed = λ m lt. elim (cases_lt m n) as (λ _. IsOfPages ids (packet_of (get_or slots m []))) [
      | inl less ↦ was.listed m less
      | inr ge ↦ let same : m ≡ n = omega arith in subst (λ j. IsOfPages ids (packet_of (get_or slots j []))) (sym same) of
    ];
    numbered = was.numbered;
    firsts = λ i id at. let f = was.firsts i id at in (f.0, (let lt = f.1 in omega arith), f.2);
    rising = was.rising;
    distinct = was.distinct;
  }

  module _ (id : Id) (control : ℕ) (text : List ℕ) (is : packet_of (get_or slots n []) ≡ Header id control text)
      (page : id.page ≡ 255 → ⊥) (new : list_any (same_id id) ids ≡ false) where
    first : IsFirst slots id n
    first = record {
      heads = ap (heads_page id) is ∙ same_self id;
      none = λ m lt. not_headed ids id (packet_of (get_or slots m [])) (was.listed m lt) page new (heads_page id (packet_of (get_or slots m []))) refl;
    }

    grown : AreNamed slots (suc n) (ids ++ id ∷ [])
    grown = record {
      listed = λ m lt. elim (cases_lt m n) as (λ _. IsOfPages (ids ++ id ∷ []) (packet_of (get_or slots m []))) [
        | inl less ↦ of_more ids id (packet_of (get_or slots m [])) (was.listed m less)
        | inr ge ↦
            let same : m ≡ n = omega arith in
            subst (IsOfPages (ids ++ id ∷ [])) (sym (ap (λ j. packet_of (get_or slots j [])) same ∙ is)) (inr (Contains-push ids id))
      ];
      numbered = λ i x at. elim (cases_lt i (length ids)) as (λ _. x.page ≡ 255 → ⊥) [
        | inl lt ↦ was.numbered i x (pushed_before ids id i x lt at)
        | inr ge ↦ subst (λ z. z.page ≡ 255 → ⊥) (sym (pushed_last ids id i x ge at).1) page
      ];
      firsts = λ i x at. elim (cases_lt i (length ids)) as (λ _. (k : ℕ) × (k < suc n) × IsFirst slots x k) [
        | inl lt ↦ let f = was.firsts i x (pushed_before ids id i x lt at) in (f.0, (let less = f.1 in omega arith), f.2)
        | inr ge ↦ (n, omega arith, subst (λ z. IsFirst slots z n) (sym (pushed_last ids id i x ge at).1) first)
      ];
      rising = λ i a b here next k l fa fb. elim (cases_lt (i + 1) (length ids)) as (λ _. k < l) [
        | inl lt ↦
            was.rising i a b (pushed_before ids id i a (omega arith) here) (pushed_before ids id (i + 1) b lt next) k l fa fb
        | inr ge ↦
            let last = pushed_last ids id (i + 1) b ge next in
            let size : i + 1 ≡ length ids = last.0 in
            let f = was.firsts i a (pushed_before ids id i a (omega arith) here) in
            let less : f.0 < n = f.1 in
            let at_k : k ≡ f.0 = one_first slots a k f.0 fa f.2 in
            let at_l : l ≡ n = one_first slots id l n (subst (λ z. IsFirst slots z l) last.1 fb) first in
            omega arith
      ];
      distinct = all_pairs_push (λ a b. a ≢ b) ids id was.distinct
          (λ k d lt same. false≢true (sym new ∙ list_any_at (same_id id) ids k d lt (ap (same_id id) same ∙ same_self id)));
    }

  named_new : (id : Id) (control : ℕ) (text : List ℕ) → packet_of (get_or slots n []) ≡ Header id control text → (page any : Bool) →
      eqb id.page 255 ≡ page →
      list_any (same_id id) ids ≡ any → AreNamed slots (suc n) (if page then ids else if any then ids else ids ++ id ∷ [])
  named_new id control text is true any filling has = kept (subst (IsOfPages ids) (sym is) (inl (eqb-true id.page 255 filling)))
  named_new id control text is false true filling has = kept (subst (IsOfPages ids) (sym is) (inr (Contains-from_any same_one id ids has)))
  named_new id control text is false false filling has =
      grown id control text is (λ e. false≢true (sym filling ∙ ap (λ p. eqb p 255) e)) has

  more : (packet : Packet) → packet_of (get_or slots n []) ≡ packet → AreNamed slots (suc n) (with_name ids packet)
  more Empty is = kept (subst (IsOfPages ids) (sym is) tt)
  more Unreadable is = kept (subst (IsOfPages ids) (sym is) tt)
  more (Header id control text) is = named_new id control text is (eqb id.page 255) (list_any (same_id id) ids) refl refl
  more (Row mag number text) is = kept (subst (IsOfPages ids) (sym is) tt)
  more (Links mag content) is = kept (subst (IsOfPages ids) (sym is) tt)
  more Info is = kept (subst (IsOfPages ids) (sym is) tt)
  more Other is = kept (subst (IsOfPages ids) (sym is) tt)

pub none_named : (slots : List (List ℕ)) → named_after slots 0 ≡ []
unfolding named_after
none_named slots = refl

pub named_more : (slots : List (List ℕ)) (n : ℕ) → named_after slots (suc n) ≡ with_name (named_after slots n) (packet_of (get_or slots n []))
unfolding named_after
named_more slots n = refl

pub are_named : (slots : List (List ℕ)) (n : ℕ) → AreNamed slots n (named_after slots n)
are_named slots zero = subst (AreNamed slots 0) (sym (none_named slots)) (record {
  listed = λ m lt. absurd (omega arith);
  numbered = λ i id at. absurd (none_here i id at);
  firsts = λ i id at. absurd (none_here i id at);
  rising = λ i a b here next. absurd (none_here i a here);
  distinct = λ i j d lt within. absurd (omega arith);
})
are_named slots (suc n) = subst (AreNamed slots (suc n)) (sym (named_more slots n))
    (more slots n (named_after slots n) (are_named slots n) (packet_of (get_or slots n [])) refl)
