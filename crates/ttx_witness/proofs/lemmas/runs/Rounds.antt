-- The transmissions of the stream are those of a period, round after round.
use Rattle.std.proofs.Common.{◌≡◌, ℕ, zero, suc, ◌≤◌, ℤ, pos, ◌+ℤ◌, ◌≤ℤ◌, List, [], ◌∷◌, ◌++◌, map, take, drop, length, refl, sym, ap, ◌∙◌, subst}
use Rattle.std.proofs.Common.{arith, append_assoc, length-append}
use Rattle.std.specs.List.{AllByRecursion}
use Rattle.std.proofs.lemmas.List.{map-append, length-take-le, length-map, take-append-drop}
use Rattle.std.proofs.lemmas.Int.{ints}
use Rattle.ttx_witness.specs.runs.Transmissions.{Transmission, slot_of, later, further, extended, windows, run_of}
use Rattle.ttx_witness.specs.runs.Repeating.{Lists}
use Rattle.ttx_witness.proofs.Windows.{further_is, windows_yes, windows_short}
use Rattle.ttx_witness.proofs.AllBetween.{slots, IsWindow, windows_are, lists_join, lists_later, lists_prefix}

rounds : ℕ → ℕ → List Transmission → List Transmission
rounds n zero ts = ts
rounds n (suc r) ts = ts ++ map (later n) (rounds n r ts)

round_end : ℕ → ℕ → ℤ
round_end n zero = pos n
round_end n (suc r) = round_end n r +ℤ pos n

round_end_pos : (n r : ℕ) → pos n ≤ℤ round_end n r
unfolding round_end
round_end_pos n zero = omega (arith, ints)
round_end_pos n (suc r) = let h = round_end_pos n r in omega (arith, ints)

rounds_more : (n r : ℕ) (ts : List Transmission) → (zs : List Transmission) × (rounds n (suc r) ts ≡ rounds n r ts ++ zs)
unfolding rounds
rounds_more n zero ts = (map (later n) ts, refl)
rounds_more n (suc r) ts =
    let i = rounds_more n r ts in (
      map (later n) i.0,
      ap (λ x. ts ++ map (later n) x) i.1 ∙ ap (λ x. ts ++ x) (map-append (later n) (rounds n r ts) i.0)
          ∙ sym (append_assoc ts (map (later n) (rounds n r ts)) (map (later n) i.0)),
    )

rounds_long : (n r : ℕ) (ts : List Transmission) → 1 ≤ length ts → suc r ≤ length (rounds n r ts)
unfolding rounds
rounds_long n zero ts h = h
rounds_long n (suc r) ts h =
    let i = rounds_long n r ts h in
    let a = length-append ts (map (later n) (rounds n r ts)) in
    let b = length-map (rounds n r ts) (later n) in
    omega arith

-- what follows is part of the next rounds
further_rounds : (n k : ℕ) (ts : List Transmission) → 1 ≤ length ts → further n k ts ≡ take k (map (later n) (rounds n k ts))
unfolding rounds
further_rounds n k ts h =
    let m = rounds_more n k ts in
    let b = length-map (rounds n k ts) (later n) in
    let l = rounds_long n k ts h in
    further_is n k ts (map (later n) (rounds n k ts)) (map (later n) m.0) h
    (ap (map (later n)) m.1 ∙ map-append (later n) (rounds n k ts) m.0) (omega arith)

pub length_further : (n k : ℕ) (ts : List Transmission) → 1 ≤ length ts → length (further n k ts) ≡ k
length_further n k ts h =
    let b = length-map (rounds n k ts) (later n) in
    let l = rounds_long n k ts h in
    ap length (further_rounds n k ts h) ∙ length-take-le k (map (later n) (rounds n k ts)) (omega arith)

-- each transmission begins one window
pub starts_of : (k : ℕ) (ts us : List Transmission) → length us ≡ k → map (λ w. (run_of w).start) (windows (suc k) (ts ++ us)) ≡ slots ts
starts_of k [] us e = rw (windows_short (suc k) us (omega arith)) refl
starts_of k (t ∷ ts) us e =
    let l = length-append ts us in
    rw (windows_yes (suc k) t (ts ++ us) (omega arith)) (ap (λ x. t.slot ∷ x) (starts_of k ts us e))

module _ (P : ℤ → Type 0) (Is : Transmission → Type 0) (is_p : (t : Transmission) → Is t → P t.slot) (n : ℕ)
    (is_later : (t : Transmission) → Is t → Is (later n t)) (p_earlier : (x : ℤ) → P (x +ℤ pos n) → P x) where
  lists_rounds : (r : ℕ) (ts : List Transmission) → Lists slot_of P Is (pos 0) (pos n) ts → Lists slot_of P Is (pos 0) (round_end n r) (rounds n r ts)
  unfolding rounds round_end
  lists_rounds zero ts l = l
  lists_rounds (suc r) ts l =
      let e : pos 0 +ℤ pos n ≡ pos n = omega (arith, ints) in
      let g = round_end_pos n r in
      lists_join slot_of P Is is_p (pos 0) (pos n) (round_end n r +ℤ pos n) ts (map (later n) (rounds n r ts)) (omega (arith, ints))
      (omega (arith, ints)) l
      (subst (λ z. Lists slot_of P Is z (round_end n r +ℤ pos n) (map (later n) (rounds n r ts))) e
      (lists_later P Is is_p n is_later p_earlier (pos 0) (round_end n r) (rounds n r ts) (lists_rounds r ts l)))

  -- the extended list is a list of the stream's transmissions
  pub extended_lists : (k : ℕ) (ts : List Transmission) → Lists slot_of P Is (pos 0) (pos n) ts → (mid : ℤ) × (pos 0 ≤ℤ mid)
      × Lists slot_of P Is (pos 0) mid (extended n k ts)
  unfolding rounds further
  extended_lists zero [] l = (pos 0, omega (arith, ints), λ x a b p. absurd (omega (arith, ints)))
  extended_lists (suc k) [] l = (pos 0, omega (arith, ints), λ x a b p. absurd (omega (arith, ints)))
  extended_lists k (t ∷ ts) l =
      let e = further_rounds n k (t ∷ ts) (omega arith) in
      let r : Lists slot_of P Is (pos 0) (round_end n (suc k)) ((t ∷ ts) ++ map (later n) (rounds n k (t ∷ ts))) = lists_rounds (suc k) (t ∷ ts) l in
      let ys = map (later n) (rounds n k (t ∷ ts)) in
      let q : (t ∷ ts) ++ ys ≡ ((t ∷ ts) ++ further n k (t ∷ ts)) ++ drop k ys =
      ap (λ x. (t ∷ ts) ++ x) (sym (take-append-drop k ys)) ∙ sym (append_assoc (t ∷ ts) (take k ys) (drop k ys))
      ∙ ap (λ x. ((t ∷ ts) ++ x) ++ drop k ys) (sym e) in
      lists_prefix slot_of P Is is_p (pos 0) (round_end n (suc k)) ((t ∷ ts) ++ further n k (t ∷ ts)) (drop k ys)
      (subst (λ z. Lists slot_of P Is (pos 0) (round_end n (suc k)) z) q r)

  -- its windows are windows of the stream
  pub extended_windows : (k : ℕ) (ts : List Transmission) → Lists slot_of P Is (pos 0) (pos n) ts →
      AllByRecursion (IsWindow slot_of P Is is_p (suc k)) (windows (suc k) (extended n k ts))
  extended_windows k ts l = let m = extended_lists k ts l in windows_are slot_of P Is is_p (suc k) (pos 0) m.0 (extended n k ts) m.2
