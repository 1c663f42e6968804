-- Streaks while slots pass.
use Rattle.std.proofs.Common.{◌≡◌, ◌⊎◌, ◌≢◌, ℕ, zero, suc, ◌+◌, ◌*◌, ◌<◌, ◌≤◌, Bool, true, false, if◌then◌else◌, List, length, get_or, set, Some}
use Rattle.std.proofs.Common.{None, refl, sym, ap, ◌∙◌, subst, inl, inr, arith, eqb, eqb-true, eq-eqb}
use Rattle.std.proofs.lemmas.Bool.{cases_lt, both_ways, cases_Bool, cases_eq}
use Rattle.std.proofs.lemmas.Bool.Decides.{nat_tests}
use Rattle.std.proofs.lemmas.List.{get_or-set_same, get_or-set_other}
use Rattle.ttx_counter.specs.Keys.{key_at, byte_in}
use Rattle.ttx_counter.specs.Streaks.{streak_to}
use Rattle.ttx_counter.specs.Cells.{is_text, streak_of, cell_at, running, AreCounted, IsStreakReached, TellsSlot, IsCell, AreStreaks, IsBroken}
use Rattle.ttx_counter.specs.Cells.{StreaksAfter}
use Rattle.ttx_counter.specs.declared.streaks.Streak.{Streak}

abbrev pub byte_at : List ℕ → ℕ → ℕ
byte_at keys i = byte_in (key_at keys i)

-- below the next number: below this one, or equal to it
cases_next : (a i : ℕ) → a < i + 1 → (a < i) ⊎ (i ≡ a)
cases_next a i lt = elim (cases_lt a i) as (λ _. (a < i) ⊎ (i ≡ a)) [ inl h ↦ inl h | inr h ↦ inr (omega arith) ]

module _ (row latest now k : ℕ) (keys : List ℕ) (from : ℕ) (old new : List Streak) (i : ℕ) where
  pub counted_skip : is_text row (byte_at keys i) ≡ false → AreCounted row latest now k keys from i old new →
      AreCounted row latest now k keys from (i + 1) old new
  counted_skip isnt a = record {
    hit = λ j low high text. elim (cases_next j i high) as
        (λ _. (cell_at new row (byte_at keys j) ≡ streak_of now (suc (running latest (cell_at old row (byte_at keys j)))))
        × (suc (running latest (cell_at old row (byte_at keys j))) < k))
        [ inl lt ↦ a.hit j low lt text | inr e ↦ absurd (both_ways _ (subst (λ x. is_text row (byte_at keys x) ≡ false) e isnt) text) ];
    other = λ q none. a.other q (λ j low high text e. none j low (omega arith) text e);
  }

  pub counted_more : (count : ℕ) → from ≤ i → is_text row (byte_at keys i) ≡ true → 42 * row + byte_at keys i < length new →
      ((j : ℕ) → from ≤ j → j < i → byte_at keys j ≡ byte_at keys i → ⊥) → count ≡ running latest (cell_at new row (byte_at keys i)) → suc count < k →
      AreCounted row latest now k keys from i old new →
      AreCounted row latest now k keys from (i + 1) old (set new (42 * row + byte_at keys i) (streak_of now (suc count)))
  counted_more count up its inside apart is few a =
      let p : ℕ = 42 * row + byte_at keys i in
      let fresh : cell_at new row (byte_at keys i) ≡ cell_at old row (byte_at keys i) =
      a.other p (λ j low high text e. apart j low high (omega arith)) in
      let is' : count ≡ running latest (cell_at old row (byte_at keys i)) = is ∙ ap (running latest) fresh in
      let here : (cell_at (set new p (streak_of now (suc count))) row (byte_at keys i)
      ≡ streak_of now (suc (running latest (cell_at old row (byte_at keys i)))))
      × (suc (running latest (cell_at old row (byte_at keys i))) < k) =
      (get_or-set_same new p (streak_of now (suc count)) (streak_of 0 0) inside ∙ ap (λ z. streak_of now (suc z)) is', (omega arith)) in
      record {
        hit = λ j low high text. elim (cases_next j i high) as
            (λ _. (cell_at (set new p (streak_of now (suc count))) row (byte_at keys j)
            ≡ streak_of now (suc (running latest (cell_at old row (byte_at keys j)))))
            × (suc (running latest (cell_at old row (byte_at keys j))) < k)) [
              | inl lt ↦
                  let ne : 42 * row + byte_at keys j ≢ p = λ e. apart j low lt (omega arith) in
                  let h = a.hit j low lt text in (
                    get_or-set_other new p (42 * row + byte_at keys j) (streak_of now (suc count)) (streak_of 0 0) ne ∙ h.0,
                    h.1,
                  )
              | inr e ↦ subst (λ x. (cell_at (set new p (streak_of now (suc count))) row (byte_at keys x)
                  ≡ streak_of now (suc (running latest (cell_at old row (byte_at keys x)))))
                  × (suc (running latest (cell_at old row (byte_at keys x))) < k)) e here
            ];
        other = λ q none.
            let ne : q ≢ p = λ e. none i up (omega arith) its (sym e) in
            get_or-set_other new p q (streak_of now (suc count)) (streak_of 0 0) ne
            ∙ a.other q (λ j low high text e. none j low (omega arith) text e);
      }

  pub is_over : (count : ℕ) → from ≤ i → (to : ℕ) → i < to → is_text row (byte_at keys i) ≡ true →
      ((j : ℕ) → from ≤ j → j < i → byte_at keys j ≡ byte_at keys i → ⊥) → count ≡ running latest (cell_at new row (byte_at keys i)) → k ≤ suc count →
      AreCounted row latest now k keys from i old new → IsStreakReached row latest k keys from to old
  is_over count up to lt its apart is many a =
      let fresh : cell_at new row (byte_at keys i) ≡ cell_at old row (byte_at keys i) =
      a.other (42 * row + byte_at keys i) (λ j low high text e. apart j low high (omega arith)) in
      record {
        key = i;
        after = up;
        before = lt;
        text = its;
        long = (let e : count ≡ running latest (cell_at old row (byte_at keys i)) = is ∙ ap (running latest) fresh
            in omega arith);
      }

  -- as the loop has them
  pub counted_same : (x : ℕ) → x ≡ byte_at keys i → is_text row x ≡ false → (mid : List Streak) → mid ≡ new →
      AreCounted row latest now k keys from i old new → AreCounted row latest now k keys from (i + 1) old mid
  counted_same x e isnt mid same a = subst (λ z. AreCounted row latest now k keys from (i + 1) old z) (sym same)
      (counted_skip (subst (λ y. is_text row y ≡ false) e isnt) a)

  pub counted_set : (x count : ℕ) (cell : Streak) (mid : List Streak) → x ≡ byte_at keys i → from ≤ i → is_text row x ≡ true → 42 * row
      + x < length new →
      ((j : ℕ) → from ≤ j → j < i → byte_at keys j ≡ byte_at keys i → ⊥) → cell ≡ cell_at new row x → count ≡ running latest cell → count + 1 < k →
      mid ≡ set new (42 * row + x) (streak_of now (count + 1)) →
      AreCounted row latest now k keys from i old new → AreCounted row latest now k keys from (i + 1) old mid
  counted_set x count cell mid e up its inside apart here is few same a =
      let e1 : count + 1 ≡ suc count = omega arith in
      let whole : mid ≡ set new (42 * row + byte_at keys i) (streak_of now (suc count)) =
      same ∙ ap (λ z. set new (42 * row + z) (streak_of now (count + 1))) e ∙ ap (λ z. set new (42 * row + byte_at keys i) (streak_of now z)) e1 in
      subst (λ z. AreCounted row latest now k keys from (i + 1) old z) (sym whole)
      (counted_more count up (subst (λ y. is_text row y ≡ true) e its) (omega arith) apart
      (is ∙ ap (running latest) (here ∙ ap (cell_at new row) e)) (omega arith) a)

  pub over_at : (x count : ℕ) (cell : Streak) → x ≡ byte_at keys i → from ≤ i → (to : ℕ) → i < to → is_text row x ≡ true →
      ((j : ℕ) → from ≤ j → j < i → byte_at keys j ≡ byte_at keys i → ⊥) → cell ≡ cell_at new row x → count ≡ running latest cell → k ≤ suc count →
      AreCounted row latest now k keys from i old new → IsStreakReached row latest k keys from to old
  over_at x count cell e up to lt its apart here is many a =
      is_over count up to lt (subst (λ y. is_text row y ≡ true) e its) apart (is ∙ ap (running latest) (here ∙ ap (cell_at new row) e)) many a

-- one of the keys has the byte, or none has
pub hit_or_not : (keys : List ℕ) (from x to : ℕ) → ((i : ℕ) × (from ≤ i) × (i < to) × (byte_at keys i ≡ x))
    ⊎ ((i : ℕ) → from ≤ i → i < to → byte_at keys i ≡ x → ⊥)
hit_or_not keys from x zero = inr (λ i low high e. absurd (omega arith))
hit_or_not keys from x (suc to) = elim (hit_or_not keys from x to) as
    (λ _. ((i : ℕ) × (from ≤ i) × (i < suc to) × (byte_at keys i ≡ x))
    ⊎ ((i : ℕ) → from ≤ i → i < suc to → byte_at keys i ≡ x → ⊥)) [
      | inl w ↦ inl (w.0, w.1, (let h = w.2 in omega arith), w.3)
      | inr none ↦ elim (cases_lt to from) as
          (λ _. ((i : ℕ) × (from ≤ i) × (i < suc to) × (byte_at keys i ≡ x))
          ⊎ ((i : ℕ) → from ≤ i → i < suc to → byte_at keys i ≡ x → ⊥)) [
            | inl before ↦ inr (λ i low high e. none i low (omega arith) e)
            | inr from_on ↦ elim (cases_eq (byte_at keys to) x) as
                (λ _. ((i : ℕ) × (from ≤ i) × (i < suc to) × (byte_at keys i ≡ x))
                ⊎ ((i : ℕ) → from ≤ i → i < suc to → byte_at keys i ≡ x → ⊥)) [
                  | inl e ↦ inl (to, from_on, (omega arith), e)
                  | inr ne ↦ inr (λ i low high e. elim (cases_next i to (omega arith)) as (λ _. ⊥)
                      [ inl lt ↦ none i low lt e | inr q ↦ ne (subst (λ y. byte_at keys y ≡ x) (sym q) e) ])
                ]
          ]
    ]

text_low : (r x : ℕ) → is_text r x ≡ true → x < 42
text_low zero x h = grind (arith, nat_tests)
text_low (suc r) x h = grind (arith, nat_tests)

running_same : (latest : ℕ) (cell : Streak) → cell.last ≡ latest → running latest cell ≡ cell.count
running_same latest cell e = rw (eq-eqb cell.last latest e) refl

running_past : (latest : ℕ) (cell : Streak) → cell.last < latest → running latest cell ≡ 0
running_past latest cell lt = rw (not_eq cell.last latest lt) refl
  where
    not_eq : (a b : ℕ) → a < b → eqb a b ≡ false
    not_eq a b lt = elim (cases_Bool (eqb a b)) as (λ _. eqb a b ≡ false) [ inl e ↦ absurd (let h = eqb-true a b e in omega arith) | inr e ↦ e ]

module _ (sent wrong : ℕ → ℕ → Bool) (k n : ℕ) (latest : List ℕ) (cells : List Streak) (keys : List ℕ) (from to : ℕ) where
  below_next : (r x : ℕ) → r < 25 → is_text r x ≡ true → AreStreaks sent wrong k n latest cells →
      streak_to (sent r) (wrong x) (n + 1) < k → (m : ℕ) → m ≤ n + 1 → streak_to (sent r) (wrong x) m < k
  below_next r x lt text a here m le = elim (cases_lt m (n + 1)) as (λ _. streak_to (sent r) (wrong x) m < k) [
    | inl h ↦ a.below r x m lt text (omega arith)
    | inr h ↦ let e : n + 1 ≡ m = omega arith
        in subst (λ z. streak_to (sent r) (wrong x) z < k) e here
  ]

  unsent : (r x : ℕ) → sent r n ≡ false → streak_to (sent r) (wrong x) (n + 1) ≡ streak_to (sent r) (wrong x) n
  unfolding streak_to
  unsent r x e = let s : n + 1 ≡ suc n = omega arith in ap (λ z. streak_to (sent r) (wrong x) z) s ∙ rw e refl

  right : (r x : ℕ) → sent r n ≡ true → wrong x n ≡ false → streak_to (sent r) (wrong x) (n + 1) ≡ 0
  unfolding streak_to
  right r x e f = let s : n + 1 ≡ suc n = omega arith in ap (λ z. streak_to (sent r) (wrong x) z) s ∙ rw (e, f) refl

  missed : (r x : ℕ) → sent r n ≡ true → wrong x n ≡ true → streak_to (sent r) (wrong x) (n + 1) ≡ suc (streak_to (sent r) (wrong x) n)
  unfolding streak_to
  missed r x e f = let s : n + 1 ≡ suc n = omega arith in ap (λ z. streak_to (sent r) (wrong x) z) s ∙ rw (e, f) refl

  -- a row that is not sent keeps its streaks
  kept : (new : List ℕ) (more : List Streak) (r x : ℕ) → r < 25 → is_text r x ≡ true → AreStreaks sent wrong k n latest cells → sent r n
      ≡ false → get_or new r 0 ≡ get_or latest r 0 → cell_at more r x ≡ cell_at cells r x →
      IsCell (streak_to (sent r) (wrong x) (n + 1)) (get_or new r 0) (cell_at more r x)
  kept new more r x lt text a e l c =
      let w = a.counted r x lt text in
      record {
        past = subst (λ z. z.last ≤ get_or new r 0) (sym c) (subst (λ z. (cell_at cells r x).last ≤ z) (sym l) w.past);
        is = unsent r x e ∙ w.is ∙ ap (λ z. running z (cell_at cells r x)) (sym l) ∙ ap (running (get_or new r 0)) (sym c);
      }

  pub noted_none : TellsSlot sent wrong None keys from to n → AreStreaks sent wrong k n latest cells → AreStreaks sent wrong k (n + 1) latest cells
  noted_none t a = record {
    past = λ r lt. let h = a.past r lt in omega arith;
    counted = λ r x lt text. kept latest cells r x lt text a (t.sent_is r lt) refl refl;
    below = λ r x m lt text le. below_next r x lt text a
        (let u = unsent r x (t.sent_is r lt) in let b = a.below r x n lt text (omega arith) in omega arith) m le;
  }

  module _ (row : ℕ) (inside : row < 25) (count : length latest ≡ 25) (t : TellsSlot sent wrong (Some row) keys from to n)
      (a : AreStreaks sent wrong k n latest cells) where
    sent_row : sent row n ≡ true
    sent_row = t.sent_is row inside ∙ eq-eqb row row refl

    other_row : (r : ℕ) → r < 25 → r ≢ row → sent r n ≡ false
    other_row r lt ne = t.sent_is r lt ∙ elim (cases_Bool (eqb row r)) as (λ _. eqb row r ≡ false)
        [ inl e ↦ absurd (ne (sym (eqb-true row r e))) | inr e ↦ e ]

    module _ (more : List Streak) (some : 1 ≤ k) (counts : AreCounted row (get_or latest row 0) (n + 1) k keys from to cells more) where
      abbrev new : List ℕ
      new = set latest row (n + 1)

      new_here : get_or new row 0 ≡ n + 1
      new_here = get_or-set_same latest row (n + 1) 0 (omega arith)

      -- a byte of the row that is sent
      own : (x : ℕ) → is_text row x ≡ true → IsCell (streak_to (sent row) (wrong x) (n + 1)) (get_or new row 0) (cell_at more row x)
          × (streak_to (sent row) (wrong x) (n + 1) < k)
      own x text = elim (hit_or_not keys from x to) as
          (λ _. IsCell (streak_to (sent row) (wrong x) (n + 1)) (get_or new row 0) (cell_at more row x)
          × (streak_to (sent row) (wrong x) (n + 1) < k)) [
            | inl w ↦ subst (λ y. IsCell (streak_to (sent row) (wrong y) (n + 1)) (get_or new row 0) (cell_at more row y)
                × (streak_to (sent row) (wrong y) (n + 1) < k)) w.3
                (hit w.0 w.1 w.2 (subst (λ y. is_text row y ≡ true) (sym w.3) text))
            | inr none ↦
                let c = counts.other (42 * row + x) (λ i low high is e. none i low high (omega arith)) in
                let w = a.counted row x inside text in
                let p = a.past row inside in
                let zero_is = right row x sent_row (t.other x (text_low row x text) none) in
                let last : (cell_at more row x).last < get_or new row 0 =
                subst (λ z. z.last < get_or new row 0) (sym c) (let h = w.past in omega (arith, new_here)) in
                (record { past = omega arith; is = zero_is ∙ sym (running_past (get_or new row 0) (cell_at more row x) last) }, omega arith)
          ]
        where
          hit : (i : ℕ) → from ≤ i → i < to → is_text row (byte_at keys i) ≡ true →
              IsCell (streak_to (sent row) (wrong (byte_at keys i)) (n + 1)) (get_or new row 0) (cell_at more row (byte_at keys i))
              × (streak_to (sent row) (wrong (byte_at keys i)) (n + 1) < k)
          hit i low high is =
              let h = counts.hit i low high is in
              let w = a.counted row (byte_at keys i) inside is in
              let up = missed row (byte_at keys i) sent_row (t.hit i low high) ∙ ap suc w.is in
              let last : (cell_at more row (byte_at keys i)).last ≡ get_or new row 0 = ap (λ z. z.last) h.0 ∙ sym new_here in (
                record {
                  past = omega arith;
                  is = up ∙ sym (ap (λ z. z.count) h.0)
                      ∙ sym (running_same (get_or new row 0) (cell_at more row (byte_at keys i)) last);
                },
                (let g = h.1 in omega arith),
              )

      pub noted_row : AreStreaks sent wrong k (n + 1) new more
      noted_row = record {
        past = λ r lt. elim (cases_eq r row) as (λ _. get_or new r 0 ≤ n + 1) [
          | inl e ↦ subst (λ z. get_or new z 0 ≤ n + 1) (sym e) (omega (arith, new_here))
          | inr ne ↦ let g = get_or-set_other latest row r (n + 1) 0 ne in let h = a.past r lt in omega arith
        ];
        counted = λ r x lt text. elim (cases_eq r row) as (λ _. IsCell (streak_to (sent r) (wrong x) (n + 1)) (get_or new r 0) (cell_at more r x)) [
          | inl e ↦ subst (λ z. IsCell (streak_to (sent z) (wrong x) (n + 1)) (get_or new z 0) (cell_at more z x)) (sym e)
              (own x (subst (λ z. is_text z x ≡ true) e text)).0
          | inr ne ↦ kept new more r x lt text a (other_row r lt ne) (get_or-set_other latest row r (n + 1) 0 ne)
              (counts.other (42 * r + x) (λ i low high is e. let p = text_low r x text in let q = text_low row (byte_at keys i) is
              in ne (omega arith)))
        ];
        below = λ r x m lt text le. below_next r x lt text a (elim (cases_eq r row) as (λ _. streak_to (sent r) (wrong x) (n + 1) < k) [
          | inl e ↦ subst (λ z. streak_to (sent z) (wrong x) (n + 1) < k) (sym e) (own x (subst (λ z. is_text z x ≡ true) e text)).1
          | inr ne ↦ let u = unsent r x (other_row r lt ne) in let b = a.below r x n lt text (omega arith) in omega arith
        ]) m le;
      }

    pub broken_row : IsStreakReached row (get_or latest row 0) k keys from to cells → IsBroken sent wrong k (n + 1)
    broken_row o =
        let w = a.counted row (byte_at keys o.key) inside o.text in
        record {
          row = row;
          byte = byte_at keys o.key;
          inside = inside;
          text = o.text;
          long = let u = missed row (byte_at keys o.key) sent_row (t.hit o.key o.after o.before) in let e = w.is in let h = o.long in omega arith;
        }

pub noted : (result : Bool) (sent wrong : ℕ → ℕ → Bool) (k n : ℕ) (latest : List ℕ) (cells more : List Streak) (keys : List ℕ)
    (from to row : ℕ) → row < 25 → length latest ≡ 25 → 1 ≤ k →
    (result ≡ true → AreCounted row (get_or latest row 0) (n + 1) k keys from to cells more) →
    (result ≡ false → IsStreakReached row (get_or latest row 0) k keys from to cells) →
    AreStreaks sent wrong k n latest cells → TellsSlot sent wrong (Some row) keys from to n →
    StreaksAfter result sent wrong k (n + 1) (set latest row (n + 1)) more
noted true sent wrong k n latest cells more keys from to row inside count some f g a t =
    noted_row sent wrong k n latest cells keys from to row inside count t a more some (f refl)
noted false sent wrong k n latest cells more keys from to row inside count some f g a t =
    broken_row sent wrong k n latest cells keys from to row inside count t a (g refl)

pub nothing_noted : (sent wrong : ℕ → ℕ → Bool) (k : ℕ) (latest : List ℕ) (cells : List Streak) → ((i : ℕ) → get_or latest i 0 ≡ 0) →
    ((i : ℕ) → get_or cells i (streak_of 0 0) ≡ streak_of 0 0) → 1 ≤ k →
    AreStreaks sent wrong k 0 latest cells
unfolding streak_to
nothing_noted sent wrong k latest cells f g some = record {
  past = λ r lt. let h = f r in omega arith;
  counted = λ r x lt text. record {
    past = subst (λ z. z.last ≤ get_or latest r 0) (sym (g (42 * r + x))) (omega arith);
    is = sym (subst (λ z. running (get_or latest r 0) z ≡ 0) (sym (g (42 * r + x))) (running_none (get_or latest r 0)));
  };
  below = λ r x m lt text le. let e : m ≡ 0 = omega arith in subst (λ z. streak_to (sent r) (wrong x) z < k) (sym e) (omega arith);
}
  where
    both : (b : Bool) → ◌≡◌ {A = ℕ} (if b then 0 else 0) 0
    both true = refl
    both false = refl

    running_none : (n : ℕ) → running n (streak_of 0 0) ≡ 0
    running_none n = both (eqb 0 n)
