-- A packet X/27/0 whose bytes are all code words, and that sends given links.
use Rattle.std.proofs.Common.{◌≡◌, ℕ, ◌/◌, ◌==◌, ◌&&◌, ◌↔◌, IsTrue, Bool, true, false, List, [], ◌∷◌, Option, Some, length, get_or}
use Rattle.std.proofs.Common.{refl, sym, ap, ◌∙◌, arith, slice_index, slice_range}
use Rattle.std.specs.Bool.{beq}
use Rattle.std.proofs.lemmas.Bool.{and_parts}
use Rattle.ttx_code.specs.Words.{is_word}
use Rattle.ttx_code.specs.Laws.{WordsHaveNumbers}
use Rattle.ttx_packet.specs.Slots.{IsSlot, are_readable, are_words}
use Rattle.ttx_header.specs.Headers.{number}
use Rattle.ttx_header.specs.Ids.{Id}
use Rattle.ttx_links.specs.Sets.{LinkSet, set_of, links_of, is_exact}
use Rattle.ttx_links.proofs.ReadableLinks.{if_some}
use Rattle.ttx_links.proofs.Receptions.{words_are_readable}
use Rattle.ttx_links.proofs.SentLinks.{exact_parts}

both : (a b : Bool) → a ≡ true → b ≡ true → (a && b) ≡ true
both true b e f = f
both false b e f = e

-- the entries of a list of six make up the list
six_are_whole : (d0 d1 d2 d3 d4 d5 : Option Id) (six : List (Option Id)) → length six ≡ 6 →
    get_or six 0 d0 ∷ get_or six 1 d1 ∷ get_or six 2 d2 ∷ get_or six 3 d3 ∷ get_or six 4 d4 ∷ get_or six 5 d5 ∷ [] ≡ six
six_are_whole d0 d1 d2 d3 d4 d5 [] l = absurd (omega (arith, l))
six_are_whole d0 d1 d2 d3 d4 d5 (y0 ∷ []) l = absurd (omega (arith, l))
six_are_whole d0 d1 d2 d3 d4 d5 (y0 ∷ y1 ∷ []) l = absurd (omega (arith, l))
six_are_whole d0 d1 d2 d3 d4 d5 (y0 ∷ y1 ∷ y2 ∷ []) l = absurd (omega (arith, l))
six_are_whole d0 d1 d2 d3 d4 d5 (y0 ∷ y1 ∷ y2 ∷ y3 ∷ []) l = absurd (omega (arith, l))
six_are_whole d0 d1 d2 d3 d4 d5 (y0 ∷ y1 ∷ y2 ∷ y3 ∷ y4 ∷ []) l = absurd (omega (arith, l))
six_are_whole d0 d1 d2 d3 d4 d5 (y0 ∷ y1 ∷ y2 ∷ y3 ∷ y4 ∷ y5 ∷ []) l = refl
six_are_whole d0 d1 d2 d3 d4 d5 (y0 ∷ y1 ∷ y2 ∷ y3 ∷ y4 ∷ y5 ∷ y6 ∷ ys) l = absurd (omega (arith, l))

-- six tests, one for each link, and the test of the list
pub six_tests : (b0 b1 b2 b3 b4 b5 w0 w1 w2 w3 w4 w5 whole : Bool) (s0 s1 s2 s3 s4 s5 d0 d1 d2 d3 d4 d5 : Option Id) (six : List (Option Id)) →
    length six ≡ 6 → whole ≡ (w0 && (w1 && (w2 && (w3 && (w4 && w5))))) →
    (IsTrue b0 ↔ ((w0 ≡ true) × (s0 ≡ get_or six 0 d0))) → (IsTrue b1 ↔ ((w1 ≡ true) × (s1 ≡ get_or six 1 d1))) →
    (IsTrue b2 ↔ ((w2 ≡ true) × (s2 ≡ get_or six 2 d2))) → (IsTrue b3 ↔ ((w3 ≡ true) × (s3 ≡ get_or six 3 d3))) →
    (IsTrue b4 ↔ ((w4 ≡ true) × (s4 ≡ get_or six 4 d4))) → (IsTrue b5 ↔ ((w5 ≡ true) × (s5 ≡ get_or six 5 d5))) →
    IsTrue (((((b0 && b1) && b2) && b3) && b4) && b5) ↔ ((whole ≡ true) × (s0 ∷ s1 ∷ s2 ∷ s3 ∷ s4 ∷ s5 ∷ [] ≡ six))
six_tests b0 b1 b2 b3 b4 b5 w0 w1 w2 w3 w4 w5 whole s0 s1 s2 s3 s4 s5 d0 d1 d2 d3 d4 d5 six l words t0 t1 t2 t3 t4 t5 = (
  (λ t.
      let p5 = and_parts _ b5 t in
      let p4 = and_parts _ b4 p5.0 in
      let p3 = and_parts _ b3 p4.0 in
      let p2 = and_parts _ b2 p3.0 in
      let p1 = and_parts b0 b1 p2.0 in
      let (v0, e0) = t0.0 p1.0 in
      let (v1, e1) = t1.0 p1.1 in
      let (v2, e2) = t2.0 p2.1 in
      let (v3, e3) = t3.0 p3.1 in
      let (v4, e4) = t4.0 p4.1 in
      let (v5, e5) = t5.0 p5.1 in (
        words ∙ both w0 _ v0 (both w1 _ v1 (both w2 _ v2 (both w3 _ v3 (both w4 w5 v4 v5)))),
        (λ i. e0 i ∷ e1 i ∷ e2 i ∷ e3 i ∷ e4 i ∷ e5 i ∷ []) ∙ six_are_whole d0 d1 d2 d3 d4 d5 six l,
      )),
  (λ (w, q).
      let v0 = and_parts w0 _ (sym words ∙ w) in
      let v1 = and_parts w1 _ v0.1 in
      let v2 = and_parts w2 _ v1.1 in
      let v3 = and_parts w3 _ v2.1 in
      let v4 = and_parts w4 w5 v3.1 in
      let each = q ∙ sym (six_are_whole d0 d1 d2 d3 d4 d5 six l) in
      let first = both b0 b1 (t0.1 (v0.0, ap (λ ls. get_or ls 0 s0) each)) (t1.1 (v1.0, ap (λ ls. get_or ls 1 s0) each)) in
      let third = both _ b2 first (t2.1 (v2.0, ap (λ ls. get_or ls 2 s0) each)) in
      let fourth = both _ b3 third (t3.1 (v3.0, ap (λ ls. get_or ls 3 s0) each)) in
      both _ b5 (both _ b4 fourth (t4.1 (v4.0, ap (λ ls. get_or ls 4 s0) each))) (t5.1 (v4.1, ap (λ ls. get_or ls 5 s0) each))),
)

same_flags : (a b : Bool) → beq a b ≡ true → a ≡ b
same_flags true true e = refl
same_flags false false e = refl
same_flags true false e = cc
same_flags false true e = cc

flags_itself : (a : Bool) → beq a a ≡ true
flags_itself true = refl
flags_itself false = refl

module _ (numbers : WordsHaveNumbers) where
  -- code words, the same links and the same row flag make an exact packet of these links
  pub exact_set : (mag : ℕ) (s : List ℕ) (set : LinkSet) (last row same : Bool) → IsSlot s → last ≡ is_word (slice_index s 39) →
      row ≡ beq (number s 39 / 8 == 1) set.show24 →
      (IsTrue same ↔ ((are_words (slice_range s 3 39) ≡ true) × ((set_of mag s).six ≡ set.six))) →
      IsTrue ((last && row) && same) ↔ ((is_exact s ≡ true) × (links_of mag s ≡ Some set))
  unfolding links_of
  exact_set mag s set last row same is el er es = (
    (λ t.
        let parts = and_parts _ _ t in
        let first = and_parts last row parts.0 in
        let (front, six) = es.0 parts.1 in
        let exact : is_exact s ≡ true = exact_parts s is ∙ both _ _ front (sym el ∙ first.0) in
        let flag = same_flags _ _ (sym er ∙ first.1) in
        (exact, rw (words_are_readable numbers s is exact) (λ i. Some (record { six = six i; show24 = flag i })))),
    (λ (exact, e).
        let same_set : set_of mag s ≡ set = (if_some (are_readable (slice_range s 3 40)) (set_of mag s) set e).1 in
        let parts = and_parts _ _ (sym (exact_parts s is) ∙ exact) in
        both _ _ (both last row (el ∙ parts.1)
        (er ∙ ap (λ x. beq (number s 39 / 8 == 1) x.show24) (sym same_set) ∙ flags_itself (number s 39 / 8 == 1)))
        (es.1 (parts.0, ap (λ x. x.six) same_set))),
  )
