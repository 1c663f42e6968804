-- A page that is amid the end of a cycle: its header is the latest of the magazine, and an item comes before the next one.
use Rattle.std.proofs.Common.{◌≡◌, ℕ, ◌-◌, ◌<◌, ℤ, pos, negsuc, ◌-ℤ◌, ◌<ℤ◌, true, false, List, length, subst, inl, inr, arith}
use Rattle.std.proofs.lemmas.Int.{ints}
use Rattle.ttx_page.proofs.SlotDistances.{cases_ltz}
use Rattle.ttx_page.specs.Packets.{packet_of}
use Rattle.ttx_page.specs.Pages.{Page}
use Rattle.ttx_page.specs.Streams.{repeated, heads, heads_page, IsLatestHeader, IsOwned}
use Rattle.ttx_proof.specs.LastBlocks.{GoesOn, IsAmid}
use Rattle.ttx_proof.proofs.HangingOver.{Hangs, hangs_of, owned_of}

module _ (old : List (List ℕ)) (p : Page) where
  pub amid_is : (back : ℕ) → back < length old → IsLatestHeader (repeated old) p.id.mag (negsuc back) (pos 0) →
      heads_page p.id (packet_of (repeated old (negsuc back))) ≡ true → (slot : ℕ) → slot ≡ length old - 1 - back → (j : ℤ) →
      GoesOn (repeated old) p j → IsAmid old p slot
  amid_is back lt latest mine slot e j g =
      let low = g.not_before in
      let at : negsuc back ≡ pos slot -ℤ pos (length old) = omega (arith, ints) in
      record {
        inside = omega arith;
        item = g.such.0;
        needed = g.such.1.0;
        next = j;
        not_before = g.not_before;
        comes = subst (λ h. IsOwned (repeated old) p.id g.such.0 h j) at
            (owned_of (repeated old) p.id g.such.0 (negsuc back) j (record {
              latest = record {
                earlier = omega (arith, ints);
                is_header = latest.is_header;
                none_between = λ i u v. elim (cases_ltz i (pos 0)) as (λ _. heads p.id.mag (packet_of (repeated old i)) ≡ false) [
                  | inl before ↦ latest.none_between i u before
                  | inr on ↦ g.no_header i on v
                ];
              };
              mine = mine;
              carried = g.such.1.1;
            }));
      }

  module _ (slot : ℕ) (a : IsAmid old p slot) where
    abbrev header : ℤ
    header = pos slot -ℤ pos (length old)

    before : header <ℤ pos 0
    before = let lt = a.inside in omega (arith, ints)

    hangs : Hangs (repeated old) p.id a.item header a.next
    hangs = hangs_of (repeated old) p.id a.item header a.next (let k = before in let on = a.not_before in omega (arith, ints)) a.comes

    pub goes_of : (j : ℤ) × GoesOn (repeated old) p j
    goes_of =
        let h = hangs in
        let k = before in (
          a.next,
          record {
            not_before = a.not_before;
            no_header = λ i u v. h.latest.none_between i (omega (arith, ints)) v;
            such = (a.item, (a.needed, h.carried));
          },
        )
