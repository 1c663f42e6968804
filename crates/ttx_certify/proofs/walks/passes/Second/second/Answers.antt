use Rattle.std.proofs.Common.{◌≡◌, suc, slice_get, ◌<◌, false, not, ◌++◌, ◌∷◌, [], length, map, slice_index_or, sym, ap, ◌∙◌, subst, inl, inr, arith}
use Rattle.std.proofs.lemmas.Bool.{cases_lt, not-true, not_from_false}
use Rattle.ttx_packet.specs.Slots.{IsSlot, is_clean}
use Rattle.ttx_page.specs.Views.{page_of}
use Rattle.ttx_witness.specs.sent.ItemTransmissions.{entry_owner}
use Rattle.ttx_witness.specs.faults.OtherSubpages.{first_of}
use Rattle.ttx_certify.specs.walks.PageFacts.{FirstBelow}
use Rattle.ttx_certify.proofs.walk_lemmas.GrowingLists.{one_longer, index_before, index_last, below_same, below_more, all_more}
use Rattle.ttx_certify.proofs.walks.passes.Second.second.Goals as goal

pub returns-clause-stands : goal.returns-clause-stands
returns-clause-stands c = λ x y old.
    let z = c.args.slot.now in
    let second = c.args.self.now in
    let l = one_longer y z in
    let small = c.if-self-ge65536.false in
    let t = c.take_slot.ensures in
    let same = ap (λ pages. map (λ p. (page_of p).id) pages) t.pages in
    let not_full : length y ≡ 65536 → ⊥ = λ e. let k = (old.passed (omega arith)).count in absurd (omega arith) in
    record {
      ready = t.ready old.ready;
      few = old.few;
      entry = λ i id at is. old.entry i id (ap (λ ids. slice_get ids i) (sym same) ∙ at) is;
      over = (
        (λ e. let o = old.over.0 e in omega arith),
        (λ lt. old.over.1 (elim (cases_lt 65536 (length y)) as
            (λ _. 65536 < length y) [
              | inl more ↦ more
              | inr le ↦ let e : length y ≡ 65536 = omega arith
                  in absurd (not_full e)
            ])),
      );
      passed = λ few.
          let v = old.passed (omega arith) in
          let taken = t.taken (entry_owner x) y old.ready v.count v.owners v.kept in
          record {
            count = t.count ∙ (let k = v.count in omega arith);
            owners = taken.0;
            kept = taken.1;
            slots = all_more IsSlot y z v.slots c.is_slot.ensures;
            bad = subst (λ n. FirstBelow (λ j. is_clean (slice_index_or (y ++ z ∷ []) j []) ≡ false) n c.first_of-self.result) (sym l)
                (subst (FirstBelow (λ j. is_clean (slice_index_or (y ++ z ∷ []) j []) ≡ false) (suc (length y)))
                (sym (c.first_of-self.ensures ∙ ap (λ b. first_of second.bad (not b) second.walk.count) c.clean.ensures
                ∙ ap (first_of second.bad (not (is_clean z))) v.count))
                (below_more (λ j. is_clean (slice_index_or (y ++ z ∷ []) j []) ≡ false) (length y) (not (is_clean z))
                (let e = ap is_clean (index_last y z) in ((λ h. e ∙ not-true (is_clean z) h), (λ h. not_from_false (is_clean z) (sym e ∙ h))))
                second.bad
                (below_same (λ j. is_clean (slice_index_or y j []) ≡ false) (λ j. is_clean (slice_index_or (y ++ z ∷ []) j []) ≡ false) (length y)
                (λ j lt. let e = ap is_clean (index_before y z j lt) in ((λ h. e ∙ h), (λ h. sym e ∙ h))) second.bad v.bad)));
          };
    }
