use Rattle.std.proofs.Common.{rules, ◌≡◌, true, false, None, slice_get, refl, sym, ap, ◌∙◌, inl, inr, arith}
use Rattle.std.proofs.lemmas.Bool.{cases_lt}
use Rattle.std.proofs.lemmas.Option.{slice_get_read, slice_get_within}
use Rattle.ttx_witness.specs.search.Surveys.{survey_slots, survey_pages}
use Rattle.ttx_witness.proofs.lemmas.search.LeastDeadline.{fault_not_unchanged, none_is_steady, clean_all, bad_not_unchanged, is_none_of}
use Rattle.ttx_witness.proofs.search.certificates.is_sent_unchanged.Goals as goal

pub returns-then-is_some : goal.returns-then-is_some
returns-then-is_some c = λ told. (
  (λ t. let h : false ≡ true = t in cc),
  (λ u. absurd (bad_not_unchanged (survey_slots c.args.survey.now)
      (survey_pages c.args.survey.now) _ _ c.bad_slot.result c.bad_slot.ensures (search rules) u)),
)

pub returns-then-is_some-2 : goal.returns-then-is_some-2
returns-then-is_some-2 c = λ told. (
  (λ t. let h : false ≡ true = t in cc),
  (λ u. absurd (fault_not_unchanged (survey_slots c.args.survey.now) (survey_pages c.args.survey.now) c.args.faults.now told
      c.loop-index.index c.index-faults-index.result
      (slice_get_read c.args.faults.now _ c.loop-index.index c.index-faults-index.result refl c.loop-index-test.true c.index-faults-index.is)
      (search rules) u)),
)

pub loop-index-preserved : goal.loop-index-preserved
loop-index-preserved c = record {
  none = λ n fault lt at. elim (cases_lt n c.loop-index.index) as (λ _. fault.reason ≡ None) [
    | inl low ↦ c.loop-index.invariant.none n fault low at
    | inr high ↦
        let last : n ≡ c.loop-index.index = omega arith in
        let read = slice_get_read c.args.faults.now _ c.loop-index.index c.index-faults-index.result refl c.loop-index-test.true
        c.index-faults-index.is in
        let same : c.index-faults-index.result ≡ fault = let e = ap (slice_get c.args.faults.now) last in cc in
        sym (ap (λ f. f.reason) same) ∙ is_none_of c.index-faults-index.result.reason (search rules)
  ];
}

pub returns : goal.returns
returns c = λ told. (
  (λ t. record {
    clean = clean_all (survey_slots c.args.survey.now) _ c.bad_slot.result c.bad_slot.ensures (search rules);
    steady = none_is_steady (survey_slots c.args.survey.now) (survey_pages c.args.survey.now) c.args.faults.now told
        (λ n fault at. c.loop-index.invariant.none n fault
        (let w = slice_get_within c.args.faults.now n fault at in let f = c.loop-index-test.false in omega arith) at);
  }),
  (λ u. refl),
)
