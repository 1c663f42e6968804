use Rattle.std.proofs.Common.{◌≡◌, length, map, slice_get, subst, sym, ap, ◌∙◌, inl, inr, arith}
use Rattle.std.proofs.lemmas.Bool.{both_ways, cases_lt}
use Rattle.std.proofs.lemmas.List.{length-map}
use Rattle.std.proofs.lemmas.Option.{slice_get_within}
use Rattle.ttx_cycle.specs.Cycles.{slots_of}
use Rattle.ttx_page.specs.Streams.{joined}
use Rattle.ttx_page.specs.Views.{page_of}
use Rattle.ttx_certify.proofs.PageByPage.{page_at, same_page}
use Rattle.ttx_playout.specs.LateSchedules.{IsFollowedAcross}
use Rattle.ttx_playout.proofs.unfollowed_pages.first_unfollowed.Goals as goal

pub returns-then-not-is_followed_across : goal.returns-then-not-is_followed_across
returns-then-not-is_followed_across c =
    let p = c.index-pages-index.result in
    let s = joined (slots_of c.args.old.now) (slots_of c.args.new.now) in
    record {
      index = c.loop-index.index;
      first = page_of p;
      listed = page_at c.args.pages.now c.loop-index.index p c.loop-index-test.true c.index-pages-index.is;
      is = sym c.id-page.ensures;
      here = subst (λ id. IsFollowedAcross s id c.args.gap → ⊥) c.id-page.ensures
          (λ across. both_ways _ c.if-not-is_followed_across.true (c.is_followed_across.ensures.1 across));
      none_before = c.loop-index.invariant;
    }

pub loop-index-preserved : goal.loop-index-preserved
loop-index-preserved c = λ i q lt listed.
    let p = c.index-pages-index.result in
    let s = joined (slots_of c.args.old.now) (slots_of c.args.new.now) in
    elim (cases_lt i c.loop-index.index) as (λ _. IsFollowedAcross s q.id c.args.gap) [
      | inl before ↦ c.loop-index.invariant i q before listed
      | inr ge ↦
          let e : c.loop-index.index ≡ i = omega arith in
          let there = page_at c.args.pages.now c.loop-index.index p c.loop-index-test.true c.index-pages-index.is in
          let same = same_page (page_of p) q (ap (λ n. slice_get (map page_of c.args.pages.now) n) (sym e) ∙ there) listed in
          subst (λ id. IsFollowedAcross s id c.args.gap) (c.id-page.ensures ∙ ap (λ x. x.id) same)
          (c.is_followed_across.ensures.0 c.if-not-is_followed_across.false)
    ]

pub returns : goal.returns
returns c = λ n p listed.
    let size = length-map c.args.pages.now page_of in
    let inside = slice_get_within (map page_of c.args.pages.now) n p listed in
    let test = c.loop-index-test.false in
    c.loop-index.invariant n p (omega arith) listed
