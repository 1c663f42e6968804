use Rattle.std.proofs.Common.{◌≡◌, ℕ, pos, ◌-ℤ◌, ◌-◌, ◌<◌, List, length, get_or, slice_get, option_map, Some, None, refl, sym, ap, ◌∙◌, subst, arith}
use Rattle.std.proofs.Common.{below_more}
use Rattle.std.proofs.lemmas.Bool.{false≢true}
use Rattle.std.proofs.lemmas.List.{length-map}
use Rattle.std.proofs.lemmas.Option.{slice_get-map, slice_get-get_or, slice_get_within}
use Rattle.ttx_header.specs.Ids.{Id}
use Rattle.ttx_page.specs.declared.page.Page.{Page as PageValue}
use Rattle.ttx_page.specs.Views.{page_of, ids_of}
use Rattle.ttx_witness.specs.sent.ItemTransmissions.{owner_moved}
use Rattle.ttx_witness.specs.sent.Collected.{seen_by, owner_for}
use Rattle.ttx_witness.proofs.FirstFaults.{placed}
use Rattle.ttx_certify.proofs.walks.returning_owners.are_steady.Goals as goal

id_here : (pages : List PageValue) (i : ℕ) (q : PageValue) → i < length pages → q ≡ get_or pages i q →
    slice_get (ids_of pages) i ≡ Some (page_of q).id
id_here pages i q lt e = slice_get-map (λ p. (page_of p).id) pages i ∙ ap (option_map (λ p. (page_of p).id)) (slice_get-get_or pages i q lt)
    ∙ ap (λ x. Some (page_of x).id) (sym e)

pub returns-then-not-is_later : goal.returns-then-not-is_later
returns-then-not-is_later c =
    let d = pos 0 -ℤ pos c.args.by in let i = c.loop-i.i in let q = c.index-pages-i.result in
    let mag : c.from-mag.result ≡ (page_of q).id.mag = c.from-mag.ensures ∙ c.mag.ensures.value ∙ ap (λ x. x.mag) c.id.ensures in (
      (λ t. absurd (false≢true t)),
      (λ all. sym c.if-not-is_later.true ∙ c.is_later.ensures.1
          (subst (λ m. owner_moved d (seen_by i (get_or c.args.exit.now (m - 1) None)) ≡ seen_by i (get_or c.args.entry.now (m - 1) None)) (sym mag)
          (all i (page_of q).id (id_here c.args.pages.now i q c.loop-i-test.true c.index-pages-i.is)))),
    )

pub loop-i-preserved : goal.loop-i-preserved
loop-i-preserved c =
    let d = pos 0 -ℤ pos c.args.by in let i = c.loop-i.i in let q = c.index-pages-i.result in
    let mag : c.from-mag.result ≡ (page_of q).id.mag = c.from-mag.ensures ∙ c.mag.ensures.value ∙ ap (λ x. x.mag) c.id.ensures in
    let here = id_here c.args.pages.now i q c.loop-i-test.true c.index-pages-i.is in
    record {
      same = λ k id lt at. below_more
          (λ j. (x : Id) → slice_get (ids_of c.args.pages.now) j ≡ Some x →
          owner_moved d (owner_for c.args.exit.now j x) ≡ owner_for c.args.entry.now j x) i
          (λ j below x found. c.loop-i.invariant.same j x below found)
          (λ x found. subst (λ m. owner_moved d (seen_by i (get_or c.args.exit.now (m - 1) None)) ≡ seen_by i (get_or c.args.entry.now (m - 1) None))
          (mag ∙ ap (λ y. y.mag) (placed _ (page_of q).id x here found)) (c.is_later.ensures.0 c.if-not-is_later.false)) k lt id at;
    }

pub returns : goal.returns
returns c = (
  (λ t i id at. c.loop-i.invariant.same i id
      (let within = slice_get_within (ids_of c.args.pages.now) i id at in
      let l = length-map c.args.pages.now (λ p. (page_of p).id) in omega arith) at),
  (λ all. refl),
)
