use Rattle.std.proofs.Common.{◌≡◌, ℕ, ◌∷◌, [], Bool, true, false, cond, length, refl, ap, arith}
use Rattle.std.proofs.lemmas.List.{length-append}
use Rattle.ttx_page.specs.declared.item.Item.TheVariants.{Links as TheLinks}
use Rattle.ttx_page.specs.Views.{page_of}
use Rattle.ttx_plan.specs.Contents.{is_sent_to, page_links_bytes, sent_rows}
use Rattle.ttx_plan.proofs.SubpageLists.{as_number}
use Rattle.ttx_plan.proofs.block.block_length.Goals as goal

pub returns-clause-length : goal.returns-clause-length
returns-clause-length c =
    let page = page_of c.args.page.now in
    let last : c.loop-above.above ≡ 24 = omega arith in
    let links = as_number c.from.result c.are_links_sent_to.result (is_sent_to c.args.class page TheLinks) c.from.ensures
    c.are_links_sent_to.ensures in
    omega (
      arith,
      c.loop-above.invariant.count,
      ap (λ n. length (sent_rows c.args.class page n)) last,
      links,
      one (is_sent_to c.args.class page TheLinks),
      length-append (sent_rows c.args.class page 24) (cond (is_sent_to c.args.class page TheLinks) (page_links_bytes page ∷ []) []),
    )
  where
    one : (b : Bool) → length (cond b (page_links_bytes (page_of c.args.page.now) ∷ []) []) ≡ cond {A = ℕ} b 1 0
    one true = refl
    one false = refl
