use Rattle.std.proofs.Common.{◌≡◌, ℕ, List, IfOk, subst, sym, ◌∙◌}
use Rattle.std.specs.List.{find}
use Rattle.ttx_pages.specs.Keys.{is_header_of}
use Rattle.ttx_pages.proofs.Rising.{all_lists}
use Rattle.ttx_pages.proofs.firsts.page_headers.Goals as goal

pub returns : goal.returns
returns c =
    let same = all_lists (λ key. find (is_header_of key) c.args.slots.now) 37748736 c.in_ok-firsts.firsts.entries c.headers_of.ensures.ordered
    (record {
      same = λ q low. sym (c.in_ok-firsts.ensures.first q);
      bound = λ q slot e.
          c.in_ok-firsts.ensures.pages q slot (c.in_ok-firsts.ensures.first q ∙ e);
    }) in
    subst (λ (hs : List (List ℕ)). IfOk c.headers_of.result (λ headers. headers.items ≡ hs)) same c.headers_of.ensures.values
