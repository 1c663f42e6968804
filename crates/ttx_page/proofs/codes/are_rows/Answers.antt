use Rattle.std.proofs.Common.{◌≡◌, ◌<◌, ℕ, get_or, subst, sym}
use Rattle.ttx_page.proofs.JoinedRows.{codes_of_joined, codes_in_joined}
use Rattle.ttx_page.proofs.codes.are_rows.Goals as goal

pub returns-clause-rows : goal.returns-clause-rows
returns-clause-rows g c =
    let rows = c.args.rows.now in
    let long = c.told-rows in
    let flat = c.as_flattened.ensures.value in (
      λ plain r within. record {
        length = c.know_lengths.ensures r within;
        codes = codes_in_joined rows (λ k. subst (λ all. get_or all k 0 < 128) flat (c.are_codes.ensures.0 plain k)) r
            (subst (λ n. r < n) (sym long) within);
      },
      λ are. c.are_codes.ensures.1 (λ k. subst (λ all. get_or all k 0 < 128) (sym flat)
          (codes_of_joined rows (λ r within. are r (subst (λ n. r < n) long within)) k)),
    )
