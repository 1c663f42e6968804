use Rattle.std.proofs.Common.{◌≡◌, true, false, rules}
use Rattle.ttx_page.proofs.PageRules.{PassesAsPage, IsPage_from_passes, passes_from_IsPage}
use Rattle.ttx_page.proofs.Targets.{each_target}
use Rattle.ttx_page.proofs.page.Page.new.Goals as goal
use Rattle.ttx_page.proofs.page.Page.new.Goals.{else-is_page_id-via-then-is_page_id+then-is_page_control+then-is_head+else-are_rows}
use Rattle.ttx_page.proofs.page.Page.new.Goals.{else-is_page_id-via-then-is_page_id+then-is_page_control+else-is_head}
use Rattle.ttx_page.proofs.page.Page.new.Goals.{else-is_page_id-via-then-is_page_id+else-is_page_control, else-is_page_id-via-else-is_page_id}

pub invariant_of-result : goal.invariant_of-result
invariant_of-result c = record {
  kept = IsPage_from_passes _ _ _ _ _ _ c.is_page_id.ensures.ranges c.is_head.ensures.length c.are_rows.ensures.count
      (record {
        filling = c.is_page_id.ensures.not_filling.0 (search rules);
        control = c.is_page_control.ensures.0 (search rules);
        head = c.is_head.ensures.codes.0 (search rules);
        rows = c.are_rows.ensures.rows.0 (search rules);
      });
  linked = record { six = c.six-six.ensures.ranges.six; crc = c.six-six.ensures.ranges.crc; targets = each_target _ c.links_lead_to_targets.ensures };
}

pub returns-else-is_page_id-clause-some : goal.returns-else-is_page_id-clause-some
returns-else-is_page_id-clause-some c = (λ e. cc, λ p. refuted (passes_from_IsPage _ _ _ _ _ _ p))
  where
    refuted : PassesAsPage c.args.id c.args.control.0 c.args.head c.args.rows → false ≡ true
    refuted t = elim c.else-is_page_id.branch as (λ _. false ≡ true) [
      | else-is_page_id-via-then-is_page_id+then-is_page_control+then-is_head+else-are_rows w ↦ let e = w.are_rows.ensures.rows.1 t.rows
          in search rules
      | else-is_page_id-via-then-is_page_id+then-is_page_control+else-is_head w ↦ let e = w.is_head.ensures.codes.1 t.head in search rules
      | else-is_page_id-via-then-is_page_id+else-is_page_control w ↦ let e = w.is_page_control.ensures.1 t.control in search rules
      | else-is_page_id-via-else-is_page_id w ↦ let e = c.is_page_id.ensures.not_filling.1 t.filling in search rules
    ]
