use Rattle.std.proofs.Common.{◌∙◌, ◌+◌, sym, arith}
use Rattle.toml.specs.declared.value.Value.{Value}
use Rattle.ttx_desk.proofs.PageItems.{mistakes-more, mistakes-end, values-more}
use Rattle.ttx_desk.proofs.translation.page_values.Goals as goal

pub loop-index-preserved : goal.loop-index-preserved
loop-index-preserved c =
    let value : Value = c.index-values-index.result in
    record {
      values =
          values-more c.loop-index.index c.args.values.now c.loop-index.out.items c.push.new.self.items value c.in_ok-page_value.field-0 (omega arith)
          (sym c.index-values-index.is) c.in_ok-push.ensures.items c.in_ok-page_value.ensures.value c.loop-index.invariant.values;
      noted =
          mistakes-more (c.loop-index.index + 1) c.loop-index.index c.args.values.now value c.loop-index.mistakes.items c.page_value.new.mistakes.items
          (omega arith) (sym c.index-values-index.is) c.in_ok-page_value.ensures.mistakes
          ∙ c.loop-index.invariant.noted;
    }

pub returns-clause-mistakes : goal.returns-clause-mistakes
returns-clause-mistakes c =
    sym (mistakes-end (c.loop-index.index + 1) c.loop-index.index c.args.values.now c.loop-index.mistakes.items (omega arith)) ∙ c.loop-index.invariant.noted
