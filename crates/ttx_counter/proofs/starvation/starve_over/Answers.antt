use Rattle.std.proofs.Common.{◌≡◌, ◌∙◌, ◌+◌, ◌%◌, ◌∷◌, ◌++◌, [], if◌then◌else◌, pos, ◌+ℤ◌, length, ap, get_or}
use Rattle.ttx_page.specs.Streams.{repeated}
use Rattle.ttx_page.specs.Views.{memory_of}
use Rattle.ttx_cycle.specs.Cycles.{slots_of}
use Rattle.ttx_counter.proofs.StarvingStep.{slot_of_run, memory_begins, hits_begin, choices_begin, memory_more, hits_more, choices_more}
use Rattle.ttx_counter.proofs.starvation.starve_over.Goals as goal

pub loop-i-init : goal.loop-i-init
loop-i-init c =
    let s = repeated (slots_of c.args.cycle.now) in
    let former = memory_of c.args.receiver.now.former in
    record {
      memory = memory_begins c.args.receiver.now.lines c.args.receiver.now.selection c.args.receiver.now.item.now s (pos c.args.start) former;
      hits = hits_begin c.args.receiver.now.lines c.args.receiver.now.selection c.args.receiver.now.item.now s
          (pos c.args.start) former c.new-hits.result.items c.new-hits.ensures.items;
      choices = choices_begin c.args.receiver.now.lines c.args.receiver.now.selection c.args.receiver.now.item.now s
          (pos c.args.start) former c.new-choices.result.items c.new-choices.ensures.items;
    }

pub loop-i-preserved : goal.loop-i-preserved
loop-i-preserved c =
    let s = repeated (slots_of c.args.cycle.now) in
    let former = memory_of c.args.receiver.now.former in
    let list = c.slots-list.result.now in
    let i = c.loop-i.i in
    let m = memory_of c.loop-i.memory in
    let slot = get_or list c.place.result [] in
    let at : c.place.result ≡ (c.args.start + i) % length (slots_of c.args.cycle.now) = c.place.ensures.value
    ∙ ap (λ x. (c.args.start + i) % length x) c.slots-list.ensures.slots in
    let sent : slot ≡ s (pos c.args.start +ℤ pos i) = ap (λ x. get_or x c.place.result []) c.slots-list.ensures.slots
    ∙ slot_of_run (slots_of c.args.cycle.now) c.args.start i c.place.result at in
    let v = c.loop-i.invariant in
    record {
      memory = memory_more c.args.receiver.now.lines c.args.receiver.now.selection c.args.receiver.now.item.now s
          (pos c.args.start) former i m slot v.memory sent (memory_of c.starve-step.new.memory) c.starve-step.ensures.memory;
      hits = hits_more c.args.receiver.now.lines c.args.receiver.now.selection c.args.receiver.now.item.now s
          (pos c.args.start) former i m slot v.memory sent c.loop-i.hits.items c.keep_hit.new.hits.items c.starve-step.result.0
          v.hits c.starve-step.ensures.hit
          (c.in_ok-keep_hit.ensures ∙ ap
          (λ b. if c.starve-step.result.0 then c.loop-i.hits.items ++ record { index = i; byte = b; bit = 1 } ∷ []
          else c.loop-i.hits.items) c.first_byte_of-byte.ensures.value);
      choices = choices_more c.args.receiver.now.lines c.args.receiver.now.selection c.args.receiver.now.item.now s
          (pos c.args.start) former i m slot v.memory sent c.loop-i.choices.items c.keep_choice.new.choices.items
          c.starve-step.result.1 v.choices c.starve-step.ensures.choice
          c.in_ok-keep_choice.ensures;
    }
