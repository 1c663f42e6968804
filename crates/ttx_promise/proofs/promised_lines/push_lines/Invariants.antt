use Rattle.std.proofs.Common.{◌≡◌, ◌++◌, drop, string_bytes}
use Rattle.ttx_promise.specs.PromisedLines.{pages_text}
use Rattle.ttx_promise.proofs.promised_lines.push_lines.Given as goal

abbrev pub invariant-loop-one : goal.invariant-loop-one
invariant-loop-one l = string_bytes l.text ++ pages_text (drop l.one-index l.all) ≡ string_bytes l.initial.text ++ pages_text l.all
