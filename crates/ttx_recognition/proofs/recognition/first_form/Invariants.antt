use Rattle.std.proofs.Common.{◌≡◌, ℕ, ◌<◌, false}
use Rattle.ttx_recognition.specs.Forms.{fits, form_at}
use Rattle.ttx_recognition.proofs.recognition.first_form.Given as goal

abbrev pub invariant-loop-n : goal.invariant-loop-n
invariant-loop-n l = (m : ℕ) → m < l.n → fits (form_at m) l.bytes ≡ false
