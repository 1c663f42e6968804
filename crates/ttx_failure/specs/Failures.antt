-- A failing reception in sentences and as a picture.
--
--   failure_lines           what happened, and what differs
--   failure_text            the same in a form, with the page as authored beside what the receiver shows
use Rattle.std.specs.Prelude.{ℕ, List, ◌++◌, codes}
use Rattle.ttx_counter.specs.Counters.{CounterRun}
use Rattle.ttx_counter.specs.declared.taken_choices.Taken.{Taken}
use Rattle.ttx_document.specs.Frames.{start_html, style, body_html, end_html}
use Rattle.ttx_failure.specs.Beside.{beside_text}
use Rattle.ttx_failure.specs.Figures.{figures_style, figures_html}
use Rattle.ttx_failure.specs.Sentences.{line, sentences}
use Rattle.ttx_failure.specs.Unlike.{unlike_text}
use Rattle.ttx_failure.specs.declared.forms.FailureForm.{FailureForm}
use Rattle.ttx_failure.specs.declared.forms.FailureForm.TheVariants.{Text, Html}
use Rattle.ttx_header.specs.Ids.{Id}
use Rattle.ttx_page.specs.Memories.{Memory, memory_of_page}
use Rattle.ttx_page.specs.Pages.{Page}
use Rattle.ttx_picture.specs.Html.{sheet}
use Rattle.ttx_render.specs.View.{Screen, view_of}

unfoldable pub head_html : List ℕ
head_html = start_html (codes "A receiver that fails") ++ sheet ++ style ++ figures_style ++ body_html (codes "A receiver that fails")

unfoldable pub failure_lines : FailureForm → Id → List (List ℕ) → CounterRun → List Taken → Screen → Screen → List ℕ
failure_lines form id slots c taken shown own = sentences form id slots c taken ++ line form (unlike_text shown own)

unfoldable pub failure_of : FailureForm → Id → List (List ℕ) → CounterRun → List Taken → Screen → Screen → List ℕ
failure_of Text id slots c taken shown own = failure_lines Text id slots c taken shown own ++ beside_text shown own
failure_of Html id slots c taken shown own = head_html ++ failure_lines Html id slots c taken shown own ++ figures_html shown own ++ end_html

-- of a cycle, a page of it, a counter-run, the choices that its receiver takes, and what it holds then
abbrev pub failure_text : FailureForm → List (List ℕ) → Page → CounterRun → List Taken → Memory → List ℕ
failure_text form slots p c taken m = failure_of form p.id slots c taken (view_of m) (view_of (memory_of_page p))
