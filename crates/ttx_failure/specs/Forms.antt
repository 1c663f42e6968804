-- Lines and lists of a text, and of HTML.
use Rattle.std.specs.Prelude.{ℕ, List, [], ◌∷◌, codes}
use Rattle.ttx_failure.specs.declared.forms.FailureForm.{FailureForm}
use Rattle.ttx_failure.specs.declared.forms.FailureForm.TheVariants.{Text, Html}

unfoldable pub line_start : FailureForm → List ℕ
line_start Text = []
line_start Html = codes "<p>"

unfoldable pub line_end : FailureForm → List ℕ
line_end Text = 10 ∷ []
line_end Html = codes "</p>\n"

unfoldable pub list_start : FailureForm → List ℕ
list_start Text = []
list_start Html = codes "<ul>\n"

unfoldable pub list_end : FailureForm → List ℕ
list_end Text = []
list_end Html = codes "</ul>\n"

unfoldable pub item_start : FailureForm → List ℕ
item_start Text = codes "  "
item_start Html = codes "<li>"

unfoldable pub item_end : FailureForm → List ℕ
item_end Text = 10 ∷ []
item_end Html = codes "</li>\n"
