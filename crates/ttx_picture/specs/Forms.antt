-- A View in each form.
use Rattle.std.specs.Prelude.{ℕ, Bool, List}
use Rattle.ttx_render.specs.View.{Screen}
use Rattle.ttx_picture.specs.declared.forms.Form.{Form}
use Rattle.ttx_picture.specs.declared.forms.Form.TheVariants.{Text, Ansi, Blocks, Svg, Html}
use Rattle.ttx_picture.specs.Text.{text_of}
use Rattle.ttx_picture.specs.Ansi.{ansi_of, blocks_of}
use Rattle.ttx_picture.specs.Svg.{svg_of}
use Rattle.ttx_picture.specs.Html.{html_of}

unfoldable pub picture_of : Form → Bool → Screen → List ℕ
picture_of Text reveal view = text_of reveal view
picture_of Ansi reveal view = ansi_of reveal view
picture_of Blocks reveal view = blocks_of reveal view
picture_of Svg reveal view = svg_of reveal view
picture_of Html reveal view = html_of reveal view
