use Rattle.ttx_picture.proofs.Controls.{forms_have_no_controls_lem}
use Rattle.ttx_picture.proofs.laws.forms_have_no_controls.Goals as goal

pub returns : goal.returns
returns c = forms_have_no_controls_lem
