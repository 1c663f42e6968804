use Rattle.std.proofs.Common.{◌≡◌, ◌≤◌, ◌-◌, false, length, drop}
use Rattle.arrayvec.specs.ArrayVec.{array_vec_len}
use Rattle.ttx_author.specs.Marks.{marks_from, marks_of}
use Rattle.ttx_author.specs.Rows.{codes_of, continued_line}
use Rattle.ttx_author.proofs.rows.line_of.Given as goal

-- the codes so far and those of the rest of the text are those of the text
abbrev pub invariant-loop-at : goal.invariant-loop-at
invariant-loop-at l = record {
  inside : l.at ≤ length l.text;
  room : array_vec_len l.line.codes ≤ l.width;
  so_far : continued_line l.width l.option l.line (marks_from 0 l.at (drop l.at l.text)) ≡ codes_of l.option false l.width (marks_of l.text);
}

abbrev pub decreases-loop-at : goal.decreases-loop-at
decreases-loop-at l = length l.initial.text - l.at
