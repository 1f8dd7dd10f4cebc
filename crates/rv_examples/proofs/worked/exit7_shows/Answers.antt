use Rattle.std.proofs.Common.{refl}
use Rattle.std.specs.Fmt.{digits}
use Rattle.rv_map_laws.specs.Text.{head_lines, line_text}
use Rattle.rv_examples.proofs.worked.exit7_shows.Goals as goal

pub returns : goal.returns
unfolding digits head_lines line_text
returns c = refl
