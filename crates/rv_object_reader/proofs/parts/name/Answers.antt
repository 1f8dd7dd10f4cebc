use Rattle.std.proofs.Common.{[], unwrap_or, ap, ◌∙◌}
use Rattle.rv_object_file_laws.specs.Parts.{name_at}
use Rattle.rv_object_reader.proofs.StringsLemmas.{named_in}
use Rattle.rv_object_reader.proofs.parts.name.Goals as goal

pub returns : goal.returns
returns c =
    c.name.ensures ∙ ap (λ t. unwrap_or (name_at t c.args.header.now.sh_name) []) c.requires ∙ named_in c.args.view.now.file.now c.args.header.now
