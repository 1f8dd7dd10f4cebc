use Rattle.std.proofs.Common.{[], ◌∷◌, ◌++◌, map, sym, ap, ◌∙◌}
use Rattle.std.proofs.lemmas.List.{map_push}
use Rattle.rv_object_types.specs.Parts.{relocation_of}
use Rattle.rv_shorten.specs.Sections.{moves_in}
use Rattle.rv_relax.proofs.MovedLemmas.{not_put, one_put}
use Rattle.rv_relax.proofs.alignments.put.Goals as goal

pub returns-then-not-has_padding : goal.returns-then-not-has_padding
returns-then-not-has_padding c =
    not_put (moves_in c.args.section.now) (relocation_of c.args.relocation.now) (map relocation_of c.args.found.now.items) (sym c.has_padding.ensures ∙ c.if-not-has_padding.true)

pub returns : goal.returns
returns c =
    let found = c.args.found.now.items in
    ap (map relocation_of) c.in_ok-push.ensures.items ∙ map_push relocation_of found c.relocation.result
    ∙ ap (λ r. map relocation_of found ++ r ∷ []) c.relocation.ensures
    ∙ one_put (moves_in c.args.section.now) (relocation_of c.args.relocation.now) (map relocation_of found) (sym c.has_padding.ensures ∙ c.if-not-has_padding.false)
