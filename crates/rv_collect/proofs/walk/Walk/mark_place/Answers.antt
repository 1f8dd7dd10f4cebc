use Rattle.std.proofs.Common.{◌∙◌, map, option_map, ap, sym, subst}
use Rattle.rv_object_types.specs.Places.{place_of}
use Rattle.rv_object_types.specs.View.{object_of}
use Rattle.rv_link_laws.specs.Collects.{lies_in}
use Rattle.rv_collect.specs.Drops.{id_at}
use Rattle.rv_collect.specs.Walk.{IsMarked}
use Rattle.rv_collect.proofs.WalkLemmas.{place_lies, lies_one}
use Rattle.rv_collect.proofs.walk.Walk.mark_place.Goals as goal

pub mark-requires-clause-reached : goal.mark-requires-clause-reached
mark-requires-clause-reached c =
    let t = id_at c.in-Some.place.file.0 c.in-Some.place.section.0 in
    c.requires.reached t (ap (λ p. lies_in t (option_map place_of p)) c.in-Some.is ∙ place_lies c.in-Some.place)

pub returns-clause-marked : goal.returns-clause-marked
returns-clause-marked c = λ t lies.
    let same = lies_one t c.in-Some.place (sym (ap (λ p. lies_in t (option_map place_of p)) c.in-Some.is) ∙ lies) in
    subst (IsMarked (map object_of c.args.objects.now) c.mark.new.self) (sym same) c.in_ok-mark.ensures.marked
