use Rattle.std.proofs.Common.{◌≡◌, ◌||◌, List, [], ◌∷◌, map, refl, ap, ◌∙◌, rules, tests}
use Rattle.std.specs.List.{list_any}
use Rattle.std.proofs.lemmas.Iterator.{YieldsList-from_slice}
use Rattle.std.proofs.lemmas.Iterator.Search.{any_from_yields_List}
use Rattle.rv_shorten.specs.View.{short_object_of}
use Rattle.rv_shorten.specs.declared.object.ShortObject.{ShortObject}
use Rattle.rv_link.proofs.passes.has_compressed.Goals as goal

as_objects : (os : List ShortObject) → list_any (λ o. o.whole.now.rvc) os ≡ list_any (λ o. o.rvc) (map short_object_of os)
as_objects [] = refl
as_objects (o ∷ os) = ap (λ b. o.whole.now.rvc || b) (as_objects os)

pub returns : goal.returns
returns c =
    let objects = c.args.objects.now in
    any_from_yields_List (λ o. o.whole.now.rvc) _ _ c.any.result c.any.ensures.ran (YieldsList-from_slice objects cc) (λ x b q k. search (rules, tests))
    ∙ as_objects objects
