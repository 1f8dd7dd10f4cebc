use Rattle.std.proofs.Common.{◌≡◌, ◌+◌, true, false, Some, None, map, option_map, ap, sym, ◌∙◌}
use Rattle.std.specs.Prelude.{option_and_then, if◌then◌else◌}
use Rattle.rv_object_types.specs.View.{object_of}
use Rattle.rv_link_laws.specs.Names.{Export, is_sure, is_sure_by, place_in, shared_place}
use Rattle.rv_names.specs.Chosen.{definer}
use Rattle.rv_names.specs.Names.{exported_of}
use Rattle.rv_names.proofs.ChosenLemmas.{chosen_at, chosen_none}
use Rattle.rv_names.proofs.names.Names.place_of.Goals as goal

pub returns-then-is_sure : goal.returns-then-is_sure
returns-then-is_sure c = λ o s h here there binding same.
    let sure : is_sure s ≡ true = ap (λ b. is_sure_by b s.definition) binding ∙ ap (is_sure_by c.args.binding) same ∙ sym c.is_sure.ensures ∙ c.if-is_sure.true in
    c.placed.ensures
    ∙ sym (ap (λ b. if b then place_in (c.args.file.0 + 1) s.definition else shared_place (map object_of c.args.objects.now) s.name) sure ∙ ap (place_in (c.args.file.0 + 1)) same)

pub returns-in-Some : goal.returns-in-Some
returns-in-Some c = λ o s h here there binding same.
    let os = map object_of c.args.objects.now in
    let x = c.in-Some.exported in
    let unsure : is_sure s ≡ false = ap (λ b. is_sure_by b s.definition) binding ∙ ap (is_sure_by c.args.binding) same ∙ sym c.is_sure.ensures ∙ c.if-is_sure.false in
    let found : option_map exported_of (definer os s.name) ≡ Some x =
    sym (c.outside.ensures os o s h here there unsure) ∙ c.in-Some.is in
    let at = chosen_at os s.name x found in
    c.place_at.ensures at.0 at.2
    ∙ sym
    (ap (λ b. if b then place_in (c.args.file.0 + 1) s.definition else shared_place os s.name) unsure
    ∙ ap (option_and_then (λ (e : Export). place_in e.file e.symbol.definition)) at.1)

pub returns-in-None : goal.returns-in-None
returns-in-None c = λ o s h here there binding same.
    let os = map object_of c.args.objects.now in
    let unsure : is_sure s ≡ false = ap (λ b. is_sure_by b s.definition) binding ∙ ap (is_sure_by c.args.binding) same ∙ sym c.is_sure.ensures ∙ c.if-is_sure.false in
    let none : option_map exported_of (definer os s.name) ≡ None =
    sym (c.outside.ensures os o s h here there unsure) ∙ c.in-None.is in
    sym
    (ap (λ b. if b then place_in (c.args.file.0 + 1) s.definition else shared_place os s.name) unsure
    ∙ ap (option_and_then (λ (e : Export). place_in e.file e.symbol.definition)) (chosen_none os s.name none))
