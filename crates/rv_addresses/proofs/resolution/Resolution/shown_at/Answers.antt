use Rattle.std.proofs.Common.{◌≡◌, ◌+◌, true, false, Some, None, map, sym, ap, ◌∙◌}
use Rattle.std.specs.List.{slice_get}
use Rattle.rv_object_laws.specs.Object.{Object}
use Rattle.rv_link_laws.specs.Names.{defined_address}
use Rattle.rv_placement.specs.Placement.{starts_of}
use Rattle.rv_shorten.specs.View.{moves_by_section, short_object_of}
use Rattle.rv_addresses.specs.Moved.{moved_in}
use Rattle.rv_addresses.specs.Shown.{is_chosen_at, listed}
use Rattle.rv_addresses.proofs.AddingLemmas.{none_shown, one_shown}
use Rattle.rv_addresses.proofs.CutsLemmas.{object_is, symbol_is}
use Rattle.rv_addresses.proofs.resolution.Resolution.shown_at.Goals as goal

pub returns-then-not-is_chosen-clause-shown : goal.returns-then-not-is_chosen-clause-shown
returns-then-not-is_chosen-clause-shown c = λ bounds o s stands at there.
    let os = map short_object_of c.args.self.now.objects.now in
    let x = c.in_ok-object.object.now in
    let file = c.in_ok-object.ensures.lookup in
    let found = c.in_ok-symbol.ensures.lookup in
    let same = object_is c.args.self.now.objects.now c.args.file.0 x o file.3.0 file.1 at in
    let one : moved_in x c.in_ok-symbol.symbol.now ≡ s =
    symbol_is x c.deref.result.now c.args.index.0 c.deref.ensures.value c.in_ok-symbol.symbol.now s found.3.0 found.1 (ap (λ (p : Object). slice_get p.symbols c.args.index.0) same ∙ there) in
    let moved : slice_get o.symbols c.args.index.0 ≡ Some (moved_in x c.in_ok-symbol.symbol.now) = there ∙ ap Some (sym one) in
    let other : is_chosen_at os c.args.file.0 o c.args.index.0 s ≡ false =
    ap (is_chosen_at os c.args.file.0 o c.args.index.0) (sym one) ∙ sym (c.is_chosen.ensures.chosen o (moves_by_section x) at moved) ∙ c.if-not-is_chosen.true in
    sym (none_shown os c.args.placement.now c.args.file.0 o c.args.index.0 s other)

pub returns-in_err-address-clause-shown : goal.returns-in_err-address-clause-shown
returns-in_err-address-clause-shown c = λ bounds o s stands at there.
    let os = map short_object_of c.args.self.now.objects.now in
    let p = c.args.placement.now in
    let x = c.in_ok-object.object.now in
    let file = c.in_ok-object.ensures.lookup in
    let found = c.in_ok-symbol.ensures.lookup in
    let same = object_is c.args.self.now.objects.now c.args.file.0 x o file.3.0 file.1 at in
    let own = moved_in x c.in_ok-symbol.symbol.now in
    let one : own ≡ s =
    symbol_is x c.deref.result.now c.args.index.0 c.deref.ensures.value c.in_ok-symbol.symbol.now s found.3.0 found.1 (ap (λ (p : Object). slice_get p.symbols c.args.index.0) same ∙ there) in
    let moved : slice_get o.symbols c.args.index.0 ≡ Some own = there ∙ ap Some (sym one) in
    let it : is_chosen_at os c.args.file.0 o c.args.index.0 own ≡ true = sym (c.is_chosen.ensures.chosen o (moves_by_section x) at moved) ∙ c.if-not-is_chosen.false in
    let address : None ≡ defined_address (starts_of p (c.args.file.0 + 1)) o own.definition =
    c.in_err-address.ensures bounds o stands at ∙ ap (defined_address (starts_of p (c.args.file.0 + 1)) o) c.definition-definition.ensures in
    ap listed c.from_residual-in_err-address.ensures ∙ one_shown os p c.args.file.0 o c.args.index.0 own s None it address one

pub returns-clause-shown : goal.returns-clause-shown
returns-clause-shown c = λ bounds o s stands at there.
    let os = map short_object_of c.args.self.now.objects.now in
    let p = c.args.placement.now in
    let x = c.in_ok-object.object.now in
    let file = c.in_ok-object.ensures.lookup in
    let found = c.in_ok-symbol.ensures.lookup in
    let same = object_is c.args.self.now.objects.now c.args.file.0 x o file.3.0 file.1 at in
    let own = moved_in x c.in_ok-symbol.symbol.now in
    let one : own ≡ s =
    symbol_is x c.deref.result.now c.args.index.0 c.deref.ensures.value c.in_ok-symbol.symbol.now s found.3.0 found.1 (ap (λ (p : Object). slice_get p.symbols c.args.index.0) same ∙ there) in
    let moved : slice_get o.symbols c.args.index.0 ≡ Some own = there ∙ ap Some (sym one) in
    let it : is_chosen_at os c.args.file.0 o c.args.index.0 own ≡ true = sym (c.is_chosen.ensures.chosen o (moves_by_section x) at moved) ∙ c.if-not-is_chosen.false in
    let address : Some c.in_ok-address.address ≡ defined_address (starts_of p (c.args.file.0 + 1)) o own.definition =
    c.in_ok-address.ensures bounds o stands at ∙ ap (defined_address (starts_of p (c.args.file.0 + 1)) o) c.definition-definition.ensures in
    one_shown os p c.args.file.0 o c.args.index.0 own s (Some c.in_ok-address.address) it address one
