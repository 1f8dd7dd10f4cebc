use Rattle.std.proofs.Common.{◌≡◌, true, false, Some, None, map, rules, ap, sym, ◌∙◌}
use Rattle.std.specs.Prelude.{if◌then◌else◌}
use Rattle.std.specs.List.{slice_get}
use Rattle.rv_shorten.specs.View.{moves_by_section, short_object_of}
use Rattle.rv_addresses.specs.Moved.{moved_in}
use Rattle.rv_link_laws.specs.Undefined.{is_resolved, undefined_name, undefined_symbol}
use Rattle.rv_addresses.proofs.CutsLemmas.{symbol_there, symbol_past}
use Rattle.rv_addresses.proofs.resolution.Resolution.undefined_name.Goals as goal

pub returns-then-is_resolved : goal.returns-then-is_resolved
returns-then-is_resolved c = λ at.
    let os = map short_object_of c.args.self.now.objects.now in
    let x = c.args.object.now in
    let o = short_object_of x in
    let i = c.in_ok-index.index in
    let s = moved_in x c.in-Some.symbol.now in
    let is : c.args.relocation.now.symbol ≡ Some i = search rules in
    let found = c.in-Some.ensures.lookup in
    let there : slice_get o.symbols i ≡ Some s = symbol_there x c.deref.result.now i c.deref.ensures.value c.in-Some.symbol.now found.3.0 found.1 in
    let resolved : is_resolved os o s ≡ true = sym (c.is_resolved.ensures o (moves_by_section x) at there) ∙ c.if-is_resolved.true in
    sym (ap (undefined_name os o) is ∙ ap (undefined_symbol os o) there ∙ ap (λ b. if b then None else Some s.name) resolved)

pub returns-else-is_resolved : goal.returns-else-is_resolved
returns-else-is_resolved c = λ at.
    let os = map short_object_of c.args.self.now.objects.now in
    let x = c.args.object.now in
    let o = short_object_of x in
    let i = c.in_ok-index.index in
    let s = moved_in x c.in-Some.symbol.now in
    let is : c.args.relocation.now.symbol ≡ Some i = search rules in
    let found = c.in-Some.ensures.lookup in
    let there : slice_get o.symbols i ≡ Some s = symbol_there x c.deref.result.now i c.deref.ensures.value c.in-Some.symbol.now found.3.0 found.1 in
    let resolved : is_resolved os o s ≡ false = sym (c.is_resolved.ensures o (moves_by_section x) at there) ∙ c.if-is_resolved.false in
    sym (ap (undefined_name os o) is ∙ ap (undefined_symbol os o) there ∙ ap (λ b. if b then None else Some s.name) resolved)

pub returns-in-None : goal.returns-in-None
returns-in-None c = λ at.
    let os = map short_object_of c.args.self.now.objects.now in
    let x = c.args.object.now in
    let o = short_object_of x in
    let i = c.in_ok-index.index in
    let is : c.args.relocation.now.symbol ≡ Some i = search rules in
    let there : slice_get o.symbols i ≡ None = symbol_past x c.deref.result.now i c.deref.ensures.value c.in-None.ensures.lookup.3 in
    ap Some c.as_slice.ensures ∙ sym (ap (undefined_name os o) is ∙ ap (undefined_symbol os o) there)
