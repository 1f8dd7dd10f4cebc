use Rattle.std.proofs.Common.{◌≡◌, ℕ, List, [], ◌∷◌, ◌++◌, map, ap, ◌∙◌, append_assoc, arith}
use Rattle.std.specs.Prelude.{◌&&◌, ◌||◌, not, if◌then◌else◌}
use Rattle.std.specs.HashSet.{contains}
use Rattle.rv_object_laws.specs.declared.symbol.Definition.TheVariants.{InSection}
use Rattle.rv_object_laws.specs.Object.{Symbol}
use Rattle.rv_object_types.specs.Parts.{symbol_of}
use Rattle.rv_assemble_laws.specs.Symbols.{local_symbol, named_symbols}
use Rattle.rv_symbols.specs.Source.{tables_of}
use Rattle.rv_symbols.specs.Found.{same_place}
use Rattle.rv_symbols.proofs.own.put_both.Goals as goal

pub returns-clause-symbols : goal.returns-clause-symbols
returns-clause-symbols c = λ laid s h at kind.
    let x = c.args.source.now in
    let old = map symbol_of c.args.symbols.now.items in
    let named = named_symbols (tables_of x) laid s in
    let one : ℕ × ℕ → List Symbol = λ p. if c.args.meant && not (contains same_place c.args.seen.now p) then local_symbol [] (InSection p.0 p.1) ∷ [] else [] in
    c.in_ok-put_name.ensures.symbols laid s h at kind
    ∙ ap (λ l. l ++ named) c.in_ok-put_unnamed.ensures.symbols
    ∙ append_assoc old (one c.here.result) named
    ∙ ap (λ p. old ++ (one p ++ named)) (c.here.ensures laid s h at)

pub returns-clause-seen : goal.returns-clause-seen
returns-clause-seen c = λ laid s h at q.
    c.in_ok-put_unnamed.ensures.seen q
    ∙ ap (λ p. contains same_place c.args.seen.now q || c.args.meant && same_place p q) (c.here.ensures laid s h at)

pub returns-clause-low : goal.returns-clause-low
returns-clause-low c = λ laid s h at.
    let is : c.here.result.1 ≡ s.offset = ap (λ (p : ℕ × ℕ). p.1) (c.here.ensures laid s h at) in
    let fits = c.here.type_inv.1 in
    omega (arith, is, fits)
