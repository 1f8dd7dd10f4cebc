use Rattle.std.proofs.Common.{◌≡◌, ◌<◌, ◌≤◌, [], None, length, map, drop, get_or, refl, sym, ap, ◌∙◌, subst, rules}
use Rattle.std.specs.Prelude.{option_map, flat_map}
use Rattle.std.proofs.lemmas.List.{length-map, at_drop_all}
use Rattle.rv_list_laws.proofs.TestsLemmas.{get_all}
use Rattle.rv_expression.specs.Nodes.{symbol_of}
use Rattle.rv_statement.specs.View.{now_of}
use Rattle.rv_unit.specs.Unit.{definition_of}
use Rattle.rv_assemble_laws.specs.Symbols.{missing_name}
use Rattle.rv_assemble_laws.specs.ShownNames.{is_shown_use}
use Rattle.rv_symbols.specs.SymbolUse.{use_of, uses_of}
use Rattle.rv_symbols.specs.Found.{with_names}
use Rattle.rv_symbols.proofs.UsingLemmas.{use_at, found_at, missing_more, few_more, missing_are}
use Rattle.rv_symbols.proofs.uses.missing.Goals as goal

pub loop-i-preserved : goal.loop-i-preserved
loop-i-preserved c =
    let i = c.loop-i.i in
    let us = c.args.uses.now in
    let ds = c.args.definitions.now in
    let d = c.index-uses-i.result in
    let inside : i < length us = search rules in
    let within : i < length ds = search rules in
    record {
      names = λ t defs.
          missing_more t (uses_of us) i (use_of (get_or us i d)) (symbol_of (get_or us i d).symbol) (option_map definition_of (get_or ds i None)) (map now_of c.loop-i.names.keys) _ _
          (use_at us i d inside) refl (found_at t us ds defs i d None inside within) c.in_ok-put_missing.ensures.names (c.loop-i.invariant.names t defs);
      few =
          few_more (uses_of us) i (use_of (get_or us i d)) (symbol_of (get_or us i d).symbol) (length c.loop-i.names.keys) (length c.put_missing.new.names.keys)
          (use_at us i d inside) refl c.in_ok-put_missing.ensures.few c.loop-i.invariant.few;
      shown = λ h.
          c.in_ok-put_missing.ensures.shown (get_all is_shown_use (uses_of us) i (use_of (get_or us i d)) (use_at us i d inside) h) (c.loop-i.invariant.shown h);
    }

pub returns-clause-names : goal.returns-clause-names
returns-clause-names c = λ t defs.
    let i = c.loop-i.i in
    let us = c.args.uses.now in
    let past : length us ≤ i = c.loop-i-test.false in
    let none : drop i (uses_of us) ≡ [] = at_drop_all (λ l. l) (uses_of us) i (subst (λ n. n ≤ i) (sym (length-map us use_of)) past) in
    ap (λ l. with_names (map now_of c.loop-i.names.keys) (flat_map (λ r. missing_name t r.ordinal r.symbol) l)) (sym none)
    ∙ c.loop-i.invariant.names t defs ∙ missing_are t (uses_of us)
