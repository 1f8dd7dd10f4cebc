use Rattle.std.proofs.Common.{◌≡◌, true, false, Some, None, option_map, is_some, sym, subst, ap, ◌∙◌}
use Rattle.std.proofs.lemmas.Map.Text.{btree_map_updates_str}
use Rattle.rv_list_laws.proofs.OptionsLemmas.{is_some_map, option_map_none}
use Rattle.rv_object_types.specs.Parts.{symbol_of}
use Rattle.rv_object_laws.specs.Bindings.{is_global}
use Rattle.rv_link_laws.specs.Names.{is_export}
use Rattle.rv_names.specs.Chosen.{seen, first_named}
use Rattle.rv_names.specs.Names.{exported_of, IsDefinitionTable}
use Rattle.rv_names.proofs.TableLemmas.{none_more, again, apart, answers_more}
use Rattle.rv_names.proofs.definitions.Definitions.put.Goals as goal

pub returns-then-not-is_global_definition-clause-added : goal.returns-then-not-is_global_definition-clause-added
returns-then-not-is_global_definition-clause-added c = λ ds table.
    let s = seen (symbol_of c.args.symbol.now) in
    let other : is_export is_global (symbol_of c.args.symbol.now) ≡ false = sym c.is_global_definition.ensures ∙ c.if-not-is_global_definition.true in
    subst (λ l. IsDefinitionTable l c.args.self.now) (sym (none_more is_global c.args.file.0 c.args.index.0 s ds other)) table

pub returns-in-Some-clause-refuses : goal.returns-in-Some-clause-refuses
returns-in-Some-clause-refuses c = λ ds table rest.
    let s = seen (symbol_of c.args.symbol.now) in
    let exported : is_export is_global (symbol_of c.args.symbol.now) ≡ true = sym c.is_global_definition.ensures ∙ c.if-not-is_global_definition.false in
    let found : Some c.in-Some.field-0 ≡ option_map exported_of (first_named ds s.name) = sym c.in-Some.is ∙ c.in_ok-insert.ensures.old ∙ table.answers s.name in
    again is_global c.args.file.0 c.args.index.0 s ds exported c.args.self.now table rest (sym (is_some_map exported_of (first_named ds s.name)) ∙ ap is_some (sym found))

pub returns-in-None-clause-added : goal.returns-in-None-clause-added
returns-in-None-clause-added c = λ ds table.
    let s = seen (symbol_of c.args.symbol.now) in
    let exported : is_export is_global (symbol_of c.args.symbol.now) ≡ true = sym c.is_global_definition.ensures ∙ c.if-not-is_global_definition.false in
    let free : first_named ds s.name ≡ None = option_map_none exported_of (first_named ds s.name) (sym (sym c.in-None.is ∙ c.in_ok-insert.ensures.old ∙ table.answers s.name)) in
    record {
      answers = λ name.
          answers_more is_global c.args.file.0 c.args.index.0 s ds exported name _ _ (btree_map_updates_str s.name c.args.self.now.by_name c.insert.new.self _ c.in_ok-insert.ensures.updates name) free (table.answers name);
      fresh = λ rest. apart is_global c.args.file.0 c.args.index.0 s ds exported c.args.self.now table rest free;
    }
