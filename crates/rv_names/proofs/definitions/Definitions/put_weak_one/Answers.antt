use Rattle.std.proofs.Common.{◌≡◌, true, false, option_map, is_some, sym, subst, ap, ◌∙◌}
use Rattle.std.proofs.lemmas.Map.Text.{btree_map_updates_str}
use Rattle.rv_list_laws.proofs.OptionsLemmas.{copied_some, is_some_map, none_by_test}
use Rattle.rv_object_types.specs.Parts.{symbol_of}
use Rattle.rv_object_laws.specs.Bindings.{is_weak}
use Rattle.rv_link_laws.specs.Names.{is_export}
use Rattle.rv_names.specs.Chosen.{seen, first_named}
use Rattle.rv_names.specs.Names.{exported_of, AnswersFirst}
use Rattle.rv_names.proofs.TableLemmas.{none_more, known_more, answers_more}
use Rattle.rv_names.proofs.definitions.Definitions.put_weak_one.Goals as goal

pub returns-then-not-is_weak_definition : goal.returns-then-not-is_weak_definition
returns-then-not-is_weak_definition c = λ ds h.
    let s = seen (symbol_of c.args.symbol.now) in
    let other : is_export is_weak (symbol_of c.args.symbol.now) ≡ false = sym c.is_weak_definition.ensures ∙ c.if-not-is_weak_definition.true in
    subst (λ l. AnswersFirst l c.args.self.now) (sym (none_more is_weak c.args.file.0 c.args.index.0 s ds other)) h

pub returns-then-is_some : goal.returns-then-is_some
returns-then-is_some c = λ ds h name.
    let s = seen (symbol_of c.args.symbol.now) in
    let known : is_some (first_named ds s.name) ≡ true =
    sym (is_some_map exported_of (first_named ds s.name)) ∙ ap is_some (sym (h s.name) ∙ sym c.get.ensures.value) ∙ copied_some c.get.result ∙ sym c.is_some.ensures ∙ c.if-is_some.true in
    h name ∙ ap (option_map exported_of) (sym (known_more is_weak c.args.file.0 c.args.index.0 s ds known name))

pub returns : goal.returns
returns c = λ ds h name.
    let s = seen (symbol_of c.args.symbol.now) in
    let exported : is_export is_weak (symbol_of c.args.symbol.now) ≡ true = sym c.is_weak_definition.ensures ∙ c.if-not-is_weak_definition.false in
    let free : is_some (first_named ds s.name) ≡ false =
    sym (is_some_map exported_of (first_named ds s.name)) ∙ ap is_some (sym (h s.name) ∙ sym c.get.ensures.value) ∙ copied_some c.get.result ∙ sym c.is_some.ensures ∙ c.if-is_some.false in
    answers_more is_weak c.args.file.0 c.args.index.0 s ds exported name _ _ (btree_map_updates_str s.name c.args.self.now.by_name c.insert.new.self _ c.in_ok-insert.ensures.updates name)
    (none_by_test (first_named ds s.name) free) (h name)
